use Rattle.std.proofs.Common.{false, below_more, ap, sym, ◌∙◌, arith}
use Rattle.toml.specs.Data.{boolean}
use Rattle.toml.specs.View.{table_view}
use Rattle.product_file.specs.Checks.{first_failed}
use Rattle.product_file.specs.Members.{item_at}
use Rattle.product_file.specs.TransitionRule.{transition_items}
use Rattle.product_file.specs.PaymentRules.{sum_rule_10}
use Rattle.file_checks.proofs.Checks.{first_of_lists-at, first_of_lists-none}
use Rattle.file_checks.proofs.TransitionLemmas.{transitions-le}
use Rattle.file_checks.proofs.steps.sums_break.Goals as goal

pub place-requires-clause-list : goal.place-requires-clause-list
place-requires-clause-list c =
    omega (
      arith,
      transitions-le (table_view c.args.tree.now) c.requires.names c.requires.transitions,
      c.transitions-transitions.ensures.count,
    )

pub returns-in-Some : goal.returns-in-Some
returns-in-Some c =
    let tree = table_view c.args.tree.now in
    first_of_lists-at 0 (sum_rule_10 tree) (transition_items tree) (boolean false) c.loop-k.k c.in-Some.i c.place.result
    (omega (arith, c.place.ensures)) (omega (arith, c.transitions-transitions.ensures.count)) c.loop-k.invariant
    (ap (λ d. first_failed (sum_rule_10 tree d))
    (sym (c.item.ensures ∙ ap (λ ds. item_at ds c.loop-k.k) c.transitions-transitions.ensures.items))
    ∙ sym c.sum_break.ensures.value ∙ c.in-Some.is)

pub loop-k-preserved : goal.loop-k-preserved
loop-k-preserved c = below_more _ _ c.loop-k.invariant
    (ap (λ d. first_failed (sum_rule_10 (table_view c.args.tree.now) d))
    (sym (c.item.ensures ∙ ap (λ ds. item_at ds c.loop-k.k) c.transitions-transitions.ensures.items))
    ∙ sym c.sum_break.ensures.value ∙ c.in_default.is)

pub returns : goal.returns
returns c =
    let tree = table_view c.args.tree.now in
    first_of_lists-none 0 (sum_rule_10 tree) (transition_items tree) (boolean false)
    (λ j below. c.loop-k.invariant j (omega (arith, c.transitions-transitions.ensures.count)))
