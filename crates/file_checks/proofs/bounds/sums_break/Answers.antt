use Rattle.std.proofs.Common.{false, map, below_more, ap, sym, ◌∙◌, arith}
use Rattle.toml.specs.Data.{boolean}
use Rattle.toml.specs.View.{view, table_view}
use Rattle.product_file.specs.Checks.{first_failed}
use Rattle.product_file.specs.Members.{item_at}
use Rattle.product_file.specs.TransitionRule.{transition_items}
use Rattle.product_file.specs.PaymentRules.{sum_items, steps_rule_11}
use Rattle.file_checks.proofs.BoundLemmas.{sum_in_order, sum_obeys, AreInOrder-same}
use Rattle.file_checks.proofs.Checks.{first_of_lists-at, first_of_lists-none}
use Rattle.file_checks.proofs.TransitionLemmas.{transitions-le}
use Rattle.file_checks.proofs.bounds.sums_break.Goals as goal

pub step_break-requires-clause-in_order : goal.step_break-requires-clause-in_order
step_break-requires-clause-in_order c =
    let tree = table_view c.args.tree.now in
    let here = c.item.ensures ∙ ap (λ ds. item_at ds c.loop-k.k) c.transitions-transitions.ensures.items in
    AreInOrder-same tree (sum_items (item_at (transition_items tree) c.loop-k.k)) (map view c.sum_of.result.now)
    (sym (c.sum_of.ensures ∙ ap sum_items here))
    (sum_in_order tree (item_at (transition_items tree) c.loop-k.k)
    (sum_obeys tree c.loop-k.k c.requires.payments (omega (arith, c.transitions-transitions.ensures.count))))

pub place-requires-clause-list : goal.place-requires-clause-list
place-requires-clause-list c =
    omega (
      arith,
      transitions-le (table_view c.args.tree.now) c.requires.names c.requires.transitions,
      c.transitions-transitions.ensures.count,
    )

pub returns-in-Some : goal.returns-in-Some
returns-in-Some c =
    let tree = table_view c.args.tree.now in
    let here = c.item.ensures ∙ ap (λ ds. item_at ds c.loop-k.k) c.transitions-transitions.ensures.items in
    first_of_lists-at 0 (λ d. steps_rule_11 tree (sum_items d)) (transition_items tree) (boolean false) c.loop-k.k
    c.in-Some.i c.place.result (omega (arith, c.place.ensures)) (omega (arith, c.transitions-transitions.ensures.count))
    c.loop-k.invariant
    (ap (λ ds. first_failed (steps_rule_11 tree ds)) (sym (c.sum_of.ensures ∙ ap sum_items here))
    ∙ sym c.step_break.ensures.value ∙ c.in-Some.is)

pub loop-k-preserved : goal.loop-k-preserved
loop-k-preserved c =
    let tree = table_view c.args.tree.now in
    let here = c.item.ensures ∙ ap (λ ds. item_at ds c.loop-k.k) c.transitions-transitions.ensures.items in
    below_more _ _ c.loop-k.invariant
    (ap (λ ds. first_failed (steps_rule_11 tree ds)) (sym (c.sum_of.ensures ∙ ap sum_items here))
    ∙ sym c.step_break.ensures.value ∙ c.in_default.is)

pub returns : goal.returns
returns c =
    let tree = table_view c.args.tree.now in
    first_of_lists-none 0 (λ d. steps_rule_11 tree (sum_items d)) (transition_items tree) (boolean false)
    (λ j below. c.loop-k.invariant j (omega (arith, c.transitions-transitions.ensures.count)))
