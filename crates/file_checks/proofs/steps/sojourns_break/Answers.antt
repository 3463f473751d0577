use Rattle.std.proofs.Common.{length, below_more, sym, ◌∙◌, arith}
use Rattle.toml.specs.View.{table_view}
use Rattle.product_file.specs.TransitionRule.{transition_items}
use Rattle.product_file.specs.PaymentRules.{sojourn_items, sojourn_rule_10}
use Rattle.file_checks.proofs.Checks.{first_of_lists_of-at, first_of_lists_of-none}
use Rattle.file_checks.proofs.StepLemmas.{few_sojourns}
use Rattle.file_checks.proofs.TransitionLemmas.{transitions-le}
use Rattle.file_checks.proofs.steps.sojourns_break.Goals as goal

pub place-requires-clause-list : goal.place-requires-clause-list
place-requires-clause-list c =
    omega (
      arith,
      transitions-le (table_view c.args.tree.now) c.requires.names c.requires.transitions,
      c.transitions-transitions.ensures.count,
      few_sojourns (table_view c.args.tree.now) c.loop-s.s c.requires.names
          (omega (arith, c.sojourns-count.ensures.count)) c.loop-s.invariant,
    )

pub returns-in-Some : goal.returns-in-Some
returns-in-Some c =
    let tree = table_view c.args.tree.now in
    first_of_lists_of-at (length (transition_items tree)) (length (sojourn_items tree)) (sojourn_rule_10 tree)
    c.loop-s.s
    c.in-Some.i c.place.result (omega (arith, c.place.ensures, c.transitions-transitions.ensures.count))
    (omega (arith, c.sojourns-count.ensures.count)) c.loop-s.invariant
    (sym c.sojourn_break.ensures.value ∙ c.in-Some.is)

pub loop-s-preserved : goal.loop-s-preserved
loop-s-preserved c =
    below_more _ _ c.loop-s.invariant (sym c.sojourn_break.ensures.value ∙ c.in_default.is)

pub returns : goal.returns
returns c =
    let tree = table_view c.args.tree.now in
    first_of_lists_of-none (length (transition_items tree)) (length (sojourn_items tree)) (sojourn_rule_10 tree)
    (λ j below. c.loop-s.invariant j (omega (arith, c.sojourns-count.ensures.count)))
