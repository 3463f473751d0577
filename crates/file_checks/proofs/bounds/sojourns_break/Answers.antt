use Rattle.std.proofs.Common.{false, map, length, below_more, ap, sym, ◌∙◌, arith}
use Rattle.toml.specs.Data.{boolean}
use Rattle.toml.specs.View.{view, table_view}
use Rattle.product_file.specs.Checks.{first_failed}
use Rattle.product_file.specs.Members.{item_at}
use Rattle.product_file.specs.TransitionRule.{transition_items}
use Rattle.product_file.specs.PaymentRules.{sojourn_items, steps_items, steps_rule_11}
use Rattle.file_checks.proofs.BoundLemmas.{sojourn_in_order, sojourn_obeys, AreInOrder-same}
use Rattle.file_checks.proofs.Checks.{first_of_lists-at, first_of_lists-none}
use Rattle.file_checks.proofs.StepLemmas.{few_sojourns}
use Rattle.file_checks.proofs.TransitionLemmas.{transitions-le}
use Rattle.file_checks.proofs.bounds.sojourns_break.Goals as goal

pub step_break-requires-clause-in_order : goal.step_break-requires-clause-in_order
step_break-requires-clause-in_order c =
    let tree = table_view c.args.tree.now in
    let here = c.item.ensures ∙ ap (λ ds. item_at ds c.loop-s.s) c.sojourns-sojourns.ensures.items in
    AreInOrder-same tree (steps_items (item_at (sojourn_items tree) c.loop-s.s)) (map view c.steps_of.result.now)
    (sym (c.steps_of.ensures ∙ ap steps_items here))
    (sojourn_in_order tree c.loop-s.s
    (sojourn_obeys tree c.loop-s.s c.requires.payments (omega (arith, c.sojourns-sojourns.ensures.count))))

pub place-requires-clause-list : goal.place-requires-clause-list
place-requires-clause-list c =
    let tree = table_view c.args.tree.now in
    omega (
      arith,
      transitions-le tree c.requires.names c.requires.transitions,
      c.transitions-transitions.ensures.count,
      c.sojourns-sojourns.ensures.count,
      few_sojourns tree (length (sojourn_items tree)) c.requires.names (omega arith)
          (λ s below. sojourn_obeys tree s c.requires.payments below),
    )

pub returns-in-Some : goal.returns-in-Some
returns-in-Some c =
    let tree = table_view c.args.tree.now in
    let here = c.item.ensures ∙ ap (λ ds. item_at ds c.loop-s.s) c.sojourns-sojourns.ensures.items in
    first_of_lists-at (length (transition_items tree)) (λ d. steps_rule_11 tree (steps_items d)) (sojourn_items tree)
    (boolean false) c.loop-s.s c.in-Some.i c.place.result
    (omega (arith, c.place.ensures, c.transitions-transitions.ensures.count))
    (omega (arith, c.sojourns-sojourns.ensures.count)) c.loop-s.invariant
    (ap (λ ds. first_failed (steps_rule_11 tree ds)) (sym (c.steps_of.ensures ∙ ap steps_items here))
    ∙ sym c.step_break.ensures.value ∙ c.in-Some.is)

pub loop-s-preserved : goal.loop-s-preserved
loop-s-preserved c =
    let tree = table_view c.args.tree.now in
    let here = c.item.ensures ∙ ap (λ ds. item_at ds c.loop-s.s) c.sojourns-sojourns.ensures.items in
    below_more _ _ c.loop-s.invariant
    (ap (λ ds. first_failed (steps_rule_11 tree ds)) (sym (c.steps_of.ensures ∙ ap steps_items here))
    ∙ sym c.step_break.ensures.value ∙ c.in_default.is)

pub returns : goal.returns
returns c =
    let tree = table_view c.args.tree.now in
    first_of_lists-none (length (transition_items tree)) (λ d. steps_rule_11 tree (steps_items d)) (sojourn_items tree)
    (boolean false) (λ j below. c.loop-s.invariant j (omega (arith, c.sojourns-sojourns.ensures.count)))
