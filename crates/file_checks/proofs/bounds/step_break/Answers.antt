use Rattle.std.proofs.Common.{map, length, below_more, ap, sym, ◌∙◌, arith}
use Rattle.std.proofs.lemmas.List.{length-map}
use Rattle.toml.specs.View.{view, table_view}
use Rattle.product_file.specs.Checks.{first_failed}
use Rattle.file_checks.specs.Lists.{is_bounded_step_at}
use Rattle.file_checks.proofs.BoundLemmas.{few_ordered, rule_11_is}
use Rattle.file_checks.proofs.Checks.{first_of-at, first_of-none}
use Rattle.file_checks.proofs.bounds.step_break.Goals as goal

pub overflow_cast-result : goal.overflow_cast-result
overflow_cast-result c =
    omega (
      arith,
      few_ordered (table_view c.args.tree.now) (map view c.args.steps.now) c.loop-i.i c.requires.term
          c.requires.in_order (omega (arith, length-map c.args.steps.now view)),
    )

pub returns-then-not-is_bounded_step-clause-small : goal.returns-then-not-is_bounded_step-clause-small
returns-then-not-is_bounded_step-clause-small c =
    few_ordered (table_view c.args.tree.now) (map view c.args.steps.now) c.loop-i.i c.requires.term c.requires.in_order
    (omega (arith, length-map c.args.steps.now view))

pub returns-then-not-is_bounded_step-clause-value : goal.returns-then-not-is_bounded_step-clause-value
returns-then-not-is_bounded_step-clause-value c =
    let tree = table_view c.args.tree.now in
    let items = map view c.args.steps.now in
    first_of-at (length items) c.loop-i.i (is_bounded_step_at tree items)
    (omega (arith, length-map c.args.steps.now view))
    c.loop-i.invariant (sym c.is_bounded_step.ensures ∙ c.if-not-is_bounded_step.true)
    ∙ ap first_failed (rule_11_is tree items)

pub loop-i-preserved : goal.loop-i-preserved
loop-i-preserved c =
    below_more _ _ c.loop-i.invariant (sym c.is_bounded_step.ensures ∙ c.if-not-is_bounded_step.false)

pub returns-clause-value : goal.returns-clause-value
returns-clause-value c =
    let tree = table_view c.args.tree.now in
    let items = map view c.args.steps.now in
    first_of-none (length items) (is_bounded_step_at tree items)
    (λ k below. c.loop-i.invariant k (omega (arith, length-map c.args.steps.now view)))
    ∙ ap first_failed (rule_11_is tree items)
