use Rattle.std.proofs.Common.{map, length, true, below_more, sym, ◌∙◌, arith}
use Rattle.std.proofs.lemmas.List.{length-map}
use Rattle.toml.specs.View.{view, table_view}
use Rattle.file_checks.specs.Lists.{is_good_step}
use Rattle.file_checks.proofs.Checks.{first_of_some-at, first_of_some-none, some_from_test}
use Rattle.file_checks.proofs.StepLemmas.{few_steps}
use Rattle.file_checks.proofs.steps.step_break.Goals as goal

pub overflow_cast-result : goal.overflow_cast-result
overflow_cast-result c =
    omega (
      arith,
      few_steps (table_view c.args.tree.now) (map view c.args.steps.now) c.loop-i.i c.requires
          c.loop-i.invariant,
    )

pub returns-then-not-is_good_step-clause-small : goal.returns-then-not-is_good_step-clause-small
returns-then-not-is_good_step-clause-small c =
    few_steps (table_view c.args.tree.now) (map view c.args.steps.now) c.loop-i.i c.requires c.loop-i.invariant

pub returns-then-not-is_good_step-clause-value : goal.returns-then-not-is_good_step-clause-value
returns-then-not-is_good_step-clause-value c =
    first_of_some-at (length (map view c.args.steps.now)) c.loop-i.i
    (is_good_step (table_view c.args.tree.now) (map view c.args.steps.now))
    (omega (arith, length-map c.args.steps.now view)) c.loop-i.invariant
    (sym c.is_good_step.ensures ∙ c.if-not-is_good_step.true)

pub loop-i-preserved : goal.loop-i-preserved
loop-i-preserved c =
    below_more _ _ c.loop-i.invariant (sym c.is_good_step.ensures ∙ c.if-not-is_good_step.false)

pub returns-clause-value : goal.returns-clause-value
returns-clause-value c =
    first_of_some-none (length (map view c.args.steps.now))
    (is_good_step (table_view c.args.tree.now) (map view c.args.steps.now))
    (omega (
      arith,
      length-map c.args.steps.now view,
      some_from_test (length c.args.steps.now) (sym c.is_empty.ensures ∙ c.if-is_empty.false),
    ))
    (λ k below. c.loop-i.invariant k (omega (arith, length-map c.args.steps.now view)))
