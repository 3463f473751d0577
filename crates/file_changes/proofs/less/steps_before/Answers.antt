use Rattle.std.proofs.Common.{List, [], ap, ◌∙◌, arith, FitsSigned}
use Rattle.std.specs.Prelude.{filter, map, nat_lt}
use Rattle.std.specs.Int.{w64}
use Rattle.std.proofs.lemmas.Bool.{lt-ltb, le-ltb}
use Rattle.std.proofs.lemmas.Int.{to_z-of_z}
use Rattle.std.proofs.lemmas.List.{length-map, take_all}
use Rattle.model_specs.specs.Product.{Step}
use Rattle.payment_plan.specs.declared.step.StepAmount.{StepAmount}
use Rattle.payment_plan.specs.Records.{record_of, steps_of}
use Rattle.file_changes.specs.ContinuousCharges.{less_step}
use Rattle.file_changes.proofs.LessSteps.{less_more, less_same, step_is_too_large, step_words_more}
use Rattle.file_changes.proofs.less.steps_before.Goals as goal
use Rattle.file_changes.proofs.less.steps_before.Goals.{then-steps-i+in-Some+in_ok-push-in-Some, else-steps-i}

pub returns-in-None-clause-too_large : goal.returns-in-None-clause-too_large
returns-in-None-clause-too_large c =
    let none : StepAmount = record { from = 0; c = [] } in
    let amount : FitsSigned w64 c.args.amount = c.ranges.amount in
    let wide = simp to_z-of_z at c.in-None.ensures.too_large in
    step_is_too_large c.args.amount c.args.until c.args.steps.now c.loop-i.i none c.loop-i-test.true
    (lt-ltb _ _ c.if-steps-i.true) wide

pub loop-i-preserved : goal.loop-i-preserved
loop-i-preserved c =
    let none : StepAmount = record { from = 0; c = [] } in
    let amount : FitsSigned w64 c.args.amount = c.ranges.amount in
    elim c.if-steps-i.branch [
      | then-steps-i+in-Some+in_ok-push-in-Some w ↦
          rw (w.before-is, w.in_ok-push-in-Some.ensures.items) (record {
            made = less_more _ _ c.args.steps.now c.loop-i.i none c.loop-i-test.true c.loop-i.before.items
                w.in-Some.step (lt-ltb _ _ w.if-steps-i.true) c.loop-i.invariant.made w.in-Some.ensures.changed;
            words = step_words_more c.loop-i.before.items w.in-Some.step c.loop-i.invariant.words
                w.in-Some.ensures.words;
          })
      | else-steps-i w ↦
          rw w.before-is (record {
            made = less_same _ _ c.args.steps.now c.loop-i.i none c.loop-i-test.true c.loop-i.before.items
                (le-ltb _ _ w.if-steps-i.false) c.loop-i.invariant.made;
            words = c.loop-i.invariant.words;
          })
    ]

pub returns-clause-changed : goal.returns-clause-changed
returns-clause-changed c =
    let amount : FitsSigned w64 c.args.amount = c.ranges.amount in
    let made = simp to_z-of_z at c.loop-i.invariant.made in
    made ∙ ap (λ (ss : List Step). map (less_step c.args.amount) (filter (λ (s : Step). nat_lt s.from c.args.until) ss))
    (take_all c.loop-i.i (steps_of c.args.steps.now)
    (omega (arith, c.loop-i-test.false, length-map c.args.steps.now record_of)))
