use Rattle.std.proofs.Common.{◌≡◌, ℕ, ◌<◌, List, [], length, get_or, below_more, pos, true, sym, ◌∙◌, subst, arith}
use Rattle.std.specs.Prelude.{slice_index_or}
use Rattle.std.proofs.lemmas.List.{get_or-map, length-map}
use mathlib.Core.Path.{ap₂}
use Rattle.model_specs.specs.Payments.{constant_step}
use Rattle.payment_plan.specs.declared.step.StepAmount.{StepAmount}
use Rattle.payment_plan.specs.Records.{record_of, steps_of}
use Rattle.product_file.specs.PaymentRules.{is_bounded_step}
use Rattle.file_changes.proofs.StepSizes.{payment_fails, payment_passes}
use Rattle.file_changes.proofs.step_sizes.is_small_payment.Goals as goal

-- a step of the list, as a record
record_in : (steps : List StepAmount) (k : ℕ) (d : StepAmount) → k < length steps
    → slice_index_or (steps_of steps) k (constant_step 0 (pos 0)) ≡ record_of (get_or steps k d)
record_in steps k d inside = get_or-map record_of steps k d (constant_step 0 (pos 0)) inside

pub returns-then-not-is_small_step-clause-too_large : goal.returns-then-not-is_small_step-clause-too_large
returns-then-not-is_small_step-clause-too_large c =
    let none : StepAmount = record { from = 0; c = [] } in
    let steps = c.args.steps.now in
    let inside : c.loop-k.k < length (steps_of steps) =
    subst (λ n. c.loop-k.k < n) (sym (length-map steps record_of)) c.loop-k-test.true in
    λ refused. payment_fails c.args.months (steps_of steps) c.loop-k.k inside
    (ap₂ is_bounded_step (record_in steps c.loop-k.k none c.loop-k-test.true) (sym c.months_of.ensures.value)
    ∙ sym c.is_small_step.ensures ∙ c.if-not-is_small_step.true)

pub loop-k-preserved : goal.loop-k-preserved
loop-k-preserved c =
    let none : StepAmount = record { from = 0; c = [] } in
    let steps = c.args.steps.now in
    below_more _ _ c.loop-k.invariant
    (ap₂ is_bounded_step (record_in steps c.loop-k.k none c.loop-k-test.true) (sym c.months_of.ensures.value)
    ∙ sym c.is_small_step.ensures ∙ c.if-not-is_small_step.false)

pub returns-clause-small : goal.returns-clause-small
returns-clause-small c =
    λ passed. payment_passes c.args.months (steps_of c.args.steps.now)
    (λ k inside. c.loop-k.invariant k (omega (
      arith,
      c.loop-k-test.false,
      inside,
      length-map c.args.steps.now record_of,
    )))
