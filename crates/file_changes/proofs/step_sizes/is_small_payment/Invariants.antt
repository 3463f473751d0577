use Rattle.std.proofs.Common.{◌≡◌, ℕ, ◌<◌, true, pos}
use Rattle.std.specs.Prelude.{slice_index_or}
use Rattle.model_specs.specs.RecordRules.{months_of}
use Rattle.model_specs.specs.Payments.{constant_step}
use Rattle.payment_plan.specs.Records.{starts_of, steps_of}
use Rattle.product_file.specs.PaymentRules.{is_bounded_step}
use Rattle.file_changes.proofs.step_sizes.is_small_payment.Given as goal

-- the steps so far are bounded
abbrev pub invariant-loop-k : goal.invariant-loop-k
invariant-loop-k l = (i : ℕ) → i < l.k
    → is_bounded_step (slice_index_or (steps_of l.steps) i (constant_step 0 (pos 0)))
    (months_of l.months (starts_of l.steps) i) ≡ true
