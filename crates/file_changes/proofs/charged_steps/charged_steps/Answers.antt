use Rattle.std.proofs.Common.{◌≡◌, refl, FitsSigned}
use Rattle.std.specs.Int.{w64}
use Rattle.std.proofs.lemmas.Int.{to_z-of_z}
use Rattle.payment_plan.specs.Records.{steps_of}
use Rattle.file_changes.specs.ContinuousCharges.{charged_steps}
use Rattle.file_changes.proofs.ChargedSteps.{charged_is_payment}
use Rattle.file_changes.proofs.ChargedWords.{payment_within}
use Rattle.file_changes.proofs.charged_steps.charged_steps.Goals as goal

pub returns-in_default-clause-too_large : goal.returns-in_default-clause-too_large
returns-in_default-clause-too_large c =
    let amount : FitsSigned w64 c.args.amount = c.ranges.amount in
    let wide = simp to_z-of_z at (rw c.in_default.is at c.in_ok-charged.ensures.too_large) in
    λ small. wide small.words

pub is_small_payment-requires-clause-within : goal.is_small_payment-requires-clause-within
is_small_payment-requires-clause-within c =
    let amount : FitsSigned w64 c.args.amount = c.ranges.amount in
    let made : steps_of c.in-Some.charged.items
    ≡ charged_steps c.args.amount c.args.months c.args.until (steps_of c.args.steps.now) =
    simp to_z-of_z at (rw c.in-Some.is at c.in_ok-charged.ensures.changed) in
    rw (c.deref.ensures.value, made)
    (payment_within c.args.months _ (charged_is_payment c.args.amount c.args.months c.args.until
    (steps_of c.args.steps.now) c.requires.some c.requires.until c.requires.good))

pub returns-then-is_small_payment-clause-small : goal.returns-then-is_small_payment-clause-small
returns-then-is_small_payment-clause-small c =
    let small = rw (c.if-is_small_payment.true, c.deref.ensures.value) at c.is_small_payment.ensures.small in
    record {
      words = rw c.in-Some.is at c.in_ok-charged.ensures.words;
      bounded = small refl;
    }

pub returns-else-is_small_payment-clause-too_large : goal.returns-else-is_small_payment-clause-too_large
returns-else-is_small_payment-clause-too_large c =
    let amount : FitsSigned w64 c.args.amount = c.ranges.amount in
    let made : steps_of c.in-Some.charged.items
    ≡ charged_steps c.args.amount c.args.months c.args.until (steps_of c.args.steps.now) =
    simp to_z-of_z at (rw c.in-Some.is at c.in_ok-charged.ensures.changed) in
    let wide = rw (c.if-is_small_payment.false, c.deref.ensures.value, made) at c.is_small_payment.ensures.too_large in
    λ small. wide refl small.bounded
