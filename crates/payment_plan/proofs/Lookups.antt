-- What a look-up of a step by its month gives.
use Rattle.std.proofs.Common.{◌≡◌, ℕ, ◌+◌, ◌-◌, ◌≤◌, ℤ, pos, List, [], ◌∷◌, length, get_or}
use Rattle.std.proofs.Common.{arith, refl, ap, sym, subst}
use Rattle.std.proofs.lemmas.List.{length-map}
use Rattle.model_specs.specs.Product.{Step}
use Rattle.model_specs.specs.Payments.{constant_step}
use Rattle.model_specs.specs.RecordRules.{IsBoundedStep, months_of}
use Rattle.curve_pieces.specs.StartMonths.{starts_as}
use Rattle.payment_plan.specs.declared.step.StepAmount.{StepAmount}
use Rattle.payment_plan.specs.Records.{record_of, piece_of, steps_of, starts_of}
use Rattle.payment_plan.specs.Steps.{HasGoodSteps, CoversMonth}
use Rattle.curve_pieces.proofs.Lookups.{IsFound, found_record, found_start, found_covers, found_holds}
use Rattle.model_laws.proofs.BoundedCoefficients.{bounded_shorter}

-- the step that pays nothing
abbrev nothing : Step
nothing = constant_step 0 (pos 0)

-- the month at which a step starts
abbrev pub from_of : Step → ℕ
from_of step = step.from

-- steps start where they do as pieces
pub starts_are : (steps : List StepAmount) → starts_as piece_of steps ≡ starts_of steps
starts_are [] = refl
starts_are (s ∷ steps) = ap (λ starts. s.from ∷ starts) (starts_are steps)

step_shorter : (c : List ℤ) (s t : ℕ) → s ≤ t → IsBoundedStep c t → IsBoundedStep c s
step_shorter c s t h b =
    record { coefficients = bounded_shorter c s t h b.coefficients; amounts = λ k below. b.amounts k (omega arith) }

pub step_covers : (steps : List StepAmount) (months month low : ℕ) (s : StepAmount)
    → IsFound record_of from_of steps months month low s → HasGoodSteps months (steps_of steps)
    → CoversMonth (steps_of steps) month (record_of s)
step_covers steps months month low s f good =
    let some : 1 ≤ length (steps_of steps) = omega (arith, length-map steps record_of, f.inside) in
    let P : List ℤ → Type 0 = λ c. IsBoundedStep c (months_of months (starts_of steps) low) in
    let same : (get_or (steps_of steps) low nothing).c ≡ s.c =
    ap (λ q. q.c) (sym (found_record record_of from_of steps months month low s nothing f)) in
    record {
      step_is = found_covers record_of from_of steps months month low s nothing (good.payment some).starts f;
      started = omega (arith, found_start record_of from_of steps months month low s f, f.started);
      bounded = step_shorter s.c (month - s.from + 1) (months_of months (starts_of steps) low)
          (found_holds record_of from_of steps months month low s f)
          (subst P same (good.bounded low (omega (arith, length-map steps record_of, f.inside))));
    }
