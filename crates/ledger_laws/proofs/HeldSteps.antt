-- The step of a payment that holds in a month is one whose months have the month.
use Rattle.std.specs.Prelude.{◌≡◌, ℕ, zero, suc, ◌<◌, ◌≤◌, pos, nat_le, filter}
use Rattle.std.specs.Prelude.{List, [], ◌∷◌, length, slice_index, slice_index_or, refl}
use Rattle.std.proofs.Common.{arith, inl, inr}
use Rattle.std.proofs.lemmas.Bool.{cases_lt}
use Rattle.whole_laws.specs.Whole.{last_or}
use Rattle.whole_laws.proofs.Tests.{within_is, above_is_not}
use Rattle.model_specs.specs.Product.{Step}
use Rattle.model_specs.specs.Payments.{constant_step, step_at}
use Rattle.model_specs.specs.RecordRules.{StartsRise, step_starts}

abbrev pub no_step : Step
no_step = constant_step 0 (pos 0)

abbrev DoRise : List ℕ → Type 0
DoRise starts = (k : ℕ) → suc k < length starts → slice_index starts k < slice_index starts (suc k)

rest_rises : (start : ℕ) (starts : List ℕ) → DoRise (start ∷ starts) → DoRise starts
rest_rises start starts h k b = h (suc k) (omega arith)

-- none has started where the first has not
nothing_started : (s : Step) (steps : List Step) (month : ℕ) → month < s.from → DoRise (step_starts (s ∷ steps))
    → filter (λ step. nat_le step.from month) (s ∷ steps) ≡ []
nothing_started s [] month after rise = rw (above_is_not s.from month after) refl
nothing_started s (t ∷ steps) month after rise =
    rw (above_is_not s.from month after)
    (nothing_started t steps month (omega (arith, rise 0 (omega arith), after))
    (rest_rises s.from (step_starts (t ∷ steps)) rise))

-- what each step has in its months, the one that holds has
abbrev HasInMonths : (Step → Type 0) → ℕ → List Step → ℕ → Type 0
HasInMonths P months steps month = (k : ℕ) → k < length steps → slice_index (step_starts steps) k ≤ month
    → month < slice_index_or (step_starts steps) (suc k) months → P (slice_index_or steps k no_step)

holds-has : (P : Step → Type 0) (months month : ℕ) (s : Step) (steps : List Step) (none : Step) → month < months
    → s.from ≤ month → DoRise (step_starts (s ∷ steps)) → HasInMonths P months (s ∷ steps) month
    → P (last_or none (filter (λ step. nat_le step.from month) (s ∷ steps)))
holds-has P months month s [] none below started rise has =
    rw (within_is s.from month started) (has 0 (omega arith) started below)
holds-has P months month s (t ∷ steps) none below started rise has =
    elim (cases_lt month t.from) [
      | inl before ↦
          rw (
            within_is s.from month started,
            nothing_started t steps month before (rest_rises s.from (step_starts (t ∷ steps)) rise),
          ) (has 0 (omega arith) started before)
      | inr later ↦
          rw (within_is s.from month started)
          (holds-has P months month t steps s below later (rest_rises s.from (step_starts (t ∷ steps)) rise)
          (λ k b from before. has (suc k) (omega arith) from before))
    ]

pub step_at-has : (P : Step → Type 0) (months month : ℕ) (steps : List Step) → month < months
    → StartsRise months (step_starts steps)
    → ((k : ℕ) → k < length steps → slice_index (step_starts steps) k ≤ month
    → month < slice_index_or (step_starts steps) (suc k) months → P (slice_index_or steps k no_step))
    → P (step_at steps month)
step_at-has P months month [] below starts has = absurd (omega (arith, starts.some))
step_at-has P months month (s ∷ steps) below starts has =
    holds-has P months month s steps no_step below (omega (arith, starts.first)) starts.rising has

-- a step's start by its place
pub start-is : (steps : List Step) (k : ℕ) → slice_index (step_starts steps) k ≡ (slice_index_or steps k no_step).from
start-is [] k = refl
start-is (s ∷ steps) zero = refl
start-is (s ∷ steps) (suc k) = start-is steps k
