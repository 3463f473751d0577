-- The starts of steps rise where steps are filtered, put after each other and charged.
use Rattle.std.proofs.Common.{◌≡◌, ℕ, zero, suc, ◌<◌, ◌≤◌, List, [], ◌∷◌, ◌++◌, length, get_or, map, cond, arith, refl}
use Rattle.std.specs.Prelude.{Bool, true, false, filter, nat_lt}
use Rattle.std.proofs.lemmas.Bool.{ltb-true}
use Rattle.model_specs.specs.Product.{Step}
use Rattle.model_specs.specs.RecordRules.{StartsRise, step_starts}

-- the starts of steps are from a month on, each above the one before, and below another month
abbrev pub Climb : (low high : ℕ) → List Step → Type 0
Climb low high [] = low ≤ high
Climb low high (s ∷ steps) = (low ≤ s.from) × Climb (suc s.from) high steps

pub climb_lower : (least low high : ℕ) (steps : List Step) → least ≤ low → Climb low high steps
    → Climb least high steps
climb_lower least low high [] order climb = omega (arith, order, climb)
climb_lower least low high (s ∷ steps) order climb = (omega (arith, order, climb.0), climb.1)

pub climb_append : (low middle high : ℕ) (steps others : List Step) → Climb low middle steps
    → Climb middle high others → Climb low high (steps ++ others)
climb_append low middle high [] others first second = climb_lower low middle high others first second
climb_append low middle high (s ∷ steps) others first second =
    (first.0, climb_append (suc s.from) middle high steps others first.1 second)

-- steps that are changed, but not their starts
pub climb_map : (f : Step → Step) → ((s : Step) → (f s).from ≡ s.from) → (low high : ℕ) (steps : List Step)
    → Climb low high steps → Climb low high (map f steps)
climb_map f same low high [] climb = climb
climb_map f same low high (s ∷ steps) climb =
    rw (same s) (climb.0, climb_map f same (suc s.from) high steps climb.1)

-- the steps that pass a test
pub climb_filter : (test : Step → Bool) (low high : ℕ) (steps : List Step) → Climb low high steps
    → Climb low high (filter test steps)
climb_filter test low high [] climb = climb
climb_filter test low high (s ∷ steps) climb =
    first (test s) (climb_filter test (suc s.from) high steps climb.1)
  where
    first : (b : Bool) → Climb (suc s.from) high (filter test steps)
        → Climb low high (cond b (s ∷ filter test steps) (filter test steps))
    first true rest = (climb.0, rest)
    first false rest = climb_lower low (suc s.from) high (filter test steps) (omega (arith, climb.0)) rest

-- those that start before a month
abbrev pub steps_before : (until : ℕ) → List Step → List Step
steps_before until steps = filter (λ s. nat_lt s.from until) steps

pub climb_before : (low until high : ℕ) (steps : List Step) → low ≤ until → Climb low high steps
    → Climb low until (steps_before until steps)
climb_before low until high [] order climb = order
climb_before low until high (s ∷ steps) order climb =
    first (nat_lt s.from until) refl (λ least within. climb_before least until high steps within)
  where
    first : (b : Bool) → nat_lt s.from until ≡ b
        → ((least : ℕ) → least ≤ until → Climb least high steps → Climb least until (steps_before until steps))
        → Climb low until (cond b (s ∷ steps_before until steps) (steps_before until steps))
    first true is rest = (climb.0, rest (suc s.from) (omega (arith, ltb-true s.from until is)) climb.1)
    first false is rest = rest low order (climb_lower low (suc s.from) high steps (omega (arith, climb.0)) climb.1)

-- those that start after it
abbrev pub steps_after : (until : ℕ) → List Step → List Step
steps_after until steps = filter (λ s. nat_lt until s.from) steps

pub climb_after : (low until high : ℕ) (steps : List Step) → until < high → Climb low high steps
    → Climb (suc until) high (steps_after until steps)
climb_after low until high [] order climb = omega (arith, order)
climb_after low until high (s ∷ steps) order climb =
    first (nat_lt until s.from) refl (climb_after (suc s.from) until high steps order climb.1)
  where
    first : (b : Bool) → nat_lt until s.from ≡ b → Climb (suc until) high (steps_after until steps)
        → Climb (suc until) high (cond b (s ∷ steps_after until steps) (steps_after until steps))
    first true is rest = (
      omega (arith, ltb-true until s.from is),
      climb_filter (λ s. nat_lt until s.from) (suc s.from) high steps climb.1,
    )
    first false is rest = rest

-- starts that rise below the term climb
pub rising_climb : (months : ℕ) (steps : List Step) → StartsRise months (step_starts steps) → Climb 0 months steps
rising_climb months [] starts = omega arith
rising_climb months (s ∷ steps) starts = each s steps 0 (omega arith) starts.rising starts.below
  where
    each : (s : Step) (steps : List Step) (low : ℕ) → low ≤ s.from
        → ((k : ℕ) → suc k < length (step_starts (s ∷ steps))
        → get_or (step_starts (s ∷ steps)) k 0 < get_or (step_starts (s ∷ steps)) (suc k) 0)
        → ((k : ℕ) → k < length (step_starts (s ∷ steps)) → get_or (step_starts (s ∷ steps)) k 0 < months)
        → Climb low months (s ∷ steps)
    each s [] low order rise below = (order, omega (arith, below 0 (omega arith)))
    each s (t ∷ steps) low order rise below = (
      order,
      each t steps (suc s.from) (omega (arith, rise 0 (omega arith)))
          (λ k inside. rise (suc k) (omega (arith, inside))) (λ k inside. below (suc k) (omega (arith, inside))),
    )

-- and the other way round
pub climb_rises : (low high : ℕ) (steps : List Step) → Climb low high steps → (k : ℕ)
    → suc k < length (step_starts steps) → get_or (step_starts steps) k 0 < get_or (step_starts steps) (suc k) 0
climb_rises low high [] climb k inside = absurd (omega (arith, inside))
climb_rises low high (s ∷ []) climb k inside = absurd (omega (arith, inside))
climb_rises low high (s ∷ t ∷ steps) climb zero inside = omega (arith, climb.1.0)
climb_rises low high (s ∷ t ∷ steps) climb (suc k) inside =
    climb_rises (suc s.from) high (t ∷ steps) climb.1 k (omega (arith, inside))

-- the months that starts are between are in order
climb_order : (low high : ℕ) (steps : List Step) → Climb low high steps → low ≤ high
climb_order low high [] climb = climb
climb_order low high (s ∷ steps) climb =
    omega (arith, climb.0, climb_order (suc s.from) high steps climb.1)

pub climb_below : (low high : ℕ) (steps : List Step) → Climb low high steps → (k : ℕ)
    → k < length (step_starts steps) → get_or (step_starts steps) k 0 < high
climb_below low high [] climb k inside = absurd (omega (arith, inside))
climb_below low high (s ∷ steps) climb zero inside = omega (arith, climb_order (suc s.from) high steps climb.1)
climb_below low high (s ∷ steps) climb (suc k) inside =
    climb_below (suc s.from) high steps climb.1 k (omega (arith, inside))
