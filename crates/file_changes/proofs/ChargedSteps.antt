-- Steps that are charged obey rule 10, as those that they are made of do.
use Rattle.std.proofs.Common.{◌≡◌, ℕ, ◌≤◌, ℤ, pos, List, [], ◌∷◌, length, get_or, map, arith, refl, ◌∙◌, inl, inr}
use Rattle.std.specs.Prelude.{All, nat_lt}
use Rattle.std.proofs.lemmas.Bool.{cases_lt, lt-ltb, le-ltb}
use Rattle.std.proofs.lemmas.List.Elements.{All-append, All-cons, All-filter, All-map}
use Rattle.whole_laws.proofs.Members.{All-one}
use Rattle.model_specs.specs.Product.{Step}
use Rattle.model_specs.specs.Payments.{constant_step, step_at}
use Rattle.model_specs.specs.RecordRules.{IsPayment, StartsRise, step_starts}
use Rattle.file_changes.specs.ContinuousCharges.{charged_steps, continued_step, less_first, less_step, steps_from}
use Rattle.file_changes.proofs.StepStarts.{Climb, climb_after, climb_append, climb_before, climb_below, climb_map}
use Rattle.file_changes.proofs.StepStarts.{climb_rises, rising_climb, steps_after, steps_before}

-- a step has four coefficients
abbrev HasFour : Step → Type 0
HasFour step = length step.c ≡ 4

-- an amount less leaves their number
length-less_first : (amount : ℤ) (c : List ℤ) → length (less_first amount c) ≡ length c
length-less_first amount [] = refl
length-less_first amount (c ∷ cs) = refl

module _ (amount : ℤ) (months until : ℕ) where
  abbrev early : List Step → List Step
  early steps = map (less_step amount) (steps_before until steps)

  abbrev continued : List Step → Step
  continued steps = continued_step until (step_at steps until)

  early_fours : (steps : List Step) → All HasFour steps → All HasFour (early steps)
  early_fours steps four = All-map HasFour (less_step amount) (steps_before until steps)
      (λ k d below. length-less_first amount (get_or (steps_before until steps) k d).c
      ∙ All-filter (λ s. nat_lt s.from until) HasFour steps four k d below)

  fours : (steps : List Step) → All HasFour steps → All HasFour (charged_steps amount months until steps)
  fours steps four = elim (cases_lt until months) [
    | inl before ↦ rw (lt-ltb until months before)
        (All-append HasFour (early steps) (steps_from until steps) (early_fours steps four)
        (All-cons HasFour (continued steps) (steps_after until steps) refl
        (All-filter (λ s. nat_lt until s.from) HasFour steps four)))
    | inr after ↦ rw (le-ltb until months after)
        (All-append HasFour (early steps) [] (early_fours steps four) (λ k d below. absurd (omega (arith, below))))
  ]

  climbs : (steps : List Step) → until ≤ months → Climb 0 months steps
      → Climb 0 months (charged_steps amount months until steps)
  climbs steps within climb = elim (cases_lt until months) [
    | inl before ↦ rw (lt-ltb until months before)
        (climb_append 0 until months (early steps) (steps_from until steps) first
        (omega arith, climb_after 0 until months steps before climb))
    | inr after ↦ rw (le-ltb until months after) (climb_append 0 until months (early steps) [] first within)
  ]
    where
      first : Climb 0 until (early steps)
      first = climb_map (less_step amount) (λ s. refl) 0 until (steps_before until steps)
          (climb_before 0 until months steps (omega arith) climb)

  -- the first step starts at 0, before the premium's end
  starts_at_0 : (steps : List Step) → 1 ≤ until → StartsRise months (step_starts steps)
      → (1 ≤ length (step_starts (charged_steps amount months until steps)))
      × (get_or (step_starts (charged_steps amount months until steps)) 0 0 ≡ 0)
  starts_at_0 [] above starts = absurd (omega (arith, starts.some))
  starts_at_0 (s ∷ steps) above starts = rw (lt-ltb s.from until (omega (arith, starts.first, above)))
      (omega arith, starts.first)

  pub charged_is_payment : (steps : List Step) → 1 ≤ until → until ≤ months → IsPayment months steps
      → IsPayment months (charged_steps amount months until steps)
  charged_is_payment steps above within payment = record {
    four = fours steps payment.four;
    starts = record {
      some = (starts_at_0 steps above payment.starts).0;
      first = (starts_at_0 steps above payment.starts).1;
      rising = climb_rises 0 months (charged_steps amount months until steps) climb;
      below = climb_below 0 months (charged_steps amount months until steps) climb;
    };
  }
    where
      climb : Climb 0 months (charged_steps amount months until steps)
      climb = climbs steps within (rising_climb months steps payment.starts)

-- one step that pays nothing
pub nothing_is_payment : (months : ℕ) → 1 ≤ months → IsPayment months (constant_step 0 (pos 0) ∷ [])
nothing_is_payment months some = record {
  four = All-one HasFour (constant_step 0 (pos 0)) refl;
  starts = record {
    some = omega arith;
    first = refl;
    rising = climb_rises 0 months (constant_step 0 (pos 0) ∷ []) climb;
    below = climb_below 0 months (constant_step 0 (pos 0) ∷ []) climb;
  };
}
  where
    climb : Climb 0 months (constant_step 0 (pos 0) ∷ [])
    climb = (omega arith, omega (arith, some))
