-- Steps less an amount a year, one after the other.
use Rattle.std.proofs.Common.{◌≡◌, ℕ, zero, suc, ◌+◌, ◌<◌, ℤ, pos, ◌-ℤ◌, List, [], ◌∷◌, ◌++◌, length, map, take, get_or}
use Rattle.std.proofs.Common.{arith, ap, sym, ◌∙◌, subst, FitsSigned}
use Rattle.std.specs.Prelude.{All, Bool, true, false, filter, nat_lt}
use Rattle.std.specs.Int.{w64}
use Rattle.std.proofs.lemmas.List.{get_or-map, length-map, map-append}
use Rattle.std.proofs.lemmas.List.Elements.{All-append}
use Rattle.whole_laws.proofs.ShortLists.{four_are_all}
use Rattle.model_specs.specs.Product.{Step}
use Rattle.payment_plan.specs.declared.step.StepAmount.{StepAmount}
use Rattle.payment_plan.specs.Records.{record_of, steps_of}
use Rattle.product_reader.proofs.Grown.{map-append-one}
use Rattle.file_changes.specs.ContinuousAsks.{AreWords}
use Rattle.file_changes.specs.ContinuousCharges.{less_first, less_step}
use Rattle.file_changes.proofs.Filtered.{member_is_taken, member_is_left, holds_of_member}

-- four coefficients, the first one less an amount
pub less_of_four : (amount : ℤ) (p : List ℤ) → length p ≡ 4 → less_first amount p
    ≡ (get_or p 0 (pos 0) -ℤ amount) ∷ get_or p 1 (pos 0) ∷ get_or p 2 (pos 0) ∷ get_or p 3 (pos 0) ∷ []
less_of_four amount p four = ap (less_first amount) (four_are_all p four)

pub first_is_word : (amount : ℤ) (p : List ℤ) → length p ≡ 4 → AreWords (less_first amount p)
    → FitsSigned w64 (get_or p 0 (pos 0) -ℤ amount)
first_is_word amount p four all = subst AreWords (less_of_four amount p four) all 0 (pos 0) (omega arith)

-- the words of one step more
pub step_words_more : (made : List StepAmount) (s : StepAmount) → All (λ (x : Step). AreWords x.c) (steps_of made)
    → AreWords s.c → All (λ (x : Step). AreWords x.c) (steps_of (made ++ s ∷ []))
step_words_more made s all one = subst (All (λ (x : Step). AreWords x.c)) (sym (map-append record_of made (s ∷ [])))
    (All-append (λ (x : Step). AreWords x.c) (steps_of made) (record_of s ∷ []) all only)
  where
    only : All (λ (x : Step). AreWords x.c) (record_of s ∷ [])
    only zero d below = one
    only (suc k) d below = absurd (omega (arith, below))

module _ (amount : ℤ) (until : ℕ) (steps : List StepAmount) (i : ℕ) (d : StepAmount) (inside : i < length steps) where
  abbrev starts_before : Step → Bool
  starts_before s = nat_lt s.from until

  inside_records : i < length (steps_of steps)
  inside_records = subst (λ n. i < n) (sym (length-map steps record_of)) inside

  record_is : get_or (steps_of steps) i (record_of d) ≡ record_of (get_or steps i d)
  record_is = get_or-map record_of steps i d (record_of d) inside

  -- one step more that starts before
  pub less_more : (made : List StepAmount) (s : StepAmount) → nat_lt (get_or steps i d).from until ≡ true
      → steps_of made ≡ map (less_step amount) (filter starts_before (take i (steps_of steps)))
      → record_of s ≡ less_step amount (record_of (get_or steps i d))
      → steps_of (made ++ s ∷ []) ≡ map (less_step amount) (filter starts_before (take (i + 1) (steps_of steps)))
  less_more made s before so_far next =
      map-append-one record_of made s ∙ ap (λ xs. xs ++ record_of s ∷ []) so_far
      ∙ ap (λ x. map (less_step amount) (filter starts_before (take i (steps_of steps))) ++ x ∷ [])
      (next ∙ ap (less_step amount) (sym record_is))
      ∙ sym (member_is_taken (less_step amount) starts_before (steps_of steps) i (record_of d) inside_records
      (ap starts_before record_is ∙ before))

  -- and one that does not
  pub less_same : (made : List StepAmount) → nat_lt (get_or steps i d).from until ≡ false
      → steps_of made ≡ map (less_step amount) (filter starts_before (take i (steps_of steps)))
      → steps_of made ≡ map (less_step amount) (filter starts_before (take (i + 1) (steps_of steps)))
  less_same made behind so_far =
      so_far ∙ sym (member_is_left (less_step amount) starts_before (steps_of steps) i (record_of d) inside_records
      (ap starts_before record_is ∙ behind))

  -- where one has too large a coefficient, they have
  pub step_is_too_large : nat_lt (get_or steps i d).from until ≡ true
      → ¬ AreWords (less_first amount (get_or steps i d).c)
      → ¬ All (λ (s : Step). AreWords s.c) (map (less_step amount) (filter starts_before (steps_of steps)))
  step_is_too_large before wide all =
      wide (subst (λ (s : Step). AreWords (less_first amount s.c)) record_is
      (holds_of_member (less_step amount) starts_before (λ (s : Step). AreWords s.c) (steps_of steps) i (record_of d)
      inside_records (ap starts_before record_is ∙ before) all))
