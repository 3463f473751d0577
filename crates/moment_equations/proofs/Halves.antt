-- The numbers of both halves, near vectors of norm at most 1.
use Rattle.std.specs.Prelude.{◌≡◌, ℕ, pos, ◌+◌, ◌-◌, ◌^◌, ◌<◌, ◌≤◌, ℤ, unsigned_abs, List, [], ◌∷◌, length, take, drop}
use Rattle.std.specs.Prelude.{slice_index_or}
use Rattle.std.proofs.Common.{refl, ap, sym, ◌∙◌, arith, inl, inr}
use Rattle.std.proofs.lemmas.Bool.{cases_lt}
use Rattle.std.proofs.lemmas.List.{get_or-take, get_or-drop, get_or_past}
use Rattle.frac_laws.specs.Fraction.{Fraction, over, whole, size, opposite, ◌-ℚ◌, ◌≤ℚ◌}
use Rattle.frac_laws.specs.Lists.{Vector, number_at}
use Rattle.frac_laws.specs.Norms.{Sup, norm_of_vector}
use Rattle.frac_laws.proofs.FractionTerms.{ring, terms}
use Rattle.frac_laws.proofs.Linear.{linear, claims, ◌⊞◌}
use Rattle.frac_laws.proofs.Norms.{number_below_norm}
use Rattle.frac_laws.proofs.Order.{le_trans, le_of_equal}
use Rattle.frac_laws.proofs.Quotients.{over_add}
use Rattle.frac_laws.proofs.Sizes.{size_add, size-opposite}
use Rattle.frac_laws.proofs.SizeFacts.{abs_of_size}
use Rattle.cell_laws.specs.ErrorLaws.{distance}
use Rattle.taylor_step.specs.CanStep.{AreAtMost}
use Rattle.sweep_laws.specs.SweepLaws.{units}
use Rattle.sweep_laws.proofs.PairSweeps.{number_near}
use Rattle.linear_system.specs.StandsFor.{in_units}
use Rattle.linear_system.proofs.NumbersInUnits.{at-units}

-- a number near one of at most 1 in size
pub number_within : (x : Fraction) (z : ℤ) (rad : ℕ) → size x ≤ℚ whole (pos 1)
    → size (x -ℚ over z (2 ^ 64)) ≤ℚ over (pos rad) (2 ^ 64) → unsigned_abs z ≤ 2 ^ 64 + rad
number_within x z rad small near =
    abs_of_size z (2 ^ 64 + rad) (2 ^ 64) (omega arith)
    (le_trans (le_of_equal (ap size (ring (x ∷ over z (2 ^ 64) ∷ []) (hlevel terms) refl)))
    (le_trans (size_add x (opposite (x -ℚ over z (2 ^ 64))))
    (rw (size-opposite (x -ℚ over z (2 ^ 64)), over_add (pos (2 ^ 64)) (pos rad) (2 ^ 64))
    (linear (size x ∷ size (x -ℚ over z (2 ^ 64)) ∷ over (pos rad) (2 ^ 64) ∷ []) (near ⊞ small) (hlevel claims)
    refl))))

module _ (mid : List ℤ) (S : ℕ) (long : length mid ≡ S + S) where
  pub first-at : (i : ℕ) → i < S → number_at (take S (in_units mid)) i ≡ over (slice_index_or mid i (pos 0)) (2 ^ 64)
  first-at i b = get_or-take S (in_units mid) i (whole (pos 0)) b ∙ at-units mid i (omega (arith, long, b))

  pub second-at : (i : ℕ) → i < S → number_at (drop S (in_units mid)) i
      ≡ over (slice_index_or mid (S + i) (pos 0)) (2 ^ 64)
  second-at i b = get_or-drop S (in_units mid) i (whole (pos 0)) ∙ at-units mid (S + i) (omega (arith, long, b))

  module _ (y z : Vector) (rad rad2 : ℕ) (near : distance Sup y (take S (in_units mid)) ≤ℚ units rad)
      (near_too : distance Sup z (drop S (in_units mid)) ≤ℚ units rad2) where
    pub first_within : (i : ℕ) → i < S
        → size (number_at y i -ℚ over (slice_index_or mid i (pos 0)) (2 ^ 64)) ≤ℚ over (pos rad) (2 ^ 64)
    first_within i b = le_trans (le_of_equal (ap (λ x. size (number_at y i -ℚ x)) (sym (first-at i b))))
        (le_trans (number_near y (take S (in_units mid)) i) near)

    pub second_within : (i : ℕ) → i < S
        → size (number_at z i -ℚ over (slice_index_or mid (S + i) (pos 0)) (2 ^ 64)) ≤ℚ over (pos rad2) (2 ^ 64)
    second_within i b = le_trans (le_of_equal (ap (λ x. size (number_at z i -ℚ x)) (sym (second-at i b))))
        (le_trans (number_near z (drop S (in_units mid)) i) near_too)

    -- all numbers, where the exact ones are at most 1 in size
    module _ (small : (i : ℕ) → size (number_at y i) ≤ℚ whole (pos 1))
        (small_too : (i : ℕ) → size (number_at z i) ≤ℚ whole (pos 1)) (few : rad ≤ 2 ^ 45) (few_too : rad2 ≤ 2 ^ 45)
      where
        pub halves_most : AreAtMost (2 ^ 64 + 2 ^ 45) mid
        halves_most i = elim (cases_lt i S) [
          | inl b ↦ omega (
            arith,
            few,
            number_within (number_at y i) (slice_index_or mid i (pos 0)) rad (small i) (first_within i b),
          )
          | inr past ↦ elim (cases_lt i (S + S)) [
            | inl inside ↦
                let sum : S + (i - S) ≡ i = omega (arith, past) in
                let b : i - S < S = omega (arith, past, inside) in
                let here = number_within (number_at z (i - S)) (slice_index_or mid (S + (i - S)) (pos 0)) rad2
                (small_too (i - S)) (second_within (i - S) b) in
                omega (arith, few_too, rw sum at here)
            | inr beyond ↦ rw (get_or_past mid i (pos 0) (omega (arith, long, beyond))) (omega arith)
          ]
        ]

-- numbers of a vector of norm at most 1
pub numbers_small : (y : Vector) → norm_of_vector Sup y ≤ℚ whole (pos 1)
    → (i : ℕ) → size (number_at y i) ≤ℚ whole (pos 1)
numbers_small y small i = le_trans (number_below_norm Sup y i) small
