-- Sums over the states of what is read of the transition that is found between two states.
use Rattle.std.specs.Prelude.{◌≡◌, ℕ, pos, ◌<◌, ◌==◌, ◌&&◌, Bool, true, false, cond}
use Rattle.std.specs.Prelude.{Option, Some, None, find, filter, map, All, List, [], ◌∷◌}
use Rattle.std.proofs.Common.{refl, ap, sym, ◌∙◌, arith, inl, inr}
use Rattle.std.proofs.lemmas.Bool.{cases_lt}
use Rattle.std.proofs.lemmas.Bool.Decides.{eqb_tells}
use Rattle.std.proofs.lemmas.List.Elements.{All-head, All-tail}
use Rattle.frac_laws.specs.Fraction.{Fraction, whole, ◌+ℚ◌, ◌*ℚ◌, ◌≤ℚ◌}
use Rattle.frac_laws.specs.Sums.{sum_to, sum_of_list}
use Rattle.frac_laws.proofs.Linear.{linear, claims, natural, ◌⊞◌, ◌⊠◌}
use Rattle.frac_laws.proofs.Order.{le_refl, le_trans, le_of_equal}
use Rattle.frac_laws.proofs.Sums.{sum_to_mono, sum_to_add, sum_to_scale_right, sum_to_zeros, sum_to_zero}
use Rattle.product_cells.specs.MonthFractions.{found_value}
use Rattle.cell_bounds.proofs.TableNorms.{unit_at, unit-same, unit-other, sum_of_units}

pub found_natural : (h : ℕ → Fraction) → ((e : ℕ) → whole (pos 0) ≤ℚ h e) → (found : Option ℕ)
    → whole (pos 0) ≤ℚ found_value h found
found_natural h some None = natural 0 1
found_natural h some (Some e) = some e

-- what none has and each member of the list, the one that is found has
pub found_has : (P : Option ℕ → Type 0) (test : ℕ → Bool) (xs : List ℕ) → P None → All (λ e. P (Some e)) xs
    → P (find test xs)
found_has P test [] bare all = bare
found_has P test (x ∷ xs) bare all =
    elim (test x) as (λ b. P (cond b (Some x) (find test xs))) [
      | true ↦ All-head (λ e. P (Some e)) x xs all
      | false ↦ found_has P test xs bare (All-tail (λ e. P (Some e)) x xs all)
    ]

units_at_most : (n t : ℕ) → sum_to n (unit_at t) ≤ℚ whole (pos 1)
units_at_most n t = elim (cases_lt t n) [
  | inl b ↦ le_of_equal (sum_of_units n t b)
  | inr b ↦ le_trans (le_of_equal (sum_to_zeros n (λ j c. unit-other t j (differs t j (omega arith))))) (natural 1 1)
]
  where
    differs : (t j : ℕ) → j < t → j ≡ t → ⊥
    differs t j h e = absurd (omega (arith, h, e))

module _ (from to : ℕ → ℕ) (h : ℕ → Fraction) (some : (e : ℕ) → whole (pos 0) ≤ℚ h e) (states i : ℕ) where
  abbrev leads : ℕ → ℕ → Bool
  leads j e = (from e == i) && (to e == j)

  one_more : (e j : ℕ) (rest : Option ℕ)
      → found_value h (cond (to e == j) (Some e) rest) ≤ℚ unit_at (to e) j *ℚ h e +ℚ found_value h rest
  one_more e j rest = elim (eqb_tells (to e) j) [
    | inl same ↦ rw (same.0, ap (unit_at (to e)) (sym same.1) ∙ unit-same (to e))
        (linear (h e ∷ found_value h rest ∷ []) (found_natural h some rest) (hlevel claims) refl)
    | inr other ↦ rw (other.0, unit-other (to e) j (λ s. other.1 (sym s)))
        (linear (h e ∷ found_value h rest ∷ []) (le_refl (whole (pos 0))) (hlevel claims) refl)
  ]

  -- the transitions that are found from a state are among its exits
  pub found_total : (xs : List ℕ) → sum_to states (λ j. found_value h (find (leads j) xs))
      ≤ℚ sum_of_list (map h (filter (λ e. from e == i) xs))
  found_total [] = le_of_equal (sum_to_zero states)
  found_total (e ∷ xs) =
      elim (from e == i) as (λ b. sum_to states (λ j. found_value h (cond (b && (to e == j)) (Some e)
      (find (leads j) xs))) ≤ℚ sum_of_list (map h (cond b (e ∷ filter (λ e. from e == i) xs)
      (filter (λ e. from e == i) xs)))) [
        | true ↦ le_trans (sum_to_mono states (λ j b. one_more e j (find (leads j) xs)))
            (le_trans (le_of_equal (sum_to_add states (λ j. unit_at (to e) j *ℚ h e)
            (λ j. found_value h (find (leads j) xs))
            ∙ ap (λ z. z +ℚ sum_to states (λ j. found_value h (find (leads j) xs)))
            (sum_to_scale_right states (h e) (unit_at (to e)))))
            (joined (sum_to states (unit_at (to e))) (h e) (sum_to states (λ j. found_value h (find (leads j) xs)))
            (sum_of_list (map h (filter (λ e. from e == i) xs)))
            (units_at_most states (to e)) (some e) (found_total xs)))
        | false ↦ found_total xs
      ]
    where
      joined : (u x y z : Fraction) → u ≤ℚ whole (pos 1) → whole (pos 0) ≤ℚ x → y ≤ℚ z → u *ℚ x +ℚ y ≤ℚ x +ℚ z
      joined u x y z hu hx hy = linear (u ∷ x ∷ y ∷ z ∷ []) (hu ⊠ hx ⊞ hy) (hlevel claims) refl
