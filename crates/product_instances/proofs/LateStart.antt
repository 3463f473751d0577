-- A cell without intensities keeps probabilities, in every degree.
use Rattle.std.specs.Prelude.{◌≡◌, ℕ, zero, suc, ◌+◌, ◌-◌, ◌*◌, ◌<◌, ◌≤◌, pos, List, [], ◌∷◌, length, refl}
use Rattle.std.proofs.Common.{ap, ◌∙◌, inl, inr, lit<, lit≤, arith}
use Rattle.std.proofs.lemmas.Bool.Decides.{eqb_tells}
use Rattle.frac_laws.specs.Fraction.{Fraction, whole, over, ◌-ℚ◌, ◌*ℚ◌}
use Rattle.frac_laws.specs.Sums.{sum_to}
use Rattle.frac_laws.specs.Lists.{Vector, number_at}
use Rattle.frac_laws.specs.Polynomials.{shifted, stretched}
use Rattle.frac_laws.proofs.FractionTerms.{ring, terms}
use Rattle.frac_laws.proofs.Sums.{sum_to_zeros, sum_to_first}
use Rattle.frac_laws.proofs.Vectors.{number_at-scale_list}
use Rattle.cell_laws.specs.Systems.{coefficient, taylor_value}
use Rattle.cell_laws.proofs.Recurrences.{taylor_value_sums}
use Rattle.model_specs.specs.Payments.{payment_plan}
use Rattle.model_specs.specs.Cells.{CellCurves, Forward, cells_of_32, cell_curves}
use Rattle.model_specs.specs.Systems.{kolmogorov_system, intensity_at, leaving_at}
use Rattle.model_specs.specs.Runs.{month_forward, probabilities}
use Rattle.model_laws.specs.Equations.{IsQuintic}
use Rattle.model_laws.proofs.CellEquations.{kolmogorov_system_solves}
use Rattle.model_laws.proofs.FlatCells.{none_of}
use Rattle.model_laws.proofs.FlatRuns.{zero-number}
use Rattle.product_instances.specs.LateStart.{late_start, NobodyHasLeft}

module _ (cell : CellCurves) (quintic : IsQuintic cell) (still : (i j m : ℕ) → intensity_at cell i j m ≡ whole (pos 0))
    (v : Vector) (j : ℕ) (inside : j < cell.states) where
  -- the coefficients of a state
  abbrev p : ℕ → Fraction
  p k = number_at (coefficient (kolmogorov_system cell) v k) j

  nobody-comes : (k m : ℕ) → sum_to cell.states
      (λ i. intensity_at cell i j m *ℚ number_at (coefficient (kolmogorov_system cell) v (k - m)) i)
      -ℚ leaving_at cell j m *ℚ number_at (coefficient (kolmogorov_system cell) v (k - m)) j ≡ whole (pos 0)
  nobody-comes k m = rw (
    sum_to_zeros cell.states {f = λ i. intensity_at cell i j m *ℚ number_at
        (coefficient (kolmogorov_system cell) v (k - m)) i}
        (λ i b. rw (still i j m) (nothing (number_at (coefficient (kolmogorov_system cell) v (k - m)) i))),
    sum_to_zeros cell.states {f = λ l. intensity_at cell j l m} (λ l b. still j l m),
  )
      (ring (number_at (coefficient (kolmogorov_system cell) v (k - m)) j ∷ []) (hlevel terms) refl)
    where
      nothing : (x : Fraction) → whole (pos 0) *ℚ x ≡ whole (pos 0)
      nothing x = ring (x ∷ []) (hlevel terms) refl

  later-none : (k : ℕ) → p (suc k) ≡ whole (pos 0)
  later-none k = none_of k (p (suc k)) (kolmogorov_system_solves cell v quintic k j inside
      ∙ sum_to_zeros (suc k) (λ m b. nobody-comes k m))

  pub cell_keeps : (n : ℕ) → number_at (taylor_value (kolmogorov_system cell) v n) j ≡ number_at v j
  cell_keeps n = taylor_value_sums (kolmogorov_system cell) v n j ∙ sum_to_first n p
      ∙ rw (sum_to_zeros n {f = λ k. p (suc k)} (λ k b. later-none k)) (ring (number_at v j ∷ []) (hlevel terms) refl)

-- the cells of the first month
abbrev first_month : ℕ → CellCurves
first_month cell = cell_curves (cells_of_32 Forward) late_start (payment_plan late_start) 0 cell

abbrev six_zeros : List Fraction
six_zeros = whole (pos 0) ∷ whole (pos 0) ∷ whole (pos 0) ∷ whole (pos 0) ∷ whole (pos 0) ∷ whole (pos 0) ∷ []

still-curve : (cell m : ℕ) → intensity_at (first_month cell) 0 1 m ≡ whole (pos 0)
still-curve cell m =
    number_at-scale_list (over (pos 1) 384) (stretched (over (pos 1) 384) (shifted (over (pos (0 * 32 + cell)) 384)
    six_zeros)) m
    ∙ ap (λ z. over (pos 1) 384 *ℚ z) (zero-number (over (pos 1) 384) (over (pos (0 * 32 + cell)) 384) m)
    ∙ ring [] (hlevel terms) refl

-- no other transition is there
still : (cell i j m : ℕ) → intensity_at (first_month cell) i j m ≡ whole (pos 0)
still cell zero zero m = refl
still cell zero (suc zero) m = still-curve cell m
still cell zero (suc (suc j)) m = elim (eqb_tells 1 (suc (suc j))) [
  | inl same ↦ absurd (omega (arith, same.1))
  | inr other ↦ rw other.0 refl
]
still cell (suc i) j m = elim (eqb_tells 0 (suc i)) [
  | inl same ↦ absurd (omega (arith, same.1))
  | inr other ↦ rw other.0 refl
]

quintic : (cell : ℕ) → IsQuintic (first_month cell)
quintic cell = record {
  interest = lit≤ tt;
  intensity = short cell;
  sojourn = λ i. lit≤ tt;
  sum = nothing cell;
}
  where
    short : (cell i j : ℕ) → length ((first_month cell).intensity i j) ≤ 6
    short cell i j = elim (eqb_tells 0 i) [
      | inl from ↦ elim (eqb_tells 1 j) [
        | inl to ↦ rw (from.0, to.0) (lit≤ tt)
        | inr other ↦ rw (from.0, other.0) (lit≤ tt)
      ]
      | inr other ↦ rw other.0 (lit≤ tt)
    ]

    nothing : (cell i j : ℕ) → length ((first_month cell).sum i j) ≤ 4
    nothing cell i j = elim (eqb_tells 0 i) [
      | inl from ↦ elim (eqb_tells 1 j) [
        | inl to ↦ rw (from.0, to.0) (lit≤ tt)
        | inr other ↦ rw (from.0, other.0) (lit≤ tt)
      ]
      | inr other ↦ rw other.0 (lit≤ tt)
    ]

month_keeps : (n cells : ℕ) (v : Vector)
    → number_at (month_forward (λ cell. kolmogorov_system (first_month cell)) n cells v) 0 ≡ number_at v 0
month_keeps n zero v = refl
month_keeps n (suc cells) v =
    cell_keeps (first_month cells) (quintic cells) (still cells)
    (month_forward (λ cell. kolmogorov_system (first_month cell)) n cells v) 0 (lit< tt) n
    ∙ month_keeps n cells v

pub nobody_has_left : NobodyHasLeft
nobody_has_left n = month_keeps n 32 (probabilities late_start n 0)
