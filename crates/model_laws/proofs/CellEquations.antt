-- The systems of a cell obey the equations of the literature.
use Rattle.std.specs.Prelude.{◌≡◌, ℕ, suc, pos, ◌-◌, ◌<◌, ◌≤◌, refl, [], ◌∷◌}
use Rattle.std.proofs.Common.{ap, sym, ◌∙◌, arith}
use mathlib.Core.Path.{ap₂}
use Rattle.frac_laws.specs.Fraction.{Fraction, whole, opposite, ◌+ℚ◌, ◌-ℚ◌, ◌*ℚ◌}
use Rattle.frac_laws.specs.Sums.{sum_to}
use Rattle.frac_laws.specs.Lists.{Vector, number_at, matrix_at, image}
use Rattle.frac_laws.proofs.FractionTerms.{ring, terms}
use Rattle.frac_laws.proofs.Sums.{sum_to_ext, sum_to_add, sum_to_zeros}
use Rattle.frac_laws.proofs.Lengths.{number_at-past}
use Rattle.cell_laws.specs.Systems.{coefficient}
use Rattle.cell_laws.specs.Pairs.{second_coefficient}
use Rattle.cell_laws.proofs.Recurrences.{coefficients_recur, second_coefficients_recur}
use Rattle.model_specs.specs.Cells.{CellCurves}
use Rattle.model_specs.specs.Systems.{interest_at, intensity_at, sojourn_rate_at, sum_paid_at, leaving_at}
use Rattle.model_specs.specs.Systems.{first_payment_at, second_payment_at, backward_entry}
use Rattle.model_specs.specs.Systems.{coupling_entry, where_same}
use Rattle.whole_laws.specs.Whole.{list_of}
use Rattle.model_specs.specs.Systems.{matrix_of}
use Rattle.model_specs.specs.Systems.{thiele_system, second_moment_system, norberg_pair, kolmogorov_system}
use Rattle.model_laws.specs.Equations.{IsQuintic, ThieleSystemSolves, NorbergPairSolves}
use Rattle.model_laws.specs.Equations.{KolmogorovSystemSolves}
use Rattle.model_laws.proofs.CellTables.{image-table, number-table, row-diagonal, entry-zero}
use Rattle.model_laws.proofs.CellTables.{convolution-past}

-- what is past the degree is 0
interest-past : (cell : CellCurves) (m : ℕ) → IsQuintic cell → 6 ≤ m → interest_at cell m ≡ whole (pos 0)
interest-past cell m quintic past = number_at-past cell.interest 6 m quintic.interest past

intensity-past : (cell : CellCurves) (i j m : ℕ) → IsQuintic cell → 6 ≤ m → intensity_at cell i j m ≡ whole (pos 0)
intensity-past cell i j m quintic past = number_at-past (cell.intensity i j) 6 m (quintic.intensity i j) past

leaving-past : (cell : CellCurves) (i m : ℕ) → IsQuintic cell → 6 ≤ m → leaving_at cell i m ≡ whole (pos 0)
leaving-past cell i m quintic past = sum_to_zeros cell.states (λ j b. intensity-past cell i j m quintic past)

sojourn-past : (cell : CellCurves) (i m : ℕ) → IsQuintic cell → 4 ≤ m → sojourn_rate_at cell i m ≡ whole (pos 0)
sojourn-past cell i m quintic past = number_at-past (cell.sojourn i) 4 m (quintic.sojourn i) past

sum-past : (cell : CellCurves) (i j m : ℕ) → IsQuintic cell → 4 ≤ m → sum_paid_at cell i j m ≡ whole (pos 0)
sum-past cell i j m quintic past = number_at-past (cell.sum i j) 4 m (quintic.sum i j) past

first-past : (cell : CellCurves) (i j m : ℕ) → IsQuintic cell → 9 ≤ m
    → first_payment_at cell i j m ≡ whole (pos 0)
first-past cell i j m quintic past = convolution-past 6 4 m (intensity_at cell i j) (sum_paid_at cell i j)
    (λ a b. intensity-past cell i j a quintic b) (λ a b. sum-past cell i j a quintic b) (omega arith)

second-past : (cell : CellCurves) (i j m : ℕ) → IsQuintic cell → 12 ≤ m
    → second_payment_at cell i j m ≡ whole (pos 0)
second-past cell i j m quintic past = convolution-past 9 4 m (first_payment_at cell i j) (sum_paid_at cell i j)
    (λ a b. first-past cell i j a quintic b) (λ a b. sum-past cell i j a quintic b) (omega arith)

-- the product of a backward matrix with a vector, in one state
backward-row : (cell : CellCurves) (times m i : ℕ) (v : Vector) → IsQuintic cell → i < cell.states
    → number_at (image (matrix_at (list_of 6 (λ k. matrix_of cell.states (backward_entry cell times k))) m) v) i
    ≡ opposite (whole (pos times) *ℚ interest_at cell m +ℚ leaving_at cell i m) *ℚ number_at v i
    +ℚ sum_to cell.states (λ j. intensity_at cell i j m *ℚ number_at v j)
backward-row cell times m i v quintic within =
    image-table cell.states 6 (λ k. backward_entry cell times k) m i v within (λ j past.
    entry-zero i j _ _ (intensity-past cell i j m quintic past)
    (rw (interest-past cell m quintic past, leaving-past cell i m quintic past)
    (ring (whole (pos times) ∷ []) (hlevel terms) refl)))
    ∙ row-diagonal cell.states i (λ j. intensity_at cell i j m) (λ j. number_at v j) _ within

-- and of the coupling
coupling-row : (cell : CellCurves) (m i : ℕ) (v : Vector) → IsQuintic cell → i < cell.states
    → number_at (image (matrix_at (list_of 9 (λ k. matrix_of cell.states (coupling_entry cell k))) m) v) i
    ≡ whole (pos 2) *ℚ sojourn_rate_at cell i m *ℚ number_at v i
    +ℚ sum_to cell.states (λ j. whole (pos 2) *ℚ first_payment_at cell i j m *ℚ number_at v j)
coupling-row cell m i v quintic within =
    image-table cell.states 9 (λ k. coupling_entry cell k) m i v within (λ j past.
    entry-zero i j _ _
    (rw (first-past cell i j m quintic past) (ring [] (hlevel terms) refl))
    (rw (sojourn-past cell i m quintic (omega arith)) (ring [] (hlevel terms) refl)))
    ∙ row-diagonal cell.states i (λ j. whole (pos 2) *ℚ first_payment_at cell i j m) (λ j. number_at v j) _ within

-- and of a forward matrix
forward-row : (cell : CellCurves) (m j : ℕ) (v : Vector) → IsQuintic cell → j < cell.states
    → number_at (image (matrix_at (kolmogorov_system cell).matrices m) v) j
    ≡ sum_to cell.states (λ i. intensity_at cell i j m *ℚ number_at v i) -ℚ leaving_at cell j m *ℚ number_at v j
forward-row cell m j v quintic within =
    image-table cell.states 6
    (λ k j i. intensity_at cell i j k +ℚ where_same j i (opposite (leaving_at cell j k))) m j v within
    (λ i past. entry-zero j i _ _ (intensity-past cell i j m quintic past)
    (rw (leaving-past cell j m quintic past) (ring [] (hlevel terms) refl)))
    ∙ row-diagonal cell.states j (λ i. intensity_at cell i j m) (λ i. number_at v i) _ within
    ∙ ring (leaving_at cell j m ∷ number_at v j
    ∷ sum_to cell.states (λ i. intensity_at cell i j m *ℚ number_at v i) ∷ []) (hlevel terms) refl

pub thiele_system_solves : ThieleSystemSolves
thiele_system_solves cell start quintic k i within =
    coefficients_recur (thiele_system cell) start k i
    ∙ ap₂ (λ a b. a +ℚ b)
    (sum_to_ext (suc k)
    (λ m b. backward-row cell 1 m i (coefficient (thiele_system cell) start (k - m)) quintic within
    ∙ ap (λ x. opposite (x +ℚ leaving_at cell i m)
    *ℚ number_at (coefficient (thiele_system cell) start (k - m)) i
    +ℚ sum_to cell.states (λ j. intensity_at cell i j m
    *ℚ number_at (coefficient (thiele_system cell) start (k - m)) j))
    (ring (interest_at cell m ∷ []) (hlevel terms) refl)))
    (number-table cell.states 9
    (λ m i. sojourn_rate_at cell i m +ℚ sum_to cell.states (λ j. first_payment_at cell i j m)) k i within
    (λ past. rw (
      sojourn-past cell i k quintic (omega arith),
      sum_to_zeros cell.states (λ j b. first-past cell i j k quintic past),
    ) (ring [] (hlevel terms) refl)))

pub kolmogorov_system_solves : KolmogorovSystemSolves
kolmogorov_system_solves cell start quintic k j within =
    coefficients_recur (kolmogorov_system cell) start k j
    ∙ ap (λ a. a +ℚ whole (pos 0))
    (sum_to_ext (suc k)
    (λ m b. forward-row cell m j (coefficient (kolmogorov_system cell) start (k - m)) quintic within))
    ∙ ring (sum_to (suc k) (λ m. sum_to cell.states (λ i. intensity_at cell i j m
    *ℚ number_at (coefficient (kolmogorov_system cell) start (k - m)) i)
    -ℚ leaving_at cell j m *ℚ number_at (coefficient (kolmogorov_system cell) start (k - m)) j) ∷ [])
    (hlevel terms) refl

-- one power of Norberg's equation: what the second moments and the first ones give
norberg-power : (cell : CellCurves) (m i : ℕ) (z w : Vector) → IsQuintic cell → i < cell.states
    → number_at (image (matrix_at (second_moment_system cell).matrices m) z) i
    +ℚ number_at (image (matrix_at (norberg_pair cell).coupling m) w) i
    ≡ opposite (whole (pos 2) *ℚ interest_at cell m +ℚ leaving_at cell i m) *ℚ number_at z i
    +ℚ whole (pos 2) *ℚ sojourn_rate_at cell i m *ℚ number_at w i
    +ℚ sum_to cell.states (λ j. intensity_at cell i j m *ℚ number_at z j
    +ℚ whole (pos 2) *ℚ first_payment_at cell i j m *ℚ number_at w j)
norberg-power cell m i z w quintic within =
    rw (
      backward-row cell 2 m i z quintic within,
      coupling-row cell m i w quintic within,
      sum_to_add cell.states (λ j. intensity_at cell i j m *ℚ number_at z j)
          (λ j. whole (pos 2) *ℚ first_payment_at cell i j m *ℚ number_at w j),
    )
    (ring (interest_at cell m ∷ leaving_at cell i m ∷ number_at z i ∷ sojourn_rate_at cell i m ∷ number_at w i
    ∷ sum_to cell.states (λ j. intensity_at cell i j m *ℚ number_at z j)
    ∷ sum_to cell.states (λ j. whole (pos 2) *ℚ first_payment_at cell i j m *ℚ number_at w j) ∷ [])
    (hlevel terms) refl)

pub norberg_pair_solves : NorbergPairSolves
norberg_pair_solves cell start second quintic k i within =
    second_coefficients_recur (norberg_pair cell) start second k i
    ∙ regroup _ _ _
    ∙ ap₂ (λ a b. a +ℚ b)
    (sym (sum_to_add (suc k) _ _)
    ∙ sum_to_ext (suc k) (λ m b. norberg-power cell m i
    (second_coefficient (norberg_pair cell) start second (k - m))
    (coefficient (thiele_system cell) start (k - m)) quintic within))
    (number-table cell.states 12 (λ m i. sum_to cell.states (λ j. second_payment_at cell i j m)) k i within
    (λ past. sum_to_zeros cell.states (λ j b. second-past cell i j k quintic past)))
  where
    regroup : (x y z : Fraction) → x +ℚ (y +ℚ z) ≡ (x +ℚ y) +ℚ z
    regroup x y z = ring (x ∷ y ∷ z ∷ []) (hlevel terms) refl
