-- A cell of two states with both transitions, its three runs by degree 2 and their defects. The fractions come from
-- another program, which puts polynomials into the textbook's equations.
use Rattle.std.specs.Prelude.{◌≡◌, ℕ, zero, suc, List, [], ◌∷◌, length}
use Rattle.frac_laws.specs.Fraction.{Fraction}
use Rattle.frac_laws.specs.Lists.{number_at}
use Rattle.cell_laws.specs.Systems.{coefficient}
use Rattle.cell_laws.specs.Pairs.{second_coefficient}
use Rattle.cell_laws.specs.Samples.{plus, minus, two}
use Rattle.whole_laws.specs.Whole.{list_of}
use Rattle.model_specs.specs.Cells.{CellCurves}
use Rattle.model_specs.specs.Systems.{thiele_system, norberg_pair, kolmogorov_system}
use Rattle.limit_laws.specs.WrittenEquations.{Polynomial, thiele_defect, norberg_defect, kolmogorov_defect}
use Rattle.limit_laws.specs.Defect.{run_polynomial}

-- the intensities 1/2 + x/4 from 0 to 1, and 1/3 back
abbrev pub small_intensity : ℕ → ℕ → Polynomial
small_intensity zero (suc zero) = plus 1 2 ∷ plus 1 4 ∷ []
small_intensity (suc zero) zero = plus 1 3 ∷ []
small_intensity i j = []

-- the sojourn rate 1 + x^3 in state 0
abbrev pub small_sojourn : ℕ → Polynomial
small_sojourn zero = plus 1 1 ∷ plus 0 1 ∷ plus 0 1 ∷ plus 1 1 ∷ []
small_sojourn (suc i) = []

-- the sums 2 + x from 0 to 1, and -1 back
abbrev pub small_sum : ℕ → ℕ → Polynomial
small_sum zero (suc zero) = plus 2 1 ∷ plus 1 1 ∷ []
small_sum (suc zero) zero = minus 1 1 ∷ []
small_sum i j = []

-- the cell, with the interest 1/10 + x/5
abbrev pub small_cell : CellCurves
small_cell = record {
  states = 2;
  interest = plus 1 10 ∷ plus 1 5 ∷ [];
  intensity = small_intensity;
  sojourn = small_sojourn;
  sum = small_sum;
}

-- the reserves from 1 and 1/2
abbrev pub small_reserves : ℕ → Polynomial
small_reserves = run_polynomial (coefficient (thiele_system small_cell) (two (plus 1 1) (plus 1 2))) 2

-- the second moments from 2 and 1, beside these reserves
abbrev pub small_second : ℕ → Polynomial
small_second = run_polynomial
    (second_coefficient (norberg_pair small_cell) (two (plus 1 1) (plus 1 2)) (two (plus 2 1) (plus 1 1))) 2

-- the probabilities from 3/4 and 1/4, with the same curves forward
abbrev pub small_probabilities : ℕ → Polynomial
small_probabilities = run_polynomial (coefficient (kolmogorov_system small_cell) (two (plus 3 4) (plus 1 4))) 2

-- the first coefficients of the polynomials of both states
pub record HaveCoefficients (p : ℕ → Polynomial) (first second : List Fraction) : Type 0 where
  pub of_first : list_of (length first) (number_at (p 0)) ≡ first
  pub of_second : list_of (length second) (number_at (p 1)) ≡ second

-- the polynomials of the reserves
abbrev pub ReservesOfSmallCell : Type 0
ReservesOfSmallCell = HaveCoefficients small_reserves
    (plus 1 1 ∷ plus 33 20 ∷ minus 127 600 ∷ []) (plus 1 2 ∷ minus 13 60 ∷ plus 979 3600 ∷ [])

-- of the second moments
abbrev pub SecondMomentsOfSmallCell : Type 0
SecondMomentsOfSmallCell = HaveCoefficients small_second
    (plus 2 1 ∷ plus 41 10 ∷ plus 427 300 ∷ []) (plus 1 1 ∷ minus 1 5 ∷ minus 1 75 ∷ [])

-- and of the probabilities
abbrev pub ProbabilitiesOfSmallCell : Type 0
ProbabilitiesOfSmallCell = HaveCoefficients small_probabilities
    (plus 3 4 ∷ minus 7 24 ∷ plus 1 36 ∷ []) (plus 1 4 ∷ plus 7 24 ∷ minus 1 36 ∷ [])

-- what the reserves leave of Thiele's equation up to x^4; x^3 of the sojourn rate is part of it
abbrev pub ReserveDefects : Type 0
ReserveDefects = HaveCoefficients (thiele_defect small_cell small_reserves)
    (plus 0 1 ∷ plus 0 1 ∷ plus 10213 36000 ∷ minus 83753 72000 ∷ plus 0 1 ∷ [])
    (plus 0 1 ∷ plus 0 1 ∷ plus 15667 108000 ∷ plus 979 18000 ∷ plus 0 1 ∷ [])

-- what both moments leave of Norberg's equation up to x^6
abbrev pub SecondMomentDefects : Type 0
SecondMomentDefects = HaveCoefficients (norberg_defect small_cell small_reserves small_second)
    (plus 0 1 ∷ plus 0 1 ∷ plus 20527 9000 ∷ minus 31627 18000 ∷ minus 24739 7200 ∷ plus 127 300 ∷ plus 0 1 ∷ [])
    (plus 0 1 ∷ plus 0 1 ∷ minus 527 750 ∷ minus 2 375 ∷ plus 0 1 ∷ plus 0 1 ∷ plus 0 1 ∷ [])

-- what the probabilities leave of Kolmogorov's equation up to x^4
abbrev pub ProbabilityDefects : Type 0
ProbabilityDefects = HaveCoefficients (kolmogorov_defect small_cell small_probabilities)
    (plus 0 1 ∷ plus 0 1 ∷ minus 43 864 ∷ plus 1 144 ∷ plus 0 1 ∷ [])
    (plus 0 1 ∷ plus 0 1 ∷ plus 43 864 ∷ minus 1 144 ∷ plus 0 1 ∷ [])
