-- Taylor coefficients of a stored system, each rounded down to a unit of 2^-64, and their sum.
use Rattle.std.specs.Prelude.{◌≡◌, ℕ, suc, pos, List, length, ◌<◌, ◌≤◌, ◌-◌}
use Rattle.frac_laws.specs.Fraction.{Fraction, whole, ◌+ℚ◌, ◌*ℚ◌, ◌≤ℚ◌, ◌<ℚ◌, size}
use Rattle.frac_laws.specs.Sums.{sum_to, power}
use Rattle.frac_laws.specs.Lists.{Vector, Matrix, SameNumbers, number_at, vector_at}
use Rattle.cell_laws.specs.Systems.{System}
use Rattle.cell_laws.specs.Pairs.{CoupledPair}
use Rattle.cell_laws.specs.Recurrence.{convolved}
use Rattle.step_laws.specs.StandsFor.{units, entry_at}

-- what (k + 1) z_(k+1) is before it is rounded: number i of A_0 z_k + .. + A_k z_0 + g_k
abbrev pub unrounded : System → (z : ℕ → Vector) → (k i : ℕ) → Fraction
unrounded s z k i = convolved s.matrices z k i +ℚ number_at (vector_at s.free k) i

-- and in the second half of a pair, where w are the first half's coefficients:
-- number i of A_0 z_k + .. + A_k z_0 + C_0 w_k + .. + C_k w_0 + g_k
abbrev pub second_unrounded : CoupledPair → (w z : ℕ → Vector) → (k i : ℕ) → Fraction
second_unrounded p w z k i = convolved p.second.matrices z k i
    +ℚ (convolved p.coupling w k i +ℚ number_at (vector_at p.second.free k) i)

-- q is x / n, or below it by less than a unit
pub record IsRoundedDown (x : Fraction) (n : ℕ) (q : Fraction) : Type 0 where
  pub below : whole (pos n) *ℚ q ≤ℚ x
  pub within : x <ℚ whole (pos n) *ℚ (q +ℚ units 1)

-- from a start as many coefficients of at most d numbers follow as the degree says, each of which is a sum
-- divided by k + 1 and rounded down; the new vector is the sum of the start and all of them
pub record IsRoundedRun (degree d : ℕ) (sums : (k i : ℕ) → Fraction) (start new : Vector) (z : ℕ → Vector) : Type 0
  where
    pub starts : SameNumbers (z 0) start
    pub fits : (k : ℕ) → k ≤ degree → length (z k) ≤ d
    pub rounded : (k i : ℕ) → k < degree → i < d → IsRoundedDown (sums k i) (suc k) (number_at (z (suc k)) i)
    pub total : (i : ℕ) → number_at new i ≡ sum_to (suc degree) (λ k. number_at (z k) i)

-- one step of a stored system, from mid to new
abbrev pub IsRoundedStep : ℕ → System → (mid new : Vector) → (ℕ → Vector) → Type 0
IsRoundedStep degree s mid new z = IsRoundedRun degree s.dimension (unrounded s z) mid new z

-- one step of the second half of a stored pair, beside the first half's coefficients w
abbrev pub IsSecondRoundedStep : ℕ → CoupledPair → (ℕ → Vector) → (mid new : Vector) → (ℕ → Vector) → Type 0
IsSecondRoundedStep degree p w mid new z =
    IsRoundedRun degree p.second.dimension (second_unrounded p w z) mid new z

-- 64 * 8^m units
abbrev pub window_bound : ℕ → Fraction
window_bound m = units 64 *ℚ power (whole (pos 8)) m

-- each number of the coefficient m powers before the degree is at most 64 * 8^m units in size, for m up to d
abbrev pub HasWindow : (degree d : ℕ) → (ℕ → Vector) → Type 0
HasWindow degree d z = (m i : ℕ) → m ≤ d → size (number_at (z (degree - m)) i) ≤ℚ window_bound m

-- above power d the matrices have no number other than 0
abbrev pub AreEmptyAbove : ℕ → List Matrix → Type 0
AreEmptyAbove d matrices = (m row col : ℕ) → d < m → entry_at matrices m row col ≡ whole (pos 0)

-- above power d the free vectors have no number other than 0
abbrev pub VectorsAreEmptyAbove : ℕ → List Vector → Type 0
VectorsAreEmptyAbove d vectors = (m row : ℕ) → d < m → number_at (vector_at vectors m) row ≡ whole (pos 0)

-- a degree at which a run may stop early: one from 8 to 24 above a power d
pub record IsEarly (degree d : ℕ) : Type 0 where
  pub least : 8 ≤ degree
  pub most : degree ≤ 24
  pub above : d < degree

-- a run may stop at degree 24, and at an early degree after a window, if above power d nothing is stored
pub data MayStop (degree : ℕ) (s : System) (z : ℕ → Vector) : Type 0 where
  at_last : degree ≡ 24 → MayStop degree s z
  after_window : (d : ℕ) → IsEarly degree d → AreEmptyAbove d s.matrices → VectorsAreEmptyAbove d s.free
      → HasWindow degree d z → MayStop degree s z

-- and so may the run of a pair, where both halves have the window
pub data PairMayStop (degree : ℕ) (p : CoupledPair) (w z : ℕ → Vector) : Type 0 where
  at_last : degree ≡ 24 → PairMayStop degree p w z
  after_window : (d : ℕ) → IsEarly degree d → AreEmptyAbove d p.first.matrices
      → VectorsAreEmptyAbove d p.first.free → AreEmptyAbove d p.second.matrices
      → VectorsAreEmptyAbove d p.second.free → AreEmptyAbove d p.coupling
      → HasWindow degree d w → HasWindow degree d z → PairMayStop degree p w z
