-- The equations of the literature as recurrences of coefficients, state by state, and the laws that the
-- systems of a cell obey them.
use Rattle.std.specs.Prelude.{◌≡◌, ℕ, suc, pos, ◌-◌, ◌<◌, ◌≤◌, length}
use Rattle.frac_laws.specs.Fraction.{Fraction, whole, opposite, ◌+ℚ◌, ◌-ℚ◌, ◌*ℚ◌}
use Rattle.frac_laws.specs.Sums.{sum_to}
use Rattle.frac_laws.specs.Lists.{Vector, number_at}
use Rattle.cell_laws.specs.Systems.{coefficient}
use Rattle.cell_laws.specs.Pairs.{second_coefficient}
use Rattle.model_specs.specs.Cells.{CellCurves}
use Rattle.model_specs.specs.Systems.{interest_at, intensity_at, sojourn_rate_at, leaving_at}
use Rattle.model_specs.specs.Systems.{first_payment_at}
use Rattle.model_specs.specs.Systems.{second_payment_at, thiele_system, norberg_pair, kolmogorov_system}

-- curves have at most six coefficients and payments at most four
pub record IsQuintic (cell : CellCurves) : Type 0 where
  pub interest : length cell.interest ≤ 6
  pub intensity : (i j : ℕ) → length (cell.intensity i j) ≤ 6
  pub sojourn : (i : ℕ) → length (cell.sojourn i) ≤ 4
  pub sum : (i j : ℕ) → length (cell.sum i j) ≤ 4

-- Thiele's equation by powers of x, where w i k is the coefficient of state i at power k: (k + 1)
-- w_i,k+1 is the sum over m from 0 to k of -(r_m + sum of mu_ij,m) w_i,k-m + sum of mu_ij,m w_j,k-m, and
-- b_i,k, and the sum of d_ij,k
abbrev pub SolvesThiele : CellCurves → (ℕ → ℕ → Fraction) → Type 0
SolvesThiele cell w = (k i : ℕ) → i < cell.states → whole (pos (suc k)) *ℚ w i (suc k) ≡
    sum_to (suc k) (λ m. opposite (interest_at cell m +ℚ leaving_at cell i m) *ℚ w i (k - m)
    +ℚ sum_to cell.states (λ j. intensity_at cell i j m *ℚ w j (k - m)))
    +ℚ (sojourn_rate_at cell i k +ℚ sum_to cell.states (λ j. first_payment_at cell i j k))

-- Norberg's equation by powers of x, beside Thiele's coefficients w: (k + 1) z_i,k+1 is the sum over m
-- from 0 to k of -(2 r_m + sum of mu_ij,m) z_i,k-m + 2 b_i,m w_i,k-m + sum of (mu_ij,m z_j,k-m + 2
-- d_ij,m w_j,k-m), and the sum of e_ij,k
abbrev pub SolvesNorberg : CellCurves → (ℕ → ℕ → Fraction) → (ℕ → ℕ → Fraction) → Type 0
SolvesNorberg cell w z = (k i : ℕ) → i < cell.states → whole (pos (suc k)) *ℚ z i (suc k) ≡
    sum_to (suc k) (λ m.
    opposite (whole (pos 2) *ℚ interest_at cell m +ℚ leaving_at cell i m) *ℚ z i (k - m)
    +ℚ whole (pos 2) *ℚ sojourn_rate_at cell i m *ℚ w i (k - m)
    +ℚ sum_to cell.states (λ j. intensity_at cell i j m *ℚ z j (k - m)
    +ℚ whole (pos 2) *ℚ first_payment_at cell i j m *ℚ w j (k - m)))
    +ℚ sum_to cell.states (λ j. second_payment_at cell i j k)

-- Kolmogorov's forward equation by powers of x: (k + 1) p_j,k+1 is the sum over m from 0 to k of
-- sum of mu_ij,m p_i,k-m - (sum of mu_jl,m) p_j,k-m
abbrev pub SolvesKolmogorov : CellCurves → (ℕ → ℕ → Fraction) → Type 0
SolvesKolmogorov cell p = (k j : ℕ) → j < cell.states → whole (pos (suc k)) *ℚ p j (suc k) ≡
    sum_to (suc k) (λ m. sum_to cell.states (λ i. intensity_at cell i j m *ℚ p i (k - m))
    -ℚ leaving_at cell j m *ℚ p j (k - m))

-- the coefficients of Thiele's system solve Thiele's equation
abbrev pub ThieleSystemSolves : Type 0
ThieleSystemSolves = (cell : CellCurves) (start : Vector) → IsQuintic cell →
    SolvesThiele cell (λ i k. number_at (coefficient (thiele_system cell) start k) i)

-- those of both halves of Norberg's pair solve Norberg's equation
abbrev pub NorbergPairSolves : Type 0
NorbergPairSolves = (cell : CellCurves) (start second : Vector) → IsQuintic cell →
    SolvesNorberg cell (λ i k. number_at (coefficient (thiele_system cell) start k) i)
    (λ i k. number_at (second_coefficient (norberg_pair cell) start second k) i)

-- those of Kolmogorov's system solve Kolmogorov's equation
abbrev pub KolmogorovSystemSolves : Type 0
KolmogorovSystemSolves = (cell : CellCurves) (start : Vector) → IsQuintic cell →
    SolvesKolmogorov cell (λ j k. number_at (coefficient (kolmogorov_system cell) start k) j)
