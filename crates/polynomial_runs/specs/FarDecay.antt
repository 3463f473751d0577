-- The coefficients of a system whose matrices have small later powers fall faster than 48^k grows, from some power
-- on; so the Taylor polynomial of a high degree misses little of the equations 32 cells on.
use Rattle.std.specs.Prelude.{ℕ, suc, pos, List, length, ◌<◌, ◌≤◌, ◌*◌}
use Rattle.frac_laws.specs.Fraction.{Fraction, over, whole, ◌*ℚ◌, ◌≤ℚ◌}
use Rattle.frac_laws.specs.Sums.{sum_to, power}
use Rattle.frac_laws.specs.Lists.{Vector, number_at}
use Rattle.frac_laws.specs.Norms.{Norm, norm_of_vector}
use Rattle.cell_laws.specs.Systems.{System, coefficient}
use Rattle.cell_laws.specs.Tame.{IsTame, matrix_norm_at}
use Rattle.whole_laws.specs.Whole.{list_of}
use Rattle.shift_laws.specs.Shifts.{size_at}
use Rattle.polynomial_runs.specs.PolynomialSystems.{HasPolynomials, residual}

-- the 48^m |A_m| add up to at most 34/3
abbrev pub HasFarWeight : Norm → System → Type 0
HasFarWeight norm s = (k : ℕ)
    → sum_to k (λ m. power (whole (pos 48)) m *ℚ matrix_norm_at norm s.matrices m) ≤ℚ over (pos 34) 3

-- a system that decays far: tame, with small later powers, no free vectors from power 9 on
pub record DecaysFar (norm : Norm) (kappa40 : ℕ) (s : System) : Type 0 where
  pub tame : IsTame norm kappa40 s
  pub far : HasFarWeight norm s
  pub short : length s.free ≤ 9

-- 48^k |y_k| is at most 2 * 6^t, where t is at least 544
abbrev pub FarCoefficientsDecay : Type 0
FarCoefficientsDecay = (norm : Norm) (kappa40 : ℕ) (s : System) (y : Vector) (t k : ℕ) → DecaysFar norm kappa40 s
    → norm_of_vector norm y ≤ℚ whole (pos 2) → 544 ≤ t
    → power (whole (pos 48)) k *ℚ norm_of_vector norm (coefficient s y k)
    ≤ℚ whole (pos 2) *ℚ power (whole (pos 6)) t

-- y_0 + y_1 x + .. + y_n x^n of one state
abbrev pub run_polynomial : System → Vector → ℕ → ℕ → List Fraction
run_polynomial s y n i = list_of (suc n) (λ k. number_at (coefficient s y k) i)

-- what it misses of the equations, in sizes at 32, is at most 68 / 2^t, where n is at least 7 t
abbrev pub RunsMissLittle : Type 0
RunsMissLittle = (norm : Norm) (kappa40 : ℕ) (s : System) (d : ℕ) (e : ℕ → ℕ → List Fraction)
    (g : ℕ → List Fraction) (y : Vector) (n t i : ℕ) → DecaysFar norm kappa40 s → HasPolynomials s d e g
    → norm_of_vector norm y ≤ℚ whole (pos 2) → 544 ≤ t → 7 * t ≤ n → i < d
    → power (whole (pos 2)) t *ℚ size_at (whole (pos 32)) (residual d e g (run_polynomial s y n) i)
    ≤ℚ whole (pos 68)
