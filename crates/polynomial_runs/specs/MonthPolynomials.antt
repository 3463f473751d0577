-- A month on 32 cells against the polynomial of its last cell.
use Rattle.std.specs.Prelude.{◌≡◌, ℕ, suc, pos, List, length, ◌<◌, ◌≤◌, ◌*◌, ◌-◌}
use Rattle.frac_laws.specs.Fraction.{Fraction, whole, ◌*ℚ◌, ◌≤ℚ◌}
use Rattle.frac_laws.specs.Sums.{power}
use Rattle.frac_laws.specs.Lists.{Vector, SameNumbers, number_at}
use Rattle.frac_laws.specs.Norms.{Norm, norm_of_vector}
use Rattle.frac_laws.specs.Polynomials.{shifted}
use Rattle.cell_laws.specs.Systems.{System, taylor_value}
use Rattle.cell_laws.specs.Tame.{IsTame}
use Rattle.cell_laws.specs.ErrorLaws.{distance}
use Rattle.model_specs.specs.Runs.{month_back}
use Rattle.model_specs.specs.Ledgers.{grow_cells}
use Rattle.polynomial_runs.specs.PolynomialSystems.{HasPolynomials, values}
use Rattle.polynomial_runs.specs.FarDecay.{DecaysFar, run_polynomial}

-- the cells of a month backward: the curves of cell 31 - b are those of cell 31, moved by b
pub record IsMonth (norm : Norm) (kappa40 : ℕ) (system : ℕ → System) (d : ℕ) (e : ℕ → ℕ → List Fraction)
    (g : ℕ → List Fraction) : Type 0 where
  pub last : HasPolynomials (system 31) d e g
  pub last_decays : DecaysFar norm kappa40 (system 31)
  pub cells : (cell : ℕ) → cell < 32 → HasPolynomials (system cell) d
      (λ i j. shifted (whole (pos (31 - cell))) (e i j)) (λ i. shifted (whole (pos (31 - cell))) (g i))
  pub tame : (cell : ℕ) → cell < 32 → IsTame norm kappa40 (system cell)
  pub powers : (cell : ℕ) → cell < 32 → length (system cell).matrices ≤ 6

-- the polynomial from y stays as near to the run on cells as the ledger says, in units of 2^-t
abbrev pub PolynomialsFollowMonths : Type 0
PolynomialsFollowMonths = (norm : Norm) (kappa40 : ℕ) (system : ℕ → System) (d : ℕ) (e : ℕ → ℕ → List Fraction)
    (g : ℕ → List Fraction) (y v : Vector) (n t w : ℕ) → IsMonth norm kappa40 system d e g → d ≤ 12
    → length y ≤ d → length v ≤ d → norm_of_vector norm y ≤ℚ whole (pos 2) → 544 ≤ t → 7 * t ≤ n
    → power (whole (pos 2)) t *ℚ distance norm y v ≤ℚ whole (pos w)
    → power (whole (pos 2)) t
    *ℚ distance norm (values d (run_polynomial (system 31) y n) (whole (pos 32))) (month_back system n 32 v)
    ≤ℚ whole (pos (grow_cells kappa40 1024 w 32))

-- the coefficients of the cell at m, times w^(m+1)
abbrev pub IsMagnified : Fraction → List Fraction → List Fraction → Type 0
IsMagnified w p q = (m : ℕ) → number_at q m ≡ power w (suc m) *ℚ number_at p m

-- the whole month as one cell takes the value of the polynomial at its end
abbrev pub MonthsAreValues : Type 0
MonthsAreValues = (s month : System) (d : ℕ) (e l : ℕ → ℕ → List Fraction) (g h : ℕ → List Fraction)
    (w : Fraction) (y : Vector) (n : ℕ) → HasPolynomials s d e g → HasPolynomials month d l h
    → ((i j : ℕ) → IsMagnified w (e i j) (l i j)) → ((i : ℕ) → IsMagnified w (g i) (h i))
    → length y ≤ d
    → SameNumbers (taylor_value month y n) (values d (run_polynomial s y n) w)
