-- Systems whose numbers are given by polynomials, state by state, and how far a polynomial is from the run of a
-- system.
use Rattle.std.specs.Prelude.{◌≡◌, ℕ, zero, suc, pos, List, [], length, ◌<◌}
use Rattle.frac_laws.specs.Fraction.{Fraction, whole, ◌+ℚ◌, ◌*ℚ◌, ◌≤ℚ◌}
use Rattle.frac_laws.specs.Sums.{sum_to}
use Rattle.frac_laws.specs.Lists.{Vector, number_at, vector_at, matrix_at, add_lists, subtract_lists, image}
use Rattle.frac_laws.specs.Norms.{Norm}
use Rattle.frac_laws.specs.ListProducts.{product_of_lists}
use Rattle.frac_laws.specs.Polynomials.{value_at, shifted}
use Rattle.cell_laws.specs.Systems.{System, taylor_value, KeepsDimension}
use Rattle.cell_laws.specs.Tame.{IsTame}
use Rattle.cell_laws.specs.ErrorLaws.{distance}
use Rattle.whole_laws.specs.Whole.{list_of}
use Rattle.shift_laws.specs.Shifts.{derivative, size_at}

-- in d states, the number of A_m in row i and column j is the coefficient of x^m of e i j, and number i of g_m that
-- of g i
pub record HasPolynomials (s : System) (d : ℕ) (e : ℕ → ℕ → List Fraction) (g : ℕ → List Fraction) : Type 0 where
  pub entries : (m i : ℕ) (v : Vector) → i < d → number_at (image (matrix_at s.matrices m) v) i
      ≡ sum_to d (λ j. number_at (e i j) m *ℚ number_at v j)
  pub frees : (m i : ℕ) → i < d → number_at (vector_at s.free m) i ≡ number_at (g i) m
  pub dimension : s.dimension ≡ d
  pub keeps : KeepsDimension s

-- the coefficients of x^k of some polynomials, as a vector
abbrev pub table : ℕ → (ℕ → List Fraction) → ℕ → Vector
table d p k = list_of d (λ i. number_at (p i) k)

-- and their values at x
abbrev pub values : ℕ → (ℕ → List Fraction) → Fraction → Vector
values d p x = list_of d (λ i. value_at (p i) x)

-- f 0 + .. + f (n - 1), as polynomials
abbrev pub added : ℕ → (ℕ → List Fraction) → List Fraction
added zero f = []
added (suc n) f = add_lists (added n f) (f n)

-- what the polynomials p miss of the equations: p_i' - (sum of e_ij p_j) - g_i
abbrev pub residual : ℕ → (ℕ → ℕ → List Fraction) → (ℕ → List Fraction) → (ℕ → List Fraction) → ℕ → List Fraction
residual d e g p i =
    subtract_lists (derivative (p i)) (add_lists (added d (λ j. product_of_lists (e i j) (p j))) (g i))

-- b cells on, where the curves are the shifted ones, the polynomials follow the cell's run as far as they miss the
-- equations
abbrev pub PolynomialsFollowCells : Type 0
PolynomialsFollowCells = (norm : Norm) (kappa40 : ℕ) (s : System) (d : ℕ) (e : ℕ → ℕ → List Fraction)
    (g p : ℕ → List Fraction) (b : Fraction) (n : ℕ) → IsTame norm kappa40 s
    → HasPolynomials s d (λ i j. shifted b (e i j)) (λ i. shifted b (g i)) → whole (pos 0) ≤ℚ b
    → ((i : ℕ) → length (p i) ≡ suc n)
    → whole (pos 63) *ℚ distance norm (values d p (b +ℚ whole (pos 1))) (taylor_value s (values d p b) n)
    ≤ℚ whole (pos 64) *ℚ sum_to d (λ i. size_at (whole (pos 1) +ℚ b) (residual d e g p i))
