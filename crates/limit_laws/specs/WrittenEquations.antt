-- The equations of the literature, written with polynomials of x over one cell, and what polynomials leave of them. The
-- cell's interest, intensities and sojourn rates are per cell, so that x goes from 0 to 1.
use Rattle.std.specs.Prelude.{◌≡◌, ℕ, zero, suc, pos, negsuc, List, [], ◌∷◌}
use Rattle.frac_laws.specs.Fraction.{Fraction, whole, ◌+ℚ◌, ◌-ℚ◌, ◌*ℚ◌}
use Rattle.frac_laws.specs.Lists.{number_at, add_lists, scale_list, subtract_lists}
use Rattle.frac_laws.specs.ListProducts.{product_of_lists}
use Rattle.frac_laws.specs.Polynomials.{value_at}
use Rattle.frac_laws.specs.Sums.{sum_to}
use Rattle.model_specs.specs.Cells.{CellCurves}

-- a polynomial of x, the coefficient of x^m at place m
abbrev pub Polynomial : Type 0
Polynomial = List Fraction

infixl 6 ◌+ₚ◌ ◌-ₚ◌
infixl 7 ◌*ₚ◌
infixl 8 ◌·ₚ◌
-- the sum
abbrev pub ◌+ₚ◌ : Polynomial → Polynomial → Polynomial
p +ₚ q = add_lists p q

-- the difference
abbrev pub ◌-ₚ◌ : Polynomial → Polynomial → Polynomial
p -ₚ q = subtract_lists p q

-- the product
abbrev pub ◌*ₚ◌ : Polynomial → Polynomial → Polynomial
p *ₚ q = product_of_lists p q

-- a number times a polynomial
abbrev pub ◌·ₚ◌ : Fraction → Polynomial → Polynomial
c ·ₚ p = scale_list c p

-- p 0 + .. + p (n - 1)
abbrev pub sum_of : ℕ → (ℕ → Polynomial) → Polynomial
sum_of zero p = []
sum_of (suc n) p = sum_of n p +ₚ p n

-- p', by (c + x p)' = p + x p'
abbrev pub derivative : Polynomial → Polynomial
derivative [] = []
derivative (c ∷ p) = p +ₚ (whole (pos 0) ∷ derivative p)

-- Thiele's V_i' = r V_i - b_i - sum over j of mu_ij (b_ij + V_j - V_i), where r is the interest, mu_ij an intensity,
-- b_i a sojourn rate and b_ij the sum paid on a transition (Hoem 1969; Dickson, Hardy and Waters)
abbrev pub thiele_right_side : CellCurves → (ℕ → Polynomial) → ℕ → Polynomial
thiele_right_side cell V i = cell.interest *ₚ V i -ₚ cell.sojourn i
    -ₚ sum_of cell.states (λ j. cell.intensity i j *ₚ (cell.sum i j +ₚ V j -ₚ V i))

-- Norberg's Z_i' = (2 r + sum over j of mu_ij) Z_i - 2 b_i V_i - sum over j of mu_ij (b_ij^2 + 2 b_ij V_j + Z_j), for
-- the second moments Z beside the first ones V (Norberg 1995)
abbrev pub norberg_right_side : CellCurves → (V Z : ℕ → Polynomial) → ℕ → Polynomial
norberg_right_side cell V Z i =
    (whole (pos 2) ·ₚ cell.interest +ₚ sum_of cell.states (cell.intensity i)) *ₚ Z i
    -ₚ whole (pos 2) ·ₚ (cell.sojourn i *ₚ V i)
    -ₚ sum_of cell.states (λ j. cell.intensity i j
    *ₚ (cell.sum i j *ₚ cell.sum i j +ₚ whole (pos 2) ·ₚ (cell.sum i j *ₚ V j) +ₚ Z j))

-- Kolmogorov's p_j' = sum over i of mu_ij p_i - (sum over k of mu_jk) p_j (Hoem 1969; Dickson, Hardy and Waters)
abbrev pub kolmogorov_right_side : CellCurves → (ℕ → Polynomial) → ℕ → Polynomial
kolmogorov_right_side cell p j = sum_of cell.states (λ i. cell.intensity i j *ₚ p i)
    -ₚ sum_of cell.states (cell.intensity j) *ₚ p j

-- -p
abbrev pub negative : Polynomial → Polynomial
negative p = whole (negsuc 0) ·ₚ p

-- the defect: what polynomials leave of Thiele's equation. In a backward cell x counts into the past, so that the
-- derivative is minus the right side
abbrev pub thiele_defect : CellCurves → (ℕ → Polynomial) → ℕ → Polynomial
thiele_defect cell V i = derivative (V i) -ₚ negative (thiele_right_side cell V i)

-- what they leave of Norberg's equation, in a backward cell too
abbrev pub norberg_defect : CellCurves → (V Z : ℕ → Polynomial) → ℕ → Polynomial
norberg_defect cell V Z i = derivative (Z i) -ₚ negative (norberg_right_side cell V Z i)

-- what they leave of Kolmogorov's equation, in a forward cell
abbrev pub kolmogorov_defect : CellCurves → (ℕ → Polynomial) → ℕ → Polynomial
kolmogorov_defect cell p j = derivative (p j) -ₚ kolmogorov_right_side cell p j

-- the cell with each payment times c
abbrev pub with_payments_times : Fraction → CellCurves → CellCurves
with_payments_times c cell = record {
  states = cell.states;
  interest = cell.interest;
  intensity = cell.intensity;
  sojourn = λ i. c ·ₚ cell.sojourn i;
  sum = λ i j. c ·ₚ cell.sum i j;
}

-- the operations are those of functions of x, and the derivative is that of powers
pub record OperationsAreRight (p q : Polynomial) (c x : Fraction) : Type 0 where
  pub sums : value_at (p +ₚ q) x ≡ value_at p x +ℚ value_at q x
  pub differences : value_at (p -ₚ q) x ≡ value_at p x -ℚ value_at q x
  pub products : value_at (p *ₚ q) x ≡ value_at p x *ℚ value_at q x
  pub multiples : value_at (c ·ₚ p) x ≡ c *ℚ value_at p x
  pub derivatives : (k : ℕ) → number_at (derivative p) k ≡ whole (pos (suc k)) *ℚ number_at p (suc k)

-- so they are for all polynomials
abbrev pub PolynomialsAreFunctions : Type 0
PolynomialsAreFunctions = (p q : Polynomial) (c x : Fraction) → OperationsAreRight p q c x

-- and a sum of some polynomials is that of functions
abbrev pub SumsOfPolynomialsAreFunctions : Type 0
SumsOfPolynomialsAreFunctions = (n : ℕ) (p : ℕ → Polynomial) (x : Fraction)
    → value_at (sum_of n p) x ≡ sum_to n (λ j. value_at (p j) x)
