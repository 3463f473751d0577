-- How shifted polynomials multiply, and how large their coefficients are.
use Rattle.std.specs.Prelude.{◌≡◌, ℕ, suc, pos, List, [], ◌∷◌, length}
use Rattle.frac_laws.specs.Fraction.{Fraction, whole, size, ◌+ℚ◌, ◌*ℚ◌, ◌≤ℚ◌}
use Rattle.frac_laws.specs.Sums.{sum_to}
use Rattle.frac_laws.specs.Convolution.{convolution}
use Rattle.frac_laws.specs.Lists.{number_at, add_lists}
use Rattle.frac_laws.specs.ListProducts.{product_of_lists}
use Rattle.frac_laws.specs.Polynomials.{value_at, shifted}

-- the derivative of a polynomial
abbrev pub derivative : List Fraction → List Fraction
derivative [] = []
derivative (c ∷ p) = add_lists p (whole (pos 0) ∷ derivative p)

-- |p_0| + |p_1| w + |p_2| w^2 + ..
abbrev pub size_at : Fraction → List Fraction → Fraction
size_at w [] = whole (pos 0)
size_at w (c ∷ p) = size c +ℚ w *ℚ size_at w p

-- the shift of a product is the product of the shifts
abbrev pub ProductsShift : Type 0
ProductsShift = (b : Fraction) (p q : List Fraction) (k : ℕ)
    → number_at (shifted b (product_of_lists p q)) k
    ≡ convolution (number_at (shifted b p)) (number_at (shifted b q)) k

-- the derivative of a shift is the shift of the derivative
abbrev pub DerivativesShift : Type 0
DerivativesShift = (b : Fraction) (p : List Fraction) (k : ℕ)
    → whole (pos (suc k)) *ℚ number_at (shifted b p) (suc k) ≡ number_at (shifted b (derivative p)) k

-- the sizes of the coefficients after a shift
abbrev pub SizesShift : Type 0
SizesShift = (w b : Fraction) (p : List Fraction) → whole (pos 0) ≤ℚ w → whole (pos 0) ≤ℚ b
    → size_at w (shifted b p) ≤ℚ size_at (w +ℚ b) p

-- the first coefficient of a shift is a value
abbrev pub FirstIsAValue : Type 0
FirstIsAValue = (b : Fraction) (p : List Fraction) → number_at (shifted b p) 0 ≡ value_at p b

-- and all of them add up to the value one further on
abbrev pub SumsAreValues : Type 0
SumsAreValues = (b : Fraction) (p : List Fraction) (n : ℕ) → length p ≡ n
    → sum_to n (number_at (shifted b p)) ≡ value_at p (b +ℚ whole (pos 1))
