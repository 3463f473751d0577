-- Polynomials with whole coefficients, as lists of them, the coefficient of x^m at place m.
use Rattle.std.specs.Prelude.{ℕ, ℤ, pos, ◌+◌, ◌*◌, ◌^◌, ◌+ℤ◌, ◌*ℤ◌, unsigned_abs, List, [], ◌∷◌, length}

-- p(x)
abbrev pub whole_value_at : List ℤ → ℕ → ℤ
whole_value_at [] x = pos 0
whole_value_at (c ∷ p) x = c +ℤ (whole_value_at p x *ℤ pos x)

-- the value at x of the polynomial of the coefficients' sizes; at 1 it is the sum of the sizes
abbrev pub value_of_sizes : List ℤ → ℕ → ℕ
value_of_sizes [] x = 0
value_of_sizes (c ∷ p) x = unsigned_abs c + x * value_of_sizes p x

-- each coefficient times the weight at its place
abbrev pub weighted : List ℤ → List ℤ → List ℤ
weighted [] weights = []
weighted (c ∷ p) [] = []
weighted (c ∷ p) (weight ∷ weights) = (weight *ℤ c) ∷ weighted p weights

-- c_i unit^(n - i), where n is the degree: if p counts years, the same polynomial counts time in 1/unit years,
-- unit^n times as great
abbrev pub in_units_of : ℕ → List ℤ → List ℤ
in_units_of unit [] = []
in_units_of unit (c ∷ p) = (c *ℤ pos (unit ^ length p)) ∷ in_units_of unit p
