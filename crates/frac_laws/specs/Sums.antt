-- Sums and powers of fractions.
use Rattle.std.specs.Prelude.{ℕ, zero, suc, pos, List, [], ◌∷◌}
use Rattle.frac_laws.specs.Fraction.{Fraction, whole, ◌+ℚ◌, ◌*ℚ◌}

-- f 0 + .. + f (n - 1)
abbrev pub sum_to : ℕ → (ℕ → Fraction) → Fraction
sum_to zero f = whole (pos 0)
sum_to (suc n) f = sum_to n f +ℚ f n

-- x to the power n
abbrev pub power : Fraction → ℕ → Fraction
power x zero = whole (pos 1)
power x (suc n) = x *ℚ power x n

-- the sum of the numbers of a list
abbrev pub sum_of_list : List Fraction → Fraction
sum_of_list [] = whole (pos 0)
sum_of_list (x ∷ xs) = x +ℚ sum_of_list xs
