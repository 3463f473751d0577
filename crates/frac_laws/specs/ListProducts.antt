-- The product of two lists of fractions as polynomials.
use Rattle.std.specs.Prelude.{pos, List, [], ◌∷◌}
use Rattle.frac_laws.specs.Fraction.{Fraction, whole}
use Rattle.frac_laws.specs.Lists.{add_lists, scale_list}

-- the number at k is the sum of the products of numbers at places that add up to k
abbrev pub product_of_lists : List Fraction → List Fraction → List Fraction
product_of_lists [] ys = []
product_of_lists (x ∷ xs) ys = add_lists (scale_list x ys) (whole (pos 0) ∷ product_of_lists xs ys)
