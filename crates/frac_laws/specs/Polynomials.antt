-- Polynomials as lists of fractions, the coefficient of x^m at place m.
use Rattle.std.specs.Prelude.{ℕ, ℤ, pos, negsuc, List, [], ◌∷◌}
use Rattle.frac_laws.specs.Fraction.{Fraction, over, whole, ◌+ℚ◌, ◌*ℚ◌}
use Rattle.frac_laws.specs.Lists.{add_lists, scale_list}

-- p(x)
abbrev pub value_at : List Fraction → Fraction → Fraction
value_at [] x = whole (pos 0)
value_at (c ∷ p) x = c +ℚ x *ℚ value_at p x

-- (b + x) p(x)
abbrev pub times_linear : Fraction → List Fraction → List Fraction
times_linear b p = add_lists (scale_list b p) (whole (pos 0) ∷ p)

-- p(b + x), by Horner's rule
abbrev pub shifted : Fraction → List Fraction → List Fraction
shifted b [] = []
shifted b (c ∷ p) = add_lists (c ∷ []) (times_linear b (shifted b p))

-- p(h x)
abbrev pub stretched : Fraction → List Fraction → List Fraction
stretched h [] = []
stretched h (c ∷ p) = c ∷ scale_list h (stretched h p)

-- p(-x)
abbrev pub reflected : List Fraction → List Fraction
reflected p = stretched (whole (negsuc 0)) p

-- whole numbers over one denominator
abbrev pub all_over : ℕ → List ℤ → List Fraction
all_over d [] = []
all_over d (n ∷ ns) = over n d ∷ all_over d ns
