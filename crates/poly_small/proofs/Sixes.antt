-- Lists of six, as arrays of six are, and whole numbers over a denominator.
use Rattle.std.proofs.Common.{◌≡◌, ℕ, ℤ, pos, ◌*ℤ◌, List, [], ◌∷◌}
use Rattle.std.proofs.Common.{refl, ap, sym, ◌∙◌}
use Rattle.frac_laws.specs.Fraction.{over, whole, ◌+ℚ◌, ◌*ℚ◌}
use Rattle.frac_laws.specs.Polynomials.{value_at, all_over}
use Rattle.frac_laws.proofs.FractionTerms.{ring, terms}
use Rattle.frac_laws.proofs.Quotients.{over_is, over_add, whole_mul}
use Rattle.frac_laws.proofs.QuotientFacts.{over-zero}
use Rattle.poly_small.specs.WholePolynomials.{whole_value_at}

pub over-product : (n m : ℤ) (d : ℕ) → over (n *ℤ m) d ≡ whole n *ℚ over m d
over-product n m d =
    over_is (n *ℤ m) d
    ∙ ap (λ z. z *ℚ over (pos 1) d) (whole_mul n m)
    ∙ ring (whole n ∷ whole m ∷ over (pos 1) d ∷ []) (hlevel terms) refl
    ∙ ap (λ z. whole n *ℚ z) (sym (over_is m d))

-- a value over d is the value of the coefficients over d
pub over-whole_value : (p : List ℤ) (x d : ℕ)
    → over (whole_value_at p x) d ≡ value_at (all_over d p) (whole (pos x))
over-whole_value [] x d = over-zero d
over-whole_value (c ∷ p) x d =
    over_add c (whole_value_at p x *ℤ pos x) d
    ∙ ap (λ z. over c d +ℚ z) (over-product (whole_value_at p x) (pos x) d
    ∙ products (whole_value_at p x) (pos x) d
    ∙ ap (λ z. whole (pos x) *ℚ z) (over-whole_value p x d))
  where
    products : (n m : ℤ) (d : ℕ) → whole n *ℚ over m d ≡ whole m *ℚ over n d
    products n m d =
        ap (λ z. whole n *ℚ z) (over_is m d)
        ∙ ring (whole n ∷ whole m ∷ over (pos 1) d ∷ []) (hlevel terms) refl
        ∙ ap (λ z. whole m *ℚ z) (sym (over_is n d))
