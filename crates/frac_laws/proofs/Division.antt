-- The quotient of a fraction by a positive whole number.
use Rattle.std.specs.Prelude.{◌≡◌, ℕ, pos, ℤ, ◌≤◌, ◌*◌, [], ◌∷◌}
use Rattle.std.proofs.Common.{refl, ap, sym, ◌∙◌, arith}
use Rattle.frac_laws.specs.Fraction.{Fraction, over, whole, divided_by, size, ◌+ℚ◌, ◌*ℚ◌, ◌≤ℚ◌, ◌<ℚ◌}
use Rattle.frac_laws.specs.Sums.{sum_to}
use Rattle.frac_laws.proofs.FractionTerms.{ring, terms}
use Rattle.frac_laws.proofs.Linear.{linear, linear_lt, equal, claims, natural, ◌⊞◌, ◌⊠◌, ◌·◌}
use Rattle.frac_laws.proofs.Positive.{over_positive, mul_lt}
use Rattle.frac_laws.proofs.Quotients.{inverse, over_mul}
use Rattle.frac_laws.proofs.Sizes.{size_mul, size_of_natural}
use Rattle.frac_laws.proofs.Sums.{sum_to_scale_right}
use Rattle.frac_base.proofs.WholeRing.{mul_one}

pub times_divided : (x : Fraction) (d : ℕ) → 1 ≤ d → whole (pos d) *ℚ divided_by x d ≡ x
times_divided x d a =
    equal (x ∷ whole (pos d) ∷ over (pos 1) d ∷ []) (ap (λ z. x *ℚ z) (inverse d a)) (hlevel claims) refl

pub divided_times : (x : Fraction) (d : ℕ) → 1 ≤ d → divided_by (whole (pos d) *ℚ x) d ≡ x
divided_times x d a =
    equal (x ∷ whole (pos d) ∷ over (pos 1) d ∷ []) (ap (λ z. x *ℚ z) (inverse d a)) (hlevel claims) refl

pub divided_add : (x y : Fraction) (d : ℕ) → divided_by (x +ℚ y) d ≡ divided_by x d +ℚ divided_by y d
divided_add x y d = ring (x ∷ y ∷ over (pos 1) d ∷ []) (hlevel terms) refl

pub divided_mul : (x y : Fraction) (d : ℕ) → divided_by (x *ℚ y) d ≡ x *ℚ divided_by y d
divided_mul x y d = ring (x ∷ y ∷ over (pos 1) d ∷ []) (hlevel terms) refl

pub divided_over : (n : ℤ) (d e : ℕ) → 1 ≤ d → 1 ≤ e → divided_by (over n d) e ≡ over n (d * e)
divided_over n d e a b = over_mul n (pos 1) d e a b ∙ ap (λ z. over z (d * e)) (mul_one n)

pub divided_sum : (n d : ℕ) (f : ℕ → Fraction)
    → sum_to n (λ k. divided_by (f k) d) ≡ divided_by (sum_to n f) d
divided_sum n d f = sum_to_scale_right n (over (pos 1) d) f

pub divided_mono : {x y : Fraction} (d : ℕ) → x ≤ℚ y → divided_by x d ≤ℚ divided_by y d
divided_mono {x} {y} d h = linear (x ∷ y ∷ over (pos 1) d ∷ []) (h ⊠ natural 1 d) (hlevel claims) refl

pub divided_lt : {x y : Fraction} (d : ℕ) → 1 ≤ d → x <ℚ y → divided_by x d <ℚ divided_by y d
divided_lt {x} {y} d a h = linear_lt (x ∷ y ∷ over (pos 1) d ∷ [])
    (mul_lt (over_positive 1 d (omega arith) a) h) (hlevel claims) refl

-- a bound of the quotient is a bound of the number, and back
pub divided_le : {x r : Fraction} (d : ℕ) → 1 ≤ d → x ≤ℚ whole (pos d) *ℚ r → divided_by x d ≤ℚ r
divided_le {x} {r} d a h = linear (x ∷ r ∷ whole (pos d) ∷ over (pos 1) d ∷ [])
    (h ⊠ natural 1 d ⊞ r · inverse d a) (hlevel claims) refl

pub le_divided : {x r : Fraction} (d : ℕ) → 1 ≤ d → whole (pos d) *ℚ r ≤ℚ x → r ≤ℚ divided_by x d
le_divided {x} {r} d a h = linear (x ∷ r ∷ whole (pos d) ∷ over (pos 1) d ∷ [])
    (h ⊠ natural 1 d ⊞ r · sym (inverse d a)) (hlevel claims) refl

pub le_times_of_divided : {x r : Fraction} (d : ℕ) → 1 ≤ d → divided_by x d ≤ℚ r → x ≤ℚ whole (pos d) *ℚ r
le_times_of_divided {x} {r} d a h = linear (x ∷ r ∷ whole (pos d) ∷ over (pos 1) d ∷ [])
    (h ⊠ natural d 1 ⊞ x · sym (inverse d a)) (hlevel claims) refl

pub times_le_of_divided : {x r : Fraction} (d : ℕ) → 1 ≤ d → r ≤ℚ divided_by x d → whole (pos d) *ℚ r ≤ℚ x
times_le_of_divided {x} {r} d a h = linear (x ∷ r ∷ whole (pos d) ∷ over (pos 1) d ∷ [])
    (h ⊠ natural d 1 ⊞ x · inverse d a) (hlevel claims) refl

pub size_divided : (x : Fraction) (d : ℕ) → size (divided_by x d) ≡ divided_by (size x) d
size_divided x d = size_mul x (over (pos 1) d) ∙ ap (λ z. size x *ℚ z) (size_of_natural (natural 1 d))
