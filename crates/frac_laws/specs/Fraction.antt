-- Exact fractions of whole numbers: sum, product, order and size.
use Rattle.std.specs.Prelude.{◌≡◌, ℕ, pred, ℤ, pos, Bool, true, false, cond}
use mathlib.Core.Quot.{Quot, mk, Quot-set, lift, ind, sound}
use mathlib.Core.Bool.{Bool-set}
use Rattle.frac_base.specs.Pair.{Pair, Same, sum_of, product_of, opposite_of, is_natural}
use Rattle.frac_base.proofs.Respect.{sum-left, sum-right, product-left, product-right, opposite-same}
use Rattle.frac_base.proofs.Respect.{sign-same}

-- a fraction: a pair of whole numbers, where two pairs are one fraction if their cross products are equal
abbrev pub Fraction : Type 0
Fraction = Quot Same

-- two proofs that two fractions are equal are one
abbrev pub Fraction-set : IsSet Fraction
Fraction-set = Quot-set

infixl 6 ◌+ℚ◌ ◌-ℚ◌
infixl 7 ◌*ℚ◌
infix 4 ◌≤ℚ◌ ◌<ℚ◌
-- top / bottom, for a bottom that is not 0
abbrev pub over : ℤ → ℕ → Fraction
over top bottom = mk (record { top = top; below = pred bottom })

-- a whole number as a fraction
abbrev pub whole : ℤ → Fraction
whole n = mk (record { top = n; below = 0 })

-- a function of two pairs that respects `Same` on both sides, as a function of two fractions
abbrev pub of_both : (f : Pair → Pair → Pair) → ((p p' q : Pair) → Same p p' → Same (f p q) (f p' q))
    → ((p q q' : Pair) → Same q q' → Same (f p q) (f p q')) → Fraction → Fraction → Fraction
of_both f left right x y = lift Fraction-set
    (λ p. lift Fraction-set (λ q. mk (f p q)) (λ q q' r. sound (right p q q' r)) y)
    (λ p p' r. ind {β = λ y. lift Fraction-set (λ q. mk (f p q)) (λ q q' r. sound (right p q q' r)) y
    ≡ lift Fraction-set (λ q. mk (f p' q)) (λ q q' r. sound (right p' q q' r)) y}
    (λ y. Fraction-set _ _) (λ q. sound (left p p' q r)) y) x

-- the sum
unfoldable pub ◌+ℚ◌ : Fraction → Fraction → Fraction
x +ℚ y = of_both sum_of sum-left sum-right x y

-- the product
unfoldable pub ◌*ℚ◌ : Fraction → Fraction → Fraction
x *ℚ y = of_both product_of product-left product-right x y

-- the fraction with the other sign
unfoldable pub opposite : Fraction → Fraction
opposite x = lift Fraction-set (λ p. mk (opposite_of p)) (λ p q r. sound (opposite-same p q r)) x

-- the difference
unfoldable pub ◌-ℚ◌ : Fraction → Fraction → Fraction
x -ℚ y = x +ℚ opposite y

-- x / d, for a whole number d that is not 0
abbrev pub divided_by : Fraction → ℕ → Fraction
divided_by x d = x *ℚ over (pos 1) d

-- the fraction is 0 or above
unfoldable pub is_not_negative : Fraction → Bool
is_not_negative x = lift Bool-set (λ p. is_natural p.top) (λ p q r. sign-same p q r) x

-- x is at most y
pub record ◌≤ℚ◌ (x y : Fraction) : Type 0 where
  pub le : is_not_negative (y -ℚ x) ≡ true

-- x is below y
pub record ◌<ℚ◌ (x y : Fraction) : Type 0 where
  pub lt : is_not_negative (x -ℚ y) ≡ false

-- the size of x: x or its opposite, whichever is not below 0
unfoldable pub size : Fraction → Fraction
size x = cond (is_not_negative x) x (opposite x)

-- the greater of two fractions
unfoldable pub greater : Fraction → Fraction → Fraction
greater x y = cond (is_not_negative (y -ℚ x)) y x

-- the lesser of two fractions
unfoldable pub lesser : Fraction → Fraction → Fraction
lesser x y = cond (is_not_negative (y -ℚ x)) x y
