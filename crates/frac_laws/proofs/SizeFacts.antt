-- Laws of sizes in the form of their statements.
use Rattle.frac_laws.specs.SizeLaws.{SizeIsWithin, SizeOfOpposite}
use Rattle.frac_laws.specs.Fraction.{over, size, ◌≤ℚ◌}
use Rattle.frac_laws.proofs.Linear.{natural}
use Rattle.frac_laws.proofs.Quotients.{over-opposite, cross_of_over_le}
use Rattle.frac_laws.proofs.Sizes.{size-opposite, size_of_natural, le_of_size_le, opposite_le_size}
use Rattle.frac_laws.proofs.Order.{le_trans, le_of_equal}
use Rattle.frac_laws.proofs.WholeProducts.{product_le_cancel}
use Rattle.std.specs.Prelude.{◌≡◌, ℕ, suc, pos, negsuc, ◌-◌, ℤ, unsigned_abs, ◌≤◌, ◌≤ℤ◌, neg_ℤ}
use Rattle.std.proofs.Common.{ap, sym, ◌∙◌, arith}
use Rattle.std.proofs.lemmas.Int.{ints}
use Rattle.frac_laws.proofs.Sizes as S

pub within : SizeIsWithin
within x r = (λ h. (S.opposite_le_of_size_le h, S.le_of_size_le h), λ h. S.size_le_of_between h.0 h.1)

pub opposite_size : SizeOfOpposite
opposite_size x = S.size-opposite x

-- the size of a quotient
pub size-over : (z : ℤ) (d : ℕ) → size (over z d) ≡ over (pos (unsigned_abs z)) d
size-over (pos n) d = size_of_natural (natural n d)
size-over (negsuc n) d = sym (size-opposite (over (negsuc n) d)) ∙ ap size (sym (over-opposite (negsuc n) d))
    ∙ size_of_natural (natural (suc n) d)

-- a number of a size over a denominator has a numerator of that size
pub abs_of_size : (z : ℤ) (a d : ℕ) → 1 ≤ d → size (over z d) ≤ℚ over (pos a) d → unsigned_abs z ≤ a
abs_of_size z a d some most =
    let high = product_le_cancel z (pos a) d some (cross_of_over_le z (pos a) d d some some (le_of_size_le most)) in
    let low = product_le_cancel (neg_ℤ z) (pos a) d some (cross_of_over_le (neg_ℤ z) (pos a) d d some some
    (le_trans (le_of_equal (over-opposite z d)) (le_trans (opposite_le_size (over z d)) most))) in
    both z a high low
  where
    both : (z : ℤ) (a : ℕ) → z ≤ℤ pos a → neg_ℤ z ≤ℤ pos a → unsigned_abs z ≤ a
    both (pos n) a high low = omega (arith, ints, high)
    both (negsuc n) a high low = omega (arith, ints, low)
