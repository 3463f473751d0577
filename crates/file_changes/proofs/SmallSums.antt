-- Sums of a few terms have at most 128 bits.
use Rattle.std.proofs.Common.{◌^◌, ◌<◌, ℤ, ◌+ℤ◌, unsigned_abs, FitsSigned, arith}
use Rattle.std.specs.Int.{w128}
use Rattle.std.proofs.lemmas.Int.{fits_signed_from_abs}
use Rattle.whole_laws.proofs.Numbers.{size_of_sum}

pub one_fits : (a : ℤ) → unsigned_abs a < 2 ^ 95 → FitsSigned w128 a
one_fits a small = fits_signed_from_abs w128 a (omega (arith, small))

pub two_fit : (a b : ℤ) → unsigned_abs a < 2 ^ 95 → unsigned_abs b < 2 ^ 95 → FitsSigned w128 (a +ℤ b)
two_fit a b first second = fits_signed_from_abs w128 (a +ℤ b) (omega (arith, size_of_sum a b, first, second))

pub three_fit : (a b c : ℤ) → unsigned_abs a < 2 ^ 95 → unsigned_abs b < 2 ^ 95 → unsigned_abs c < 2 ^ 95
    → FitsSigned w128 (a +ℤ b +ℤ c)
three_fit a b c first second third = fits_signed_from_abs w128 (a +ℤ b +ℤ c)
    (omega (arith, size_of_sum (a +ℤ b) c, size_of_sum a b, first, second, third))

pub four_fit : (a b c d : ℤ) → unsigned_abs a < 2 ^ 95 → unsigned_abs b < 2 ^ 95 → unsigned_abs c < 2 ^ 95
    → unsigned_abs d < 2 ^ 95 → FitsSigned w128 (a +ℤ b +ℤ c +ℤ d)
four_fit a b c d first second third fourth = fits_signed_from_abs w128 (a +ℤ b +ℤ c +ℤ d)
    (omega (arith, size_of_sum (a +ℤ b +ℤ c) d, size_of_sum (a +ℤ b) c, size_of_sum a b, first, second, third, fourth))
