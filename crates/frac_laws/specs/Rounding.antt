-- The whole numbers next to a quotient of whole numbers.
use Rattle.std.specs.Prelude.{ℤ, neg_ℤ}
use Rattle.std.specs.Int.{int_div_euclid}

-- the greatest whole number at or below numerator / divisor, for a positive divisor
abbrev pub floor_of : ℤ → ℤ → ℤ
floor_of numerator divisor = int_div_euclid numerator divisor

-- the least whole number at or above numerator / divisor, for a positive divisor
abbrev pub ceiling_of : ℤ → ℤ → ℤ
ceiling_of numerator divisor = neg_ℤ (floor_of (neg_ℤ numerator) divisor)
