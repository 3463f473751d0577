-- The roundings and the scale of the ledgers.
use Rattle.std.specs.Prelude.{ℕ, pos, ◌+ℤ◌, ◌*ℤ◌, ◌≤ℤ◌, ◌<ℤ◌, ◌≤◌, ◌<◌, ◌*◌, ◌+◌}
use Rattle.std.specs.Int.{div_ceil}
use Rattle.std.proofs.Common.{arith}
use Rattle.std.proofs.lemmas.Int.{ints}
use Rattle.std.proofs.lemmas.Grind.{div_ceil_times}
use Rattle.frac_laws.specs.LedgerLaws.{RoundedUpIsAtLeast, RoundedUpIsWithinOne, BoundHasScale, ScaleIsUnique}
use Rattle.frac_laws.proofs.LedgerLaws.{scale_of_bound-scale, scale_unique}
use Rattle.frac_laws.proofs.Quotients.{over_le_of_cross, over_lt_of_cross, over_add_cross}

pub rounded_up_le : RoundedUpIsAtLeast
rounded_up_le n d a = over_le_of_cross (pos n) (pos (div_ceil n d)) d 1 a (omega arith)
    (whole_product n (div_ceil n d) d (div_ceil_times n d a).0)
  where
    whole_product : (n q d : ℕ) → n ≤ q * d → (pos n *ℤ pos 1) ≤ℤ (pos q *ℤ pos d)
    whole_product n q d h = omega (arith, ints, h)

pub rounded_up_lt : RoundedUpIsWithinOne
rounded_up_lt n d a = rw (over_add_cross (pos n) (pos 1) d 1 a (omega arith))
    (over_lt_of_cross (pos (div_ceil n d)) (pos n *ℤ pos 1 +ℤ pos 1 *ℤ pos d) 1 (d * 1) (omega arith)
    (omega (arith, a))
    (whole_product n (div_ceil n d) d (div_ceil_times n d a).1))
  where
    whole_product : (n q d : ℕ) → q * d < n + d
        → (pos q *ℤ pos (d * 1)) <ℤ ((pos n *ℤ pos 1 +ℤ pos 1 *ℤ pos d) *ℤ pos 1)
    whole_product n q d h = omega (arith, ints, h)

pub scale_found : BoundHasScale
scale_found bound1024 = scale_of_bound-scale bound1024

pub one_scale : ScaleIsUnique
one_scale bound1024 g h s t = scale_unique bound1024 g h s t
