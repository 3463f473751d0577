-- A number in two parts.
use Rattle.std.specs.Prelude.{◌≡◌, ◌^◌, ℤ, pos, ◌+ℤ◌, ◌*ℤ◌, ◌≤ℤ◌, ◌<ℤ◌}

-- a number as a multiple of 2^32 and what is left, from 0 to below 2^32
pub record AreHalves (a high low : ℤ) : Type 0 where
  pub whole : a ≡ (high *ℤ pos (2 ^ 32)) +ℤ low
  pub least : pos 0 ≤ℤ low
  pub most : low <ℤ pos (2 ^ 32)
