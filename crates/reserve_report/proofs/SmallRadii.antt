-- Radii that are small enough for the tolerances.
use Rattle.std.proofs.Common.{ℕ, ◌<◌, ◌≤◌, ◌^◌, arith}

pub below_39 : (w : ℕ) → w < 2 ^ 39 → w ≤ 2 ^ 45
below_39 w h = omega (arith, h)

pub below_41 : (w : ℕ) → w < 2 ^ 41 → w ≤ 2 ^ 45
below_41 w h = omega (arith, h)
