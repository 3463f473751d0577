-- The whole-number formulas of the ledgers, this product's own. They are total: no condition on a number
-- stands here.
use Rattle.std.specs.Prelude.{ℕ, zero, suc, ◌+◌, ◌*◌, ◌^◌, ◌≤◌, nat_le, if◌then◌else◌}
use Rattle.std.specs.Int.{div_ceil}

-- a ledger after one cell: w grown by kappa40 / 2^40 of itself, rounded up, and by what the cell adds
abbrev pub grow : ℕ → ℕ → ℕ → ℕ
grow w kappa40 add = w + div_ceil (w * kappa40) (2 ^ 40) + add

-- g is the least number with 1024 * 2^g at or above the bound, which is in 1/1024 minor units
pub record IsScale (bound1024 g : ℕ) : Type 0 where
  pub enough : bound1024 ≤ 1024 * 2 ^ g
  pub least : (h : ℕ) → bound1024 ≤ 1024 * 2 ^ h → g ≤ h

-- the first of some numbers from g on that is enough for the bound, or the number behind them
abbrev pub first_enough : ℕ → ℕ → ℕ → ℕ
first_enough bound1024 g zero = g
first_enough bound1024 g (suc more) =
    if nat_le bound1024 (1024 * 2 ^ g) then g else first_enough bound1024 (g + 1) more

-- the scale of a bound: the least g with 1024 * 2^g at or above it; one of 0 to the bound itself always is
unfoldable pub scale_of_bound : ℕ → ℕ
scale_of_bound bound1024 = first_enough bound1024 0 bound1024

-- the tolerance of a first moment in millionths of a minor unit: ceil(2 w 2^g 10^6 / 2^64) + 2
abbrev pub tolerance_first : ℕ → ℕ → ℕ
tolerance_first w g = div_ceil (2 * w * 2 ^ g * 10 ^ 6) (2 ^ 64) + 2

-- the tolerance of a second moment in squared minor units: ceil(2 w2 4^g / 2^64) + 2
abbrev pub tolerance_second : ℕ → ℕ → ℕ
tolerance_second w2 g = div_ceil (2 * w2 * 4 ^ g) (2 ^ 64) + 2

-- the tolerance of a variance in squared minor units: ceil((2 w2 + 4 w + 1024) 4^g / 2^64) + 2
abbrev pub tolerance_variance : ℕ → ℕ → ℕ → ℕ
tolerance_variance w2 w g = div_ceil ((2 * w2 + 4 * w + 1024) * 4 ^ g) (2 ^ 64) + 2
