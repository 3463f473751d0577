-- A step of an exact system that is constant in x, from a start of one number: how near its new numbers are.
use Rattle.std.specs.Prelude.{◌≡◌, ◌≢◌, ℕ, ◌^◌, ◌<◌, ◌≤◌, ℤ, pos, List, slice_index_or}
use Rattle.frac_laws.specs.Fraction.{whole, size, ◌-ℚ◌, ◌≤ℚ◌}
use Rattle.frac_laws.specs.Lists.{number_at, vector_at, matrix_at}
use Rattle.cell_laws.specs.Systems.{System, taylor_value}
use Rattle.linear_system.specs.StandsFor.{units, in_units}
use Rattle.taylor_step.specs.CanStep.{AreAtMost}

-- above power 0 all matrices and free vectors of an exact system are 0
pub record IsConstantInX (e : System) : Type 0 where
  pub matrices : (row col m : ℕ) → 1 ≤ m → number_at (vector_at (matrix_at e.matrices m) row) col ≡ whole (pos 0)
  pub free : (row m : ℕ) → 1 ≤ m → number_at (vector_at e.free m) row ≡ whole (pos 0)

-- but for one place all numbers are 0, and all are at most 1 in size, in units of 2^-64
pub record HasOneNumber (mid : List ℤ) : Type 0 where
  pub place : ℕ
  pub others : (i : ℕ) → i ≢ place → slice_index_or mid i (pos 0) ≡ pos 0
  pub small : AreAtMost (2 ^ 64) mid

-- how near they are, in units of 2^-64
abbrev pub constant_rounding : ℕ
constant_rounding = 16

-- from a degree on each Taylor value of the old numbers is so near the new ones, number by number
abbrev pub StaysNear : System → List ℤ → List ℤ → ℕ → Type 0
StaysNear e old new degree = (n row : ℕ) → degree ≤ n → row < e.dimension
    → size (number_at (taylor_value e (in_units old) n) row -ℚ units (slice_index_or new row (pos 0)))
    ≤ℚ units (pos constant_rounding)
