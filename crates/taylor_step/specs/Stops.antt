-- Where the whole-number run of a step stops.
use Rattle.std.specs.Prelude.{◌≡◌, ◌⊎◌, ℕ, ◌*◌, ◌-◌, ◌^◌, ◌<◌, ◌≤◌, ℤ, pos, unsigned_abs, List, slice_index_or}
use Rattle.linear_system.specs.StoredSystem.{StoredSystem, dim_of}
use Rattle.linear_system.specs.DegreeLimit.{greatest_power, least_degree}
use Rattle.taylor_step.specs.WholeRun.{coefficient}

-- all numbers from a place on are 0
abbrev pub IsZeroFrom : List ℤ → ℕ → Type 0
IsZeroFrom numbers from = (k : ℕ) → from ≤ k → slice_index_or numbers k (pos 0) ≡ pos 0

-- each number of the coefficient m powers back from power k is at most 64 * 8^m units in size, for each m from 0 to
-- the greatest power
abbrev pub HasSmallBack : StoredSystem → List ℤ → ℕ → Type 0
HasSmallBack s mid k = (m row : ℕ) → m ≤ greatest_power s → row < dim_of s
    → unsigned_abs (coefficient s mid (k - m) row) ≤ 64 * 8 ^ m

-- the first degree at which this is so, or 24
pub record IsStop (s : StoredSystem) (mid : List ℤ) (degree : ℕ) : Type 0 where
  pub least : least_degree (greatest_power s) ≤ degree
  pub most : degree ≤ 24
  pub stops : (degree ≡ 24) ⊎ HasSmallBack s mid degree
  pub first : (k : ℕ) → least_degree (greatest_power s) ≤ k → k < degree → HasSmallBack s mid k → ⊥

-- the greatest size of the coefficient of a power over all rows
pub record IsSize (s : StoredSystem) (mid : List ℤ) (k size : ℕ) : Type 0 where
  pub all : (row : ℕ) → row < dim_of s → unsigned_abs (coefficient s mid k row) ≤ size
  pub least : (most : ℕ) → ((row : ℕ) → row < dim_of s → unsigned_abs (coefficient s mid k row) ≤ most)
      → size ≤ most

-- sizes hold those of the powers from 1 to k
abbrev pub HoldSizes : StoredSystem → List ℤ → List ℕ → ℕ → Type 0
HoldSizes s mid sizes k = (j : ℕ) → 1 ≤ j → j ≤ k → IsSize s mid j (slice_index_or sizes j 0)

-- no power up to k is one at which a step may stop
abbrev pub NoStopTo : StoredSystem → List ℤ → ℕ → Type 0
NoStopTo s mid k = (j : ℕ) → least_degree (greatest_power s) ≤ j → j ≤ k → HasSmallBack s mid j → ⊥
