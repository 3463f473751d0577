-- Systems whose numbers are all so small that they are tame.
use Rattle.std.specs.Prelude.{ℕ, ◌^◌, ◌≤◌, unsigned_abs}
use Rattle.linear_system.specs.StoredSystem.{StoredSystem, dim_of, stored_number}

-- no stored number is above 2^-24 in size
abbrev pub HasSmallNumbers : StoredSystem → Type 0
HasSmallNumbers s = (row col m : ℕ) → unsigned_abs (stored_number s row col m) ≤ 2 ^ 40

-- and there are at most twelve unknowns and powers up to 5
pub record IsSmallSystem (s : StoredSystem) : Type 0 where
  pub few : dim_of s ≤ 12
  pub low : s.degree ≤ 5
  pub small : HasSmallNumbers s
