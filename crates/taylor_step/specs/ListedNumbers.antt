-- Numbers of a stored system that are listed by row, column and power.
use Rattle.std.specs.Prelude.{ℕ, ◌^◌, ◌&&◌, ◌||◌, ℤ, pos, unsigned_abs, List, [], ◌∷◌, cond, nat_eq, nat_lt}
use Rattle.std.specs.Prelude.{nat_le, Bool}
use Rattle.linear_system.specs.Setting.{is_same_place, may_hold}

-- a row, a column, which is the dimension for a free number, a power, and the number in units of 2^-64
abbrev pub Entry : Type 0
Entry = ℕ × ℕ × ℕ × ℤ

-- the number that is listed at a row, a column and a power, and 0 where none is
abbrev pub listed : List Entry → ℕ → ℕ → ℕ → ℤ
listed [] row col m = pos 0
listed (e ∷ entries) row col m = cond (is_same_place e.0 e.1 e.2 row col m) e.3 (listed entries row col m)

-- a system of a dimension and a degree with links has a place for it
abbrev pub can_hold : ℕ → ℕ → List (ℕ × ℕ) → Entry → Bool
can_hold dim degree links e =
    nat_lt e.0 dim && (nat_le e.2 degree && (nat_le (unsigned_abs e.3) (2 ^ 59)
    && (nat_eq e.1 dim || (nat_lt e.1 dim && may_hold links e.0 e.1))))
