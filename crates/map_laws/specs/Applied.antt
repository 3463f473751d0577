-- A map of a month applied to a vector of whole numbers in units of 2^-64.
use Rattle.std.specs.Prelude.{◌≡◌, ℕ, zero, suc, pos, ℤ, ◌+ℤ◌, ◌+◌, ◌^◌, ◌<◌, ◌≤◌}
use Rattle.frac_laws.specs.Fraction.{Fraction, over, whole, size, ◌+ℚ◌, ◌-ℚ◌, ◌*ℚ◌, ◌≤ℚ◌}
use Rattle.frac_laws.specs.Ledger.{grow}
use Rattle.frac_laws.specs.Rounding.{floor_of}
use Rattle.frac_laws.specs.Sums.{sum_to, power}
use Rattle.cell_laws.specs.Tame.{growth_of}
use Rattle.linear_system.specs.StandsFor.{units}
use Rattle.fixed_interval.specs.Products.{low_end, high_end}
use Rattle.map_laws.specs.Maps.{AffineMap, IntervalMap, HoldsMap, total}
use Rattle.map_laws.specs.MapLaws.{IsNarrowAfter}

-- the exact map's value at a row
abbrev pub value_at : ℕ → AffineMap → (ℕ → Fraction) → ℕ → Fraction
value_at d a y row = a.free row +ℚ sum_to d (λ col. a.at row col *ℚ y col)

-- the ends of the interval map's value at a row
abbrev pub lo_at : ℕ → IntervalMap → (ℕ → ℤ) → ℕ → ℤ
lo_at d m mid row = (m.free row).lo +ℤ total d (λ col. low_end (mid col) (m.at row col))

-- and the upper end
abbrev pub hi_at : ℕ → IntervalMap → (ℕ → ℤ) → ℕ → ℤ
hi_at d m mid row = (m.free row).hi +ℤ total d (λ col. high_end (mid col) (m.at row col))

-- each new number is the floor of the middle of its interval
pub record IsApplied (d : ℕ) (m : IntervalMap) (mid new : ℕ → ℤ) : Type 0 where
  pub middle : (row : ℕ) → row < d → new row ≡ floor_of (lo_at d m mid row +ℤ hi_at d m mid row) (pos 2)

-- at numbers of at most 1 + 2^-19 the middle is within 26218 units of the exact value; 32 * 1023 is 32736
abbrev pub MiddlesAreNear : Type 0
MiddlesAreNear = (d : ℕ) (m : IntervalMap) (a : AffineMap) (mid new : ℕ → ℤ) → d ≤ 12 → IsNarrowAfter 5 d m
    → HoldsMap d m a → IsApplied d m mid new
    → ((col : ℕ) → col < d → size (units (mid col)) ≤ℚ over (pos (2 ^ 19 + 1)) (2 ^ 19))
    → (row : ℕ) → row < d
    → size (value_at d a (λ col. units (mid col)) row -ℚ units (new row)) ≤ℚ units (pos 26218)

-- a radius after some cells, each of which adds 1023 units
unfoldable pub grow_turns : ℕ → ℕ → ℕ → ℕ
grow_turns zero radius kappa40 = radius
grow_turns (suc n) radius kappa40 = grow (grow_turns n radius kappa40) kappa40 1023

-- an exact map of 32 cells, each of which enlarges no vector by more than 1 + kappa
abbrev pub GrowsAs32Cells : ℕ → ℕ → AffineMap → Type 0
GrowsAs32Cells d kappa40 a = (row : ℕ) → row < d
    → sum_to d (λ col. size (a.at row col)) ≤ℚ power (whole (pos 1) +ℚ growth_of kappa40) 32

-- a start of at most 1 and within a radius of whole numbers
pub record IsNear (d radius : ℕ) (y : ℕ → Fraction) (mid : ℕ → ℤ) : Type 0 where
  pub small : (col : ℕ) → col < d → size (y col) ≤ℚ whole (pos 1)
  pub near : (col : ℕ) → col < d → size (y col -ℚ units (mid col)) ≤ℚ units (pos radius)
  pub at_most : radius ≤ 2 ^ 45

-- each new number is within 32 turns of the ledger of the exact map's value
abbrev pub ValuesStayNear : (d kappa40 radius : ℕ) → AffineMap → (ℕ → Fraction) → (ℕ → ℤ) → Type 0
ValuesStayNear d kappa40 radius a y new = (row : ℕ) → row < d
    → size (value_at d a y row -ℚ units (new row)) ≤ℚ units (pos (grow_turns 32 radius kappa40))

-- so a month map applied to whole numbers is as 32 steps in the ledger
abbrev pub MonthMapsStayWithinTheirRadius : Type 0
MonthMapsStayWithinTheirRadius =
    (d kappa40 radius : ℕ) (m : IntervalMap) (a : AffineMap) (y : ℕ → Fraction) (mid new : ℕ → ℤ) → d ≤ 12
    → IsNarrowAfter 5 d m → HoldsMap d m a → GrowsAs32Cells d kappa40 a → IsApplied d m mid new
    → IsNear d radius y mid → ValuesStayNear d kappa40 radius a y new
