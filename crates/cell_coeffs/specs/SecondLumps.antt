-- What a date's lumps make of second moments.
use Rattle.std.specs.Prelude.{ℕ, ◌-◌, ◌^◌, ℤ, pos, ◌+ℤ◌, ◌*ℤ◌, ◌==◌, List, find, option_map, unwrap_or}
use Rattle.frac_laws.specs.Fraction.{Fraction, whole, size, ◌+ℚ◌, ◌-ℚ◌, ◌*ℚ◌, ◌≤ℚ◌}
use Rattle.frac_laws.specs.Rounding.{floor_of}
use Rattle.linear_system.specs.StandsFor.{units}
use Rattle.cell_bounds.specs.ScaledSystems.{scaling}

-- the amount of a state's lump, or 0 where it has none
abbrev pub amount_in : List (ℕ × ℤ) → ℕ → ℤ
amount_in lumps state = unwrap_or (option_map (λ lump. lump.1) (find (λ lump. lump.0 == state) lumps)) (pos 0)

-- the rule of second moments: z + 2 l w + l^2, with the first moment w before the lump l
abbrev pub second_with_lump : (l w z : Fraction) → Fraction
second_with_lump l w z = z +ℚ whole (pos 2) *ℚ l *ℚ w +ℚ l *ℚ l

-- a new number is within a unit of what the rule makes of the old one, by an amount that is divided by 2^g
abbrev pub IsLumped : (g : ℕ) → (amount first old new : ℤ) → Type 0
IsLumped g amount first old new =
    size (units new -ℚ second_with_lump (scaling g *ℚ whole amount) (units first) (units old)) ≤ℚ units (pos 1)

-- what is added, in units of 2^-64: the floor of l (2 w + l 2^(64 - g)) / 2^g
abbrev pub lumped_units : (g : ℕ) → (amount first : ℤ) → ℤ
lumped_units g amount first =
    floor_of (amount *ℤ ((pos 2 *ℤ first) +ℤ (amount *ℤ pos (2 ^ (64 - g))))) (pos (2 ^ g))
