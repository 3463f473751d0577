-- The load of a payment from its Bernstein numerators.
use Rattle.std.specs.Prelude.{ℕ, ◌+◌, ◌*◌, ◌≤◌, ℤ, ◌-ℤ◌, List, map, All, unsigned_abs}
use Rattle.std.specs.Int.{div_ceil}
use Rattle.named_numbers.specs.Numbers.{most_amount, bernstein_unit}
use Rattle.whole_laws.specs.Whole.{greatest_natural, greatest_whole, least_whole, natural_part}

-- the greatest size of the numerators over 2488320 and four times their spread, rounded up
abbrev pub load_of_numerators : List ℤ → ℕ
load_of_numerators b =
    div_ceil (greatest_natural (map unsigned_abs b) + 4 * natural_part (greatest_whole b -ℤ least_whole b))
    bernstein_unit

-- amounts of at most 10^12 minor units, as rule 11 asks of the numerators of a step in its months
abbrev pub AreWithin : List ℤ → Type 0
AreWithin b = All (λ n. unsigned_abs n ≤ most_amount * bernstein_unit) b
