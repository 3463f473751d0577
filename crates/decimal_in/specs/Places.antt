-- Decimals as they are written: a number in units of its last digit, and how many digits stand behind the point.
use Rattle.std.specs.Prelude.{◌≡◌, ℕ, ◌+◌, ◌-◌, ◌*◌, ◌^◌, Bool, nat_lt, List, length, take, drop}
use Rattle.std.specs.Prelude.{ℤ, pos, neg_ℤ, ◌*ℤ◌, Option, Some, None, option_map, if◌then◌else◌}
use Rattle.decimal_in.specs.declared.written.Decimal.{Decimal}
use Rattle.decimal_in.specs.Decimals.{are_digits_up_to, has_minus, millionths_of, point_of, value_of, whole_of}
use Rattle.decimal_in.specs.Decimals.{without_minus}

-- a number and up to six digits behind its point, in units of the last of them
abbrev pub with_digits : Option ℕ → List ℕ → Option Decimal
with_digits None behind = None
with_digits (Some whole) behind =
    if are_digits_up_to 6 behind
    then Some (record { units = pos (whole * 10 ^ length behind + value_of behind); places = length behind })
    else None

-- a number without a point
abbrev pub without_point : ℕ → Decimal
without_point whole = record { units = pos whole; places = 0 }

-- the decimal without a sign: 1 to 18 digits, and perhaps a point and 1 to 6 digits
abbrev pub unsigned_decimal_of : List ℕ → Option Decimal
unsigned_decimal_of text =
    if nat_lt (point_of text) (length text)
    then with_digits (whole_of 18 (take (point_of text) text)) (drop (point_of text + 1) text)
    else option_map without_point (whole_of 18 text)

-- the decimal, or the opposite one behind a minus sign
abbrev pub opposite_if : Bool → Decimal → Decimal
opposite_if minus decimal = record decimal { units = if minus then neg_ℤ decimal.units else decimal.units }

-- the decimal, with a minus sign or without
abbrev pub decimal_of : List ℕ → Option Decimal
decimal_of text = option_map (opposite_if (has_minus text)) (unsigned_decimal_of (without_minus text))

-- a decimal in millionths
abbrev pub millionths_in : Decimal → ℤ
millionths_in decimal = decimal.units *ℤ pos (10 ^ (6 - decimal.places))

-- the decimal of a text has the text's millionths, and there is one exactly where there are millionths
abbrev pub DecimalsHaveMillionths : Type 0
DecimalsHaveMillionths = (text : List ℕ) → millionths_of text ≡ option_map millionths_in (decimal_of text)
