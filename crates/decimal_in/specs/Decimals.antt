-- Numbers in texts of bytes, this product's own: whole numbers, and decimals with up to six digits after a point.
use Rattle.std.specs.Prelude.{◌≡◌, ℕ, ◌+◌, ◌-◌, ◌*◌, ◌^◌, ◌<◌, Bool, not, ◌&&◌, ◌==◌, nat_le, nat_lt, List, length}
use Rattle.std.specs.Prelude.{take, drop, slice_index, fold, ℤ, pos, neg_ℤ, Option, Some, None}
use Rattle.std.specs.Prelude.{option_map, if◌then◌else◌}
use Rattle.std.specs.Char.{is_ascii_digit}
use Rattle.std.specs.List.{list_all, position_or_len}

-- the number that digits stand for
abbrev pub value_of : List ℕ → ℕ
value_of digits = fold (λ sum digit. sum * 10 + (digit - 48)) 0 digits

-- one digit or more, up to so many
abbrev pub are_digits_up_to : ℕ → List ℕ → Bool
are_digits_up_to most text = nat_le 1 (length text) && nat_le (length text) most && list_all is_ascii_digit text

-- the first digit of several is 0
abbrev pub has_needless_zero : List ℕ → Bool
has_needless_zero text = nat_lt 1 (length text) && (slice_index text 0 == 48)

-- the number of up to so many digits without a needless zero, or none where the text is something else
abbrev pub whole_of : ℕ → List ℕ → Option ℕ
whole_of most text =
    if are_digits_up_to most text && not (has_needless_zero text) then Some (value_of text) else None

-- the millionths of up to six digits after a point
abbrev pub fraction_of : List ℕ → Option ℕ
fraction_of text = if are_digits_up_to 6 text then Some (value_of text * 10 ^ (6 - length text)) else None

-- where the first point stands, or the length of a text without one
abbrev pub point_of : List ℕ → ℕ
point_of text = position_or_len (λ byte. byte == 46) text

-- a number and millionths, together in millionths
abbrev pub in_millionths : Option ℕ → Option ℕ → Option ℕ
in_millionths None fraction = None
in_millionths (Some whole) None = None
in_millionths (Some whole) (Some fraction) = Some (whole * 10 ^ 6 + fraction)

-- the millionths of a decimal without a sign: 1 to 18 digits, and perhaps a point and 1 to 6 digits
abbrev pub size_of : List ℕ → Option ℕ
size_of text =
    if nat_lt (point_of text) (length text)
    then in_millionths (whole_of 18 (take (point_of text) text)) (fraction_of (drop (point_of text + 1) text))
    else in_millionths (whole_of 18 text) (Some 0)

-- the first byte is a minus sign
abbrev pub has_minus : List ℕ → Bool
has_minus text = nat_lt 0 (length text) && (slice_index text 0 == 45)

-- what stands behind a minus sign, or the whole text
abbrev pub without_minus : List ℕ → List ℕ
without_minus text = if has_minus text then drop 1 text else text

-- a number by its size
abbrev pub signed : Bool → ℕ → ℤ
signed minus size = if minus then neg_ℤ (pos size) else pos size

-- the whole number of up to so many digits without a needless zero, with a minus sign or without
abbrev pub signed_whole_of : ℕ → List ℕ → Option ℤ
signed_whole_of most text = option_map (signed (has_minus text)) (whole_of most (without_minus text))

-- the millionths of a decimal, with a minus sign or without
abbrev pub millionths_of : List ℕ → Option ℤ
millionths_of text = option_map (signed (has_minus text)) (size_of (without_minus text))

-- the millionths of a decimal without a sign
abbrev pub unsigned_millionths_of : List ℕ → Option ℤ
unsigned_millionths_of text = option_map pos (size_of text)

-- each decimal without a sign is below 10^24 millionths
abbrev pub SizesAreSmall : Type 0
SizesAreSmall = (text : List ℕ) (size : ℕ) → size_of text ≡ Some size → size < 10 ^ 24
