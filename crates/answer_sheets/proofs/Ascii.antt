-- Names of states and numbers are ASCII.
use Rattle.std.proofs.Common.{ℕ, suc, ◌<◌, ◌^◌, ◌/◌, List, [], ◌∷◌, ℤ, pos, negsuc, arith, decimal}
use Rattle.std.proofs.Common.{unsigned_abs}
use Rattle.std.specs.Prelude.{FitsSigned, IsAscii}
use Rattle.std.specs.Int.{w128}
use Rattle.std.specs.Fmt.{signed_decimal}
use Rattle.std.proofs.lemmas.Fmt.{IsAscii-decimal_wide}
use Rattle.std.proofs.lemmas.Str.{IsAscii-append}
use Rattle.std.proofs.lemmas.Str.Ascii.{IsAscii-cons, IsAscii-nil}
use Rattle.decimal_out.specs.Millionths.{digit, millionths, millionths_of_size}
use Rattle.report_columns.specs.declared.note.What.{What}
use Rattle.report_columns.specs.declared.note.What.TheVariants as what
use Rattle.report_columns.specs.Lines.{in_format}

-- the point and the digits of a number of millionths, from a power of ten on
below_point : (n : ℕ)
    → IsAscii (46 ∷ digit n 100000 ∷ digit n 10000 ∷ digit n 1000 ∷ digit n 100 ∷ digit n 10 ∷ digit n 1 ∷ [])
below_point n =
    IsAscii-cons 46 (digit n 100000 ∷ digit n 10000 ∷ digit n 1000 ∷ digit n 100 ∷ digit n 10 ∷ digit n 1 ∷ [])
    (omega arith) (then 100000 (digit n 10000 ∷ digit n 1000 ∷ digit n 100 ∷ digit n 10 ∷ digit n 1 ∷ [])
    (then 10000 (digit n 1000 ∷ digit n 100 ∷ digit n 10 ∷ digit n 1 ∷ [])
    (then 1000 (digit n 100 ∷ digit n 10 ∷ digit n 1 ∷ []) (then 100 (digit n 10 ∷ digit n 1 ∷ [])
    (then 10 (digit n 1 ∷ []) (then 1 [] IsAscii-nil)))))) where
      then : (power : ℕ) (more : List ℕ) → IsAscii more → IsAscii (digit n power ∷ more)
      then power more ascii = IsAscii-cons (digit n power) more (omega arith) ascii

-- a number of millionths below 2^128
pub size_is_ascii : (n : ℕ) → n < 2 ^ 128 → IsAscii (millionths_of_size n)
size_is_ascii n small =
    let part = IsAscii-decimal_wide (n / 1000000) (omega (arith, small)) in
    IsAscii-append (decimal (n / 1000000))
    (46 ∷ digit n 100000 ∷ digit n 10000 ∷ digit n 1000 ∷ digit n 100 ∷ digit n 10 ∷ digit n 1 ∷ []) part
    (below_point n)

pub millionths_are_ascii : (z : ℤ) → unsigned_abs z < 2 ^ 128 → IsAscii (millionths z)
millionths_are_ascii (pos n) small = size_is_ascii n (omega (arith, small))
millionths_are_ascii (negsuc n) small =
    IsAscii-cons 45 (millionths_of_size (suc n)) (omega arith) (size_is_ascii (suc n) (omega (arith, small)))

pub signed_is_ascii : (z : ℤ) → unsigned_abs z < 2 ^ 128 → IsAscii (signed_decimal z)
signed_is_ascii (pos n) small = IsAscii-decimal_wide n (omega (arith, small))
signed_is_ascii (negsuc n) small =
    IsAscii-cons 45 (decimal (suc n)) (omega arith) (IsAscii-decimal_wide (suc n) (omega (arith, small)))

-- a number in the format of a row
pub number_is_ascii : (w : What) (z : ℤ) → unsigned_abs z < 2 ^ 128 → IsAscii (in_format w z)
number_is_ascii what.Second z small = signed_is_ascii z small
number_is_ascii what.Variance z small = signed_is_ascii z small
number_is_ascii what.Value z small = millionths_are_ascii z small
number_is_ascii what.Reserve z small = millionths_are_ascii z small
number_is_ascii what.Occupancy z small = millionths_are_ascii z small
number_is_ascii what.First z small = millionths_are_ascii z small
number_is_ascii what.Benefits z small = millionths_are_ascii z small
number_is_ascii what.Pattern z small = millionths_are_ascii z small
number_is_ascii what.Premium z small = millionths_are_ascii z small
number_is_ascii what.Total z small = millionths_are_ascii z small

-- a whole number below 2^128
pub whole_is_ascii : (n : ℕ) → n < 2 ^ 128 → IsAscii (decimal n)
whole_is_ascii n small = IsAscii-decimal_wide n (omega (arith, small))

-- a signed number of 128 bits
pub below_2_128 : (z : ℤ) → FitsSigned w128 z → unsigned_abs z < 2 ^ 128
below_2_128 (pos n) fits = omega (arith, fits)
below_2_128 (negsuc n) fits = omega (arith, fits)
