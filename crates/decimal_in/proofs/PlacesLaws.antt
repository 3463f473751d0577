-- Decimals as they are written have the millionths of their texts.
use Rattle.std.proofs.Common.{◌≡◌, ℕ, ◌+◌, ◌-◌, ◌*◌, ◌^◌, ◌<◌, ◌≤◌, Bool, true, false, List, length}
use Rattle.std.proofs.Common.{Option, Some, None, refl, ap, sym, ◌∙◌, arith}
use Rattle.std.specs.Prelude.{nat_lt, if◌then◌else◌, take, drop, pos, neg_ℤ, ◌*ℤ◌, option_map}
use Rattle.std.proofs.Math.Nat.{mul-le-mul_right}
use Rattle.std.proofs.lemmas.Nat.{pow-add}
use Rattle.std.proofs.lemmas.Int.{ints}
use Rattle.std.proofs.Math.IntN.{pos-*ℤ-pos}
use Rattle.decimal_in.specs.Decimals.{are_digits_up_to, fraction_of, has_minus, in_millionths, point_of}
use Rattle.decimal_in.specs.Decimals.{signed, value_of, whole_of, without_minus}
use Rattle.decimal_in.proofs.Digits.{digits_grow}
use Rattle.decimal_in.specs.Places.{DecimalsHaveMillionths, millionths_in, opposite_if}
use Rattle.decimal_in.specs.Places.{with_digits, without_point}

-- the digits behind the point are filled up to six
filled_up : (whole behind places : ℕ) → places ≤ 6
    → whole * 10 ^ 6 + behind * 10 ^ (6 - places) ≡ (whole * 10 ^ places + behind) * 10 ^ (6 - places)
filled_up whole behind places few =
    let count : places + (6 - places) ≡ 6 = omega (arith, few) in
    let powers : 10 ^ places * 10 ^ (6 - places) ≡ 10 ^ 6 =
    sym (pow-add 10 places (6 - places)) ∙ ap (λ n. 10 ^ n) count in
    grind (arith, powers)

-- the sum is below 10^24 units
pub joined_is_small : (whole behind places : ℕ) → whole < 10 ^ 18 → behind < 10 ^ places → places ≤ 6
    → whole * 10 ^ places + behind < 10 ^ 24
joined_is_small whole behind places below less few =
    let scale : 10 ^ places ≤ 10 ^ 6 = digits_grow places 6 few in
    let next : (whole + 1) * 10 ^ places ≤ 10 ^ 18 * 10 ^ places =
    mul-le-mul_right (10 ^ places) (omega (arith, below)) in
    omega (arith, scale, next, less)

-- a sign before millionths is a sign before the units
signs_go_before : (minus : Bool) (units scale : ℕ)
    → signed minus (units * scale) ≡ (if minus then neg_ℤ (pos units) else pos units) *ℤ pos scale
signs_go_before true units scale =
    let product : pos units *ℤ pos scale ≡ pos (units * scale) = pos-*ℤ-pos units scale in
    let other : neg_ℤ (pos units) *ℤ pos scale ≡ neg_ℤ (pos units *ℤ pos scale) = grind (arith, ints) in
    sym (other ∙ ap neg_ℤ product)
signs_go_before false units scale = sym (pos-*ℤ-pos units scale)

-- digits behind a point, or something else
by_digits : (minus : Bool) (whole : ℕ) (behind : List ℕ) (are : Bool) → (are ≡ true → length behind ≤ 6)
    → option_map (signed minus)
    (in_millionths (Some whole) (if are then Some (value_of behind * 10 ^ (6 - length behind)) else None))
    ≡ option_map millionths_in (option_map (opposite_if minus)
    (if are
    then Some (record { units = pos (whole * 10 ^ length behind + value_of behind); places = length behind })
    else None))
by_digits minus whole behind true few =
    ap (λ size. Some (signed minus size)) (filled_up whole (value_of behind) (length behind) (few refl))
    ∙ ap Some (signs_go_before minus (whole * 10 ^ length behind + value_of behind) (10 ^ (6 - length behind)))
by_digits minus whole behind false few = refl

behind_a_point : (minus : Bool) (whole : Option ℕ) (behind : List ℕ)
    → option_map (signed minus) (in_millionths whole (fraction_of behind))
    ≡ option_map millionths_in (option_map (opposite_if minus) (with_digits whole behind))
behind_a_point minus None behind = refl
behind_a_point minus (Some whole) behind =
    by_digits minus whole behind (are_digits_up_to 6 behind) (λ are. grind (arith, are))

-- a number without a point
no_point : (minus : Bool) (whole : Option ℕ)
    → option_map (signed minus) (in_millionths whole (Some 0))
    ≡ option_map millionths_in (option_map (opposite_if minus) (option_map without_point whole))
no_point minus None = refl
no_point minus (Some whole) =
    let filled : whole * 10 ^ 6 + 0 ≡ whole * 10 ^ 6 = omega arith in
    ap (λ size. Some (signed minus size)) filled ∙ ap Some (signs_go_before minus whole (10 ^ 6))

by_point : (minus has_point : Bool) (text : List ℕ)
    → option_map (signed minus)
    (if has_point
    then in_millionths (whole_of 18 (take (point_of text) text)) (fraction_of (drop (point_of text + 1) text))
    else in_millionths (whole_of 18 text) (Some 0))
    ≡ option_map millionths_in (option_map (opposite_if minus)
    (if has_point
    then with_digits (whole_of 18 (take (point_of text) text)) (drop (point_of text + 1) text)
    else option_map without_point (whole_of 18 text)))
by_point minus true text =
    behind_a_point minus (whole_of 18 (take (point_of text) text)) (drop (point_of text + 1) text)
by_point minus false text = no_point minus (whole_of 18 text)

pub decimals_have_millionths : DecimalsHaveMillionths
decimals_have_millionths text =
    by_point (has_minus text) (nat_lt (point_of (without_minus text)) (length (without_minus text)))
    (without_minus text)
