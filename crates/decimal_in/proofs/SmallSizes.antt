-- How large decimals without a sign are.
use Rattle.std.proofs.Common.{◌≡◌, ℕ, ◌+◌, ◌-◌, ◌*◌, ◌^◌, ◌<◌, ◌≤◌, Bool, true, false, List, [], ◌∷◌, length}
use Rattle.std.proofs.Common.{Option, Some, None, refl, ap, subst, ◌∙◌, arith}
use Rattle.std.specs.Prelude.{nat_lt, if◌then◌else◌, take, drop}
use Rattle.std.specs.Char.{is_ascii_digit}
use Rattle.std.specs.List.{list_all, fold}
use Rattle.std.proofs.Math.Nat.{mul-le-mul_right}
use Rattle.std.proofs.lemmas.Grind.{pow_more}
use Rattle.std.specs.Prelude.{ℤ, pos, ◌≤ℤ◌, unsigned_abs, option_map}
use Rattle.std.proofs.lemmas.Int.{ints}
use Rattle.decimal_in.specs.Decimals.{value_of, whole_of, fraction_of, in_millionths, size_of}
use Rattle.decimal_in.specs.Decimals.{point_of, SizesAreSmall, unsigned_millionths_of}
use Rattle.decimal_in.proofs.Digits.{digits_grow, six_digits}

-- one digit more, and others behind it
one_more : (sum digit rest power : ℕ) → digit < 58 → rest + 1 ≤ (sum * 10 + (digit - 48) + 1) * power
    → rest + 1 ≤ (sum + 1) * (power * 10)
one_more sum digit rest power small bound =
    let step : (sum * 10 + (digit - 48) + 1) * power ≤ ((sum + 1) * 10) * power =
    mul-le-mul_right power (omega (arith, small)) in
    grind (arith, step, bound)

-- digits behind a number keep it below the next number with as many zeros
digits_behind : (sum : ℕ) (digits : List ℕ) → list_all is_ascii_digit digits ≡ true
    → fold (λ s digit. s * 10 + (digit - 48)) sum digits + 1 ≤ (sum + 1) * 10 ^ length digits
digits_behind sum [] all = omega arith
digits_behind sum (digit ∷ digits) all =
    let small : digit < 58 = grind arith in
    let others : list_all is_ascii_digit digits ≡ true = grind arith in
    let behind = digits_behind (sum * 10 + (digit - 48)) digits others in
    let longer : length (digit ∷ digits) ≡ length digits + 1 = omega arith in
    let power : 10 ^ length (digit ∷ digits) ≡ 10 ^ length digits * 10 =
    ap (λ n. 10 ^ n) longer ∙ pow_more 10 (length digits) in
    rw power (one_more sum digit _ (10 ^ length digits) small behind)

-- so many digits make a number below that power of ten
value_is_small : (digits : List ℕ) → list_all is_ascii_digit digits ≡ true → value_of digits < 10 ^ length digits
value_is_small digits all = omega (arith, digits_behind 0 digits all)

-- a whole number of up to 18 digits
whole_is_small : (text : List ℕ) (number : ℕ) → whole_of 18 text ≡ Some number → number < 10 ^ 18
whole_is_small text number is =
    let all : list_all is_ascii_digit text ≡ true = grind (arith, is) in
    let few : length text ≤ 18 = grind (arith, is) in
    let same : value_of text ≡ number = grind (arith, is) in
    omega (arith, same, value_is_small text all, digits_grow (length text) 18 few)

-- millionths
fraction_is_small : (text : List ℕ) (number : ℕ) → fraction_of text ≡ Some number → number < 10 ^ 6
fraction_is_small text number is =
    let all : list_all is_ascii_digit text ≡ true = grind (arith, is) in
    let few : length text ≤ 6 = grind (arith, is) in
    let same : value_of text * 10 ^ (6 - length text) ≡ number = grind (arith, is) in
    subst (λ n. n < 10 ^ 6) same (six_digits (value_of text) (length text) few (value_is_small text all))

-- both together
together_are_small : (whole fraction : Option ℕ) (size : ℕ)
    → ((number : ℕ) → whole ≡ Some number → number < 10 ^ 18)
    → ((number : ℕ) → fraction ≡ Some number → number < 10 ^ 6)
    → in_millionths whole fraction ≡ Some size → size < 10 ^ 24
together_are_small None fraction size few little is = absurd (let apart = is in cc)
together_are_small (Some whole) None size few little is = absurd (let apart = is in cc)
together_are_small (Some whole) (Some fraction) size few little is =
    let below = few whole refl in
    let behind = little fraction refl in
    let same : whole * 10 ^ 6 + fraction ≡ size = cc is in
    omega (arith, below, behind, same)

-- with a point or without
by_point : (has_point : Bool) (text : List ℕ) (size : ℕ)
    → (if has_point
    then in_millionths (whole_of 18 (take (point_of text) text)) (fraction_of (drop (point_of text + 1) text))
    else in_millionths (whole_of 18 text) (Some 0)) ≡ Some size → size < 10 ^ 24
by_point true text size is =
    together_are_small _ _ size (whole_is_small (take (point_of text) text))
    (fraction_is_small (drop (point_of text + 1) text)) is
by_point false text size is =
    together_are_small _ (Some 0) size (whole_is_small text)
    (λ number none. let same : 0 ≡ number = cc none in omega (arith, same)) is

pub sizes_are_small : SizesAreSmall
sizes_are_small text size is = by_point (nat_lt (point_of text) (length text)) text size is

-- the same of the number that they stand for, which is not negative
of_size : (size : Option ℕ) (number : ℤ) → ((n : ℕ) → size ≡ Some n → n < 10 ^ 24)
    → option_map pos size ≡ Some number → (pos 0 ≤ℤ number) × (unsigned_abs number < 10 ^ 24)
of_size None number few is = absurd (let apart = is in cc)
of_size (Some n) number few is =
    let same : pos n ≡ number = cc is in
    subst (λ z. (pos 0 ≤ℤ z) × (unsigned_abs z < 10 ^ 24)) same (grind (arith, ints), few n refl)

pub unsigned_is_least : (text : List ℕ) (number : ℤ) → unsigned_millionths_of text ≡ Some number → pos 0 ≤ℤ number
unsigned_is_least text number is = (of_size (size_of text) number (sizes_are_small text) is).0

pub unsigned_is_small : (text : List ℕ) (number : ℤ) → unsigned_millionths_of text ≡ Some number
    → unsigned_abs number < 10 ^ 24
unsigned_is_small text number is = (of_size (size_of text) number (sizes_are_small text) is).1
