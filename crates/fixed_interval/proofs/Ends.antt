-- Floors of the least of some numbers, and ceilings of the greatest.
use Rattle.std.proofs.Common.{◌≡◌, ◌^◌, ℤ, pos, ◌≤ℤ◌, ◌<ℤ◌, ◌∙◌, ap, sym, arith}
use Rattle.std.specs.Int.{int_min, int_max}
use Rattle.std.proofs.lemmas.Int.{ints, clamps, by_lt_z}
use Rattle.frac_laws.specs.Rounding.{floor_of, ceiling_of}
use Rattle.frac_laws.proofs.RoundingLaws.{floor_monotone, ceiling_monotone, floor-le-ceiling}

abbrev unit : ℤ
unit = pos (2 ^ 64)

some : pos 0 <ℤ pos (2 ^ 64)
some = omega (arith, ints)

left_is_least : (x y : ℤ) → x ≤ℤ y → int_min x y ≡ x
left_is_least x y h = omega (arith, ints, clamps)

right_is_least : (x y : ℤ) → y ≤ℤ x → int_min x y ≡ y
right_is_least x y h = omega (arith, ints, clamps)

right_is_greatest : (x y : ℤ) → x ≤ℤ y → int_max x y ≡ y
right_is_greatest x y h = omega (arith, ints, clamps)

left_is_greatest : (x y : ℤ) → y ≤ℤ x → int_max x y ≡ x
left_is_greatest x y h = omega (arith, ints, clamps)

pub floor-min : (x y : ℤ)
    → floor_of (int_min x y) (pos (2 ^ 64)) ≡ int_min (floor_of x (pos (2 ^ 64))) (floor_of y (pos (2 ^ 64)))
floor-min x y = by_lt_z x y
    (λ less. let h : x ≤ℤ y = omega (arith, ints) in
    ap (λ z. floor_of z unit) (left_is_least x y h)
    ∙ sym (left_is_least (floor_of x unit) (floor_of y unit) (floor_monotone x y unit some h)))
    (λ h. ap (λ z. floor_of z unit) (right_is_least x y h)
    ∙ sym (right_is_least (floor_of x unit) (floor_of y unit) (floor_monotone y x unit some h)))

pub ceiling-max : (x y : ℤ)
    → ceiling_of (int_max x y) (pos (2 ^ 64)) ≡ int_max (ceiling_of x (pos (2 ^ 64))) (ceiling_of y (pos (2 ^ 64)))
ceiling-max x y = by_lt_z x y
    (λ less. let h : x ≤ℤ y = omega (arith, ints) in
    ap (λ z. ceiling_of z unit) (right_is_greatest x y h)
    ∙ sym (right_is_greatest (ceiling_of x unit) (ceiling_of y unit) (ceiling_monotone x y unit some h)))
    (λ h. ap (λ z. ceiling_of z unit) (left_is_greatest x y h)
    ∙ sym (left_is_greatest (ceiling_of x unit) (ceiling_of y unit) (ceiling_monotone y x unit some h)))

-- the least rounded down is at most the greatest rounded up
pub low_le_high : (x y : ℤ)
    → floor_of (int_min x y) (pos (2 ^ 64)) ≤ℤ ceiling_of (int_max x y) (pos (2 ^ 64))
low_le_high x y =
    let order : int_min x y ≤ℤ int_max x y = omega (arith, ints, clamps) in
    let below = floor_monotone (int_min x y) (int_max x y) unit some order in
    let above = floor-le-ceiling (int_max x y) unit some in
    omega (arith, ints, below, above)
