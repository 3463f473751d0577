-- How wide and how large a product of intervals is.
use Rattle.std.proofs.Common.{◌*◌, ◌^◌, ℤ, pos, ◌+ℤ◌, ◌-ℤ◌, ◌*ℤ◌, ◌<ℤ◌, arith}
use Rattle.std.specs.Prelude.{[], ◌∷◌, refl}
use Rattle.std.proofs.lemmas.Int.{ints}
use Rattle.frac_laws.specs.Fraction.{Fraction, whole, size, ◌+ℚ◌, ◌-ℚ◌, ◌*ℚ◌, ◌≤ℚ◌}
use Rattle.frac_laws.specs.Rounding.{floor_of, ceiling_of}
use Rattle.frac_laws.proofs.Extremes.{le_greater_left, le_greater_right}
use Rattle.frac_laws.proofs.Linear.{linear, claims, ◌⊞◌}
use Rattle.frac_laws.proofs.Order.{le_refl, le_trans, le_of_equal, mul_mono}
use Rattle.frac_laws.proofs.Quotients.{over_le_of_cross, over_add, over_sub, units_le}
use Rattle.frac_laws.proofs.RoundingLaws.{floor_high, ceiling_low}
use Rattle.frac_laws.proofs.Sizes.{size_le, size_natural, le_size, opposite_le_size, size_mul}
use Rattle.fixed_interval.specs.declared.interval.Interval.{Interval}
use Rattle.linear_system.specs.StandsFor.{units}
use Rattle.fixed_interval.specs.Intervals.{LiesIn}
use Rattle.fixed_interval.specs.Products.{least_product, greatest_product}
use Rattle.fixed_interval.proofs.Enclosing.{small_units, units_mul, floor_is_below, ceiling_is_above}
use Rattle.map_laws.specs.Maps.{product_lo, product_hi}
use Rattle.map_laws.specs.Widths.{width, extent}
use Rattle.whole_laws.proofs.Extremes.{lesser_whole-has, greater_whole-has}

-- ---- the ends are held, what is held is of at most the extent, and two held numbers are at most the width apart

pub holds_lo : (a : Interval) → LiesIn (units a.lo) a
holds_lo a = record { at_least = le_refl (units a.lo); at_most = units_le a.lo a.hi a.ordered }

pub holds_hi : (a : Interval) → LiesIn (units a.hi) a
holds_hi a = record { at_least = units_le a.lo a.hi a.ordered; at_most = le_refl (units a.hi) }

pub size_le_extent : (a : Interval) (x : Fraction) → LiesIn x a → size x ≤ℚ extent a
size_le_extent a x held = size_le
    (le_trans held.at_most (le_trans (le_size (units a.hi)) (le_greater_right (size (units a.lo)) (size (units a.hi)))))
    (le_trans (linear (x ∷ units a.lo ∷ []) held.at_least (hlevel claims) refl)
    (le_trans (opposite_le_size (units a.lo)) (le_greater_left (size (units a.lo)) (size (units a.hi)))))

pub apart_le_width : (a : Interval) (x y : Fraction) → LiesIn x a → LiesIn y a → size (x -ℚ y) ≤ℚ width a
apart_le_width a x y first second = size_le
    (linear (x ∷ y ∷ units a.lo ∷ units a.hi ∷ []) (first.at_most ⊞ second.at_least) (hlevel claims) refl)
    (linear (x ∷ y ∷ units a.lo ∷ units a.hi ∷ []) (second.at_most ⊞ first.at_least) (hlevel claims) refl)

pub extent_natural : (a : Interval) → whole (pos 0) ≤ℚ extent a
extent_natural a = le_trans (size_natural (units a.lo)) (le_greater_left (size (units a.lo)) (size (units a.hi)))

pub width_natural : (a : Interval) → whole (pos 0) ≤ℚ width a
width_natural a = linear (units a.lo ∷ units a.hi ∷ []) (units_le a.lo a.hi a.ordered) (hlevel claims) refl

pub product_le_sizes : (x y r s : Fraction) → size x ≤ℚ r → size y ≤ℚ s → x *ℚ y ≤ℚ r *ℚ s
product_le_sizes x y r s h k = le_trans (le_size (x *ℚ y)) (le_trans (le_of_equal (size_mul x y))
    (mul_mono h k (size_natural x) (le_trans (size_natural y) k)))

-- x y - z w = x (y - w) + w (x - z)
products_apart : (a b : Interval) (x z y w : Fraction) → LiesIn x a → LiesIn z a → LiesIn y b → LiesIn w b
    → x *ℚ y ≤ℚ z *ℚ w +ℚ (extent a *ℚ width b +ℚ width a *ℚ extent b)
products_apart a b x z y w in_x in_z in_y in_w =
    let first = product_le_sizes x (y -ℚ w) (extent a) (width b) (size_le_extent a x in_x)
    (apart_le_width b y w in_y in_w) in
    let second = product_le_sizes w (x -ℚ z) (extent b) (width a) (size_le_extent b w in_w)
    (apart_le_width a x z in_x in_z) in
    bound x y z w (extent a) (width b) (extent b) (width a) first second
  where
    bound : (x y z w p q r s : Fraction) → x *ℚ (y -ℚ w) ≤ℚ p *ℚ q → w *ℚ (x -ℚ z) ≤ℚ r *ℚ s
        → x *ℚ y ≤ℚ z *ℚ w +ℚ (p *ℚ q +ℚ s *ℚ r)
    bound x y z w p q r s first second =
        linear (x ∷ y ∷ z ∷ w ∷ p ∷ q ∷ r ∷ s ∷ []) (first ⊞ second) (hlevel claims) refl

-- ---- what holds of each of four numbers holds of the least and of the greatest

pub of_least_product : (P : ℤ → Type 0) (a b : Interval) → P (a.lo *ℤ b.lo) → P (a.lo *ℤ b.hi) → P (a.hi *ℤ b.lo)
    → P (a.hi *ℤ b.hi) → P (least_product a b)
of_least_product P a b p q r s = lesser_whole-has P _ _ (lesser_whole-has P _ _ p q) (lesser_whole-has P _ _ r s)

pub of_greatest_product : (P : ℤ → Type 0) (a b : Interval) → P (a.lo *ℤ b.lo) → P (a.lo *ℤ b.hi) → P (a.hi *ℤ b.lo)
    → P (a.hi *ℤ b.hi) → P (greatest_product a b)
of_greatest_product P a b p q r s = greater_whole-has P _ _ (greater_whole-has P _ _ p q) (greater_whole-has P _ _ r s)

-- ---- widths

abbrev pub spread : Interval → Interval → Fraction
spread a b = extent a *ℚ width b +ℚ width a *ℚ extent b

ends_apart : (a b : Interval) (p q r s : ℤ) → LiesIn (units p) a → LiesIn (units q) b → LiesIn (units r) a
    → LiesIn (units s) b → small_units (p *ℤ q) ≤ℚ small_units (r *ℤ s) +ℚ spread a b
ends_apart a b p q r s in_p in_q in_r in_s =
    rw (← units_mul p q, ← units_mul r s)
    (products_apart a b (units p) (units r) (units q) (units s) in_p in_r in_q in_s)

above_least_by_spread : (a b : Interval) (p q : ℤ) → LiesIn (units p) a → LiesIn (units q) b
    → small_units (p *ℤ q) ≤ℚ small_units (least_product a b) +ℚ spread a b
above_least_by_spread a b p q in_p in_q =
    of_least_product (λ z. small_units (p *ℤ q) ≤ℚ small_units z +ℚ spread a b) a b
    (ends_apart a b p q a.lo b.lo in_p in_q (holds_lo a) (holds_lo b))
    (ends_apart a b p q a.lo b.hi in_p in_q (holds_lo a) (holds_hi b))
    (ends_apart a b p q a.hi b.lo in_p in_q (holds_hi a) (holds_lo b))
    (ends_apart a b p q a.hi b.hi in_p in_q (holds_hi a) (holds_hi b))

greatest_above_least : (a b : Interval)
    → small_units (greatest_product a b) ≤ℚ small_units (least_product a b) +ℚ spread a b
greatest_above_least a b =
    of_greatest_product (λ z. small_units z ≤ℚ small_units (least_product a b) +ℚ spread a b) a b
    (above_least_by_spread a b a.lo b.lo (holds_lo a) (holds_lo b))
    (above_least_by_spread a b a.lo b.hi (holds_lo a) (holds_hi b))
    (above_least_by_spread a b a.hi b.lo (holds_hi a) (holds_lo b))
    (above_least_by_spread a b a.hi b.hi (holds_hi a) (holds_hi b))

pub floor_is_near : (n : ℤ) → small_units n ≤ℚ units (floor_of n (pos (2 ^ 64))) +ℚ units (pos 1)
floor_is_near n =
    let some : pos 0 <ℤ pos (2 ^ 64) = omega (arith, ints) in
    let high = floor_high n (pos (2 ^ 64)) some in
    rw (← over_add (floor_of n (pos (2 ^ 64))) (pos 1) (2 ^ 64))
    (over_le_of_cross n (floor_of n (pos (2 ^ 64)) +ℤ pos 1) (2 ^ 64 * 2 ^ 64) (2 ^ 64) (omega arith) (omega arith)
    (omega (arith, ints)))

pub ceiling_is_near : (n : ℤ) → units (ceiling_of n (pos (2 ^ 64))) -ℚ units (pos 1) ≤ℚ small_units n
ceiling_is_near n =
    let some : pos 0 <ℤ pos (2 ^ 64) = omega (arith, ints) in
    let low = ceiling_low n (pos (2 ^ 64)) some in
    rw (← over_sub (ceiling_of n (pos (2 ^ 64))) (pos 1) (2 ^ 64))
    (over_le_of_cross (ceiling_of n (pos (2 ^ 64)) -ℤ pos 1) n (2 ^ 64) (2 ^ 64 * 2 ^ 64) (omega arith) (omega arith)
    (omega (arith, ints)))

pub product_width : (a b : Interval)
    → units (product_hi a b) -ℚ units (product_lo a b) ≤ℚ spread a b +ℚ units (pos 2)
product_width a b = bound (small_units (greatest_product a b)) (small_units (least_product a b))
    (units (product_hi a b)) (units (product_lo a b)) (spread a b)
    (greatest_above_least a b) (ceiling_is_near (greatest_product a b)) (floor_is_near (least_product a b))
  where
    bound : (g l h f s : Fraction) → g ≤ℚ l +ℚ s → h -ℚ units (pos 1) ≤ℚ g → l ≤ℚ f +ℚ units (pos 1)
        → h -ℚ f ≤ℚ s +ℚ units (pos 2)
    bound g l h f s first second third =
        linear (g ∷ l ∷ h ∷ f ∷ s ∷ []) (first ⊞ second ⊞ third) (hlevel claims) refl

-- ---- sizes

small_size : (a b : Interval) (p q : ℤ) → LiesIn (units p) a → LiesIn (units q) b
    → size (small_units (p *ℤ q)) ≤ℚ extent a *ℚ extent b
small_size a b p q in_p in_q =
    rw (← units_mul p q) (le_trans (le_of_equal (size_mul (units p) (units q)))
    (mul_mono (size_le_extent a (units p) in_p) (size_le_extent b (units q) in_q) (size_natural (units p))
    (extent_natural b)))

near_size : (z n r : Fraction) → n ≤ℚ z +ℚ units (pos 1) → z ≤ℚ n +ℚ units (pos 1) → size n ≤ℚ r
    → size z ≤ℚ r +ℚ units (pos 1)
near_size z n r low high h = size_le
    (linear (z ∷ n ∷ r ∷ size n ∷ []) (high ⊞ le_size n ⊞ h) (hlevel claims) refl)
    (linear (z ∷ n ∷ r ∷ size n ∷ []) (low ⊞ opposite_le_size n ⊞ h) (hlevel claims) refl)

pub product_lo_size : (a b : Interval) → size (units (product_lo a b)) ≤ℚ extent a *ℚ extent b +ℚ units (pos 1)
product_lo_size a b =
    let n = least_product a b in
    let below = floor_is_below n in
    near_size (units (product_lo a b)) (small_units n) (extent a *ℚ extent b) (floor_is_near n)
    (weaker (units (product_lo a b)) (small_units n) below)
    (of_least_product (λ z. size (small_units z) ≤ℚ extent a *ℚ extent b) a b
    (small_size a b a.lo b.lo (holds_lo a) (holds_lo b)) (small_size a b a.lo b.hi (holds_lo a) (holds_hi b))
    (small_size a b a.hi b.lo (holds_hi a) (holds_lo b)) (small_size a b a.hi b.hi (holds_hi a) (holds_hi b)))
  where
    weaker : (x y : Fraction) → x ≤ℚ y → x ≤ℚ y +ℚ units (pos 1)
    weaker x y h = linear (x ∷ y ∷ []) h (hlevel claims) refl

pub product_hi_size : (a b : Interval) → size (units (product_hi a b)) ≤ℚ extent a *ℚ extent b +ℚ units (pos 1)
product_hi_size a b =
    let n = greatest_product a b in
    let above = ceiling_is_above n in
    near_size (units (product_hi a b)) (small_units n) (extent a *ℚ extent b)
    (weaker (small_units n) (units (product_hi a b)) above)
    (moved (units (product_hi a b)) (small_units n) (ceiling_is_near n))
    (of_greatest_product (λ z. size (small_units z) ≤ℚ extent a *ℚ extent b) a b
    (small_size a b a.lo b.lo (holds_lo a) (holds_lo b)) (small_size a b a.lo b.hi (holds_lo a) (holds_hi b))
    (small_size a b a.hi b.lo (holds_hi a) (holds_lo b)) (small_size a b a.hi b.hi (holds_hi a) (holds_hi b)))
  where
    weaker : (x y : Fraction) → x ≤ℚ y → x ≤ℚ y +ℚ units (pos 1)
    weaker x y h = linear (x ∷ y ∷ []) h (hlevel claims) refl

    moved : (x y : Fraction) → x -ℚ units (pos 1) ≤ℚ y → x ≤ℚ y +ℚ units (pos 1)
    moved x y h = linear (x ∷ y ∷ []) h (hlevel claims) refl
