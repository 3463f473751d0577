-- The middle of a row's interval is near each value that the row may have.
use Rattle.std.proofs.Common.{ℕ, ◌+◌, ◌^◌, ◌<◌, ◌≤◌, ℤ, pos, ◌+ℤ◌, ◌*ℤ◌, arith}
use Rattle.std.proofs.Common.{sym, subst}
use Rattle.std.specs.Prelude.{[], ◌∷◌, refl}
use Rattle.std.specs.Int.{int_min, int_max}
use Rattle.std.proofs.lemmas.Int.{ints}
use Rattle.frac_laws.specs.Fraction.{Fraction, over, whole, size, opposite, ◌+ℚ◌, ◌-ℚ◌, ◌*ℚ◌, ◌≤ℚ◌}
use Rattle.frac_laws.specs.Rounding.{floor_of}
use Rattle.frac_laws.specs.Sums.{sum_to}
use Rattle.frac_laws.proofs.Linear.{linear, claims, natural, ◌⊞◌, ◌⊠◌}
use Rattle.frac_laws.proofs.Order.{le_refl, le_trans}
use Rattle.frac_laws.proofs.RoundingLaws.{floor_low, floor_high}
use Rattle.frac_laws.proofs.Sizes.{size_le}
use Rattle.frac_laws.proofs.Sums.{sum_to_sub}
use Rattle.frac_laws.proofs.Quotients.{units_le}
use Rattle.fixed_interval.specs.declared.interval.Interval.{Interval}
use Rattle.linear_system.specs.StandsFor.{units}
use Rattle.fixed_interval.specs.Intervals.{LiesIn}
use Rattle.fixed_interval.specs.Products.{low_end, high_end}
use Rattle.fixed_interval.proofs.Enclosing.{small_units, units_mul, low_sum, high_sum}
use Rattle.fixed_interval.proofs.Rows.{low_end_below, high_end_above}
use Rattle.map_laws.specs.Maps.{total}
use Rattle.map_laws.specs.Widths.{width}
use Rattle.map_laws.specs.Applied.{MiddlesAreNear, value_at, lo_at, hi_at}
use Rattle.map_laws.proofs.Doublings.{units_add, units-total, total_low, total_high}
use Rattle.map_laws.proofs.Narrow.{sum_with_const, weighted_sum}
use Rattle.map_laws.proofs.ProductWidths.{holds_lo, holds_hi, apart_le_width, width_natural, floor_is_near}
use Rattle.map_laws.proofs.ProductWidths.{ceiling_is_near, product_le_sizes}
use Rattle.whole_laws.proofs.Extremes.{lesser_whole-has, greater_whole-has}

-- ---- the width of an interval's product with a number

ends_apart : (a : Interval) (p q number : ℤ) → LiesIn (units p) a → LiesIn (units q) a
    → small_units (number *ℤ p) ≤ℚ small_units (number *ℤ q) +ℚ width a *ℚ size (units number)
ends_apart a p q number in_p in_q =
    rw (← units_mul number p, ← units_mul number q)
    (bound (units p) (units q) (units number) (width a *ℚ size (units number))
    (product_le_sizes (units p -ℚ units q) (units number) (width a) (size (units number))
    (apart_le_width a (units p) (units q) in_p in_q) (le_refl (size (units number)))))
  where
    bound : (x y z r : Fraction) → (x -ℚ y) *ℚ z ≤ℚ r → z *ℚ x ≤ℚ z *ℚ y +ℚ r
    bound x y z r h = linear (x ∷ y ∷ z ∷ r ∷ []) h (hlevel claims) refl

greatest_above_least : (a : Interval) (number : ℤ)
    → small_units (int_max (number *ℤ a.lo) (number *ℤ a.hi))
    ≤ℚ small_units (int_min (number *ℤ a.lo) (number *ℤ a.hi)) +ℚ width a *ℚ size (units number)
greatest_above_least a number =
    greater_whole-has (λ z. small_units z ≤ℚ small_units (int_min (number *ℤ a.lo) (number *ℤ a.hi))
    +ℚ width a *ℚ size (units number)) (number *ℤ a.lo) (number *ℤ a.hi)
    (lesser_whole-has (λ z. small_units (number *ℤ a.lo) ≤ℚ small_units z +ℚ width a *ℚ size (units number))
    (number *ℤ a.lo) (number *ℤ a.hi)
    (ends_apart a a.lo a.lo number (holds_lo a) (holds_lo a))
    (ends_apart a a.lo a.hi number (holds_lo a) (holds_hi a)))
    (lesser_whole-has (λ z. small_units (number *ℤ a.hi) ≤ℚ small_units z +ℚ width a *ℚ size (units number))
    (number *ℤ a.lo) (number *ℤ a.hi)
    (ends_apart a a.hi a.lo number (holds_hi a) (holds_lo a))
    (ends_apart a a.hi a.hi number (holds_hi a) (holds_hi a)))

product_width : (a : Interval) (number : ℤ)
    → units (high_end number a) -ℚ units (low_end number a)
    ≤ℚ width a *ℚ size (units number) +ℚ units (pos 2)
product_width a number =
    let greatest = int_max (number *ℤ a.lo) (number *ℤ a.hi) in
    let least = int_min (number *ℤ a.lo) (number *ℤ a.hi) in
    bound (small_units greatest) (small_units least) (units (high_end number a)) (units (low_end number a))
    (width a *ℚ size (units number)) (greatest_above_least a number) (ceiling_is_near greatest) (floor_is_near least)
  where
    bound : (g l h f s : Fraction) → g ≤ℚ l +ℚ s → h -ℚ units (pos 1) ≤ℚ g → l ≤ℚ f +ℚ units (pos 1)
        → h -ℚ f ≤ℚ s +ℚ units (pos 2)
    bound g l h f s first second third =
        linear (g ∷ l ∷ h ∷ f ∷ s ∷ []) (first ⊞ second ⊞ third) (hlevel claims) refl

-- ---- the width of a row's value

total_width : (d : ℕ) (a : ℕ → Interval) (mid : ℕ → ℤ) (w r : Fraction) → d ≤ 12
    → sum_to d (λ col. width (a col)) ≤ℚ w → ((col : ℕ) → col < d → size (units (mid col)) ≤ℚ r)
    → whole (pos 0) ≤ℚ r
    → units (total d (λ col. high_end (mid col) (a col))) -ℚ units (total d (λ col. low_end (mid col) (a col)))
    ≤ℚ w *ℚ r +ℚ units (pos 24)
total_width d a mid w r few narrow small some =
    rw (units-total d (λ col. high_end (mid col) (a col)), units-total d (λ col. low_end (mid col) (a col)))
    (rw (← sum_to_sub d (λ col. units (high_end (mid col) (a col))) (λ col. units (low_end (mid col) (a col))))
    (le_trans (sum_with_const d (units (pos 2)) _ (λ col. width (a col) *ℚ size (units (mid col))) few
    (natural 2 (2 ^ 64)) (λ col b. product_width (a col) (mid col)))
    (rest (sum_to d (λ col. width (a col) *ℚ size (units (mid col)))) (w *ℚ r)
    (weighted_sum d w r (λ col. width (a col)) (λ col. size (units (mid col))) (λ col b. width_natural (a col))
    narrow small some))))
  where
    rest : (x y : Fraction) → x ≤ℚ y → x +ℚ whole (pos 12) *ℚ units (pos 2) ≤ℚ y +ℚ units (pos 24)
    rest x y h = linear (x ∷ y ∷ []) h (hlevel claims) refl

-- the floor of the middle of two whole numbers
middle_low : (lo hi : ℤ) → units (floor_of (lo +ℤ hi) (pos 2)) +ℚ units (floor_of (lo +ℤ hi) (pos 2))
    ≤ℚ units lo +ℚ units hi
middle_low lo hi =
    let new = floor_of (lo +ℤ hi) (pos 2) in
    let low = floor_low (lo +ℤ hi) (pos 2) (omega (arith, ints)) in
    rw (← units_add new new, ← units_add lo hi) (units_le (new +ℤ new) (lo +ℤ hi) (omega (arith, ints)))

middle_high : (lo hi : ℤ) → units lo +ℚ units hi
    ≤ℚ units (floor_of (lo +ℤ hi) (pos 2)) +ℚ units (floor_of (lo +ℤ hi) (pos 2)) +ℚ units (pos 1)
middle_high lo hi =
    let new = floor_of (lo +ℤ hi) (pos 2) in
    let high = floor_high (lo +ℤ hi) (pos 2) (omega (arith, ints)) in
    rw (← units_add new new, ← units_add (new +ℤ new) (pos 1), ← units_add lo hi)
    (units_le (lo +ℤ hi) ((new +ℤ new) +ℤ pos 1) (omega (arith, ints)))

-- a number from lo to hi is within half of the width and a half unit of the middle's floor
near_middle : (lo hi : ℤ) (x w : Fraction) → units lo ≤ℚ x → x ≤ℚ units hi → units hi -ℚ units lo ≤ℚ w
    → size (x -ℚ units (floor_of (lo +ℤ hi) (pos 2))) ≤ℚ over (pos 1) 2 *ℚ (w +ℚ units (pos 1))
near_middle lo hi x w least most narrow =
    bound (units lo) (units hi) x w (units (floor_of (lo +ℤ hi) (pos 2))) least most narrow
    (middle_low lo hi) (middle_high lo hi)
  where
    bound : (l h x w n : Fraction) → l ≤ℚ x → x ≤ℚ h → h -ℚ l ≤ℚ w → n +ℚ n ≤ℚ l +ℚ h
        → l +ℚ h ≤ℚ n +ℚ n +ℚ units (pos 1) → size (x -ℚ n) ≤ℚ over (pos 1) 2 *ℚ (w +ℚ units (pos 1))
    bound l h x w n least most narrow low high = size_le
        (halved (x -ℚ n) w (linear (l ∷ h ∷ x ∷ w ∷ n ∷ []) (most ⊞ most ⊞ narrow ⊞ high) (hlevel claims) refl))
        (halved_opposite x n w (linear (l ∷ h ∷ x ∷ w ∷ n ∷ []) (least ⊞ least ⊞ narrow ⊞ low) (hlevel claims) refl))
      where
        halved : (z w : Fraction) → z +ℚ z ≤ℚ w +ℚ units (pos 1) → z ≤ℚ over (pos 1) 2 *ℚ (w +ℚ units (pos 1))
        halved z w h = linear (z ∷ w ∷ []) (natural 1 2 ⊠ h) (hlevel claims) refl

        halved_opposite : (x n w : Fraction) → n -ℚ x +ℚ (n -ℚ x) ≤ℚ w +ℚ units (pos 1)
            → opposite (x -ℚ n) ≤ℚ over (pos 1) 2 *ℚ (w +ℚ units (pos 1))
        halved_opposite x n w h = linear (x ∷ n ∷ w ∷ []) (natural 1 2 ⊠ h) (hlevel claims) refl

pub middles_are_near : MiddlesAreNear
middles_are_near d m a mid new few narrow held applied small row b =
    let value = value_at d a (λ col. units (mid col)) row in
    let lo = lo_at d m mid row in
    let hi = hi_at d m mid row in
    let least : units lo ≤ℚ value = low_sum (m.free row).lo _ (a.free row) _ (held.free row b).at_least
    (total_low d (λ col. low_end (mid col) (m.at row col)) _
    (λ col c. low_end_below (m.at row col) (a.at row col) (mid col) (held.at row col b c))) in
    let most : value ≤ℚ units hi = high_sum (m.free row).hi _ (a.free row) _ (held.free row b).at_most
    (total_high d (λ col. high_end (mid col) (m.at row col)) _
    (λ col c. high_end_above (m.at row col) (a.at row col) (mid col) (held.at row col b c))) in
    let most_small = over (pos (2 ^ 19 + 1)) (2 ^ 19) in
    let widths = total_width d (λ col. m.at row col) mid (units (pos 34513)) most_small few
    (narrow.rows_narrow row b) small (natural (2 ^ 19 + 1) (2 ^ 19)) in
    let P : ℤ → Type 0 = λ z. size (value -ℚ units z) ≤ℚ units (pos 26218) in
    subst P (sym (applied.middle row b))
    (le_trans (near_middle lo hi value (units (pos 52434)) least most
    (row_width (m.free row).lo (m.free row).hi _ _ (narrow.free_narrow row b) widths))
    (linear [] (natural 0 1) (hlevel claims) refl))
  where
    row_width : (lo hi low high : ℤ) → units hi -ℚ units lo ≤ℚ units (pos 17896)
        → units high -ℚ units low ≤ℚ units (pos 34513) *ℚ over (pos (2 ^ 19 + 1)) (2 ^ 19) +ℚ units (pos 24)
        → units (hi +ℤ high) -ℚ units (lo +ℤ low) ≤ℚ units (pos 52434)
    row_width lo hi low high first second = rw (units_add hi high, units_add lo low)
        (linear (units lo ∷ units hi ∷ units low ∷ units high ∷ []) (first ⊞ second) (hlevel claims) refl)
