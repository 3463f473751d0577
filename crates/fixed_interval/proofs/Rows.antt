-- A row's value at exact numbers, product by product.
use Rattle.std.proofs.Common.{◌≡◌, ℕ, suc, ◌+◌, ◌*◌, ◌^◌, ◌≤◌, ℤ, pos, ◌+ℤ◌, ◌*ℤ◌, ◌<ℤ◌, List, [], ◌∷◌, length}
use Rattle.std.proofs.Common.{refl, arith, sym, subst, ap, ◌∙◌, inl, inr}
use Rattle.std.specs.Prelude.{unsigned_abs, ◌⊎◌}
use Rattle.std.specs.Int.{int_min, int_max}
use Rattle.std.proofs.Math.Nat.{mul-le-mul}
use Rattle.std.proofs.lemmas.Int.{ints, clamps, unsigned_abs-mul}
use Rattle.frac_base.proofs.WholeTerms as W
use Rattle.frac_laws.specs.Fraction.{Fraction, over, whole, ◌+ℚ◌, ◌*ℚ◌, ◌≤ℚ◌}
use Rattle.frac_laws.specs.Lists.{Vector, dot}
use Rattle.frac_laws.specs.Rounding.{floor_of, ceiling_of}
use Rattle.frac_laws.proofs.Extremes.{greater_le, le_lesser, product_le_ends, ends_le_product}
use Rattle.frac_laws.proofs.Linear.{linear, claims, natural}
use Rattle.frac_laws.proofs.Order.{le_trans}
use Rattle.frac_laws.proofs.Quotients.{over_le_of_cross}
use Rattle.frac_laws.proofs.RoundingLaws.{floor_low, floor_high, ceiling_low, ceiling_high}
use Rattle.fixed_interval.specs.declared.interval.Interval.{Interval}
use Rattle.fixed_interval.specs.Intervals.{LiesIn, HasEndsUpTo}
use Rattle.fixed_interval.specs.Products.{low_end, high_end}
use Rattle.fixed_interval.specs.Rows.{fractions_of, low_ends, high_ends, LiesInRow}
use Rattle.fixed_interval.proofs.Enclosing.{below_product, above_product, floor_is_below, ceiling_is_above}
use Rattle.fixed_interval.proofs.Enclosing.{low_sum, high_sum}

-- ---- sizes of a product's ends

product_small : (m n : ℤ) → unsigned_abs m ≤ 2 ^ 66 → unsigned_abs n ≤ 2 ^ 66 → unsigned_abs (m *ℤ n) ≤ 2 ^ 132
product_small m n first second = omega (arith, unsigned_abs-mul m n, mul-le-mul first second)

pub low_end_small : (m : ℤ) (i : Interval) → unsigned_abs m ≤ 2 ^ 66 → HasEndsUpTo (2 ^ 66) i
    → unsigned_abs (low_end m i) ≤ 2 ^ 68
low_end_small m i small ends =
    floor_small (int_min (m *ℤ i.lo) (m *ℤ i.hi))
    (least (m *ℤ i.lo) (m *ℤ i.hi) (product_small m i.lo small ends.lo) (product_small m i.hi small ends.hi))
  where
    least : (x y : ℤ) → unsigned_abs x ≤ 2 ^ 132 → unsigned_abs y ≤ 2 ^ 132 → unsigned_abs (int_min x y) ≤ 2 ^ 132
    least x y first second = omega (arith, ints, clamps)

    floor_small : (z : ℤ) → unsigned_abs z ≤ 2 ^ 132 → unsigned_abs (floor_of z (pos (2 ^ 64))) ≤ 2 ^ 68
    floor_small z most =
        let some : pos 0 <ℤ pos (2 ^ 64) = omega (arith, ints) in
        let below = floor_low z (pos (2 ^ 64)) some in
        let above = floor_high z (pos (2 ^ 64)) some in
        omega (arith, ints)

pub high_end_small : (m : ℤ) (i : Interval) → unsigned_abs m ≤ 2 ^ 66 → HasEndsUpTo (2 ^ 66) i
    → unsigned_abs (high_end m i) ≤ 2 ^ 68
high_end_small m i small ends =
    ceiling_small (int_max (m *ℤ i.lo) (m *ℤ i.hi))
    (greatest (m *ℤ i.lo) (m *ℤ i.hi) (product_small m i.lo small ends.lo) (product_small m i.hi small ends.hi))
  where
    greatest : (x y : ℤ) → unsigned_abs x ≤ 2 ^ 132 → unsigned_abs y ≤ 2 ^ 132 → unsigned_abs (int_max x y) ≤ 2 ^ 132
    greatest x y first second = omega (arith, ints, clamps)

    ceiling_small : (z : ℤ) → unsigned_abs z ≤ 2 ^ 132 → unsigned_abs (ceiling_of z (pos (2 ^ 64))) ≤ 2 ^ 68
    ceiling_small z most =
        let some : pos 0 <ℤ pos (2 ^ 64) = omega (arith, ints) in
        let below = ceiling_low z (pos (2 ^ 64)) some in
        let above = ceiling_high z (pos (2 ^ 64)) some in
        omega (arith, ints)

-- ---- what a product's ends hold

turned : (m n : ℤ) → m *ℤ n ≡ n *ℤ m
turned m n = W.ring (m ∷ n ∷ []) (hlevel W.terms) refl

pub low_end_below : (i : Interval) (x : Fraction) (m : ℤ) → LiesIn x i
    → over (low_end m i) (2 ^ 64) ≤ℚ x *ℚ over m (2 ^ 64)
low_end_below i x m held =
    let least = int_min (m *ℤ i.lo) (m *ℤ i.hi) in
    let at_lo = turned m i.lo in
    let at_hi = turned m i.hi in
    le_trans (floor_is_below least)
    (le_trans
    (le_lesser _ _ (below_product least i.lo m (omega (arith, ints, clamps)))
    (below_product least i.hi m (omega (arith, ints, clamps))))
    (ends_le_product (over m (2 ^ 64)) held.at_least held.at_most))

pub high_end_above : (i : Interval) (x : Fraction) (m : ℤ) → LiesIn x i
    → x *ℚ over m (2 ^ 64) ≤ℚ over (high_end m i) (2 ^ 64)
high_end_above i x m held =
    let most = int_max (m *ℤ i.lo) (m *ℤ i.hi) in
    let at_lo = turned m i.lo in
    let at_hi = turned m i.hi in
    le_trans (product_le_ends (over m (2 ^ 64)) held.at_least held.at_most)
    (le_trans
    (greater_le _ _ (above_product most i.lo m (omega (arith, ints, clamps)))
    (above_product most i.hi m (omega (arith, ints, clamps))))
    (ceiling_is_above most))

zero_low : over (pos 0) (2 ^ 64) ≤ℚ whole (pos 0)
zero_low = over_le_of_cross (pos 0) (pos 0) (2 ^ 64) 1 (omega arith) (omega arith) (omega (arith, ints))

zero_high : whole (pos 0) ≤ℚ over (pos 0) (2 ^ 64)
zero_high = over_le_of_cross (pos 0) (pos 0) 1 (2 ^ 64) (omega arith) (omega arith) (omega (arith, ints))

row_low : (row : List Interval) (xs : Vector) (mid : List ℤ) → length mid ≡ length row → LiesInRow xs row
    → over (low_ends row mid) (2 ^ 64) ≤ℚ dot xs (fractions_of mid)
row_low [] [] [] lengths held = zero_low
row_low [] (x ∷ xs) [] lengths held = zero_low
row_low [] xs (m ∷ mid) lengths held = absurd (omega arith)
row_low (i ∷ row) xs [] lengths held = absurd (omega arith)
row_low (i ∷ row) [] (m ∷ mid) lengths held =
    le_trans (low_sum (low_end m i) (low_ends row mid) _ _
    (low_end_below i (whole (pos 0)) m held.0) (row_low row [] mid (omega arith) held.1))
    (linear (over m (2 ^ 64) ∷ []) (natural 0 1) (hlevel claims) refl)
row_low (i ∷ row) (x ∷ xs) (m ∷ mid) lengths held =
    low_sum (low_end m i) (low_ends row mid) (x *ℚ over m (2 ^ 64)) (dot xs (fractions_of mid))
    (low_end_below i x m held.0) (row_low row xs mid (omega arith) held.1)

row_high : (row : List Interval) (xs : Vector) (mid : List ℤ) → length mid ≡ length row → LiesInRow xs row
    → dot xs (fractions_of mid) ≤ℚ over (high_ends row mid) (2 ^ 64)
row_high [] [] [] lengths held = zero_high
row_high [] (x ∷ xs) [] lengths held = zero_high
row_high [] xs (m ∷ mid) lengths held = absurd (omega arith)
row_high (i ∷ row) xs [] lengths held = absurd (omega arith)
row_high (i ∷ row) [] (m ∷ mid) lengths held =
    le_trans (linear (over m (2 ^ 64) ∷ []) (natural 0 1) (hlevel claims) refl)
    (high_sum (high_end m i) (high_ends row mid) (whole (pos 0) *ℚ over m (2 ^ 64)) (whole (pos 0))
    (high_end_above i (whole (pos 0)) m held.0) (row_high row [] mid (omega arith) held.1))
row_high (i ∷ row) (x ∷ xs) (m ∷ mid) lengths held =
    high_sum (high_end m i) (high_ends row mid) (x *ℚ over m (2 ^ 64)) (dot xs (fractions_of mid))
    (high_end_above i x m held.0) (row_high row xs mid (omega arith) held.1)

-- ---- the sum on its way: with the products that are left it is the whole row

pub record IsPartialRow (row : List Interval) (mid : List ℤ) (free sum : Interval) (row_left : List Interval)
    (mid_left : List ℤ) : Type 0 where
  pub lo : sum.lo +ℤ low_ends row_left mid_left ≡ free.lo +ℤ low_ends row mid
  pub hi : sum.hi +ℤ high_ends row_left mid_left ≡ free.hi +ℤ high_ends row mid
  pub lo_small : unsigned_abs sum.lo + length row_left * 2 ^ 68 ≤ 2 ^ 66 + 24 * 2 ^ 68
  pub hi_small : unsigned_abs sum.hi + length row_left * 2 ^ 68 ≤ 2 ^ 66 + 24 * 2 ^ 68

one_more : (s p r t : ℤ) → s +ℤ (p +ℤ r) ≡ t → (s +ℤ p) +ℤ r ≡ t
one_more s p r t h = omega (arith, ints)

pub next_partial_row : (row : List Interval) (mid : List ℤ) (free sum product next i : Interval) (m : ℤ)
    (row_all row_left : List Interval) (mid_all mid_left : List ℤ)
    → IsPartialRow row mid free sum row_all mid_all → row_all ≡ i ∷ row_left → mid_all ≡ m ∷ mid_left
    → product.lo ≡ low_end m i → product.hi ≡ high_end m i → HasEndsUpTo (2 ^ 68) product
    → next.lo ≡ sum.lo +ℤ product.lo → next.hi ≡ sum.hi +ℤ product.hi
    → IsPartialRow row mid free next row_left mid_left
next_partial_row row mid free sum product next i m row_all row_left mid_all mid_left so_far row_is mid_is
    product_lo product_hi small next_lo next_hi =
    let lo = rw (row_is, mid_is) at so_far.lo in
    let hi = rw (row_is, mid_is) at so_far.hi in
    let count = ap length row_is in
    record {
      lo = ap (λ z. z +ℤ low_ends row_left mid_left) (next_lo ∙ ap (λ z. sum.lo +ℤ z) product_lo)
          ∙ one_more sum.lo (low_end m i) (low_ends row_left mid_left) _ lo;
      hi = ap (λ z. z +ℤ high_ends row_left mid_left) (next_hi ∙ ap (λ z. sum.hi +ℤ z) product_hi)
          ∙ one_more sum.hi (high_end m i) (high_ends row_left mid_left) _ hi;
      lo_small = still_small sum.lo product.lo next.lo (length row_left) (length row_all) so_far.lo_small small.lo
          next_lo count;
      hi_small = still_small sum.hi product.hi next.hi (length row_left) (length row_all) so_far.hi_small small.hi
          next_hi count;
    }
  where
    still_small : (s p n : ℤ) (left all : ℕ) → unsigned_abs s + all * 2 ^ 68 ≤ 2 ^ 66 + 24 * 2 ^ 68
        → unsigned_abs p ≤ 2 ^ 68 → n ≡ s +ℤ p → all ≡ suc left
        → unsigned_abs n + left * 2 ^ 68 ≤ 2 ^ 66 + 24 * 2 ^ 68
    still_small s p n left all so_far small is count = omega (arith, ints)

-- at the end nothing is left
nothing_more : (s t : ℤ) → s +ℤ pos 0 ≡ t → s ≡ t
nothing_more s t h = omega (arith, ints)

pub whole_row_low : (row_left : List Interval) (mid_left : List ℤ) (s t : ℤ)
    → (length row_left ≡ 0) ⊎ (length mid_left ≡ 0) → s +ℤ low_ends row_left mid_left ≡ t → s ≡ t
whole_row_low [] mid_left s t done h = nothing_more s t h
whole_row_low (i ∷ row_left) [] s t done h = nothing_more s t h
whole_row_low (i ∷ row_left) (m ∷ mid_left) s t done h =
    absurd (elim done [ inl e ↦ omega (arith, e) | inr e ↦ omega (arith, e) ])

pub whole_row_high : (row_left : List Interval) (mid_left : List ℤ) (s t : ℤ)
    → (length row_left ≡ 0) ⊎ (length mid_left ≡ 0) → s +ℤ high_ends row_left mid_left ≡ t → s ≡ t
whole_row_high [] mid_left s t done h = nothing_more s t h
whole_row_high (i ∷ row_left) [] s t done h = nothing_more s t h
whole_row_high (i ∷ row_left) (m ∷ mid_left) s t done h =
    absurd (elim done [ inl e ↦ omega (arith, e) | inr e ↦ omega (arith, e) ])

-- the row's value and the free number lie between the whole sums
pub lies_in_sum : (row : List Interval) (free sum : Interval) (mid : List ℤ) (xs : Vector) (f : Fraction)
    → length mid ≡ length row → LiesInRow xs row → LiesIn f free
    → sum.lo ≡ free.lo +ℤ low_ends row mid → sum.hi ≡ free.hi +ℤ high_ends row mid
    → LiesIn (f +ℚ dot xs (fractions_of mid)) sum
lies_in_sum row free sum mid xs f lengths held free_held lo hi =
    let value = dot xs (fractions_of mid) in
    let L : ℤ → Type 0 = λ z. over z (2 ^ 64) ≤ℚ f +ℚ dot xs (fractions_of mid) in
    let H : ℤ → Type 0 = λ z. f +ℚ dot xs (fractions_of mid) ≤ℚ over z (2 ^ 64) in
    record {
      at_least = subst L (sym lo)
          (low_sum free.lo (low_ends row mid) f value free_held.at_least (row_low row xs mid lengths held));
      at_most = subst H (sym hi)
          (high_sum free.hi (high_ends row mid) f value free_held.at_most (row_high row xs mid lengths held));
    }
