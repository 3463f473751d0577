-- From the map of a cell to the map of a month.
use Rattle.std.proofs.Common.{ℕ, ◌^◌, ◌≤◌, ℤ, pos, neg_ℤ, arith, sym, ap, ◌∙◌}
use Rattle.std.specs.Prelude.{[], ◌∷◌, refl, unsigned_abs}
use Rattle.std.proofs.lemmas.Int.{ints}
use Rattle.frac_laws.specs.Fraction.{Fraction, whole, size, ◌+ℚ◌, ◌*ℚ◌, ◌≤ℚ◌}
use Rattle.frac_laws.specs.Sums.{sum_to}
use Rattle.frac_laws.proofs.FractionTerms.{ring, terms}
use Rattle.frac_laws.proofs.Linear.{linear, claims, natural, ◌⊞◌, ◌⊠◌}
use Rattle.frac_laws.proofs.Extremes.{le_greater_left, le_greater_right, greater_le}
use Rattle.frac_laws.proofs.Order.{le_refl, le_trans, le_of_equal, add_mono}
use Rattle.frac_laws.proofs.Quotients.{over-opposite}
use Rattle.frac_laws.proofs.Sizes.{size_natural, size_mul, le_size, opposite_le_size, size_le}
use Rattle.frac_laws.proofs.Sums.{sum_to_mono, sum_to_add, sum_to_scale, sum_to_scale_right, sum_to_exchange}
use Rattle.frac_laws.proofs.Sums.{sum_to_ext, sum_to_zero, size-sum_to}
use Rattle.fixed_interval.specs.declared.interval.Interval.{Interval}
use Rattle.linear_system.specs.StandsFor.{units}
use Rattle.fixed_interval.specs.Intervals.{LiesIn, HasEndsUpTo}
use Rattle.fixed_interval.proofs.Enclosing.{le_of_units}
use Rattle.map_laws.specs.Maps.{AffineMap, twice}
use Rattle.map_laws.specs.Widths.{width, extent}
use Rattle.map_laws.specs.CellMaps.{TwiceIsAppliedTwice, DoubledMapsGrow, CellMapsAreNarrow}
use Rattle.map_laws.specs.CellMaps.{RowsWithin, doubled}
use Rattle.map_laws.proofs.Narrow.{row_of_products, sum_with_const}

-- ---- applied twice

pub twice_is_applied_twice : TwiceIsAppliedTwice
twice_is_applied_twice d a y row =
    ap (λ z. (a.free row +ℚ sum_to d (λ l. a.at row l *ℚ a.free l)) +ℚ z)
    (sum_to_ext d (λ k b. sym (sum_to_scale_right d (y k) (λ l. a.at row l *ℚ a.at l k)))
    ∙ sum_to_exchange d d (λ k l. a.at row l *ℚ a.at l k *ℚ y k)
    ∙ sum_to_ext d (λ l b. sum_to_ext d (λ k c. ring (a.at row l ∷ a.at l k ∷ y k ∷ []) (hlevel terms) refl)
    ∙ sum_to_scale d (a.at row l) (λ k. a.at l k *ℚ y k)))
    ∙ ring (a.free row ∷ sum_to d (λ l. a.at row l *ℚ a.free l)
    ∷ sum_to d (λ l. a.at row l *ℚ sum_to d (λ k. a.at l k *ℚ y k)) ∷ []) (hlevel terms) refl
    ∙ ap (λ z. a.free row +ℚ z)
    (sym (sum_to_add d (λ l. a.at row l *ℚ a.free l) (λ l. a.at row l *ℚ sum_to d (λ k. a.at l k *ℚ y k)))
    ∙ sum_to_ext d (λ l b. ring (a.at row l ∷ a.free l ∷ sum_to d (λ k. a.at l k *ℚ y k) ∷ []) (hlevel terms) refl))

-- ---- growth

twice_grows : (d : ℕ) (p : Fraction) (a : AffineMap) → whole (pos 0) ≤ℚ p → RowsWithin d p a
    → RowsWithin d (p *ℚ p) (twice d a)
twice_grows d p a some rows row b =
    le_trans (sum_to_mono d (λ k c. le_trans (size-sum_to d (λ l. a.at row l *ℚ a.at l k))
    (le_of_equal (sum_to_ext d (λ l e. size_mul (a.at row l) (a.at l k))))))
    (row_of_products d p p (λ l. size (a.at row l)) (λ l k. size (a.at l k)) (λ l c. size_natural (a.at row l))
    (rows row b) (λ l c. rows l c) some)

square_natural : (x : Fraction) → whole (pos 0) ≤ℚ x → whole (pos 0) ≤ℚ x *ℚ x
square_natural x h = linear (x ∷ []) (h ⊠ h) (hlevel claims) refl

pub doubled_maps_grow : DoubledMapsGrow
doubled_maps_grow d p a some rows =
    let p1 = p *ℚ p in let s1 = square_natural p some in
    let p2 = p1 *ℚ p1 in let s2 = square_natural p1 s1 in
    let p3 = p2 *ℚ p2 in let s3 = square_natural p2 s2 in
    let p4 = p3 *ℚ p3 in let s4 = square_natural p3 s3 in
    let one = twice_grows d p a some rows in
    let two = twice_grows d p1 (doubled d 1 a) s1 one in
    let three = twice_grows d p2 (doubled d 2 a) s2 two in
    let four = twice_grows d p3 (doubled d 3 a) s3 three in
    let five = twice_grows d p4 (doubled d 4 a) s4 four in
    λ row b. le_trans (five row b) (le_of_equal (ring (p ∷ []) (hlevel terms) refl))

-- ---- the start

extent_by_width : (a : Interval) (x : Fraction) → LiesIn x a → extent a ≤ℚ size x +ℚ width a
extent_by_width a x held = greater_le (size (units a.lo)) (size (units a.hi))
    (size_le
    (linear (x ∷ size x ∷ units a.lo ∷ units a.hi ∷ []) (le_size x ⊞ held.at_least ⊞ held.at_least ⊞ held.at_most)
    (hlevel claims) refl)
    (linear (x ∷ size x ∷ units a.lo ∷ units a.hi ∷ []) (opposite_le_size x ⊞ held.at_most) (hlevel claims) refl))
    (size_le
    (linear (x ∷ size x ∷ units a.lo ∷ units a.hi ∷ []) (le_size x ⊞ held.at_least) (hlevel claims) refl)
    (linear (x ∷ size x ∷ units a.lo ∷ units a.hi ∷ []) (opposite_le_size x ⊞ held.at_most ⊞ held.at_most ⊞
    held.at_least) (hlevel claims) refl))

pub cell_maps_are_narrow : CellMapsAreNarrow
cell_maps_are_narrow d m a few cell = record {
  rows_fit = λ row r.
      le_trans (sum_with_const d (units (pos 64)) (λ col. extent (m.at row col)) (λ col. size (a.at row col)) few
      (natural 64 (2 ^ 64)) (λ col c. le_trans (extent_by_width (m.at row col) (a.at row col)
      (cell.holds.at row col r c))
      (add_mono (le_refl _) (cell.narrow row col r c))))
      (linear (sum_to d (λ col. size (a.at row col)) ∷ []) (cell.rows row r) (hlevel claims) refl);
  rows_narrow = λ row r.
      le_trans (sum_with_const d (units (pos 64)) (λ col. width (m.at row col)) (λ col. whole (pos 0)) few
      (natural 64 (2 ^ 64)) (λ col c. le_trans (cell.narrow row col r c)
      (linear [] (natural 0 1) (hlevel claims) refl)))
      (rw (sum_to_zero d) (linear [] (natural 0 1) (hlevel claims) refl));
  free_fits = λ row r.
      le_trans (extent_by_width (m.free row) (a.free row) (cell.holds.free row r))
      (linear (size (a.free row) ∷ width (m.free row) ∷ []) (cell.free_small row r ⊞ cell.free_narrow row r)
      (hlevel claims) refl);
  free_narrow = λ row r. cell.free_narrow row r;
}

-- ---- ends

pub small_end : (n : ℤ) → size (units n) ≤ℚ whole (pos 2) → unsigned_abs n ≤ 2 ^ 65
small_end n h =
    let above : units n ≤ℚ units (pos (2 ^ 65)) = le_trans (le_size (units n)) (le_trans h two) in
    let below : units (neg_ℤ n) ≤ℚ units (pos (2 ^ 65)) = rw (over-opposite n (2 ^ 64))
    (le_trans (opposite_le_size (units n)) (le_trans h two)) in
    let high = le_of_units n (pos (2 ^ 65)) above in
    let low = le_of_units (neg_ℤ n) (pos (2 ^ 65)) below in
    omega (arith, ints)
  where
    two : whole (pos 2) ≤ℚ units (pos (2 ^ 65))
    two = linear [] (natural 0 1) (hlevel claims) refl

-- an interval of an extent of at most 2 has ends of at most 2^65 units
pub within : (a : Interval) (r : Fraction) → extent a ≤ℚ r → r ≤ℚ whole (pos 2) → HasEndsUpTo (2 ^ 65) a
within a r h k = record {
  lo = small_end a.lo (le_trans (le_greater_left (size (units a.lo)) (size (units a.hi))) (le_trans h k));
  hi = small_end a.hi (le_trans (le_greater_right (size (units a.lo)) (size (units a.hi))) (le_trans h k));
}
