-- How large and how wide the numbers of a doubled map are.
use Rattle.std.proofs.Common.{◌≡◌, ℕ, ◌^◌, ◌<◌, ◌≤◌, ℤ, pos, ◌+ℤ◌, arith}
use Rattle.std.specs.Prelude.{[], ◌∷◌, refl}
use Rattle.std.proofs.lemmas.Int.{ints}
use Rattle.frac_laws.specs.Fraction.{Fraction, whole, size, ◌+ℚ◌, ◌-ℚ◌, ◌*ℚ◌, ◌≤ℚ◌}
use Rattle.frac_laws.specs.Sums.{sum_to}
use Rattle.frac_laws.proofs.Extremes.{greater_le, le_greater_left, le_greater_right}
use Rattle.frac_laws.proofs.Linear.{linear, claims, natural, ◌⊞◌, ◌⊠◌}
use Rattle.frac_laws.proofs.Order.{le_refl, le_trans, le_of_equal, add_mono}
use Rattle.frac_laws.proofs.Quotients.{whole_le}
use Rattle.frac_laws.proofs.Sizes.{size_add}
use Rattle.frac_laws.proofs.Sums.{sum_to_mono, sum_to_add, sum_to_sub, sum_to_scale, sum_to_scale_right}
use Rattle.frac_laws.proofs.Sums.{sum_to_exchange, sum_to_ext, size-sum_to}
use Rattle.fixed_interval.specs.declared.interval.Interval.{Interval}
use Rattle.linear_system.specs.StandsFor.{units}
use Rattle.taylor_step.proofs.StoredSizes.{sum_same}
use Rattle.map_laws.specs.Maps.{total, product_lo, product_hi}
use Rattle.map_laws.specs.Widths.{width, extent}
use Rattle.map_laws.specs.MapLaws.{DoublingsStayNarrow}
use Rattle.map_laws.proofs.Doublings.{units_add, units-total}
use Rattle.map_laws.proofs.ProductWidths.{extent_natural, width_natural, product_width, product_lo_size}
use Rattle.map_laws.proofs.ProductWidths.{product_hi_size, spread}

-- ---- sums of at most 12 terms

at_most_twelve : (d : ℕ) (c : Fraction) → d ≤ 12 → whole (pos 0) ≤ℚ c
    → sum_to d (λ k. c) ≤ℚ whole (pos 12) *ℚ c
at_most_twelve d c few h =
    let order : whole (pos d) ≤ℚ whole (pos 12) = whole_le (omega (arith, ints)) in
    rw (sum_same d c) (linear (whole (pos d) ∷ c ∷ []) (order ⊠ h) (hlevel claims) refl)

-- each term is at most a product and a constant
pub sum_with_const : (d : ℕ) (c : Fraction) (f g : ℕ → Fraction) → d ≤ 12 → whole (pos 0) ≤ℚ c
    → ((l : ℕ) → l < d → f l ≤ℚ g l +ℚ c) → sum_to d f ≤ℚ sum_to d g +ℚ whole (pos 12) *ℚ c
sum_with_const d c f g few some h =
    le_trans (sum_to_mono d h) (rw (sum_to_add d g (λ l. c)) (add_mono (le_refl _) (at_most_twelve d c few some)))

-- numbers that add up to at most x, each times a number of at most y
pub weighted_sum : (d : ℕ) (x y : Fraction) (f g : ℕ → Fraction) → ((l : ℕ) → l < d → whole (pos 0) ≤ℚ f l)
    → sum_to d f ≤ℚ x → ((l : ℕ) → l < d → g l ≤ℚ y) → whole (pos 0) ≤ℚ y
    → sum_to d (λ l. f l *ℚ g l) ≤ℚ x *ℚ y
weighted_sum d x y f g natural_f total_f bound some =
    le_trans (sum_to_mono d (λ l b. times (f l) (g l) y (natural_f l b) (bound l b)))
    (rw (sum_to_scale_right d y f) (linear (sum_to d f ∷ x ∷ y ∷ []) (total_f ⊠ some) (hlevel claims) refl))
  where
    times : (a b c : Fraction) → whole (pos 0) ≤ℚ a → b ≤ℚ c → a *ℚ b ≤ℚ a *ℚ c
    times a b c h k = linear (a ∷ b ∷ c ∷ []) (h ⊠ k) (hlevel claims) refl

-- the row sum of a product of matrices: the row's sum times the greatest row sum
pub row_of_products : (d : ℕ) (x y : Fraction) (f : ℕ → Fraction) (g : ℕ → ℕ → Fraction)
    → ((l : ℕ) → l < d → whole (pos 0) ≤ℚ f l) → sum_to d f ≤ℚ x
    → ((l : ℕ) → l < d → sum_to d (g l) ≤ℚ y) → whole (pos 0) ≤ℚ y
    → sum_to d (λ k. sum_to d (λ l. f l *ℚ g l k)) ≤ℚ x *ℚ y
row_of_products d x y f g natural_f total_f bound some =
    rw (sum_to_exchange d d (λ k l. f l *ℚ g l k))
    (le_trans (le_of_equal (sum_to_ext d (λ l b. sum_to_scale d (f l) (g l))))
    (weighted_sum d x y f (λ l. sum_to d (g l)) natural_f total_f bound some))

-- ---- one number of the doubled map

total_width : (d : ℕ) (a b : ℕ → Interval) → d ≤ 12
    → units (total d (λ l. product_hi (a l) (b l))) -ℚ units (total d (λ l. product_lo (a l) (b l)))
    ≤ℚ sum_to d (λ l. spread (a l) (b l)) +ℚ units (pos 24)
total_width d a b few =
    rw (units-total d (λ l. product_hi (a l) (b l)), units-total d (λ l. product_lo (a l) (b l)))
    (rw (← sum_to_sub d (λ l. units (product_hi (a l) (b l))) (λ l. units (product_lo (a l) (b l))))
    (le_trans (sum_with_const d (units (pos 2)) _ (λ l. spread (a l) (b l)) few (natural 2 (2 ^ 64))
    (λ l r. product_width (a l) (b l)))
    (linear (sum_to d (λ l. spread (a l) (b l)) ∷ []) (natural 0 1) (hlevel claims) refl)))

total_size : (d : ℕ) (f : ℕ → ℤ) (g : ℕ → Fraction) → d ≤ 12
    → ((l : ℕ) → l < d → size (units (f l)) ≤ℚ g l +ℚ units (pos 1))
    → size (units (total d f)) ≤ℚ sum_to d g +ℚ units (pos 12)
total_size d f g few h =
    rw (units-total d f) (le_trans (size-sum_to d (λ l. units (f l)))
    (le_trans (sum_with_const d (units (pos 1)) (λ l. size (units (f l))) g few (natural 1 (2 ^ 64)) h)
    (linear (sum_to d g ∷ []) (natural 0 1) (hlevel claims) refl)))

width_is : (s : Interval) (lo hi : ℤ) (r : Fraction) → s.lo ≡ lo → s.hi ≡ hi → units hi -ℚ units lo ≤ℚ r
    → width s ≤ℚ r
width_is s lo hi r e f h = rw (e, f) h

extent_is : (s : Interval) (lo hi : ℤ) (r : Fraction) → s.lo ≡ lo → s.hi ≡ hi → size (units lo) ≤ℚ r
    → size (units hi) ≤ℚ r → extent s ≤ℚ r
extent_is s lo hi r e f h k = rw (e, f) (greater_le (size (units lo)) (size (units hi)) h k)

sum_of_sizes : (lo t : ℤ) (c r : Fraction) → size (units lo) ≤ℚ c → size (units t) ≤ℚ r
    → size (units (lo +ℤ t)) ≤ℚ c +ℚ r
sum_of_sizes lo t c r h k = rw (units_add lo t) (le_trans (size_add (units lo) (units t)) (add_mono h k))

-- both parts of the spreads of a row of products
row_of_spreads : (d : ℕ) (n w : Fraction) (a : ℕ → Interval) (b : ℕ → ℕ → Interval)
    → sum_to d (λ l. extent (a l)) ≤ℚ n → sum_to d (λ l. width (a l)) ≤ℚ w
    → ((l : ℕ) → l < d → sum_to d (λ k. extent (b l k)) ≤ℚ n)
    → ((l : ℕ) → l < d → sum_to d (λ k. width (b l k)) ≤ℚ w)
    → whole (pos 0) ≤ℚ n → whole (pos 0) ≤ℚ w
    → sum_to d (λ k. sum_to d (λ l. spread (a l) (b l k))) ≤ℚ n *ℚ w +ℚ w *ℚ n
row_of_spreads d n w a b a_fits a_narrow b_fits b_narrow n_some w_some =
    le_trans (le_of_equal (sum_to_ext d (λ k r. sum_to_add d (λ l. extent (a l) *ℚ width (b l k))
    (λ l. width (a l) *ℚ extent (b l k)))))
    (rw (sum_to_add d (λ k. sum_to d (λ l. extent (a l) *ℚ width (b l k)))
    (λ k. sum_to d (λ l. width (a l) *ℚ extent (b l k))))
    (add_mono
    (row_of_products d n w (λ l. extent (a l)) (λ l k. width (b l k)) (λ l r. extent_natural (a l)) a_fits b_narrow
    w_some)
    (row_of_products d w n (λ l. width (a l)) (λ l k. extent (b l k)) (λ l r. width_natural (a l)) a_narrow b_fits
    n_some)))

free_spreads : (d : ℕ) (n w c y : Fraction) (a b : ℕ → Interval)
    → sum_to d (λ l. extent (a l)) ≤ℚ n → sum_to d (λ l. width (a l)) ≤ℚ w
    → ((l : ℕ) → l < d → extent (b l) ≤ℚ c) → ((l : ℕ) → l < d → width (b l) ≤ℚ y)
    → whole (pos 0) ≤ℚ c → whole (pos 0) ≤ℚ y
    → sum_to d (λ l. spread (a l) (b l)) ≤ℚ n *ℚ y +ℚ w *ℚ c
free_spreads d n w c y a b a_fits a_narrow b_fits b_narrow c_some y_some =
    rw (sum_to_add d (λ l. extent (a l) *ℚ width (b l)) (λ l. width (a l) *ℚ extent (b l)))
    (add_mono
    (weighted_sum d n y (λ l. extent (a l)) (λ l. width (b l)) (λ l r. extent_natural (a l)) a_fits b_narrow y_some)
    (weighted_sum d w c (λ l. width (a l)) (λ l. extent (b l)) (λ l r. width_natural (a l)) a_narrow b_fits c_some))

-- ---- rows and free numbers

pub doublings_stay_narrow : DoublingsStayNarrow
doublings_stay_narrow d sizes widths free_size free_width m square few is narrow s w f g = record {
  rows_fit = λ row r.
      let products = λ (k : ℕ). sum_to d (λ l. extent (m.at row l) *ℚ extent (m.at l k)) in
      le_trans (sum_with_const d (units (pos 12)) (λ k. extent (square.at row k)) products few (natural 12 (2 ^ 64))
      (λ k b. extent_is (square.at row k) _ _ _ (is.at_lo row k r b) (is.at_hi row k r b)
      (total_size d _ (λ l. extent (m.at row l) *ℚ extent (m.at l k)) few
      (λ l c. product_lo_size (m.at row l) (m.at l k)))
      (total_size d _ (λ l. extent (m.at row l) *ℚ extent (m.at l k)) few
      (λ l c. product_hi_size (m.at row l) (m.at l k)))))
      (with_rest (sum_to d products) (sizes *ℚ sizes)
      (row_of_products d sizes sizes (λ l. extent (m.at row l)) (λ l k. extent (m.at l k))
      (λ l b. extent_natural (m.at row l)) (narrow.rows_fit row r) (λ l b. narrow.rows_fit l b) s));
  rows_narrow = λ row r.
      let spreads = λ (k : ℕ). sum_to d (λ l. spread (m.at row l) (m.at l k)) in
      le_trans (sum_with_const d (units (pos 24)) (λ k. width (square.at row k)) spreads few (natural 24 (2 ^ 64))
      (λ k b. width_is (square.at row k) _ _ _ (is.at_lo row k r b) (is.at_hi row k r b)
      (total_width d (λ l. m.at row l) (λ l. m.at l k) few)))
      (twice_widened (sum_to d spreads) sizes widths
      (row_of_spreads d sizes widths (λ l. m.at row l) m.at (narrow.rows_fit row r) (narrow.rows_narrow row r)
      (λ l b. narrow.rows_fit l b) (λ l b. narrow.rows_narrow l b) s w));
  free_fits = λ row r.
      let products = λ (l : ℕ). extent (m.at row l) *ℚ extent (m.free l) in
      let total_fits = weighted_sum d sizes free_size (λ l. extent (m.at row l)) (λ l. extent (m.free l))
      (λ l b. extent_natural (m.at row l)) (narrow.rows_fit row r) (λ l b. narrow.free_fits l b) f in
      let low = sum_of_sizes (m.free row).lo _ free_size (sum_to d products +ℚ units (pos 12))
      (le_trans (le_greater_left (size (units (m.free row).lo)) (size (units (m.free row).hi)))
      (narrow.free_fits row r))
      (total_size d (λ l. product_lo (m.at row l) (m.free l)) products few
      (λ l c. product_lo_size (m.at row l) (m.free l))) in
      let high = sum_of_sizes (m.free row).hi _ free_size (sum_to d products +ℚ units (pos 12))
      (le_trans (le_greater_right (size (units (m.free row).lo)) (size (units (m.free row).hi)))
      (narrow.free_fits row r))
      (total_size d (λ l. product_hi (m.at row l) (m.free l)) products few
      (λ l c. product_hi_size (m.at row l) (m.free l))) in
      le_trans (extent_is (square.free row) _ _ _ (is.free_lo row r) (is.free_hi row r) low high)
      (grown_free (sum_to d products) free_size (sizes *ℚ free_size) total_fits);
  free_narrow = λ row r.
      let spreads = λ (l : ℕ). spread (m.at row l) (m.free l) in
      let total_narrow = free_spreads d sizes widths free_size free_width (λ l. m.at row l) m.free
      (narrow.rows_fit row r) (narrow.rows_narrow row r) (λ l b. narrow.free_fits l b) (λ l b. narrow.free_narrow l b)
      f g in
      width_is (square.free row) _ _ _ (is.free_lo row r) (is.free_hi row r)
      (widened (m.free row).lo (m.free row).hi _ _ (sum_to d spreads) sizes widths free_size free_width
      (narrow.free_narrow row r) (total_width d (λ l. m.at row l) m.free few) total_narrow);
}
  where
    twice_widened : (x n w : Fraction) → x ≤ℚ n *ℚ w +ℚ w *ℚ n
        → x +ℚ whole (pos 12) *ℚ units (pos 24) ≤ℚ whole (pos 2) *ℚ n *ℚ w +ℚ units (pos 288)
    twice_widened x n w h = linear (x ∷ n ∷ w ∷ []) h (hlevel claims) refl

    grown_free : (x c y : Fraction) → x ≤ℚ y → c +ℚ (x +ℚ units (pos 12)) ≤ℚ c +ℚ y +ℚ units (pos 12)
    grown_free x c y h = linear (x ∷ c ∷ y ∷ []) h (hlevel claims) refl

    widened : (lo hi low high : ℤ) (x n w c y : Fraction) → units hi -ℚ units lo ≤ℚ y
        → units high -ℚ units low ≤ℚ x +ℚ units (pos 24) → x ≤ℚ n *ℚ y +ℚ w *ℚ c
        → units (hi +ℤ high) -ℚ units (lo +ℤ low) ≤ℚ y +ℚ n *ℚ y +ℚ c *ℚ w +ℚ units (pos 24)
    widened lo hi low high x n w c y first second third = rw (units_add hi high, units_add lo low)
        (linear (units lo ∷ units hi ∷ units low ∷ units high ∷ x ∷ n ∷ w ∷ c ∷ y ∷ []) (first ⊞ second ⊞ third)
        (hlevel claims) refl)

    with_rest : (x y : Fraction) → x ≤ℚ y
        → x +ℚ whole (pos 12) *ℚ units (pos 12) ≤ℚ y +ℚ units (pos 144)
    with_rest x y h = linear (x ∷ y ∷ []) h (hlevel claims) refl
