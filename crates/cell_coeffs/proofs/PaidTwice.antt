-- What a transition pays times its sum once more is near the sum of products that is computed.
use Rattle.std.specs.Prelude.{◌≡◌, ℕ, zero, suc, pos, ◌+◌, ◌-◌, ◌^◌, ◌<◌, ℤ, unsigned_abs, List, [], ◌∷◌}
use Rattle.std.specs.Prelude.{slice_index_or}
use Rattle.std.proofs.Common.{refl, ap, sym, ◌∙◌, arith, add-one}
use Rattle.std.proofs.lemmas.Int.{ints}
use mathlib.Core.Path.{ap₂}
use Rattle.frac_laws.specs.Fraction.{Fraction, whole, over, opposite, size, is_not_negative, ◌+ℚ◌, ◌-ℚ◌, ◌*ℚ◌, ◌≤ℚ◌}
use Rattle.frac_laws.specs.Sums.{sum_to}
use Rattle.frac_laws.specs.Convolution.{convolution}
use Rattle.frac_laws.specs.Rounding.{floor_of}
use Rattle.frac_laws.proofs.FractionTerms.{ring, terms}
use Rattle.frac_laws.proofs.Linear.{linear, claims, natural, ◌⊞◌, ◌⊠◌, ◌·◌}
use Rattle.frac_laws.proofs.Order.{le_trans, le_of_equal, le_of_lt, add_mono, mul_mono}
use Rattle.frac_laws.proofs.Floors.{floor_le, lt_next}
use Rattle.frac_laws.proofs.Quotients.{over_is, over_mul, over_add, cross_of_over_le}
use Rattle.frac_laws.proofs.Sizes.{size_add, size_mul, size-opposite, size_natural}
use Rattle.frac_laws.proofs.Sizes.{size_le_of_between, le_of_size_le, opposite_le_of_size_le}
use Rattle.frac_laws.proofs.Sums.{sum_to_mono, sum_to_scale, sum_to_sub, size-sum_to, sum_to_ext}
use Rattle.frac_laws.proofs.SizeFacts.{size-over}
use Rattle.frac_laws.proofs.QuotientFacts.{over-zero}
use Rattle.cell_bounds.specs.CellBounds.{rate_bound, load_bound, paid_bound}
use Rattle.cell_coeffs.specs.Near.{IsNear, IsWithinUnit}
use Rattle.cell_coeffs.specs.Products.{products_to, sizes_to}
use Rattle.cell_coeffs.proofs.PaidNear.{fine_unit, unit, products-are}
use Rattle.frac_base.proofs.WholeRing.{mul_one}

-- five halves of a fine unit
abbrev off_by : Fraction
off_by = over (pos 5) (2 ^ 71)

-- the numbers of a product, one by one
one_term : (x y r s p q : Fraction) → size (x -ℚ r) ≤ℚ off_by → size (y -ℚ s) ≤ℚ unit → size x ≤ℚ p → size y ≤ℚ q
    → size (x *ℚ y -ℚ r *ℚ s) ≤ℚ unit *ℚ p +ℚ off_by *ℚ (q +ℚ unit)
one_term x y r s p q first second small_x small_y =
    let split : x *ℚ y -ℚ r *ℚ s ≡ x *ℚ (y -ℚ s) +ℚ (x -ℚ r) *ℚ s = ring (x ∷ y ∷ r ∷ s ∷ []) (hlevel terms) refl in
    let s_is : s ≡ y +ℚ opposite (y -ℚ s) = ring (y ∷ s ∷ []) (hlevel terms) refl in
    let s_small : size s ≤ℚ q +ℚ unit =
    le_trans (le_of_equal (ap size s_is)) (le_trans (size_add y (opposite (y -ℚ s)))
    (rw (size-opposite (y -ℚ s)) (linear (size y ∷ size (y -ℚ s) ∷ q ∷ []) (small_y ⊞ second) (hlevel claims) refl))) in
    rw split (le_trans (size_add (x *ℚ (y -ℚ s)) ((x -ℚ r) *ℚ s))
    (rw (size_mul x (y -ℚ s), size_mul (x -ℚ r) s)
    (joined (size x) (size (y -ℚ s)) (size (x -ℚ r)) (size s) p q first second small_x s_small
    (size_natural x) (size_natural s))))
  where
    joined : (x e d s p q : Fraction) → d ≤ℚ off_by → e ≤ℚ unit → x ≤ℚ p → s ≤ℚ q +ℚ unit
        → whole (pos 0) ≤ℚ x → whole (pos 0) ≤ℚ s → x *ℚ e +ℚ d *ℚ s ≤ℚ unit *ℚ p +ℚ off_by *ℚ (q +ℚ unit)
    joined x e d s p q first second small_x small_s hx hs =
        linear (x ∷ e ∷ d ∷ s ∷ p ∷ q ∷ [])
        (second ⊠ hx ⊞ first ⊠ hs ⊞ small_x ⊠ natural 1 (2 ^ 64) ⊞ small_s ⊠ natural 5 (2 ^ 71)) (hlevel claims) refl

-- how far the term of place a may be off
abbrev term_bound : ℕ → ℕ → Fraction
term_bound m a = unit *ℚ (over (pos 1) 192 *ℚ paid_bound a) +ℚ off_by *ℚ (load_bound (m - a) +ℚ unit)

terms_small : (m : ℕ) → m < 12 → sum_to (suc m) (term_bound m) ≤ℚ over (pos 7) (2 ^ 71)
unfolding ◌+ℚ◌ ◌*ℚ◌ ◌-ℚ◌ opposite is_not_negative
terms_small zero b = record { le = refl }
terms_small (suc zero) b = record { le = refl }
terms_small (suc (suc zero)) b = record { le = refl }
terms_small (suc (suc (suc zero))) b = record { le = refl }
terms_small (suc (suc (suc (suc zero)))) b = record { le = refl }
terms_small (suc (suc (suc (suc (suc zero))))) b = record { le = refl }
terms_small (suc (suc (suc (suc (suc (suc zero)))))) b = record { le = refl }
terms_small (suc (suc (suc (suc (suc (suc (suc zero))))))) b = record { le = refl }
terms_small (suc (suc (suc (suc (suc (suc (suc (suc zero)))))))) b = record { le = refl }
terms_small (suc (suc (suc (suc (suc (suc (suc (suc (suc zero))))))))) b = record { le = refl }
terms_small (suc (suc (suc (suc (suc (suc (suc (suc (suc (suc zero)))))))))) b = record { le = refl }
terms_small (suc (suc (suc (suc (suc (suc (suc (suc (suc (suc (suc zero))))))))))) b = record { le = refl }
terms_small (suc (suc (suc (suc (suc (suc (suc (suc (suc (suc (suc (suc m)))))))))))) b = absurd (omega (arith, b))

payments_total : sum_to 12 (λ a. over (pos 1) 192 *ℚ paid_bound a +ℚ off_by) ≤ℚ over (pos (2 ^ 63 - 1)) (2 ^ 70)
unfolding ◌+ℚ◌ ◌*ℚ◌ ◌-ℚ◌ opposite is_not_negative
payments_total = record { le = refl }

module _ (rate sum : ℕ → Fraction) (h : Fraction) (payments sums : List ℤ)
    (near_payments : (a : ℕ) → IsNear 5 (h *ℚ convolution rate sum a) (slice_index_or payments a (pos 0)))
    (near_sums : (b : ℕ) → IsWithinUnit (h *ℚ sum b) (slice_index_or sums b (pos 0)))
    (small_rates : (a : ℕ) → size (rate a) ≤ℚ over (pos 1) 192 *ℚ rate_bound a)
    (small_sums : (b : ℕ) → size (h *ℚ sum b) ≤ℚ load_bound b) where
  abbrev paid : ℕ → Fraction
  paid a = h *ℚ convolution rate sum a

  paid-is : (a : ℕ) → paid a ≡ sum_to (suc a) (λ k. rate k *ℚ (h *ℚ sum (a - k)))
  paid-is a =
      sym (sum_to_scale (suc a) h (λ k. rate k *ℚ sum (a - k)))
      ∙ sum_to_ext (suc a) {f = λ k. h *ℚ (rate k *ℚ sum (a - k))} {g = λ k. rate k *ℚ (h *ℚ sum (a - k))}
      (λ k b. turned h (rate k) (sum (a - k)))
    where
      turned : (h x y : Fraction) → h *ℚ (x *ℚ y) ≡ x *ℚ (h *ℚ y)
      turned h x y = ring (h ∷ x ∷ y ∷ []) (hlevel terms) refl

  small_paid : (a : ℕ) → size (paid a) ≤ℚ over (pos 1) 192 *ℚ paid_bound a
  small_paid a =
      le_trans (le_of_equal (ap size (paid-is a)))
      (le_trans (size-sum_to (suc a) (λ k. rate k *ℚ (h *ℚ sum (a - k))))
      (le_trans (sum_to_mono (suc a) {f = λ k. size (rate k *ℚ (h *ℚ sum (a - k)))}
      {g = λ k. over (pos 1) 192 *ℚ (rate_bound k *ℚ load_bound (a - k))} (λ k b.
      le_trans (le_of_equal (size_mul (rate k) (h *ℚ sum (a - k))))
      (le_trans (mul_mono (small_rates k) (small_sums (a - k)) (size_natural (rate k))
      (le_trans (size_natural (h *ℚ sum (a - k))) (small_sums (a - k))))
      (le_of_equal (turned (rate_bound k) (load_bound (a - k)))))))
      (le_of_equal (sum_to_scale (suc a) (over (pos 1) 192) (λ k. rate_bound k *ℚ load_bound (a - k))))))
    where
      turned : (x y : Fraction) → over (pos 1) 192 *ℚ x *ℚ y ≡ over (pos 1) 192 *ℚ (x *ℚ y)
      turned x y = ring (x ∷ y ∷ []) (hlevel terms) refl

  -- the difference of the terms of place a
  off : ℕ → ℕ → Fraction
  off m a = paid a *ℚ (h *ℚ sum (m - a))
      -ℚ over (slice_index_or payments a (pos 0)) (2 ^ 70) *ℚ over (slice_index_or sums (m - a) (pos 0)) (2 ^ 64)

  off-is : (m : ℕ) → h *ℚ h *ℚ convolution (convolution rate sum) sum m
      -ℚ over (products_to payments sums m (suc m)) (2 ^ 134) ≡ sum_to (suc m) (off m)
  unfolding off
  off-is m =
      ap₂ ◌-ℚ◌ (sym (sum_to_scale (suc m) (h *ℚ h) (λ a. convolution rate sum a *ℚ sum (m - a)))
      ∙ sum_to_ext (suc m) {f = λ a. h *ℚ h *ℚ (convolution rate sum a *ℚ sum (m - a))}
      {g = λ a. paid a *ℚ (h *ℚ sum (m - a))} (λ a b. turned h (convolution rate sum a) (sum (m - a))))
      (products-are payments sums m (suc m))
      ∙ sym (sum_to_sub (suc m) (λ a. paid a *ℚ (h *ℚ sum (m - a)))
      (λ a. over (slice_index_or payments a (pos 0)) (2 ^ 70) *ℚ over (slice_index_or sums (m - a) (pos 0)) (2 ^ 64)))
    where
      turned : (h x y : Fraction) → h *ℚ h *ℚ (x *ℚ y) ≡ h *ℚ x *ℚ (h *ℚ y)
      turned h x y = ring (h ∷ x ∷ y ∷ []) (hlevel terms) refl

  off_small : (m : ℕ) → m < 12 → size (sum_to (suc m) (off m)) ≤ℚ over (pos 7) (2 ^ 71)
  unfolding off
  off_small m few =
      le_trans (size-sum_to (suc m) (off m))
      (le_trans (sum_to_mono (suc m) {f = λ a. size (off m a)} {g = term_bound m} (λ a b.
      one_term (paid a) (h *ℚ sum (m - a)) (over (slice_index_or payments a (pos 0)) (2 ^ 70))
      (over (slice_index_or sums (m - a) (pos 0)) (2 ^ 64)) (over (pos 1) 192 *ℚ paid_bound a) (load_bound (m - a))
      (near_payments a) (near_sums (m - a)) (small_paid a) (small_sums (m - a))))
      (terms_small m few))

  -- rounded down to fine units it is within nine halves of one
  pub twice_near : (m : ℕ) → m < 12 → IsNear 9 (h *ℚ h *ℚ convolution (convolution rate sum) sum m)
      (floor_of (products_to payments sums m (m + 1)) (pos (2 ^ 64)))
  twice_near m few =
      let p = products_to payments sums m (suc m) in
      let f = floor_of p (pos (2 ^ 64)) in
      let q = over p (2 ^ 64) in
      let x = h *ℚ h *ℚ convolution (convolution rate sum) sum m in
      let close : size (x -ℚ over p (2 ^ 134)) ≤ℚ over (pos 7) (2 ^ 71) =
      le_trans (le_of_equal (ap size (off-is m))) (off_small m few) in
      let whole_is : over p (2 ^ 134) ≡ q *ℚ fine_unit =
      ap (λ w. over w (2 ^ 134)) (sym (mul_one p))
      ∙ sym (over_mul p (pos 1) (2 ^ 64) (2 ^ 70) (omega arith) (omega arith)) in
      let stored : over f (2 ^ 70) ≡ whole f *ℚ fine_unit = over_is f (2 ^ 70) in
      rw (add-one, stored) (size_le_of_between
      (low x (over p (2 ^ 134)) q (whole f) whole_is (opposite_le_of_size_le close) (floor_le p (2 ^ 64) (omega arith)))
      (high x (over p (2 ^ 134)) q (whole f) whole_is (le_of_size_le close)
      (le_of_lt (lt_next p (2 ^ 64) (omega arith)))))
    where
      low : (x s q f : Fraction) → s ≡ q *ℚ fine_unit → opposite (over (pos 7) (2 ^ 71)) ≤ℚ x -ℚ s → f ≤ℚ q
          → opposite (over (pos 9) (2 ^ 71)) ≤ℚ x -ℚ f *ℚ fine_unit
      low x s q f is close below =
          linear (x ∷ s ∷ q ∷ f ∷ []) (close ⊞ below ⊠ natural 1 (2 ^ 70) ⊞ whole (pos 1) · sym is) (hlevel claims) refl

      high : (x s q f : Fraction) → s ≡ q *ℚ fine_unit → x -ℚ s ≤ℚ over (pos 7) (2 ^ 71) → q ≤ℚ f +ℚ whole (pos 1)
          → x -ℚ f *ℚ fine_unit ≤ℚ over (pos 9) (2 ^ 71)
      high x s q f is close above =
          linear (x ∷ s ∷ q ∷ f ∷ []) (close ⊞ above ⊠ natural 1 (2 ^ 70) ⊞ whole (pos 1) · is) (hlevel claims) refl

  -- the sizes of the payments together
  sizes_within : (k : ℕ) → over (pos (sizes_to payments k)) (2 ^ 70)
      ≤ℚ sum_to k (λ a. over (pos 1) 192 *ℚ paid_bound a +ℚ off_by)
  sizes_within zero = le_of_equal (over-zero (2 ^ 70))
  sizes_within (suc k) =
      let r = slice_index_or payments k (pos 0) in
      let here : over (pos (unsigned_abs r)) (2 ^ 70) ≤ℚ over (pos 1) 192 *ℚ paid_bound k +ℚ off_by =
      le_trans (le_of_equal (sym (size-over r (2 ^ 70))))
      (le_trans (le_of_equal (ap size (apart (over r (2 ^ 70)) (paid k))))
      (le_trans (size_add (paid k) (opposite (paid k -ℚ over r (2 ^ 70))))
      (rw (size-opposite (paid k -ℚ over r (2 ^ 70)))
      (add_mono (small_paid k) (near_payments k))))) in
      le_trans (le_of_equal (over_add (pos (sizes_to payments k)) (pos (unsigned_abs r)) (2 ^ 70)))
      (add_mono (sizes_within k) here)
    where
      apart : (r x : Fraction) → r ≡ x +ℚ opposite (x -ℚ r)
      apart r x = ring (r ∷ x ∷ []) (hlevel terms) refl

  pub payments_fit : sizes_to payments 12 < 2 ^ 63
  payments_fit =
      let within = le_trans (sizes_within 12) payments_total in
      omega (
        arith,
        ints,
        cross_of_over_le (pos (sizes_to payments 12)) (pos (2 ^ 63 - 1)) (2 ^ 70) (2 ^ 70)
            (omega arith) (omega arith) within,
      )
