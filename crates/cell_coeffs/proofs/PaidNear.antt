-- What a transition pays is near the sum of products that is computed.
use Rattle.std.specs.Prelude.{◌≡◌, ℕ, zero, suc, pos, ◌+◌, ◌-◌, ◌^◌, ◌<◌, ℤ, ◌*ℤ◌}
use Rattle.std.specs.Prelude.{unsigned_abs, List, [], ◌∷◌, slice_index_or}
use Rattle.std.proofs.Common.{refl, ap, sym, ◌∙◌, arith, add-one}
use Rattle.std.proofs.lemmas.Int.{ints}
use Rattle.frac_laws.specs.Fraction.{Fraction, whole, over, opposite, size, is_not_negative, ◌+ℚ◌, ◌-ℚ◌, ◌*ℚ◌, ◌≤ℚ◌}
use Rattle.frac_laws.specs.Sums.{sum_to}
use Rattle.frac_laws.specs.Convolution.{convolution}
use Rattle.frac_laws.specs.Rounding.{floor_of}
use Rattle.frac_laws.proofs.FractionTerms.{ring, terms}
use Rattle.frac_laws.proofs.Linear.{linear, claims, natural, ◌⊞◌, ◌⊠◌, ◌·◌}
use Rattle.frac_laws.proofs.Order.{le_trans, le_of_equal, le_of_lt, add_mono}
use Rattle.frac_laws.proofs.Floors.{floor_le, lt_next}
use Rattle.frac_laws.proofs.Quotients.{over_is, over_mul, over_add, cross_of_over_le}
use mathlib.Core.Path.{ap₂}
use Rattle.frac_laws.proofs.Sizes.{size_add, size_mul, size-opposite, size_natural}
use Rattle.frac_laws.proofs.Sizes.{size_le_of_between, le_of_size_le, opposite_le_of_size_le}
use Rattle.frac_laws.proofs.Sums.{sum_to_mono, sum_to_scale, sum_to_sub, size-sum_to}
use Rattle.frac_laws.proofs.Sums.{sum_to_ext}
use Rattle.frac_laws.proofs.SizeFacts.{size-over}
use Rattle.frac_laws.proofs.QuotientFacts.{over-zero}
use Rattle.cell_bounds.specs.CellBounds.{rate_bound, load_bound}
use Rattle.cell_coeffs.specs.Near.{IsNear, IsWithinUnit}
use Rattle.cell_coeffs.specs.Products.{products_to, sizes_to}
use Rattle.frac_base.proofs.WholeRing.{mul_one}

abbrev pub fine_unit : Fraction
fine_unit = over (pos 1) (2 ^ 70)

abbrev pub unit : Fraction
unit = over (pos 1) (2 ^ 64)

-- the numbers of a product, one by one
one_term : (x y r s p q : Fraction) → size (x -ℚ r) ≤ℚ fine_unit → size (y -ℚ s) ≤ℚ unit → size x ≤ℚ p → size y ≤ℚ q
    → size (x *ℚ y -ℚ r *ℚ s) ≤ℚ unit *ℚ p +ℚ fine_unit *ℚ (q +ℚ unit)
one_term x y r s p q first second small_x small_y =
    let split : x *ℚ y -ℚ r *ℚ s ≡ x *ℚ (y -ℚ s) +ℚ (x -ℚ r) *ℚ s = ring (x ∷ y ∷ r ∷ s ∷ []) (hlevel terms) refl in
    let s_is : s ≡ y +ℚ opposite (y -ℚ s) = ring (y ∷ s ∷ []) (hlevel terms) refl in
    let s_small : size s ≤ℚ q +ℚ unit =
    le_trans (le_of_equal (ap size s_is)) (le_trans (size_add y (opposite (y -ℚ s)))
    (rw (size-opposite (y -ℚ s)) (linear (size y ∷ size (y -ℚ s) ∷ q ∷ []) (small_y ⊞ second) (hlevel claims) refl))) in
    rw split (le_trans (size_add (x *ℚ (y -ℚ s)) ((x -ℚ r) *ℚ s))
    (rw (size_mul x (y -ℚ s), size_mul (x -ℚ r) s)
    (joined (size x) (size (y -ℚ s)) (size (x -ℚ r)) (size s) p q first second small_x s_small
    (size_natural x) (size_natural s))))
  where
    joined : (x e d s p q : Fraction) → d ≤ℚ fine_unit → e ≤ℚ unit → x ≤ℚ p → s ≤ℚ q +ℚ unit
        → whole (pos 0) ≤ℚ x → whole (pos 0) ≤ℚ s → x *ℚ e +ℚ d *ℚ s ≤ℚ unit *ℚ p +ℚ fine_unit *ℚ (q +ℚ unit)
    joined x e d s p q first second small_x small_s hx hs =
        linear (x ∷ e ∷ d ∷ s ∷ p ∷ q ∷ [])
        (second ⊠ hx ⊞ first ⊠ hs ⊞ small_x ⊠ natural 1 (2 ^ 64) ⊞ small_s ⊠ natural 1 (2 ^ 70)) (hlevel claims) refl

-- how far the term of place a may be off
abbrev term_bound : ℕ → ℕ → Fraction
term_bound m a = unit *ℚ (over (pos 1) 192 *ℚ rate_bound a) +ℚ fine_unit *ℚ (load_bound (m - a) +ℚ unit)

terms_small : (m : ℕ) → m < 9 → sum_to (suc m) (term_bound m) ≤ℚ over (pos 3) (2 ^ 71)
unfolding ◌+ℚ◌ ◌*ℚ◌ ◌-ℚ◌ opposite is_not_negative
terms_small zero b = record { le = refl }
terms_small (suc zero) b = record { le = refl }
terms_small (suc (suc zero)) b = record { le = refl }
terms_small (suc (suc (suc zero))) b = record { le = refl }
terms_small (suc (suc (suc (suc zero)))) b = record { le = refl }
terms_small (suc (suc (suc (suc (suc zero))))) b = record { le = refl }
terms_small (suc (suc (suc (suc (suc (suc zero)))))) b = record { le = refl }
terms_small (suc (suc (suc (suc (suc (suc (suc zero))))))) b = record { le = refl }
terms_small (suc (suc (suc (suc (suc (suc (suc (suc zero)))))))) b = record { le = refl }
terms_small (suc (suc (suc (suc (suc (suc (suc (suc (suc m))))))))) b = absurd (omega (arith, b))

rates_total : sum_to 9 (λ a. over (pos 1) 192 *ℚ rate_bound a +ℚ fine_unit) ≤ℚ over (pos (2 ^ 63 - 1)) (2 ^ 70)
unfolding ◌+ℚ◌ ◌*ℚ◌ ◌-ℚ◌ opposite is_not_negative
rates_total = record { le = refl }

-- the computed sum as a fraction
pub products-are : (rates sums : List ℤ) (m k : ℕ) → over (products_to rates sums m k) (2 ^ 134)
    ≡ sum_to k (λ a. over (slice_index_or rates a (pos 0)) (2 ^ 70)
    *ℚ over (slice_index_or sums (m - a) (pos 0)) (2 ^ 64))
products-are rates sums m zero = over-zero (2 ^ 134)
products-are rates sums m (suc k) =
    over_add (products_to rates sums m k) (slice_index_or rates k (pos 0) *ℤ slice_index_or sums (m - k) (pos 0))
    (2 ^ 134)
    ∙ ap₂ ◌+ℚ◌ (products-are rates sums m k)
    (sym (over_mul (slice_index_or rates k (pos 0)) (slice_index_or sums (m - k) (pos 0)) (2 ^ 70) (2 ^ 64)
    (omega arith) (omega arith)))

module _ (rate sum : ℕ → Fraction) (h : Fraction) (rates sums : List ℤ)
    (near_rates : (a : ℕ) → IsNear 2 (rate a) (slice_index_or rates a (pos 0)))
    (near_sums : (b : ℕ) → IsWithinUnit (h *ℚ sum b) (slice_index_or sums b (pos 0)))
    (small_rates : (a : ℕ) → size (rate a) ≤ℚ over (pos 1) 192 *ℚ rate_bound a)
    (small_sums : (b : ℕ) → size (h *ℚ sum b) ≤ℚ load_bound b) where
  off : ℕ → ℕ → Fraction
  off m a = rate a *ℚ (h *ℚ sum (m - a))
      -ℚ over (slice_index_or rates a (pos 0)) (2 ^ 70) *ℚ over (slice_index_or sums (m - a) (pos 0)) (2 ^ 64)

  off-is : (m : ℕ) → h *ℚ convolution rate sum m -ℚ over (products_to rates sums m (suc m)) (2 ^ 134)
      ≡ sum_to (suc m) (off m)
  unfolding off
  off-is m =
      ap₂ ◌-ℚ◌ (sym (sum_to_scale (suc m) h (λ a. rate a *ℚ sum (m - a)))
      ∙ sum_to_ext (suc m) {f = λ a. h *ℚ (rate a *ℚ sum (m - a))} {g = λ a. rate a *ℚ (h *ℚ sum (m - a))}
      (λ a b. turned h (rate a) (sum (m - a))))
      (products-are rates sums m (suc m))
      ∙ sym (sum_to_sub (suc m) (λ a. rate a *ℚ (h *ℚ sum (m - a)))
      (λ a. over (slice_index_or rates a (pos 0)) (2 ^ 70) *ℚ over (slice_index_or sums (m - a) (pos 0)) (2 ^ 64)))
    where
      turned : (h x y : Fraction) → h *ℚ (x *ℚ y) ≡ x *ℚ (h *ℚ y)
      turned h x y = ring (h ∷ x ∷ y ∷ []) (hlevel terms) refl

  off_small : (m : ℕ) → m < 9 → size (sum_to (suc m) (off m)) ≤ℚ over (pos 3) (2 ^ 71)
  unfolding off
  off_small m few =
      le_trans (size-sum_to (suc m) (off m))
      (le_trans (sum_to_mono (suc m) {f = λ a. size (off m a)} {g = term_bound m} (λ a b.
      one_term (rate a) (h *ℚ sum (m - a)) (over (slice_index_or rates a (pos 0)) (2 ^ 70))
      (over (slice_index_or sums (m - a) (pos 0)) (2 ^ 64)) (over (pos 1) 192 *ℚ rate_bound a) (load_bound (m - a))
      (le_trans (near_rates a) (linear [] (natural 0 1) (hlevel claims) refl)) (near_sums (m - a)) (small_rates a)
      (small_sums (m - a))))
      (terms_small m few))

  -- rounded down to fine units it is within five halves of one
  pub paid_near : (m : ℕ) → m < 9 → IsNear 5 (h *ℚ convolution rate sum m)
      (floor_of (products_to rates sums m (m + 1)) (pos (2 ^ 64)))
  paid_near m few =
      let p = products_to rates sums m (suc m) in
      let f = floor_of p (pos (2 ^ 64)) in
      let q = over p (2 ^ 64) in
      let close : size (h *ℚ convolution rate sum m -ℚ over p (2 ^ 134)) ≤ℚ over (pos 3) (2 ^ 71) =
      le_trans (le_of_equal (ap size (off-is m))) (off_small m few) in
      let whole_is : over p (2 ^ 134) ≡ q *ℚ fine_unit =
      ap (λ w. over w (2 ^ 134)) (sym (mul_one p))
      ∙ sym (over_mul p (pos 1) (2 ^ 64) (2 ^ 70) (omega arith) (omega arith)) in
      let stored : over f (2 ^ 70) ≡ whole f *ℚ fine_unit = over_is f (2 ^ 70) in
      let x = h *ℚ convolution rate sum m in
      rw (add-one, stored) (size_le_of_between
      (low x (over p (2 ^ 134)) q (whole f) whole_is (opposite_le_of_size_le close) (floor_le p (2 ^ 64) (omega arith)))
      (high x (over p (2 ^ 134)) q (whole f) whole_is (le_of_size_le close)
      (le_of_lt (lt_next p (2 ^ 64) (omega arith)))))
    where
      low : (x s q f : Fraction) → s ≡ q *ℚ fine_unit → opposite (over (pos 3) (2 ^ 71)) ≤ℚ x -ℚ s → f ≤ℚ q
          → opposite (over (pos 5) (2 ^ 71)) ≤ℚ x -ℚ f *ℚ fine_unit
      low x s q f is close below =
          linear (x ∷ s ∷ q ∷ f ∷ []) (close ⊞ below ⊠ natural 1 (2 ^ 70) ⊞ whole (pos 1) · sym is) (hlevel claims) refl

      high : (x s q f : Fraction) → s ≡ q *ℚ fine_unit → x -ℚ s ≤ℚ over (pos 3) (2 ^ 71) → q ≤ℚ f +ℚ whole (pos 1)
          → x -ℚ f *ℚ fine_unit ≤ℚ over (pos 5) (2 ^ 71)
      high x s q f is close above =
          linear (x ∷ s ∷ q ∷ f ∷ []) (close ⊞ above ⊠ natural 1 (2 ^ 70) ⊞ whole (pos 1) · is) (hlevel claims) refl

  -- the sizes of the rates together
  abbrev rate_sizes : ℕ → Fraction
  rate_sizes k = sum_to k (λ a. over (pos 1) 192 *ℚ rate_bound a +ℚ fine_unit)

  sizes_within : (k : ℕ) → over (pos (sizes_to rates k)) (2 ^ 70) ≤ℚ rate_sizes k
  sizes_within zero = le_of_equal (over-zero (2 ^ 70))
  sizes_within (suc k) =
      let r = slice_index_or rates k (pos 0) in
      let here : over (pos (unsigned_abs r)) (2 ^ 70) ≤ℚ over (pos 1) 192 *ℚ rate_bound k +ℚ fine_unit =
      le_trans (le_of_equal (sym (size-over r (2 ^ 70))))
      (le_trans (le_of_equal (ap size (apart (over r (2 ^ 70)) (rate k))))
      (le_trans (size_add (rate k) (opposite (rate k -ℚ over r (2 ^ 70))))
      (rw (size-opposite (rate k -ℚ over r (2 ^ 70)))
      (linear (size (rate k) ∷ size (rate k -ℚ over r (2 ^ 70)) ∷ rate_bound k ∷ []) (small_rates k ⊞ near_rates k)
      (hlevel claims) refl)))) in
      le_trans (le_of_equal (over_add (pos (sizes_to rates k)) (pos (unsigned_abs r)) (2 ^ 70)))
      (add_mono (sizes_within k) here)
    where
      apart : (r x : Fraction) → r ≡ x +ℚ opposite (x -ℚ r)
      apart r x = ring (r ∷ x ∷ []) (hlevel terms) refl

  pub rates_fit : sizes_to rates 9 < 2 ^ 63
  rates_fit =
      let within = le_trans (sizes_within 9) rates_total in
      omega (
        arith,
        ints,
        cross_of_over_le (pos (sizes_to rates 9)) (pos (2 ^ 63 - 1)) (2 ^ 70) (2 ^ 70)
            (omega arith) (omega arith) within,
      )
