-- A step stops at the degree limit at the latest: its numbers are within two units of the exact coefficients of the
-- stored numbers.
use Rattle.std.specs.Prelude.{◌≡◌, ◌⊎◌, ℕ, zero, suc, ◌+◌, ◌-◌, ◌*◌, ◌^◌, ◌<◌, ◌≤◌, ℤ, pos, List, [], ◌∷◌, length}
use Rattle.std.specs.Prelude.{refl, Bool, true, false, cond, unsigned_abs, slice_index_or}
use Rattle.std.proofs.Common.{ap, sym, ◌∙◌, arith, inl, inr, lit≤}
use Rattle.std.proofs.lemmas.Int.{ints}
use Rattle.std.proofs.lemmas.Bool.{cases_lt}
use Rattle.frac_laws.specs.Fraction.{Fraction, over, whole, size, is_not_negative, ◌+ℚ◌, ◌*ℚ◌, ◌-ℚ◌, ◌≤ℚ◌}
use Rattle.frac_laws.specs.Sums.{sum_to}
use Rattle.frac_laws.proofs.FractionTerms.{ring, terms}
use Rattle.frac_laws.proofs.Linear.{linear, claims, natural, ◌⊞◌, ◌⊠◌}
use Rattle.frac_laws.proofs.Order.{le_trans, le_of_equal, le_of_lt, add_mono, mul_mono}
use Rattle.frac_laws.proofs.Quotients.{whole_add, whole_le, le_of_whole, inverse}
use Rattle.std.proofs.Math.Nat.{one-le-pow}
use Rattle.frac_laws.proofs.Sizes.{size_add, size_mul, size_natural, size_of_natural, size_sub}
use Rattle.frac_laws.proofs.Convolutions.{sum_to_within}
use Rattle.frac_laws.proofs.Signs.{sum_natural}
use Rattle.frac_laws.proofs.Sums.{sum_to_mono, sum_to_sub, sum_to_scale, sum_to_scale_right, sum_to_zeros}
use Rattle.frac_laws.proofs.Sums.{size-sum_to, sum_to_ext, term_le_sum_to}
use Rattle.cell_laws.proofs.Cancelling.{cancel_suc, one_le_suc}
use Rattle.linear_system.specs.StoredSystem.{StoredSystem, IsSystem, dim_of, row_of, stored_number, stored_free}
use Rattle.linear_system.specs.StandsFor.{units}
use Rattle.linear_system.specs.DegreeLimit.{exact_back, exact_coefficient, greatest_power}
use Rattle.linear_system.specs.DegreeLimit.{is_small_back, is_small_at, least_from, least_degree}
use Rattle.linear_system.specs.DegreeLimit.{degree_limit}
use Rattle.taylor_step.specs.RoundedRun.{IsRoundedRun, left_out}
use Rattle.taylor_step.specs.Stops.{HasSmallBack, IsStop}
use Rattle.taylor_step.specs.WholeRun.{coefficient}
use Rattle.taylor_step.specs.CanStep.{CanStep, in_sup, in_sum, in_pair}
use Rattle.taylor_step.proofs.Fits.{rows_in_sup, rows_of_pair, column_bound, columns_in_sum}
use Rattle.taylor_step.proofs.FitsByRows.{RowsAreWithin}
use Rattle.cell_laws.specs.Systems.{System}
use Rattle.cell_laws.specs.Tame.{IsTame}
use Rattle.frac_laws.specs.Norms.{Sum}
use Rattle.linear_system.specs.StandsFor.{StandsFor}
use Rattle.taylor_step.proofs.Floors.{rounded_run}
use Rattle.taylor_step.proofs.Scaled.{unit, units_is, no_units, number_beyond}
use Rattle.taylor_step.proofs.Sizes.{size_of}
use Rattle.taylor_step.proofs.StoredSizes.{size_units, sum_same}
use Rattle.whole_laws.proofs.Tests.{holds_at_each}

-- the coefficients back from a power are those of the powers before it
pub exact_back_is : (s : StoredSystem) (mid : List ℤ) (k m row : ℕ) → m ≤ k
    → exact_back s mid k m row ≡ exact_coefficient s mid (k - m) row
unfolding exact_back
exact_back_is s mid zero m row b =
    let e : 0 - m ≡ 0 = omega arith in ap (λ t. exact_coefficient s mid t row) (sym e)
exact_back_is s mid (suc k) zero row b =
    let e : suc k - 0 ≡ suc k = omega arith in ap (λ t. exact_coefficient s mid t row) (sym e)
exact_back_is s mid (suc k) (suc m) row b = exact_back_is s mid k m row (omega arith)
    ∙ (let e : suc k - suc m ≡ k - m = omega arith in ap (λ t. exact_coefficient s mid t row) (sym e))

-- (k + 1) y_(k+1) = A_0 y_k + .. + A_k y_0 + g_k
pub exact_recurs : (s : StoredSystem) (mid : List ℤ) (k row : ℕ)
    → whole (pos (suc k)) *ℚ exact_coefficient s mid (suc k) row
    ≡ sum_to (suc k) (λ m. sum_to (dim_of s) (λ col. units (stored_number s row col m)
    *ℚ exact_coefficient s mid (k - m) col)) +ℚ units (stored_free s row k)
unfolding exact_back
exact_recurs s mid k row = cancel (whole (pos (suc k))) (over (pos 1) (suc k)) _ (inverse (suc k) (omega arith))
    ∙ ap (λ t. t +ℚ units (stored_free s row k)) (sum_to_ext (suc k) (λ m b. sum_to_ext (dim_of s)
    (λ col c. ap (λ t. units (stored_number s row col m) *ℚ t) (exact_back_is s mid k m col (omega arith)))))
  where
    cancel : (n i x : Fraction) → n *ℚ i ≡ whole (pos 1) → n *ℚ (i *ℚ x) ≡ x
    cancel n i x e = ring (n ∷ i ∷ x ∷ []) (hlevel terms) refl ∙ ap (λ t. t *ℚ x) e ∙ ring (x ∷ []) (hlevel terms) refl

-- a whole number within two units of one of at most w units is at most w + 2
pub counted_size : (z : ℤ) (y : Fraction) (w v : ℕ) → size (y -ℚ units z) ≤ℚ whole (pos 2) *ℚ unit
    → size y ≤ℚ units (pos w) → w + 2 ≤ v → unsigned_abs z ≤ v
counted_size z y w v near small room = enough (unsigned_abs z) (counted (unsigned_abs z)
    (le_trans (le_of_equal (size_units z)) (le_trans (le_of_equal (ap size
    (ring (y ∷ units z ∷ []) (hlevel terms) refl)))
    (le_trans (size_sub y (y -ℚ units z)) (add_mono small near)))) (units_is (pos w)))
  where
    in_ones : (x y v : Fraction) → x *ℚ unit ≤ℚ v +ℚ whole (pos 2) *ℚ unit → v ≡ y *ℚ unit → x ≤ℚ y +ℚ whole (pos 2)
    in_ones x y v h e = linear (x ∷ y ∷ v ∷ []) (natural (2 ^ 64) 1 ⊠ (h ⊞ le_of_equal e)) (hlevel claims) refl

    counted : (n : ℕ) → whole (pos n) *ℚ unit ≤ℚ units (pos w) +ℚ whole (pos 2) *ℚ unit
        → units (pos w) ≡ whole (pos w) *ℚ unit → whole (pos n) ≤ℚ whole (pos w) +ℚ whole (pos 2)
    counted n h e = in_ones (whole (pos n)) (whole (pos w)) (units (pos w)) h e

    enough : (n : ℕ) → whole (pos n) ≤ℚ whole (pos w) +ℚ whole (pos 2) → n ≤ v
    enough n h = omega (
      arith,
      ints,
      le_of_whole {n = pos n} {m = pos (w + 2)}
          (le_trans h (le_of_equal (sym (whole_add (pos w) (pos 2))))),
      room,
    )

-- the least number from a start for which a test holds is at least each number before which it fails
pub least_after : (test : ℕ → Bool) (k more degree : ℕ) → degree ≤ k + more
    → ((j : ℕ) → k ≤ j → j < degree → test j ≡ true → ⊥) → degree ≤ least_from test k more
least_after test k zero degree b none = omega (arith, b)
least_after test k (suc more) degree b none =
    by_test (test k) refl (least_after test (suc k) more degree (omega (arith, b))
    (λ j l c. none j (omega (arith, l)) c))
  where
    by_test : (t : Bool) → t ≡ test k → degree ≤ least_from test (suc k) more
        → degree ≤ cond t k (least_from test (suc k) more)
    by_test true e g = elim (cases_lt k degree) [
      | inl c ↦ absurd (none k (omega arith) c (sym e))
      | inr c ↦ c
    ]
    by_test false e g = g

module _ (s : StoredSystem) (mid : List ℤ) (sys : IsSystem s) (long : length mid ≡ dim_of s)
    (rows : RowsAreWithin s (2 ^ 63)) where
  -- how far the rounded number is from the exact one
  abbrev off : ℕ → ℕ → Fraction
  off k row = exact_coefficient s mid k row -ℚ units (coefficient s mid k row)

  run : (degree : ℕ) → IsRoundedRun s mid degree (coefficient s mid)
  run degree = rounded_run s mid sys long degree

  at_start : (row : ℕ) → row < dim_of s → size (off 0 row) ≤ℚ whole (pos 2) *ℚ unit
  unfolding exact_back
  at_start row b = rw ((run 0).first row b) (le_trans (le_of_equal (ap size
      (ring (units (slice_index_or mid row (pos 0)) ∷ []) (hlevel terms) refl) ∙ size_of_natural (natural 0 1)))
      (linear [] (natural 2 (2 ^ 64)) (hlevel claims) refl))

  -- a row's stored sizes over all powers up to k add up to at most a half
  row_half : (k row : ℕ) → row < dim_of s
      → sum_to (suc k) (λ m. sum_to (dim_of s) (λ col. size (units (stored_number s row col m)))) ≤ℚ over (pos 1) 2
  row_half k row b = le_trans (sum_to_within 12 (suc k)
      (λ m. sum_natural (dim_of s) _ (λ col. size_natural (units (stored_number s row col m))))
      (λ m h. sum_to_zeros (dim_of s) (λ col c. ap (λ z. size (units z))
      (number_beyond (row_of s row) s.degree col m (sys.each row b).full (let t = sys.degree_small in omega arith))
      ∙ ap size no_units ∙ size_of_natural (natural 0 1))))
      (le_trans (le_of_equal (sum_to_ext 12 (λ m c. sum_to_ext (dim_of s)
      (λ col d. sym (size_units (stored_number s row col m)))
      ∙ sum_to_scale_right (dim_of s) unit (λ col. whole (size_of (stored_number s row col m))))
      ∙ sum_to_scale_right 12 unit (λ m. sum_to (dim_of s) (λ col. whole (size_of (stored_number s row col m))))))
      (half _ (rows 12 row (omega arith) b)))
    where
      half : (t : Fraction) → t ≤ℚ whole (pos (2 ^ 63)) → t *ℚ unit ≤ℚ over (pos 1) 2
      half t h = linear (t ∷ []) (natural 1 (2 ^ 64) ⊠ h) (hlevel claims) refl

  -- what the numbers before it are off gives at power k + 1
  abbrev gaps : ℕ → ℕ → Fraction
  gaps k row = sum_to (suc k) (λ m. sum_to (dim_of s) (λ col. units (stored_number s row col m) *ℚ off (k - m) col))

  gaps_small : (k row : ℕ) → row < dim_of s
      → ((j col : ℕ) → j ≤ k → col < dim_of s → size (off j col) ≤ℚ whole (pos 2) *ℚ unit)
      → size (gaps k row) ≤ℚ unit
  gaps_small k row b before = le_trans (size-sum_to (suc k) (λ m. sum_to (dim_of s)
      (λ col. units (stored_number s row col m) *ℚ off (k - m) col)))
      (le_trans (sum_to_mono (suc k) (λ m c. le_trans (size-sum_to (dim_of s)
      (λ col. units (stored_number s row col m) *ℚ off (k - m) col))
      (le_trans (sum_to_mono (dim_of s) (λ col d. le_trans (le_of_equal (size_mul
      (units (stored_number s row col m)) (off (k - m) col)))
      (times (size (units (stored_number s row col m))) (size (off (k - m) col))
      (size_natural (units (stored_number s row col m))) (before (k - m) col (omega arith) d))))
      (le_of_equal (sum_to_scale_right (dim_of s) (whole (pos 2) *ℚ unit)
      (λ col. size (units (stored_number s row col m))))))))
      (le_trans (le_of_equal (sum_to_scale_right (suc k) (whole (pos 2) *ℚ unit)
      (λ m. sum_to (dim_of s) (λ col. size (units (stored_number s row col m))))))
      (whole_of _ (row_half k row b))))
    where
      times : (x y : Fraction) → whole (pos 0) ≤ℚ x → y ≤ℚ whole (pos 2) *ℚ unit
          → x *ℚ y ≤ℚ x *ℚ (whole (pos 2) *ℚ unit)
      times x y h l = linear (x ∷ y ∷ []) (h ⊠ l) (hlevel claims) refl

      whole_of : (t : Fraction) → t ≤ℚ over (pos 1) 2 → t *ℚ (whole (pos 2) *ℚ unit) ≤ℚ unit
      whole_of t h = linear (t ∷ []) (natural 2 (2 ^ 64) ⊠ h) (hlevel claims) refl

  -- (k + 1) off_(k+1) is the gaps and what the rounding left out
  balance : (k row : ℕ)
      → whole (pos (suc k)) *ℚ off (suc k) row ≡ gaps k row +ℚ left_out s (coefficient s mid) k row
  balance k row = ring (whole (pos (suc k)) ∷ exact_coefficient s mid (suc k) row
      ∷ units (coefficient s mid (suc k) row) ∷ []) (hlevel terms) refl
      ∙ ap (λ t. t -ℚ whole (pos (suc k)) *ℚ units (coefficient s mid (suc k) row)) (exact_recurs s mid k row)
      ∙ settle _ _ _ (units (stored_free s row k))
      (whole (pos (suc k)) *ℚ units (coefficient s mid (suc k) row))
      (sym (sum_to_sub (suc k) _ _)
      ∙ sum_to_ext (suc k) (λ m c. sym (sum_to_sub (dim_of s) _ _)
      ∙ sum_to_ext (dim_of s) (λ col d. parted (units (stored_number s row col m))
      (exact_coefficient s mid (k - m) col) (units (coefficient s mid (k - m) col)))))
    where
      parted : (a x y : Fraction) → a *ℚ x -ℚ a *ℚ y ≡ a *ℚ (x -ℚ y)
      parted a x y = ring (a ∷ x ∷ y ∷ []) (hlevel terms) refl

      settle : (x y g f q : Fraction) → x -ℚ y ≡ g → (x +ℚ f) -ℚ q ≡ g +ℚ ((y +ℚ f) -ℚ q)
      settle x y g f q e = ring (x ∷ y ∷ f ∷ q ∷ []) (hlevel terms) refl
          ∙ ap (λ t. t +ℚ ((y +ℚ f) -ℚ q)) e

  -- one power on
  step : (k row : ℕ) → row < dim_of s
      → ((j col : ℕ) → j ≤ k → col < dim_of s → size (off j col) ≤ℚ whole (pos 2) *ℚ unit)
      → size (off (suc k) row) ≤ℚ whole (pos 2) *ℚ unit
  step k row b before = cancel_suc k (size (off (suc k) row)) (whole (pos 2) *ℚ unit)
      (combine (whole (pos (suc k))) (off (suc k) row) (gaps k row) (left_out s (coefficient s mid) k row)
      (balance k row) (natural (suc k) 1) (one_le_suc k) (gaps_small k row b before)
      ((run (suc k)).low k row (omega arith) b) (le_of_lt ((run (suc k)).high k row (omega arith) b)))
    where
      combine : (n x g l : Fraction) → n *ℚ x ≡ g +ℚ l → whole (pos 0) ≤ℚ n → whole (pos 1) ≤ℚ n → size g ≤ℚ unit
          → whole (pos 0) ≤ℚ l → l ≤ℚ n *ℚ units (pos 1) → n *ℚ size x ≤ℚ n *ℚ (whole (pos 2) *ℚ unit)
      combine n x g l e hn h1 hg hl hu = le_trans (le_of_equal (ap (λ t. t *ℚ size x) (sym (size_of_natural hn))
          ∙ sym (size_mul n x) ∙ ap size e)) (le_trans (size_add g l)
          (linear (n ∷ size g ∷ l ∷ size l ∷ []) (hg ⊞ le_of_equal (size_of_natural hl) ⊞ hu
          ⊞ natural 1 (2 ^ 64) ⊠ h1) (hlevel claims) refl))

  all_near : (k j row : ℕ) → j ≤ k → row < dim_of s → size (off j row) ≤ℚ whole (pos 2) *ℚ unit
  all_near zero j row b c = let e : j ≡ 0 = omega arith in rw e (at_start row c)
  all_near (suc k) j row b c = by_case (cases_lt k j) (λ l. all_near k j row l c)
      (λ i col l d. all_near k i col l d)
    where
      by_case : (k < j) ⊎ (j ≤ k) → (j ≤ k → size (off j row) ≤ℚ whole (pos 2) *ℚ unit)
          → ((i col : ℕ) → i ≤ k → col < dim_of s → size (off i col) ≤ℚ whole (pos 2) *ℚ unit)
          → size (off j row) ≤ℚ whole (pos 2) *ℚ unit
      by_case (inl l) g h = let e : j ≡ suc k = omega arith in rw e (step k row c h)
      by_case (inr l) g h = g l

  pub near_exact : (k row : ℕ) → row < dim_of s → size (off k row) ≤ℚ whole (pos 2) *ℚ unit
  near_exact k row b = all_near k k row (omega arith) b

  -- so a window of the exact coefficients is one of the rounded numbers, with twice the bound
  pub small_of_exact : (k : ℕ) → is_small_at s mid k ≡ true → HasSmallBack s mid k
  small_of_exact k h m row b c = whole_size (coefficient s mid (k - m) row) (exact_coefficient s mid (k - m) row) m
      (near_exact (k - m) row c) (record {
        le = holds_at_each (dim_of s)
            (λ row. is_not_negative (units (pos (32 * 8 ^ m)) -ℚ size (exact_coefficient s mid (k - m) row)))
            (holds_at_each (suc (greatest_power s)) (is_small_back s mid k) h m (omega arith)) row c;
      })
    where
      whole_size : (z : ℤ) (y : Fraction) (m : ℕ) → size (y -ℚ units z) ≤ℚ whole (pos 2) *ℚ unit
          → size y ≤ℚ units (pos (32 * 8 ^ m)) → unsigned_abs z ≤ 64 * 8 ^ m
      whole_size z y m near small = counted_size z y (32 * 8 ^ m) (64 * 8 ^ m) near small
          (let p = one-le-pow m 8 (omega arith) in omega (arith, p))

  pub stops_by_limit : (degree : ℕ) → IsStop s mid degree → degree ≤ degree_limit s mid
  stops_by_limit degree stop = least_after (is_small_at s mid) (least_degree (greatest_power s))
      (24 - least_degree (greatest_power s)) degree
      (let l = stop.least in let m = stop.most in omega (arith, l, m))
      (λ k l b h. stop.first k l b (small_of_exact k h))

-- in each case in which a step may be taken a row's sizes add up to at most a half
rows_longer : (s : StoredSystem) (a b : ℕ) → a ≤ b → RowsAreWithin s a → RowsAreWithin s b
rows_longer s a b h rows n row few c = le_trans (rows n row few c) (whole_le (omega (arith, ints, h)))

rows_in_sum : (s : StoredSystem) (e : System) (kappa40 : ℕ) → IsSystem s → StandsFor s e → IsTame Sum kappa40 e
    → RowsAreWithin s (2 ^ 63)
unfolding column_bound
rows_in_sum s e kappa40 sys stands tame n row few b =
    let columns = columns_in_sum s e kappa40 sys stands tame in
    le_trans (sum_to_mono n {g = λ m. whole (pos (dim_of s)) *ℚ column_bound s e m} (λ m c. le_trans
    (sum_to_mono (dim_of s) {g = λ col. column_bound s e m} (λ col d.
    le_trans (term_le_sum_to (dim_of s) row {f = λ i. whole (size_of (stored_number s i col m))}
    (λ i l. natural (unsigned_abs (stored_number s i col m)) 1) b)
    (columns.each m col d)))
    (le_of_equal (sum_same (dim_of s) (column_bound s e m)))))
    (le_trans (le_of_equal (sum_to_scale n (whole (pos (dim_of s))) (column_bound s e)))
    (le_trans (mul_mono (whole_le {n = pos (dim_of s)} {m = pos 24} (let d = sys.dim_small in omega (arith, ints, d)))
    (columns.total n few) (natural (dim_of s) 1) (natural (2 ^ 58 + 288) 1))
    (linear [] (natural 1 1) (hlevel claims) refl)))

pub rows_half : (s : StoredSystem) (mid : List ℤ) → IsSystem s → CanStep s mid → RowsAreWithin s (2 ^ 63)
rows_half s mid sys (in_sup e kappa40 stands tame small) =
    rows_longer s (2 ^ 58 + 288) (2 ^ 63) (lit≤ tt) (rows_in_sup s e kappa40 sys stands tame)
rows_half s mid sys (in_sum e kappa40 stands tame small) = rows_in_sum s e kappa40 sys stands tame
rows_half s mid sys (in_pair half p kappa40 c stands tame small) =
    rows_longer s (11 * 2 ^ 58 + 576) (2 ^ 63) (lit≤ tt) (rows_of_pair s half p kappa40 c sys stands tame)
