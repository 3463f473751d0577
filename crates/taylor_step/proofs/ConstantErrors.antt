-- Where nothing stands above power 0: exact coefficients from a start of one number, rounded ones of the stored numbers
-- beside them, and what both differ by.
use Rattle.std.specs.Prelude.{◌≡◌, ◌≢◌, ℕ, zero, suc, ◌+◌, ◌-◌, ◌*◌, ◌^◌, ◌<◌, ◌≤◌, pos, [], ◌∷◌, refl}
use Rattle.std.proofs.Common.{ap, sym, ◌∙◌, subst, arith, inl, inr}
use Rattle.std.proofs.lemmas.Bool.{cases_lt}
use Rattle.std.proofs.lemmas.Int.{ints}
use Rattle.frac_laws.specs.Fraction.{Fraction, over, whole, size, ◌+ℚ◌, ◌*ℚ◌, ◌-ℚ◌, ◌≤ℚ◌}
use Rattle.frac_laws.specs.Sums.{sum_to}
use Rattle.frac_laws.proofs.Convolutions.{sum_to_one}
use Rattle.frac_laws.proofs.FractionTerms.{ring, terms}
use Rattle.frac_laws.proofs.Linear.{linear, claims, natural, ◌⊞◌, ◌⊠◌, ◌·◌}
use Rattle.frac_laws.proofs.Order.{le_refl, le_trans, le_of_equal, add_mono}
use Rattle.frac_laws.proofs.Quotients.{inverse, whole_le}
use Rattle.frac_laws.proofs.Signs.{mul_natural}
use Rattle.frac_laws.proofs.Sizes.{size_add, size_mul, size_mul_natural, size_natural, size_of_natural}
use Rattle.frac_laws.proofs.Sums.{sum_to_add, sum_to_sub, sum_to_ext, sum_to_mono, sum_to_scale_right, sum_to_split}
use Rattle.frac_laws.proofs.Sums.{sum_to_zeros, sum_to_longer, size-sum_to}
use Rattle.taylor_step.proofs.Scaled.{unit}

-- a row's product with numbers of at most a size
row_product_within : (n : ℕ) (f v : ℕ → Fraction) (bound : Fraction) → ((j : ℕ) → j < n → size (v j) ≤ℚ bound)
    → size (sum_to n (λ j. f j *ℚ v j)) ≤ℚ sum_to n (λ j. size (f j)) *ℚ bound
row_product_within n f v bound h = le_trans (size-sum_to n (λ j. f j *ℚ v j))
    (le_trans (sum_to_mono n {g = λ j. size (f j) *ℚ bound} (λ j b.
    le_trans (le_of_equal (size_mul (f j) (v j))) (times (size (f j)) (size (v j)) (size_natural (f j)) (h j b))))
    (le_of_equal (sum_to_scale_right n bound (λ j. size (f j)))))
  where
    times : (x y : Fraction) → whole (pos 0) ≤ℚ x → y ≤ℚ bound → x *ℚ y ≤ℚ x *ℚ bound
    times x y p q = linear (x ∷ y ∷ bound ∷ []) (p ⊠ q) (hlevel claims) refl

-- bounds of the exact coefficients
abbrev pub coefficient_bound : ℕ → Fraction
coefficient_bound zero = whole (pos 1)
coefficient_bound (suc zero) = over (pos 9) 64
coefficient_bound (suc (suc k)) = over (pos 1) 64 *ℚ (over (pos 1) (suc (suc k)) *ℚ coefficient_bound (suc k))

coefficient_bound_natural : (k : ℕ) → whole (pos 0) ≤ℚ coefficient_bound k
coefficient_bound_natural zero = natural 1 1
coefficient_bound_natural (suc zero) = natural 9 64
coefficient_bound_natural (suc (suc k)) =
    mul_natural (natural 1 64) (mul_natural (natural 1 (suc (suc k))) (coefficient_bound_natural (suc k)))

-- each bound is at most half the one before it
bound_halves : (k : ℕ) → coefficient_bound (suc (suc k)) ≤ℚ over (pos 1) 2 *ℚ coefficient_bound (suc k)
bound_halves k = join (over (pos 1) (suc (suc k))) (coefficient_bound (suc k)) (whole (pos (suc (suc k))))
    (inverse (suc (suc k)) (omega arith)) (natural 1 (suc (suc k))) (whole_le (omega (arith, ints)))
    (coefficient_bound_natural (suc k))
  where
    join : (i x n : Fraction) → n *ℚ i ≡ whole (pos 1) → whole (pos 0) ≤ℚ i → whole (pos 1) ≤ℚ n
        → whole (pos 0) ≤ℚ x → over (pos 1) 64 *ℚ (i *ℚ x) ≤ℚ over (pos 1) 2 *ℚ x
    join i x n e hi hn hx = linear (i ∷ x ∷ n ∷ [])
        (natural 1 64 ⊠ (hi ⊠ hn ⊠ hx) ⊞ (over (pos 1) 64 *ℚ x) · e ⊞ natural 31 64 ⊠ hx) (hlevel claims) refl

-- from power 2 on they are at most 9/8192
late_bound : (k : ℕ) → coefficient_bound (suc (suc k)) ≤ℚ over (pos 9) 8192
late_bound zero = linear [] (natural 0 1) (hlevel claims) refl
late_bound (suc k) = halved (coefficient_bound (suc (suc (suc k)))) (coefficient_bound (suc (suc k)))
    (bound_halves (suc k)) (late_bound k) (coefficient_bound_natural (suc (suc k)))
  where
    halved : (x y : Fraction) → x ≤ℚ over (pos 1) 2 *ℚ y → y ≤ℚ over (pos 9) 8192 → whole (pos 0) ≤ℚ y
        → x ≤ℚ over (pos 9) 8192
    halved x y h l n = linear (x ∷ y ∷ []) (h ⊞ l ⊞ natural 1 2 ⊠ n) (hlevel claims) refl

-- a unit, halved some times
abbrev halved_unit : ℕ → Fraction
halved_unit zero = unit
halved_unit (suc j) = over (pos 1) 2 *ℚ halved_unit j

halved_unit_natural : (j : ℕ) → whole (pos 0) ≤ℚ halved_unit j
halved_unit_natural zero = natural 1 (2 ^ 64)
halved_unit_natural (suc j) = mul_natural (natural 1 2) (halved_unit_natural j)

-- from power 9 on the bounds are below these
tail_bound : (j : ℕ) → coefficient_bound (9 + j) ≤ℚ halved_unit j
tail_bound zero = linear [] (natural 0 1) (hlevel claims) refl
tail_bound (suc j) = le_trans (let e : 9 + suc j ≡ suc (suc (8 + j)) = omega arith in rw e (bound_halves (8 + j)))
    (half (coefficient_bound (suc (8 + j))) (halved_unit j)
    (let e : suc (8 + j) ≡ 9 + j = omega arith in rw e (tail_bound j)))
  where
    half : (x y : Fraction) → x ≤ℚ y → over (pos 1) 2 *ℚ x ≤ℚ over (pos 1) 2 *ℚ y
    half x y h = linear (x ∷ y ∷ []) (natural 1 2 ⊠ h) (hlevel claims) refl

-- and add up to at most two units
halved_units_total : (m : ℕ) → sum_to m halved_unit +ℚ whole (pos 2) *ℚ halved_unit m ≤ℚ whole (pos 2) *ℚ unit
halved_units_total zero = linear [] (natural 0 1) (hlevel claims) refl
halved_units_total (suc m) = one_more (sum_to m halved_unit) (halved_unit m) (halved_units_total m)
  where
    one_more : (x y : Fraction) → x +ℚ whole (pos 2) *ℚ y ≤ℚ whole (pos 2) *ℚ unit
        → x +ℚ y +ℚ whole (pos 2) *ℚ (over (pos 1) 2 *ℚ y) ≤ℚ whole (pos 2) *ℚ unit
    one_more x y h = linear (x ∷ y ∷ unit ∷ []) h (hlevel claims) refl

-- bounds of the errors up to power 8
abbrev pub error_bound : ℕ → Fraction
error_bound zero = whole (pos 0)
error_bound (suc zero) = whole (pos 5) *ℚ unit
error_bound (suc (suc zero)) = over (pos 11) 4 *ℚ unit
error_bound (suc (suc (suc k))) = over (pos 33) 32 *ℚ unit

-- exact and stored numbers by row and column, free ones by power and row, and both runs by power and row
pub record AreConstantRuns (d : ℕ) (exact stored : ℕ → ℕ → Fraction) (free kept : ℕ → ℕ → Fraction)
    (y z : ℕ → ℕ → Fraction) : Type 0 where
  pub few : d ≤ 24
  pub near : (row col : ℕ) → row < d → col < d → size (exact row col -ℚ stored row col) ≤ℚ unit
  pub rows : (row : ℕ) → row < d → sum_to d (λ col. size (exact row col)) ≤ℚ over (pos 1) 64
  pub stored_rows : (row : ℕ) → row < d → sum_to d (λ col. size (stored row col)) ≤ℚ over (pos 1) 63
  pub free_small : (row : ℕ) → row < d → size (free 0 row) ≤ℚ over (pos 1) 8
  pub free_near : (row : ℕ) → row < d → size (free 0 row -ℚ kept 0 row) ≤ℚ whole (pos 3) *ℚ unit
  pub free_later : (k row : ℕ) → row < d → free (suc k) row ≡ whole (pos 0)
  pub kept_later : (k row : ℕ) → row < d → kept (suc k) row ≡ whole (pos 0)
  pub recurs : (k row : ℕ) → row < d
      → whole (pos (suc k)) *ℚ y (suc k) row ≡ sum_to d (λ col. exact row col *ℚ y k col) +ℚ free k row
  pub rounded_low : (k row : ℕ) → k < 8 → row < d → whole (pos 0)
      ≤ℚ (sum_to d (λ col. stored row col *ℚ z k col) +ℚ kept k row) -ℚ whole (pos (suc k)) *ℚ z (suc k) row
  pub rounded_high : (k row : ℕ) → k < 8 → row < d
      → (sum_to d (λ col. stored row col *ℚ z k col) +ℚ kept k row) -ℚ whole (pos (suc k)) *ℚ z (suc k) row
      ≤ℚ whole (pos (suc k)) *ℚ unit
  pub starts : (row : ℕ) → row < d → y 0 row ≡ z 0 row
  pub place : ℕ
  pub others : (col : ℕ) → col ≢ place → y 0 col ≡ whole (pos 0)
  pub small : (col : ℕ) → size (y 0 col) ≤ℚ whole (pos 1)

module _ (d : ℕ) (exact stored : ℕ → ℕ → Fraction) (free kept : ℕ → ℕ → Fraction) (y z : ℕ → ℕ → Fraction)
    (runs : AreConstantRuns d exact stored free kept y z) where
  coefficients_small : (k row : ℕ) → row < d → size (y k row) ≤ℚ coefficient_bound k
  coefficients_small zero row b = runs.small row
  coefficients_small (suc zero) row b = join (size (y 1 row)) (whole (pos 1) *ℚ size (y 1 row))
      (size (sum_to d (λ col. exact row col *ℚ y 0 col))) (sum_to d (λ col. size (exact row col))) (size (free 0 row))
      (ring (size (y 1 row) ∷ []) (hlevel terms) refl)
      (le_trans (le_of_equal (sym (size_mul_natural (y 1 row) (natural 1 1)) ∙ ap size (runs.recurs 0 row b)))
      (size_add (sum_to d (λ col. exact row col *ℚ y 0 col)) (free 0 row)))
      (row_product_within d (exact row) (y 0) (whole (pos 1)) (λ col c. runs.small col)) (runs.rows row b)
      (runs.free_small row b)
    where
      join : (x n m t g : Fraction) → n ≡ x → n ≤ℚ m +ℚ g → m ≤ℚ t *ℚ whole (pos 1) → t ≤ℚ over (pos 1) 64
          → g ≤ℚ over (pos 1) 8 → x ≤ℚ over (pos 9) 64
      join x n m t g e h1 h2 h3 h4 = linear (x ∷ n ∷ m ∷ t ∷ g ∷ []) (le_of_equal (sym e) ⊞ h1 ⊞ h2 ⊞ h3 ⊞ h4)
          (hlevel claims) refl
  coefficients_small (suc (suc k)) row b = join (whole (pos (suc (suc k)))) (over (pos 1) (suc (suc k)))
      (size (y (suc (suc k)) row)) (size (sum_to d (λ col. exact row col *ℚ y (suc k) col)))
      (sum_to d (λ col. size (exact row col))) (coefficient_bound (suc k))
      (inverse (suc (suc k)) (omega arith)) (natural 1 (suc (suc k)))
      (le_of_equal (sym (size_mul_natural (y (suc (suc k)) row) (natural (suc (suc k)) 1))
      ∙ ap size (runs.recurs (suc k) row b
      ∙ ap (λ t. sum_to d (λ col. exact row col *ℚ y (suc k) col) +ℚ t) (runs.free_later k row b)
      ∙ ring (sum_to d (λ col. exact row col *ℚ y (suc k) col) ∷ []) (hlevel terms) refl)))
      (row_product_within d (exact row) (y (suc k)) (coefficient_bound (suc k))
      (λ col c. coefficients_small (suc k) col c)) (runs.rows row b) (coefficient_bound_natural (suc k))
    where
      join : (n i x m t f : Fraction) → n *ℚ i ≡ whole (pos 1) → whole (pos 0) ≤ℚ i → n *ℚ x ≤ℚ m → m ≤ℚ t *ℚ f
          → t ≤ℚ over (pos 1) 64 → whole (pos 0) ≤ℚ f → x ≤ℚ over (pos 1) 64 *ℚ (i *ℚ f)
      join n i x m t f e hi h1 h2 h3 hf = linear (n ∷ i ∷ x ∷ m ∷ t ∷ f ∷ [])
          (hi ⊠ (h1 ⊞ h2 ⊞ h3 ⊠ hf) ⊞ (x · sym e)) (hlevel claims) refl

  -- exact numbers less stored ones
  changes : ℕ → ℕ → Fraction
  changes row col = exact row col -ℚ stored row col

  -- how far apart the coefficients are
  abbrev pub error : ℕ → ℕ → Fraction
  error k row = y k row -ℚ z k row

  -- (k + 1) times the next error: the stored numbers meet the errors, the changes meet the exact coefficients, and the
  -- free numbers differ and the rounding leaves something out at power k
  error_recurs : (k row : ℕ) → row < d → whole (pos (suc k)) *ℚ error (suc k) row
      ≡ sum_to d (λ col. stored row col *ℚ error k col) +ℚ sum_to d (λ col. changes row col *ℚ y k col)
      +ℚ (free k row -ℚ kept k row)
      +ℚ ((sum_to d (λ col. stored row col *ℚ z k col) +ℚ kept k row) -ℚ whole (pos (suc k)) *ℚ z (suc k) row)
  unfolding changes
  error_recurs k row b = balance (whole (pos (suc k))) (y (suc k) row) (z (suc k) row)
      (sum_to d (λ col. exact row col *ℚ y k col)) (sum_to d (λ col. stored row col *ℚ z k col))
      (sum_to d (λ col. stored row col *ℚ error k col)) (sum_to d (λ col. changes row col *ℚ y k col))
      (free k row) (kept k row) (runs.recurs k row b) parts
    where
      parts : sum_to d (λ col. exact row col *ℚ y k col)
          ≡ sum_to d (λ col. stored row col *ℚ z k col) +ℚ (sum_to d (λ col. stored row col *ℚ error k col)
          +ℚ sum_to d (λ col. changes row col *ℚ y k col))
      parts = sum_to_ext d (λ col c.
          ring (exact row col ∷ stored row col ∷ y k col ∷ z k col ∷ []) (hlevel terms) refl)
          ∙ sum_to_add d (λ col. stored row col *ℚ z k col)
          (λ col. stored row col *ℚ error k col +ℚ changes row col *ℚ y k col)
          ∙ ap (λ t. sum_to d (λ col. stored row col *ℚ z k col) +ℚ t)
          (sum_to_add d (λ col. stored row col *ℚ error k col) (λ col. changes row col *ℚ y k col))

      balance : (n u v a c p q g h : Fraction) → n *ℚ u ≡ a +ℚ g → a ≡ c +ℚ (p +ℚ q)
          → n *ℚ (u -ℚ v) ≡ p +ℚ q +ℚ (g -ℚ h) +ℚ ((c +ℚ h) -ℚ n *ℚ v)
      balance n u v a c p q g h e f = ring (n ∷ u ∷ v ∷ []) (hlevel terms) refl
          ∙ ap (λ t. t -ℚ n *ℚ v) (e ∙ ap (λ t. t +ℚ g) f)
          ∙ ring (n ∷ v ∷ c ∷ p ∷ q ∷ g ∷ h ∷ []) (hlevel terms) refl

  -- what the changes meet at the start is one number
  start_meets_one : (row : ℕ) → row < d → size (sum_to d (λ col. changes row col *ℚ y 0 col)) ≤ℚ unit
  unfolding changes
  start_meets_one row b = elim (cases_lt runs.place d) [
    | inl c ↦ le_trans (le_of_equal (ap size (sum_to_one d runs.place c (λ col f.
        ap (λ t. changes row col *ℚ t) (runs.others col f) ∙ ring (changes row col ∷ []) (hlevel terms) refl))
        ∙ size_mul (changes row runs.place) (y 0 runs.place)))
        (times (size (changes row runs.place)) (size (y 0 runs.place)) (size_natural (y 0 runs.place))
        (runs.near row runs.place b c) (runs.small runs.place))
    | inr c ↦ le_trans (le_of_equal (ap size (sum_to_zeros d (λ col f.
        ap (λ t. changes row col *ℚ t) (runs.others col (λ e. absurd (omega (arith, e, c, f))))
        ∙ ring (changes row col ∷ []) (hlevel terms) refl)) ∙ size_of_natural (natural 0 1))) (natural 1 (2 ^ 64))
  ]
    where
      times : (c x : Fraction) → whole (pos 0) ≤ℚ x → c ≤ℚ unit → x ≤ℚ whole (pos 1) → c *ℚ x ≤ℚ unit
      times c x n h k = linear (c ∷ x ∷ []) (h ⊠ n ⊞ natural 1 (2 ^ 64) ⊠ k) (hlevel claims) refl

  -- and later at most 24 units times the bound
  later_meets : (k row : ℕ) → row < d
      → size (sum_to d (λ col. changes row col *ℚ y k col)) ≤ℚ whole (pos 24) *ℚ unit *ℚ coefficient_bound k
  unfolding changes
  later_meets k row b = join (size (sum_to d (λ col. changes row col *ℚ y k col)))
      (sum_to d (λ col. size (changes row col))) (coefficient_bound k)
      (row_product_within d (changes row) (y k) (coefficient_bound k) (λ col c. coefficients_small k col c))
      (le_trans (sum_to_mono d {g = λ col. unit} (λ col c. runs.near row col b c))
      (le_trans (sum_to_longer d 24 (λ col c. natural 1 (2 ^ 64)) runs.few)
      (linear [] (natural 0 1) (hlevel claims) refl))) (coefficient_bound_natural k)
    where
      join : (x t f : Fraction) → x ≤ℚ t *ℚ f → t ≤ℚ whole (pos 24) *ℚ unit → whole (pos 0) ≤ℚ f
          → x ≤ℚ whole (pos 24) *ℚ unit *ℚ f
      join x t f h k n = linear (x ∷ t ∷ f ∷ []) (h ⊞ k ⊠ n) (hlevel claims) refl

  -- one step of the recurrence in bounds
  next_error : (k row : ℕ) (before met gap : Fraction) → row < d → k < 8
      → ((col : ℕ) → col < d → size (error k col) ≤ℚ before) → whole (pos 0) ≤ℚ before
      → size (sum_to d (λ col. changes row col *ℚ y k col)) ≤ℚ met → size (free k row -ℚ kept k row) ≤ℚ gap
      → whole (pos (suc k)) *ℚ size (error (suc k) row)
      ≤ℚ over (pos 1) 63 *ℚ before +ℚ met +ℚ gap +ℚ whole (pos (suc k)) *ℚ unit
  next_error k row before met gap b c errors natural_before met_small gap_small =
      join (whole (pos (suc k)) *ℚ size (error (suc k) row))
      (size (sum_to d (λ col. stored row col *ℚ error k col))) (size (sum_to d (λ col. changes row col *ℚ y k col)))
      (size (free k row -ℚ kept k row)) (sum_to d (λ col. size (stored row col))) before met gap
      (whole (pos (suc k)) *ℚ unit)
      (le_trans (le_of_equal (sym (size_mul_natural (error (suc k) row) (natural (suc k) 1))
      ∙ ap size (error_recurs k row b)))
      (le_trans (size_add _ _) (add_mono (le_trans (size_add _ _) (add_mono (size_add _ _) (le_refl _)))
      (le_trans (le_of_equal (size_of_natural (runs.rounded_low k row c b))) (runs.rounded_high k row c b)))))
      (row_product_within d (stored row) (error k) before errors) (runs.stored_rows row b) natural_before met_small
      gap_small
    where
      join : (n p q g t e m h l : Fraction) → n ≤ℚ p +ℚ q +ℚ g +ℚ l → p ≤ℚ t *ℚ e → t ≤ℚ over (pos 1) 63
          → whole (pos 0) ≤ℚ e → q ≤ℚ m → g ≤ℚ h → n ≤ℚ over (pos 1) 63 *ℚ e +ℚ m +ℚ h +ℚ l
      join n p q g t e m h l h1 h2 h3 h4 h5 h6 = linear (n ∷ p ∷ q ∷ g ∷ t ∷ e ∷ m ∷ h ∷ l ∷ [])
          (h1 ⊞ h2 ⊞ h3 ⊠ h4 ⊞ h5 ⊞ h6) (hlevel claims) refl

  no_gap : (k row : ℕ) → row < d → size (free (suc k) row -ℚ kept (suc k) row) ≤ℚ whole (pos 0)
  no_gap k row b = le_of_equal (ap size (zero_less (runs.free_later k row b) (runs.kept_later k row b))
      ∙ size_of_natural (natural 0 1))
    where
      zero_less : {x w : Fraction} → x ≡ whole (pos 0) → w ≡ whole (pos 0) → x -ℚ w ≡ whole (pos 0)
      zero_less e f = rw (e, f) (ring [] (hlevel terms) refl)

  no_error : (row : ℕ) → row < d → size (error 0 row) ≤ℚ whole (pos 0)
  no_error row b = le_of_equal (ap size (ap (λ t. t -ℚ z 0 row) (runs.starts row b)
      ∙ ring (z 0 row ∷ []) (hlevel terms) refl) ∙ size_of_natural (natural 0 1))

  first_error : (row : ℕ) → row < d → size (error 1 row) ≤ℚ error_bound 1
  first_error row b = join (size (error 1 row)) (next_error 0 row (whole (pos 0)) unit (whole (pos 3) *ℚ unit) b
      (omega arith) no_error (natural 0 1) (start_meets_one row b) (runs.free_near row b))
    where
      join : (x : Fraction) → whole (pos 1) *ℚ x ≤ℚ over (pos 1) 63 *ℚ whole (pos 0) +ℚ unit +ℚ whole (pos 3) *ℚ unit
          +ℚ whole (pos 1) *ℚ unit → x ≤ℚ whole (pos 5) *ℚ unit
      join x h = linear (x ∷ []) h (hlevel claims) refl

  second_error : (row : ℕ) → row < d → size (error 2 row) ≤ℚ error_bound 2
  second_error row b = join (size (error 2 row)) (next_error 1 row (whole (pos 5) *ℚ unit)
      (whole (pos 24) *ℚ unit *ℚ over (pos 9) 64) (whole (pos 0)) b (omega arith) first_error
      (mul_natural (natural 5 1) (natural 1 (2 ^ 64))) (later_meets 1 row b) (no_gap 0 row b))
    where
      join : (x : Fraction) → whole (pos 2) *ℚ x ≤ℚ over (pos 1) 63 *ℚ (whole (pos 5) *ℚ unit)
          +ℚ whole (pos 24) *ℚ unit *ℚ over (pos 9) 64 +ℚ whole (pos 0) +ℚ whole (pos 2) *ℚ unit
          → x ≤ℚ over (pos 11) 4 *ℚ unit
      join x h = linear (x ∷ []) (natural 1 2 ⊠ h) (hlevel claims) refl

  -- each later one from one of at most 11/4 of a unit
  later_error : (k row : ℕ) → row < d → suc (suc k) < 8
      → ((col : ℕ) → col < d → size (error (suc (suc k)) col) ≤ℚ over (pos 11) 4 *ℚ unit)
      → size (error (suc (suc (suc k))) row) ≤ℚ over (pos 33) 32 *ℚ unit
  later_error k row b c errors = join (size (error (suc (suc (suc k))) row)) (whole (pos (suc (suc (suc k)))))
      (coefficient_bound (suc (suc k))) (over (pos 1) (suc (suc (suc k))))
      (next_error (suc (suc k)) row (over (pos 11) 4 *ℚ unit)
      (whole (pos 24) *ℚ unit *ℚ coefficient_bound (suc (suc k)))
      (whole (pos 0)) b c errors
      (mul_natural (natural 11 4) (natural 1 (2 ^ 64))) (later_meets (suc (suc k)) row b) (no_gap (suc k) row b))
      (late_bound k) (whole_le (omega (arith, ints))) (inverse (suc (suc (suc k))) (omega arith))
      (natural 1 (suc (suc (suc k))))
    where
      join : (x n f i : Fraction) → n *ℚ x ≤ℚ over (pos 1) 63 *ℚ (over (pos 11) 4 *ℚ unit)
          +ℚ whole (pos 24) *ℚ unit *ℚ f +ℚ whole (pos 0) +ℚ n *ℚ unit → f ≤ℚ over (pos 9) 8192 → whole (pos 3) ≤ℚ n
          → n *ℚ i ≡ whole (pos 1) → whole (pos 0) ≤ℚ i → x ≤ℚ over (pos 33) 32 *ℚ unit
      join x n f i h1 h2 h3 e hi = linear (x ∷ n ∷ f ∷ i ∷ [])
          (hi ⊠ (h1 ⊞ natural 24 (2 ^ 64) ⊠ h2 ⊞ natural 1 (32 * 2 ^ 64) ⊠ h3) ⊞ natural 1531 (64512 * 2 ^ 64) ⊠ hi
          ⊞ (x -ℚ over (pos 33) 32 *ℚ unit) · sym e) (hlevel claims) refl

  errors_small : (k row : ℕ) → row < d → k ≤ 8 → size (error k row) ≤ℚ error_bound k
  errors_small zero row b c = no_error row b
  errors_small (suc zero) row b c = first_error row b
  errors_small (suc (suc zero)) row b c = second_error row b
  errors_small (suc (suc (suc zero))) row b c = later_error 0 row b (omega (arith, c)) second_error
  errors_small (suc (suc (suc (suc k)))) row b c = later_error (suc k) row b (omega (arith, c))
      (λ col e. le_trans (errors_small (suc (suc (suc k))) col e (omega (arith, c)))
      (linear [] (natural 0 1) (hlevel claims) refl))

  -- all of them
  errors_total : (row : ℕ) → row < d → size (sum_to 9 (λ k. error k row)) ≤ℚ whole (pos 14) *ℚ unit
  errors_total row b = le_trans (size-sum_to 9 (λ k. error k row))
      (le_trans (sum_to_mono 9 {g = error_bound} (λ k c. errors_small k row b (omega (arith, c))))
      (linear [] (natural 0 1) (hlevel claims) refl))

  -- what follows power 8
  tail_small : (m row : ℕ) → row < d → size (sum_to m (λ j. y (9 + j) row)) ≤ℚ whole (pos 2) *ℚ unit
  tail_small m row b = le_trans (size-sum_to m (λ j. y (9 + j) row))
      (le_trans (sum_to_mono m {g = halved_unit} (λ j c. le_trans (coefficients_small (9 + j) row b) (tail_bound j)))
      (less (sum_to m halved_unit) (halved_unit m) (halved_units_total m) (halved_unit_natural m)))
    where
      less : (x t : Fraction) → x +ℚ whole (pos 2) *ℚ t ≤ℚ whole (pos 2) *ℚ unit → whole (pos 0) ≤ℚ t
          → x ≤ℚ whole (pos 2) *ℚ unit
      less x t h n = linear (x ∷ t ∷ []) (h ⊞ whole_two ⊠ n) (hlevel claims) refl
        where
          whole_two : whole (pos 0) ≤ℚ whole (pos 2)
          whole_two = natural 2 1

  -- the sum of the exact coefficients to any power from 8 on, and that of the rounded ones to power 8
  pub sums_are_near : (n row : ℕ) → 8 ≤ n → row < d
      → size (sum_to (suc n) (λ k. y k row) -ℚ sum_to 9 (λ k. z k row)) ≤ℚ whole (pos 16) *ℚ unit
  sums_are_near n row c b = let e : suc n ≡ 9 + (n - 8) = omega (arith, c) in
      subst (λ t. size (sum_to t (λ k. y k row) -ℚ sum_to 9 (λ k. z k row)) ≤ℚ whole (pos 16) *ℚ unit) (sym e)
      (le_trans (le_of_equal (ap size (apart (sum_to (9 + (n - 8)) (λ k. y k row)) (sum_to 9 (λ k. z k row))
      (sum_to 9 (λ k. y k row)) (sum_to (n - 8) (λ j. y (9 + j) row)) (sum_to 9 (λ k. error k row))
      (sum_to_split 9 (n - 8) (λ k. y k row)) (sum_to_sub 9 (λ k. y k row) (λ k. z k row)))))
      (le_trans (size_add (sum_to 9 (λ k. error k row)) (sum_to (n - 8) (λ j. y (9 + j) row)))
      (le_trans (add_mono (errors_total row b) (tail_small (n - 8) row b))
      (linear [] (natural 0 1) (hlevel claims) refl))))
    where
      apart : (x w a t q : Fraction) → x ≡ a +ℚ t → q ≡ a -ℚ w → x -ℚ w ≡ q +ℚ t
      apart x w a t q f g = rw (f, g) (ring (w ∷ a ∷ t ∷ []) (hlevel terms) refl)
