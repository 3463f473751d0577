-- From cell to cell of a month: the ledger carries the distance.
use Rattle.std.specs.Prelude.{◌≡◌, ℕ, zero, suc, pos, List, [], ◌∷◌, length, ◌<◌, ◌≤◌, ◌-◌, ◌*◌, ◌^◌}
use Rattle.std.proofs.Common.{refl, ap, sym, ◌∙◌, inl, inr, arith}
use Rattle.std.proofs.lemmas.Bool.{cases_lt}
use Rattle.std.proofs.lemmas.List.{get_or_past}
use Rattle.frac_laws.specs.Fraction.{Fraction, whole, size, ◌+ℚ◌, ◌*ℚ◌, ◌-ℚ◌, ◌≤ℚ◌}
use Rattle.frac_laws.specs.Sums.{sum_to, power}
use Rattle.frac_laws.specs.Lists.{Vector, SameNumbers, number_at, subtract_lists}
use Rattle.frac_laws.specs.Norms.{Norm, norm_of_vector}
use Rattle.frac_laws.specs.Ledger.{grow}
use Rattle.frac_laws.specs.Polynomials.{value_at}
use Rattle.frac_laws.proofs.FractionTerms.{ring, terms}
use Rattle.frac_laws.proofs.Linear.{linear, claims, natural, ◌⊞◌, ◌⊠◌}
use Rattle.frac_laws.proofs.Order.{le_refl, le_trans, le_of_equal}
use Rattle.frac_laws.proofs.Powers.{power_natural}
use Rattle.frac_laws.proofs.Quotients.{whole_suc}
use Rattle.frac_laws.proofs.Sums.{sum_to_mono, sum_to_scale}
use Rattle.frac_laws.proofs.Norms.{norm-same}
use Rattle.frac_laws.proofs.Vectors.{number_at-subtract_lists}
use Rattle.cell_laws.specs.Systems.{System, coefficient, taylor_value}
use Rattle.cell_laws.specs.Tame.{growth_of}
use Rattle.cell_laws.specs.ErrorLaws.{distance}
use Rattle.cell_laws.proofs.Dimensions.{taylor_values_keep_dimension}
use Rattle.cell_laws.proofs.Errors.{errors_grow_by_kappa}
use Rattle.step_laws.specs.StandsFor.{units}
use Rattle.step_laws.proofs.Distances.{triangle}
use Rattle.step_laws.proofs.Grown.{grown, units_are, whole_numbers_le}
use Rattle.whole_laws.specs.Whole.{list_of}
use Rattle.model_specs.specs.Runs.{month_back}
use Rattle.model_specs.specs.Ledgers.{grow_cells}
use Rattle.whole_laws.proofs.ListsByPlace.{length-list_of}
use Rattle.shift_laws.specs.Shifts.{size_at}
use Rattle.polynomial_runs.specs.PolynomialSystems.{values, residual}
use Rattle.polynomial_runs.specs.FarDecay.{run_polynomial}
use Rattle.polynomial_runs.specs.MonthPolynomials.{IsMonth, PolynomialsFollowMonths}
use Rattle.shift_laws.proofs.Shifts.{size_at-natural}
use Rattle.polynomial_runs.proofs.Tables.{values-at, values-past}
use Rattle.polynomial_runs.proofs.Following.{polynomials_follow_cells}
use Rattle.polynomial_runs.proofs.Misses.{runs_miss_little}

-- weighted sizes grow with the weight
size_at-mono : (w x : Fraction) (p : List Fraction) → whole (pos 0) ≤ℚ w → w ≤ℚ x → size_at w p ≤ℚ size_at x p
size_at-mono w x [] hw h = le_refl _
size_at-mono w x (c ∷ p) hw h = linear (size c ∷ w ∷ x ∷ size_at w p ∷ size_at x p ∷ [])
    (hw ⊠ size_at-mono w x p hw h
    ⊞ h ⊠ size_at-natural x p (linear (w ∷ x ∷ []) (hw ⊞ h) (hlevel claims) refl)) (hlevel claims) refl

-- a ledger's growth from the first cell on
pub grow_cells-first : (kappa add w cells : ℕ)
    → grow_cells kappa add (grow w kappa add) cells ≡ grow (grow_cells kappa add w cells) kappa add
grow_cells-first kappa add w zero = refl
grow_cells-first kappa add w (suc cells) = ap (λ r. grow r kappa add) (grow_cells-first kappa add w cells)

-- (1 + kappa) w and what is added are within the grown ledger
grown_whole : (w kappa40 add : ℕ) → (whole (pos 1) +ℚ growth_of kappa40) *ℚ whole (pos w) +ℚ whole (pos add)
    ≤ℚ whole (pos (grow w kappa40 add))
grown_whole w kappa40 add = join (growth_of kappa40) (whole (pos w)) (whole (pos add))
    (whole (pos (grow w kappa40 add))) (units w) (units add) (units (grow w kappa40 add)) (units_are w) (units_are add)
    (units_are (grow w kappa40 add)) (grown w kappa40 add)
  where
    join : (k w a z x y u : Fraction) → x ≡ w *ℚ units 1 → y ≡ a *ℚ units 1 → u ≡ z *ℚ units 1
        → (whole (pos 1) +ℚ k) *ℚ x +ℚ y ≤ℚ u → (whole (pos 1) +ℚ k) *ℚ w +ℚ a ≤ℚ z
    join k w a z x y u e1 e2 e3 h = linear (k ∷ w ∷ a ∷ z ∷ [])
        (natural (2 ^ 64) 1 ⊠ (rw (e1, e2, e3) at h)) (hlevel claims) refl

-- at most so many terms that are each at most c
sum_of_most : (d : ℕ) (f : ℕ → Fraction) (c : Fraction) → ((i : ℕ) → i < d → f i ≤ℚ c)
    → sum_to d f ≤ℚ whole (pos d) *ℚ c
sum_of_most zero f c h = linear (c ∷ []) (le_refl (whole (pos 0))) (hlevel claims) refl
sum_of_most (suc d) f c h = rw (whole_suc d) (linear (sum_to d f ∷ f d ∷ whole (pos d) ∷ c ∷ [])
    (sum_of_most d f c (λ i b. h i (omega arith)) ⊞ h d (omega arith)) (hlevel claims) refl)

pub distance-same : (norm : Norm) (u v w : Vector) → SameNumbers u v → distance norm u w ≡ distance norm v w
distance-same norm u v w h = norm-same norm (subtract_lists u w) (subtract_lists v w)
    (λ i. number_at-subtract_lists u w i ∙ ap (λ z. z -ℚ number_at w i) (h i)
    ∙ sym (number_at-subtract_lists v w i))

module _ (norm : Norm) (kappa40 : ℕ) (system : ℕ → System) (d : ℕ) (e : ℕ → ℕ → List Fraction)
    (g : ℕ → List Fraction) (y : Vector) (n t : ℕ) (h : IsMonth norm kappa40 system d e g) (few : d ≤ 12)
    (short : length y ≤ d) (start : norm_of_vector norm y ≤ℚ whole (pos 2)) (late : 544 ≤ t) (high : 7 * t ≤ n) where
  abbrev p : ℕ → List Fraction
  p = run_polynomial (system 31) y n

  abbrev two : Fraction
  two = power (whole (pos 2)) t

  abbrev missed : ℕ → Fraction
  missed i = size_at (whole (pos 32)) (residual d e g p i)

  two_natural : whole (pos 0) ≤ℚ two
  two_natural = power_natural {x = whole (pos 2)} t (natural 2 1)

  all-missed : two *ℚ sum_to d missed ≤ℚ whole (pos (12 * 68))
  all-missed = le_trans (le_of_equal (sym (sum_to_scale d two missed)))
      (le_trans (sum_of_most d (λ i. two *ℚ missed i) (whole (pos 68))
      (λ i low. runs_miss_little norm kappa40 (system 31) d e g y n t i h.last_decays h.last start late high low))
      (linear (whole (pos d) ∷ []) (whole_numbers_le d 12 few ⊠ natural 68 1) (hlevel claims) refl))

  length-values : (x : Fraction) → length (values d p x) ≤ d
  length-values x = rw (length-list_of d (λ i. value_at (p i) x)) (omega arith)

  -- the polynomial against a cell that starts from its value
  fresh : (cell : ℕ) → cell < 32
      → two *ℚ distance norm (values d p (whole (pos (32 - cell))))
      (taylor_value (system cell) (values d p (whole (pos (31 - cell)))) n) ≤ℚ whole (pos 1024)
  fresh cell low = combine two (distance norm (values d p (whole (pos (32 - cell)))) _)
      (sum_to d (λ i. size_at (whole (pos 1) +ℚ b) (residual d e g p i))) (sum_to d missed) two_natural
      (rw next (polynomials_follow_cells norm kappa40 (system cell) d e g p b n (h.tame cell low) (h.cells cell low)
      (natural (31 - cell) 1) (λ i. length-list_of (suc n) (λ k. number_at (coefficient (system 31) y k) i))))
      (sum_to_mono d (λ i c. size_at-mono (whole (pos 1) +ℚ b) (whole (pos 32)) (residual d e g p i)
      (linear (b ∷ []) (natural (31 - cell) 1) (hlevel claims) refl)
      (le_trans (le_of_equal (ring (b ∷ []) (hlevel terms) refl ∙ sym next))
      (whole_numbers_le (32 - cell) 32 (omega arith)))))
      all-missed
    where
      b : Fraction
      b = whole (pos (31 - cell))

      next : whole (pos (32 - cell)) ≡ b +ℚ whole (pos 1)
      next = let c : 32 - cell ≡ suc (31 - cell) = omega arith in
          ap (λ k. whole (pos k)) c ∙ whole_suc (31 - cell) ∙ ring (b ∷ []) (hlevel terms) refl

      combine : (two x y z : Fraction) → whole (pos 0) ≤ℚ two → whole (pos 63) *ℚ x ≤ℚ whole (pos 64) *ℚ y → y ≤ℚ z
          → two *ℚ z ≤ℚ whole (pos (12 * 68)) → two *ℚ x ≤ℚ whole (pos 1024)
      combine two x y z ht h1 h2 h3 = linear (two ∷ x ∷ y ∷ z ∷ [])
          (natural 1 63 ⊠ (ht ⊠ h1) ⊞ natural 64 63 ⊠ (ht ⊠ h2) ⊞ natural 64 63 ⊠ h3) (hlevel claims) refl

  -- one cell on
  next-cell : (cell w : ℕ) (v : Vector) → cell < 32 → length v ≤ d
      → two *ℚ distance norm (values d p (whole (pos (31 - cell)))) v ≤ℚ whole (pos w)
      → two *ℚ distance norm (values d p (whole (pos (32 - cell)))) (taylor_value (system cell) v n)
      ≤ℚ whole (pos (grow w kappa40 1024))
  next-cell cell w v low fits near = combine two
      (distance norm (values d p (whole (pos (32 - cell)))) (taylor_value (system cell) v n))
      (distance norm (values d p (whole (pos (32 - cell)))) (taylor_value (system cell) x n))
      (distance norm (taylor_value (system cell) x n) (taylor_value (system cell) v n)) (distance norm x v)
      (growth_of kappa40) (whole (pos w)) (whole (pos (grow w kappa40 1024))) two_natural (natural kappa40 (2 ^ 40))
      (triangle norm (values d p (whole (pos (32 - cell)))) (taylor_value (system cell) x n)
      (taylor_value (system cell) v n))
      (fresh cell low)
      (errors_grow_by_kappa norm kappa40 (system cell) x v n (h.tame cell low)
      (rw ((h.cells cell low).dimension) (length-values (whole (pos (31 - cell)))))
      (rw ((h.cells cell low).dimension) fits)
      (let c : length (system cell).matrices ≤ 6 = h.powers cell low in omega arith))
      near (grown_whole w kappa40 1024)
    where
      x : Vector
      x = values d p (whole (pos (31 - cell)))

      combine : (two all new old before k w z : Fraction) → whole (pos 0) ≤ℚ two → whole (pos 0) ≤ℚ k
          → all ≤ℚ new +ℚ old → two *ℚ new ≤ℚ whole (pos 1024)
          → old ≤ℚ (whole (pos 1) +ℚ k) *ℚ before → two *ℚ before ≤ℚ w
          → (whole (pos 1) +ℚ k) *ℚ w +ℚ whole (pos 1024) ≤ℚ z → two *ℚ all ≤ℚ z
      combine two all new old before k w z ht hk h1 h2 h3 h4 h5 =
          linear (two ∷ all ∷ new ∷ old ∷ before ∷ k ∷ w ∷ z ∷ [])
          (ht ⊠ h1 ⊞ h2 ⊞ ht ⊠ h3 ⊞ h4 ⊞ hk ⊠ h4 ⊞ h5) (hlevel claims) refl

  -- all cells
  all-cells : (cells w : ℕ) (v : Vector) → cells ≤ 32 → length v ≤ d
      → two *ℚ distance norm (values d p (whole (pos (32 - cells)))) v ≤ℚ whole (pos w)
      → two *ℚ distance norm (values d p (whole (pos 32))) (month_back system n cells v)
      ≤ℚ whole (pos (grow_cells kappa40 1024 w cells))
  all-cells zero w v most fits near = near
  all-cells (suc cells) w v most fits near = rw (← grow_cells-first kappa40 1024 w cells)
      (all-cells cells (grow w kappa40 1024) (taylor_value (system cells) v n) (omega arith)
      (rw (sym ((h.cells cells (omega arith)).dimension)) (taylor_values_keep_dimension (system cells) v n
      (h.cells cells (omega arith)).keeps (rw ((h.cells cells (omega arith)).dimension) fits)))
      (next-cell cells w v (omega arith) fits
      (let c : 32 - suc cells ≡ 31 - cells = omega arith in rw (← c) near)))

  -- at 0 the polynomial is the start
  start-value : SameNumbers (values d p (whole (pos 0))) y
  start-value i = elim (cases_lt i d) [
    | inl low ↦ values-at d p (whole (pos 0)) i low ∙ ring (number_at y i
        ∷ value_at (list_of n (λ k. number_at (coefficient (system 31) y (suc k)) i)) (whole (pos 0)) ∷ [])
        (hlevel terms) refl
    | inr high ↦ values-past d p (whole (pos 0)) i high
        ∙ sym (get_or_past y i (whole (pos 0)) (omega arith))
  ]

pub polynomials_follow_months : PolynomialsFollowMonths
polynomials_follow_months norm kappa40 system d e g y v n t w h few short fits start late high near =
    all-cells norm kappa40 system d e g y n t h few short start late high 32 w v (omega arith) fits
    (rw (distance-same norm _ y v (start-value norm kappa40 system d e g y n t h few short start late high)) near)
