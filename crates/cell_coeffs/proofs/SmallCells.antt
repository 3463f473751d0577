-- The numbers of an admissible product's cell are small enough to be stored.
use Rattle.std.specs.Prelude.{◌≡◌, ℕ, zero, suc, pos, ◌<◌, ◌≤◌, [], ◌∷◌, length}
use Rattle.std.proofs.Common.{refl, ap, sym, ◌∙◌, arith, inl, inr}
use Rattle.std.proofs.lemmas.Bool.{cases_lt}
use Rattle.frac_laws.specs.Fraction.{Fraction, whole, over, size, ◌+ℚ◌, ◌*ℚ◌, ◌≤ℚ◌}
use Rattle.frac_laws.specs.Sums.{sum_to}
use Rattle.frac_laws.specs.Lists.{Vector, number_at, vector_at}
use Rattle.frac_laws.specs.Norms.{Sup}
use Rattle.frac_laws.proofs.FractionTerms.{ring, terms}
use Rattle.frac_laws.proofs.Linear.{linear, claims, natural, ◌⊞◌, ◌⊠◌, ◌·◌}
use Rattle.frac_laws.proofs.Order.{le_trans, le_of_equal}
use Rattle.frac_laws.proofs.Norms.{size_zero, number_below_norm}
use Rattle.frac_laws.proofs.Signs.{mul_natural}
use Rattle.frac_laws.proofs.Sizes.{size_add, size_mul_natural}
use Rattle.frac_laws.proofs.Sums.{sum_to_mono, sum_to_natural, term_le_sum_to, size-sum_to, sum_to_scale_right}
use Rattle.frac_laws.proofs.Sums.{sum_to_zeros}
use Rattle.frac_laws.proofs.Vectors.{number_at-scale_list}
use Rattle.cell_laws.specs.Tame.{vector_norm_at}
use Rattle.model_specs.specs.Cells.{CellCurves}
use Rattle.model_laws.specs.Equations.{IsQuintic}
use Rattle.model_specs.specs.Systems.{interest_at, intensity_at, sojourn_rate_at, sum_paid_at, leaving_at}
use Rattle.model_specs.specs.Systems.{first_payment_at, thiele_system}
use Rattle.model_laws.proofs.CellEntries.{systems_have_entries}
use Rattle.cell_bounds.specs.CellBounds.{rate_bound, interest_bound, load_bound, of_cell, HasSmallCurves}
use Rattle.cell_bounds.specs.CellBounds.{HasSmallMonth, HasSmallPayments}
use Rattle.cell_bounds.specs.ScaledSystems.{scaled_system}
use Rattle.cell_bounds.proofs.CellConstants.{rates_total, interest_total, rate_natural, interest_natural, load_natural}
use Rattle.moment_laws.proofs.ScaledRuns.{free-scaled}
use Rattle.cell_coeffs.specs.Rows.{IsSmallCell}
use Rattle.product_laws.proofs.FittingNumbers.{load_most}

pub number_past : (v : Vector) (m : ℕ) → length v ≤ m → number_at v m ≡ whole (pos 0)
number_past [] m past = refl
number_past (x ∷ v) zero past = absurd (omega arith)
number_past (x ∷ v) (suc m) past = number_past v m (omega arith)

zero_small : (x r : Fraction) → x ≡ whole (pos 0) → whole (pos 0) ≤ℚ r → size x ≤ℚ r
zero_small x r is some = le_trans (le_of_equal (ap size is ∙ size_zero)) some

module _ (cell : CellCurves) (rates : ℕ → ℕ → Fraction) (rho iota nu : Fraction) (rate : ℕ → Fraction)
    (sum : ℕ → ℕ → Fraction) (x greatest h G : Fraction) (curves : HasSmallCurves cell rates rho iota nu)
    (small : HasSmallMonth rho iota nu) (payments : HasSmallPayments cell rates rate sum x greatest)
    (h_natural : whole (pos 0) ≤ℚ h) (x_natural : whole (pos 0) ≤ℚ x) (greatest_natural : whole (pos 0) ≤ℚ greatest)
    (unit : h *ℚ G ≡ whole (pos 1)) (room : greatest +ℚ over (pos 1) 6 *ℚ x ≤ℚ G) (quintic : IsQuintic cell)
    (few : cell.states ≤ 12)
    (fits : (m : ℕ) → m < 9 → vector_norm_at Sup (scaled_system h (thiele_system cell)).free m ≤ℚ over (pos 5) 256)
  where
    interest_gone : (m : ℕ) → 6 ≤ m → interest_at cell m ≡ whole (pos 0)
    interest_gone m past = number_past cell.interest m (omega (arith, past, quintic.interest))

    intensity_gone : (i j m : ℕ) → 6 ≤ m → intensity_at cell i j m ≡ whole (pos 0)
    intensity_gone i j m past = number_past (cell.intensity i j) m (omega (arith, past, quintic.intensity i j))

    interest_by : (m : ℕ) → size (interest_at cell m) ≤ℚ over (pos 1) 512
    interest_by m = elim (cases_lt m 6) [
      | inl low ↦ by (size (interest_at cell m)) (interest_bound m) (curves.interest m) (interest_natural m)
          (le_trans (term_le_sum_to 6 m (λ k c. interest_natural k) low) interest_total)
      | inr past ↦ zero_small (interest_at cell m) (over (pos 1) 512) (interest_gone m past) (natural 1 512)
    ]
      where
        by : (s j : Fraction) → s ≤ℚ of_cell (iota *ℚ j) → whole (pos 0) ≤ℚ j → j ≤ℚ over (pos 3) 2
            → s ≤ℚ over (pos 1) 512
        by s j within some most =
            linear (s ∷ j ∷ iota ∷ []) (within ⊞ (small.iota_most ⊠ some) ⊠ natural 1 384 ⊞ most ⊠ natural 1 1536)
            (hlevel claims) refl

    rate_most : (i j : ℕ) → i < cell.states → j < cell.states → rates i j ≤ℚ whole (pos 2)
    rate_most i j b c = le_trans (term_le_sum_to cell.states j {f = rates i} (λ k d. curves.rates_natural i k) c)
        (le_trans (curves.exits i b) small.rho_most)

    intensity_by : (i j : ℕ) → i < cell.states → j < cell.states → (m : ℕ)
        → size (intensity_at cell i j m) ≤ℚ over (pos 1) 192 *ℚ rate_bound m
    intensity_by i j b c m = by (size (intensity_at cell i j m)) (rates i j) (rate_bound m) (curves.intensity i j m)
        (rate_most i j b c) (rate_natural m)
      where
        by : (s r k : Fraction) → s ≤ℚ of_cell (r *ℚ k) → r ≤ℚ whole (pos 2) → whole (pos 0) ≤ℚ k
            → s ≤ℚ over (pos 1) 192 *ℚ k
        by s r k within most some =
            linear (s ∷ r ∷ k ∷ []) (within ⊞ (most ⊠ some) ⊠ natural 1 384) (hlevel claims) refl

    bound_most : (m : ℕ) → m < 6 → rate_bound m ≤ℚ over (pos 5) 4
    bound_most m low = le_trans (term_le_sum_to 6 m (λ k c. rate_natural k) low) rates_total

    intensity_fits : (i j : ℕ) → i < cell.states → j < cell.states → (m : ℕ)
        → size (intensity_at cell i j m) ≤ℚ over (pos 1) 64
    intensity_fits i j b c m = elim (cases_lt m 6) [
      | inl low ↦ by (size (intensity_at cell i j m)) (rate_bound m) (intensity_by i j b c m) (bound_most m low)
      | inr past ↦ zero_small (intensity_at cell i j m) (over (pos 1) 64) (intensity_gone i j m past) (natural 1 64)
    ]
      where
        by : (s k : Fraction) → s ≤ℚ over (pos 1) 192 *ℚ k → k ≤ℚ over (pos 5) 4 → s ≤ℚ over (pos 1) 64
        by s k within most = linear (s ∷ k ∷ []) (within ⊞ most ⊠ natural 1 192) (hlevel claims) refl

    leaving_by : (i m : ℕ) → i < cell.states → size (leaving_at cell i m) ≤ℚ over (pos 1) 128
    leaving_by i m b = elim (cases_lt m 6) [
      | inl low ↦ le_trans (size-sum_to cell.states (λ j. intensity_at cell i j m))
          (le_trans (sum_to_mono cell.states {f = λ j. size (intensity_at cell i j m)}
          {g = λ j. rates i j *ℚ (over (pos 1) 384 *ℚ rate_bound m)}
          (λ j c. le_trans (curves.intensity i j m) (le_of_equal (turned (rates i j) (rate_bound m)))))
          (le_trans (le_of_equal (sum_to_scale_right cell.states (over (pos 1) 384 *ℚ rate_bound m) (rates i)))
          (by (sum_to cell.states (rates i)) (rate_bound m) (le_trans (curves.exits i b) small.rho_most)
          (rate_natural m) (bound_most m low))))
      | inr past ↦ zero_small (leaving_at cell i m) (over (pos 1) 128)
          (sum_to_zeros cell.states (λ j c. intensity_gone i j m past)) (natural 1 128)
    ]
      where
        turned : (r k : Fraction) → of_cell (r *ℚ k) ≡ r *ℚ (over (pos 1) 384 *ℚ k)
        turned r k = ring (r ∷ k ∷ []) (hlevel terms) refl

        by : (r k : Fraction) → r ≤ℚ whole (pos 2) → whole (pos 0) ≤ℚ k → k ≤ℚ over (pos 5) 4
            → r *ℚ (over (pos 1) 384 *ℚ k) ≤ℚ over (pos 1) 128
        by r k most some low =
            linear (r ∷ k ∷ []) ((most ⊠ some) ⊠ natural 1 384 ⊞ low ⊠ natural 2 384) (hlevel claims) refl

    rate_within : (i : ℕ) → i < cell.states → rate i ≤ℚ whole (pos 6) *ℚ G
    rate_within i b = by (rate i) (sum_to cell.states (λ j. rates i j *ℚ sum i j)) (payments.states i b)
        (sum_to_natural cell.states {f = λ j. rates i j *ℚ sum i j}
        (λ j c. mul_natural (curves.rates_natural i j) (payments.sum_natural i j)))
      where
        by : (r s : Fraction) → r +ℚ s ≤ℚ x → whole (pos 0) ≤ℚ s → r ≤ℚ whole (pos 6) *ℚ G
        by r s most some = linear (r ∷ s ∷ x ∷ greatest ∷ G ∷ [])
            (most ⊞ some ⊞ room ⊠ natural 6 1 ⊞ greatest_natural ⊠ natural 6 1) (hlevel claims) refl

    sojourn_fits : (i m : ℕ) → i < cell.states → size (h *ℚ sojourn_rate_at cell i m) ≤ℚ over (pos 1) 64
    sojourn_fits i m b =
        le_trans (le_of_equal (size_mul_natural (sojourn_rate_at cell i m) h_natural)) (elim (cases_lt m 9) [
          | inl low ↦ by (size (sojourn_rate_at cell i m)) (rate i) (load_bound m) (payments.sojourn i m)
              (rate_within i b)
              (load_natural m) (load_most m low) (payments.rate_natural i)
          | inr past ↦ le_trans (le_of_equal (ap (λ s. h *ℚ size s)
              (number_past (cell.sojourn i) m (omega (arith, past, quintic.sojourn i)))
              ∙ ap (λ s. h *ℚ s) size_zero ∙ ring (h ∷ []) (hlevel terms) refl)) (natural 1 64)
        ])
      where
        by : (s r l : Fraction) → s ≤ℚ of_cell (r *ℚ l) → r ≤ℚ whole (pos 6) *ℚ G → whole (pos 0) ≤ℚ l
            → l ≤ℚ whole (pos 1)
            → whole (pos 0) ≤ℚ r → h *ℚ s ≤ℚ over (pos 1) 64
        by s r l paid most some low hr =
            linear (s ∷ r ∷ l ∷ h ∷ G ∷ [])
            (paid ⊠ h_natural ⊞ ((low ⊠ hr) ⊠ h_natural) ⊠ natural 1 384 ⊞ (most ⊠ h_natural) ⊠ natural 1 384
            ⊞ over (pos 1) 64 · unit) (hlevel claims) refl

    sum_by : (i j m : ℕ) → size (h *ℚ sum_paid_at cell i j m) ≤ℚ load_bound m
    sum_by i j m = le_trans (le_of_equal (size_mul_natural (sum_paid_at cell i j m) h_natural))
        (by (size (sum_paid_at cell i j m)) (sum i j) (load_bound m) (payments.sums i j m) (payments.greatest_sum i j)
        (load_natural m))
      where
        by : (s r l : Fraction) → s ≤ℚ r *ℚ l → r ≤ℚ greatest → whole (pos 0) ≤ℚ l → h *ℚ s ≤ℚ l
        by s r l paid most some =
            linear (s ∷ r ∷ l ∷ h ∷ G ∷ x ∷ greatest ∷ [])
            (paid ⊠ h_natural ⊞ (most ⊠ some) ⊠ h_natural ⊞ (room ⊠ some) ⊠ h_natural
            ⊞ ((x_natural ⊠ some) ⊠ h_natural) ⊠ natural 1 6
            ⊞ l · unit) (hlevel claims) refl

    sum_fits : (i j m : ℕ) → size (h *ℚ sum_paid_at cell i j m) ≤ℚ whole (pos 1)
    sum_fits i j m = elim (cases_lt m 9) [
      | inl low ↦ le_trans (sum_by i j m) (load_most m low)
      | inr past ↦ zero_small (h *ℚ sum_paid_at cell i j m) (whole (pos 1))
          (ap (λ s. h *ℚ s) (number_past (cell.sum i j) m (omega (arith, past, quintic.sum i j)))
          ∙ ring (h ∷ []) (hlevel terms) refl)
          (natural 1 1)
    ]

    free_fits : (i m : ℕ) → i < cell.states → m < 9
        → size (h *ℚ (sojourn_rate_at cell i m +ℚ sum_to cell.states (λ j. first_payment_at cell i j m)))
        ≤ℚ over (pos 5) 256
    free_fits i m b low =
        let v = vector_at (scaled_system h (thiele_system cell)).free m in
        let is : number_at v i ≡ h *ℚ (sojourn_rate_at cell i m
        +ℚ sum_to cell.states (λ j. first_payment_at cell i j m)) =
        ap (λ (u : Vector). number_at u i) (free-scaled h (thiele_system cell).free m)
        ∙ number_at-scale_list h (vector_at (thiele_system cell).free m) i
        ∙ ap (λ z. h *ℚ z) ((systems_have_entries cell).thiele_free m i low b) in
        le_trans (le_of_equal (ap size (sym is))) (le_trans (number_below_norm Sup v i) (fits m low))

    pub small_cell : IsSmallCell cell h
    small_cell = record {
      interest = λ m. le_trans (interest_by m) (linear [] (natural 0 1) (hlevel claims) refl);
      intensity = intensity_by;
      intensity_most = intensity_fits;
      sojourn = sojourn_fits;
      sums = sum_by;
      sums_most = sum_fits;
      diagonal = λ i m b. le_trans (size_add (interest_at cell m) (leaving_at cell i m))
          (linear (size (interest_at cell m) ∷ size (leaving_at cell i m) ∷ []) (interest_by m ⊞ leaving_by i m b)
          (hlevel claims) refl);
      free = free_fits;
      few = few;
      interest_none = interest_gone;
      intensity_none = intensity_gone;
    }
