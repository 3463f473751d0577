-- The free vectors of a cell whose curves and payments are small.
use Rattle.std.specs.Prelude.{◌≡◌, ℕ, suc, pos, ◌<◌, ◌-◌, [], ◌∷◌}
use Rattle.std.proofs.Common.{refl, ap, ◌∙◌, arith}
use Rattle.frac_laws.specs.Fraction.{Fraction, over, whole, size, ◌+ℚ◌, ◌*ℚ◌, ◌≤ℚ◌}
use Rattle.frac_laws.specs.Sums.{sum_to}
use Rattle.frac_laws.specs.Convolution.{convolution}
use Rattle.frac_laws.specs.Norms.{Sup, norm_of_vector}
use Rattle.frac_laws.proofs.FractionTerms.{ring, terms}
use Rattle.frac_laws.proofs.Linear.{linear, claims, natural, ◌⊞◌, ◌⊠◌}
use Rattle.frac_laws.proofs.Order.{le_trans, le_of_equal, mul_mono}
use Rattle.frac_laws.proofs.Signs.{mul_natural, sum_natural}
use Rattle.frac_laws.proofs.Sizes.{size_add, size_mul, size_natural}
use Rattle.frac_laws.proofs.Sums.{sum_to_mono, sum_to_scale, size-sum_to}
use Rattle.frac_laws.proofs.Sums.{term_le_sum_to}
use Rattle.model_specs.specs.Cells.{CellCurves}
use Rattle.model_specs.specs.Systems.{vector_of, intensity_at, sojourn_rate_at, sum_paid_at, first_payment_at}
use Rattle.cell_bounds.specs.CellBounds.{rate_bound, load_bound, paid_bound, of_cell, HasSmallCurves}
use Rattle.cell_bounds.specs.CellBounds.{HasSmallPayments}
use Rattle.cell_bounds.proofs.TableNorms.{vector_most}
use Rattle.cell_bounds.proofs.CellConstants.{rate_natural, load_natural, paid_natural}

-- a convolution of small sequences is small
pub convolution_small : (a b us vs : ℕ → Fraction) (p q : Fraction) → whole (pos 0) ≤ℚ p → whole (pos 0) ≤ℚ q
    → ((m : ℕ) → whole (pos 0) ≤ℚ us m) → ((m : ℕ) → whole (pos 0) ≤ℚ vs m)
    → ((m : ℕ) → size (a m) ≤ℚ p *ℚ us m) → ((m : ℕ) → size (b m) ≤ℚ q *ℚ vs m)
    → (m : ℕ) → size (convolution a b m) ≤ℚ (p *ℚ q) *ℚ convolution us vs m
convolution_small a b us vs p q hp hq hus hvs ha hb m =
    le_trans (size-sum_to (suc m) (λ k. a k *ℚ b (m - k)))
    (le_trans (sum_to_mono (suc m) each)
    (le_of_equal (sum_to_scale (suc m) (p *ℚ q) (λ k. us k *ℚ vs (m - k)))))
  where
    each : (k : ℕ) → k < suc m → size (a k *ℚ b (m - k)) ≤ℚ (p *ℚ q) *ℚ (us k *ℚ vs (m - k))
    each k c =
        le_trans (le_of_equal (size_mul (a k) (b (m - k))))
        (le_trans (mul_mono (ha k) (hb (m - k)) (size_natural (a k)) (mul_natural hq (hvs (m - k))))
        (le_of_equal (ring (p ∷ q ∷ us k ∷ vs (m - k) ∷ []) (hlevel terms) refl)))

-- K_0 is 1
pub load_within_paid : (m : ℕ) → load_bound m ≤ℚ paid_bound m
load_within_paid m =
    le_trans (le_of_equal (whole_once (load_bound m)
    ∙ (let e : m ≡ m - 0 = omega arith in ap (λ k. rate_bound 0 *ℚ load_bound k) e)))
    (term_le_sum_to (suc m) 0 {f = λ k. rate_bound k *ℚ load_bound (m - k)}
    (λ k b. mul_natural (rate_natural k) (load_natural (m - k))) (omega arith))
  where
    whole_once : (y : Fraction) → y ≡ whole (pos 1) *ℚ y
    whole_once y = ring (y ∷ []) (hlevel terms) refl

module _ (cell : CellCurves) (rates : ℕ → ℕ → Fraction) (rho iota nu : Fraction) (rate : ℕ → Fraction)
    (sum : ℕ → ℕ → Fraction) (x greatest : Fraction) (curves : HasSmallCurves cell rates rho iota nu)
    (payments : HasSmallPayments cell rates rate sum x greatest) where
  -- what a transition pays
  pub first_payment_small : (i j m : ℕ)
      → size (first_payment_at cell i j m) ≤ℚ of_cell (rates i j) *ℚ sum i j *ℚ paid_bound m
  first_payment_small i j m =
      convolution_small (intensity_at cell i j) (sum_paid_at cell i j) rate_bound load_bound
      (of_cell (rates i j)) (sum i j) (mul_natural (natural 1 384) (curves.rates_natural i j))
      (payments.sum_natural i j) rate_natural load_natural
      (λ k. le_trans (curves.intensity i j k)
      (le_of_equal (ring (rates i j ∷ rate_bound k ∷ []) (hlevel terms) refl)))
      (payments.sums i j) m

  -- what a state pays for its exits
  pub exits_paid : (i m : ℕ) → size (sum_to cell.states (λ j. first_payment_at cell i j m))
      ≤ℚ of_cell (sum_to cell.states (λ j. rates i j *ℚ sum i j)) *ℚ paid_bound m
  exits_paid i m =
      le_trans (size-sum_to cell.states (λ j. first_payment_at cell i j m))
      (le_trans (sum_to_mono cell.states (λ j b. le_trans (first_payment_small i j m) (le_of_equal (moved j))))
      (le_of_equal (sum_to_scale cell.states (over (pos 1) 384 *ℚ paid_bound m) (λ j. rates i j *ℚ sum i j)
      ∙ ring (sum_to cell.states (λ j. rates i j *ℚ sum i j) ∷ paid_bound m ∷ []) (hlevel terms) refl)))
    where
      moved : (j : ℕ) → of_cell (rates i j) *ℚ sum i j *ℚ paid_bound m
          ≡ (over (pos 1) 384 *ℚ paid_bound m) *ℚ (rates i j *ℚ sum i j)
      moved j = ring (rates i j ∷ sum i j ∷ paid_bound m ∷ []) (hlevel terms) refl

  -- what a state pays
  abbrev pub free_number : ℕ → ℕ → Fraction
  free_number m i = sojourn_rate_at cell i m +ℚ sum_to cell.states (λ j. first_payment_at cell i j m)

  free_small : (i m : ℕ) → i < cell.states → size (free_number m i) ≤ℚ of_cell x *ℚ paid_bound m
  free_small i m b =
      let exits = sum_to cell.states (λ j. rates i j *ℚ sum i j) in
      let first = sojourn_rate_at cell i m in
      let second = sum_to cell.states (λ j. first_payment_at cell i j m) in
      linear (size (free_number m i) ∷ size first ∷ size second ∷ rate i ∷ exits ∷ x ∷ load_bound m
      ∷ paid_bound m ∷ [])
      (size_add first second ⊞ payments.sojourn i m ⊞ exits_paid i m
      ⊞ (load_within_paid m ⊠ payments.rate_natural i) ⊠ natural 1 384
      ⊞ (payments.states i b ⊠ paid_natural m) ⊠ natural 1 384)
      (hlevel claims) refl

  x_natural : (i : ℕ) → i < cell.states → whole (pos 0) ≤ℚ x
  x_natural i b =
      let exits = sum_to cell.states (λ j. rates i j *ℚ sum i j) in
      linear (rate i ∷ exits ∷ x ∷ []) (payments.states i b ⊞ payments.rate_natural i
      ⊞ sum_natural cell.states (λ j. rates i j *ℚ sum i j)
      (λ j. mul_natural (curves.rates_natural i j) (payments.sum_natural i j))) (hlevel claims) refl

  -- a free vector
  pub free_norm : (m : ℕ) → whole (pos 0) ≤ℚ x
      → norm_of_vector Sup (vector_of cell.states (free_number m)) ≤ℚ of_cell x *ℚ paid_bound m
  free_norm m some = vector_most cell.states (free_number m) (of_cell x *ℚ paid_bound m)
      (mul_natural (mul_natural (natural 1 384) some) (paid_natural m)) (λ i b. free_small i m b)
