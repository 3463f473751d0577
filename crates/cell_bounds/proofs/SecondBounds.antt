-- The coupling and the free vectors of Norberg's pair of a cell whose curves and payments are small.
use Rattle.std.specs.Prelude.{◌≡◌, ℕ, suc, pos, ◌<◌, ◌-◌, [], ◌∷◌}
use Rattle.std.proofs.Common.{refl, ap, ◌∙◌, inl, inr}
use mathlib.Core.Path.{ap₂}
use Rattle.frac_laws.specs.Fraction.{Fraction, over, whole, size, ◌+ℚ◌, ◌-ℚ◌, ◌*ℚ◌, ◌≤ℚ◌}
use Rattle.frac_laws.specs.Sums.{sum_to}
use Rattle.frac_laws.specs.Convolution.{convolution}
use Rattle.frac_laws.specs.Norms.{Sup, norm_of_vector, norm_of_matrix}
use Rattle.frac_laws.proofs.FractionTerms.{ring, terms}
use Rattle.frac_laws.proofs.Linear.{linear, claims, natural, ◌⊞◌, ◌⊠◌}
use Rattle.frac_laws.proofs.Order.{le_trans, le_of_equal, sign_cases}
use Rattle.frac_laws.proofs.Signs.{mul_natural, sum_natural}
use Rattle.frac_laws.proofs.Sizes.{size_mul, size_of_natural}
use Rattle.frac_laws.proofs.Sums.{sum_to_ext, sum_to_mono, sum_to_add, sum_to_scale, sum_to_scale_right, size-sum_to}
use Rattle.model_specs.specs.Cells.{CellCurves}
use Rattle.model_specs.specs.Systems.{matrix_of, vector_of, intensity_at, sojourn_rate_at, sum_paid_at}
use Rattle.model_specs.specs.Systems.{first_payment_at}
use Rattle.model_specs.specs.Systems.{second_payment_at, coupling_entry}
use Rattle.cell_bounds.specs.CellBounds.{rate_bound, load_bound, paid_bound, first_bound, later_bound, square_bound}
use Rattle.cell_bounds.specs.CellBounds.{twice_paid_bound, of_cell, HasSmallCurves, HasSmallMonth, HasSmallPayments}
use Rattle.cell_bounds.specs.CellBounds.{HasSmallSums}
use Rattle.cell_bounds.proofs.TableNorms.{unit_at, where_same-is, links_row, table_rows, vector_most}
use Rattle.cell_bounds.proofs.CellConstants.{rate_natural, load_natural, paid_natural, first_natural, later_natural}
use Rattle.cell_bounds.proofs.CellConstants.{square_natural, twice_paid_natural}
use Rattle.cell_bounds.proofs.PaymentBounds.{convolution_small, load_within_paid, first_payment_small}

square_of : (z : Fraction) → whole (pos 0) ≤ℚ z *ℚ z
square_of z = elim (sign_cases z) [
  | inl h ↦ linear (z ∷ []) (h ⊠ h) (hlevel claims) refl
  | inr h ↦ linear (z ∷ []) (h ⊠ h) (hlevel claims) refl
]

-- a convolution with two parts on the right
right_parts : (a f l : ℕ → Fraction) (b d : Fraction) (k : ℕ)
    → convolution a (λ m. b *ℚ f m +ℚ d *ℚ l m) k ≡ b *ℚ convolution a f k +ℚ d *ℚ convolution a l k
right_parts a f l b d k =
    sum_to_ext (suc k) (λ m c. spread (a m) (f (k - m)) (l (k - m)))
    ∙ sum_to_add (suc k) (λ m. b *ℚ (a m *ℚ f (k - m))) (λ m. d *ℚ (a m *ℚ l (k - m)))
    ∙ ap₂ ◌+ℚ◌ (sum_to_scale (suc k) b (λ m. a m *ℚ f (k - m))) (sum_to_scale (suc k) d (λ m. a m *ℚ l (k - m)))
  where
    spread : (x y z : Fraction) → x *ℚ (b *ℚ y +ℚ d *ℚ z) ≡ b *ℚ (x *ℚ y) +ℚ d *ℚ (x *ℚ z)
    spread x y z = ring (x ∷ y ∷ z ∷ b ∷ d ∷ []) (hlevel terms) refl

left_parts : (f l c : ℕ → Fraction) (b d : Fraction) (k : ℕ)
    → convolution (λ m. b *ℚ f m +ℚ d *ℚ l m) c k ≡ b *ℚ convolution f c k +ℚ d *ℚ convolution l c k
left_parts f l c b d k =
    sum_to_ext (suc k) (λ m e. spread (f m) (l m) (c (k - m)))
    ∙ sum_to_add (suc k) (λ m. b *ℚ (f m *ℚ c (k - m))) (λ m. d *ℚ (l m *ℚ c (k - m)))
    ∙ ap₂ ◌+ℚ◌ (sum_to_scale (suc k) b (λ m. f m *ℚ c (k - m))) (sum_to_scale (suc k) d (λ m. l m *ℚ c (k - m)))
  where
    spread : (x y z : Fraction) → (b *ℚ x +ℚ d *ℚ y) *ℚ z ≡ b *ℚ (x *ℚ z) +ℚ d *ℚ (y *ℚ z)
    spread x y z = ring (x ∷ y ∷ z ∷ b ∷ d ∷ []) (hlevel terms) refl

-- the square of a payment under a curve, by its two parts
square_parts : (b d : Fraction) (m : ℕ)
    → square_bound (λ k. b *ℚ first_bound k +ℚ d *ℚ later_bound k) (λ k. b *ℚ first_bound k +ℚ d *ℚ later_bound k) m
    ≡ b *ℚ b *ℚ square_bound first_bound first_bound m
    +ℚ b *ℚ d *ℚ (square_bound first_bound later_bound m +ℚ square_bound later_bound first_bound m)
    +ℚ d *ℚ d *ℚ square_bound later_bound later_bound m
square_parts b d m =
    let p : ℕ → Fraction = λ k. b *ℚ first_bound k +ℚ d *ℚ later_bound k in
    sum_to_ext (suc m) (λ k c. ap (λ z. z *ℚ p (m - k)) (right_parts rate_bound first_bound later_bound b d k))
    ∙ left_parts (convolution rate_bound first_bound) (convolution rate_bound later_bound) p b d m
    ∙ ap₂ (λ x y. b *ℚ x +ℚ d *ℚ y)
    (right_parts (convolution rate_bound first_bound) first_bound later_bound b d m)
    (right_parts (convolution rate_bound later_bound) first_bound later_bound b d m)
    ∙ ring (b ∷ d ∷ square_bound first_bound first_bound m ∷ square_bound first_bound later_bound m
    ∷ square_bound later_bound first_bound m ∷ square_bound later_bound later_bound m ∷ []) (hlevel terms) refl

module _ (cell : CellCurves) (rates : ℕ → ℕ → Fraction) (rho iota nu : Fraction) (rate : ℕ → Fraction)
    (sum : ℕ → ℕ → Fraction) (x greatest : Fraction) (largest apart : ℕ → ℕ → Fraction)
    (curves : HasSmallCurves cell rates rho iota nu) (small : HasSmallMonth rho iota nu)
    (payments : HasSmallPayments cell rates rate sum x greatest) (sums : HasSmallSums cell sum largest apart) where
  -- what a transition's sum squared makes
  abbrev in_parts : ℕ → ℕ → ℕ → Fraction
  in_parts i j m = largest i j *ℚ first_bound m +ℚ apart i j *ℚ later_bound m

  in_parts_natural : (i j m : ℕ) → whole (pos 0) ≤ℚ in_parts i j m
  in_parts_natural i j m =
      linear ((largest i j *ℚ first_bound m) ∷ (apart i j *ℚ later_bound m) ∷ [])
      (mul_natural (sums.largest_natural i j) (first_natural m)
      ⊞ mul_natural (sums.apart_natural i j) (later_natural m))
      (hlevel claims) refl

  squared : (i j m : ℕ) → size (second_payment_at cell i j m)
      ≤ℚ of_cell (rates i j) *ℚ square_bound (in_parts i j) (in_parts i j) m
  squared i j m =
      let one = whole (pos 1) in
      let paid : (k : ℕ) → size (sum_paid_at cell i j k) ≤ℚ one *ℚ in_parts i j k =
      λ k. le_trans (sums.parts i j k) (le_of_equal (once (in_parts i j k))) in
      let some = mul_natural (natural 1 384) (curves.rates_natural i j) in
      let first = convolution_small (intensity_at cell i j) (sum_paid_at cell i j) rate_bound (in_parts i j)
      (of_cell (rates i j)) one some (natural 1 1) rate_natural (in_parts_natural i j)
      (λ k. le_trans (curves.intensity i j k) (le_of_equal (moved (rates i j) (rate_bound k)))) paid in
      le_trans (convolution_small (first_payment_at cell i j) (sum_paid_at cell i j)
      (convolution rate_bound (in_parts i j)) (in_parts i j) (of_cell (rates i j)) one some (natural 1 1)
      (λ k. sum_natural (suc k) _ (λ n. mul_natural (rate_natural n) (in_parts_natural i j (k - n))))
      (in_parts_natural i j) (λ k. le_trans (first k) (le_of_equal (twice (of_cell (rates i j)) _))) paid m)
      (le_of_equal (twice (of_cell (rates i j)) _))
    where
      once : (y : Fraction) → y ≡ whole (pos 1) *ℚ y
      once y = ring (y ∷ []) (hlevel terms) refl

      twice : (p y : Fraction) → p *ℚ whole (pos 1) *ℚ y ≡ p *ℚ y
      twice p y = ring (p ∷ y ∷ []) (hlevel terms) refl

      moved : (r k : Fraction) → of_cell (r *ℚ k) ≡ of_cell r *ℚ k
      moved r k = ring (r ∷ k ∷ []) (hlevel terms) refl

  -- at most the square of its load
  loaded : (s b d f m l : Fraction) → whole (pos 0) ≤ℚ b → whole (pos 0) ≤ℚ d → b +ℚ whole (pos 4) *ℚ d ≤ℚ s
      → whole (pos 9) *ℚ d ≤ℚ whole (pos 2) *ℚ s → whole (pos 0) ≤ℚ f → whole (pos 0) ≤ℚ m → whole (pos 0) ≤ℚ l
      → b *ℚ b *ℚ f +ℚ b *ℚ d *ℚ m +ℚ d *ℚ d *ℚ l
      ≤ℚ s *ℚ s *ℚ (f +ℚ over (pos 1) 16 *ℚ m +ℚ over (pos 4) 81 *ℚ l)
  loaded s b d f m l hb hd load spread hf hm hl =
      let whole_load : whole (pos 0) ≤ℚ s = linear (s ∷ b ∷ d ∷ []) (load ⊞ hb ⊞ hd ⊠ natural 4 1) (hlevel claims)
      refl in
      let first : b ≤ℚ s = linear (s ∷ b ∷ d ∷ []) (load ⊞ hd ⊠ natural 4 1) (hlevel claims) refl in
      let sum_of : whole (pos 0) ≤ℚ s +ℚ b = linear (s ∷ b ∷ []) (whole_load ⊞ hb) (hlevel claims) refl in
      let both : whole (pos 0) ≤ℚ s +ℚ (b +ℚ whole (pos 4) *ℚ d) =
      linear (s ∷ b ∷ d ∷ []) (whole_load ⊞ hb ⊞ hd ⊠ natural 4 1) (hlevel claims) refl in
      let third : whole (pos 0) ≤ℚ whole (pos 2) *ℚ s +ℚ whole (pos 9) *ℚ d =
      linear (s ∷ d ∷ []) (whole_load ⊠ natural 2 1 ⊞ hd ⊠ natural 9 1) (hlevel claims) refl in
      let one : b *ℚ b ≤ℚ s *ℚ s = linear (s ∷ b ∷ []) (first ⊠ sum_of) (hlevel claims) refl in
      let two : b *ℚ d ≤ℚ over (pos 1) 16 *ℚ (s *ℚ s) = linear (s ∷ b ∷ d ∷ [])
      ((load ⊠ both) ⊠ natural 1 16 ⊞ square_of (b -ℚ whole (pos 4) *ℚ d) ⊠ natural 1 16) (hlevel claims) refl in
      let three : d *ℚ d ≤ℚ over (pos 4) 81 *ℚ (s *ℚ s) = linear (s ∷ d ∷ [])
      ((spread ⊠ third) ⊠ natural 1 81) (hlevel claims) refl in
      linear (s ∷ b ∷ d ∷ f ∷ m ∷ l ∷ []) (one ⊠ hf ⊞ two ⊠ hm ⊞ three ⊠ hl) (hlevel claims) refl

  pub second_payment_small : (i j m : ℕ) → size (second_payment_at cell i j m)
      ≤ℚ of_cell (rates i j) *ℚ (sum i j *ℚ sum i j *ℚ twice_paid_bound m)
  second_payment_small i j m =
      let ff = square_bound first_bound first_bound m in
      let fl = square_bound first_bound later_bound m in
      let lf = square_bound later_bound first_bound m in
      let ll = square_bound later_bound later_bound m in
      let middle : whole (pos 0) ≤ℚ fl +ℚ lf = linear (fl ∷ lf ∷ [])
      (square_natural first_bound later_bound first_natural later_natural m
      ⊞ square_natural later_bound first_bound later_natural first_natural m) (hlevel claims) refl in
      let within = loaded (sum i j) (largest i j) (apart i j) ff (fl +ℚ lf) ll (sums.largest_natural i j)
      (sums.apart_natural i j) (sums.loads i j) (sums.spreads i j)
      (square_natural first_bound first_bound first_natural first_natural m) middle
      (square_natural later_bound later_bound later_natural later_natural m) in
      le_trans (squared i j m)
      (times_rate (rates i j) (square_bound (in_parts i j) (in_parts i j) m) (sum i j *ℚ sum i j *ℚ twice_paid_bound m)
      (curves.rates_natural i j) (le_trans (le_of_equal (square_parts (largest i j) (apart i j) m)) within))
    where
      times_rate : (r y z : Fraction) → whole (pos 0) ≤ℚ r → y ≤ℚ z → of_cell r *ℚ y ≤ℚ of_cell r *ℚ z
      times_rate r y z hr h = linear (r ∷ y ∷ z ∷ []) ((h ⊠ hr) ⊠ natural 1 384) (hlevel claims) refl

  -- what the exits of a state pay a year
  abbrev pub exits : ℕ → Fraction
  exits i = sum_to cell.states (λ j. rates i j *ℚ sum i j)

  pub exits_natural : (i : ℕ) → whole (pos 0) ≤ℚ exits i
  exits_natural i = sum_natural cell.states (λ j. rates i j *ℚ sum i j)
      (λ j. mul_natural (curves.rates_natural i j) (payments.sum_natural i j))

  -- it is at most x, and at most twice the greatest sum
  pub exits_within_x : (i : ℕ) → i < cell.states → rate i +ℚ exits i ≤ℚ x
  exits_within_x i b = payments.states i b

  exits_within_sum : (i : ℕ) → i < cell.states → whole (pos 0) ≤ℚ greatest → exits i ≤ℚ whole (pos 2) *ℚ greatest
  exits_within_sum i b some =
      le_trans (sum_to_mono cell.states {f = λ j. rates i j *ℚ sum i j} {g = λ j. rates i j *ℚ greatest}
      (λ j c. each (rates i j) (sum i j) (curves.rates_natural i j) (payments.greatest_sum i j)))
      (le_trans (le_of_equal (sum_to_scale_right cell.states greatest (rates i)))
      (linear (sum_to cell.states (rates i) ∷ rho ∷ greatest ∷ [])
      (curves.exits i b ⊠ some ⊞ small.rho_most ⊠ some) (hlevel claims) refl))
    where
      each : (r s : Fraction) → whole (pos 0) ≤ℚ r → s ≤ℚ greatest → r *ℚ s ≤ℚ r *ℚ greatest
      each r s hr h = linear (r ∷ s ∷ greatest ∷ []) (h ⊠ hr) (hlevel claims) refl

  -- a number of the second moments' free vector
  pub second_number_small : (i m : ℕ)
      → size (sum_to cell.states (λ j. second_payment_at cell i j m))
      ≤ℚ of_cell (greatest *ℚ exits i) *ℚ twice_paid_bound m
  second_number_small i m =
      let y = twice_paid_bound m in
      le_trans (size-sum_to cell.states (λ j. second_payment_at cell i j m))
      (le_trans (sum_to_mono cell.states {f = λ j. size (second_payment_at cell i j m)}
      {g = λ j. (over (pos 1) 384 *ℚ greatest *ℚ y) *ℚ (rates i j *ℚ sum i j)}
      (λ j c. each (size (second_payment_at cell i j m)) (rates i j) (sum i j) y (second_payment_small i j m)
      (curves.rates_natural i j) (payments.sum_natural i j) (payments.greatest_sum i j) (twice_paid_natural m)))
      (le_of_equal (sum_to_scale cell.states (over (pos 1) 384 *ℚ greatest *ℚ y) (λ j. rates i j *ℚ sum i j)
      ∙ ring (greatest ∷ y ∷ exits i ∷ []) (hlevel terms) refl)))
    where
      each : (e r s y : Fraction) → e ≤ℚ of_cell r *ℚ (s *ℚ s *ℚ y) → whole (pos 0) ≤ℚ r → whole (pos 0) ≤ℚ s
          → s ≤ℚ greatest → whole (pos 0) ≤ℚ y → e ≤ℚ (over (pos 1) 384 *ℚ greatest *ℚ y) *ℚ (r *ℚ s)
      each e r s y h hr hs most hy =
          linear (e ∷ r ∷ s ∷ y ∷ greatest ∷ [])
          (h ⊞ (((most ⊠ hr) ⊠ hs) ⊠ hy) ⊠ natural 1 384) (hlevel claims) refl

  -- a row of the coupling
  coupling_row : (i m : ℕ) → i < cell.states → sum_to cell.states (λ j. size (coupling_entry cell m i j))
      ≤ℚ of_cell (whole (pos 2) *ℚ (exits i *ℚ paid_bound m +ℚ rate i *ℚ load_bound m))
  coupling_row i m b =
      let n = cell.states in
      let two = whole (pos 2) in
      let row = links_row n i (λ j. two *ℚ first_payment_at cell i j m) (two *ℚ sojourn_rate_at cell i m) b in
      let same : sum_to n (λ j. size (coupling_entry cell m i j))
      ≡ sum_to n (λ j. size (two *ℚ first_payment_at cell i j m +ℚ unit_at i j *ℚ (two *ℚ sojourn_rate_at cell i m))) =
      sum_to_ext n (λ j c. ap (λ z. size (two *ℚ first_payment_at cell i j m +ℚ z))
      (where_same-is i j (two *ℚ sojourn_rate_at cell i m))) in
      let firsts = sum_to n (λ j. size (two *ℚ first_payment_at cell i j m)) in
      let paid : firsts ≤ℚ (over (pos 1) 192 *ℚ paid_bound m) *ℚ exits i =
      le_trans (sum_to_mono n {f = λ j. size (two *ℚ first_payment_at cell i j m)}
      {g = λ j. (over (pos 1) 192 *ℚ paid_bound m) *ℚ (rates i j *ℚ sum i j)}
      (λ j c. le_trans (le_of_equal (doubled (first_payment_at cell i j m)))
      (each (size (first_payment_at cell i j m)) (rates i j) (sum i j) (paid_bound m)
      (first_payment_small cell rates rho iota nu rate sum x greatest curves payments i j m))))
      (le_of_equal (sum_to_scale n (over (pos 1) 192 *ℚ paid_bound m) (λ j. rates i j *ℚ sum i j))) in
      linear (sum_to n (λ j. size (coupling_entry cell m i j))
      ∷ sum_to n (λ j. size (two *ℚ first_payment_at cell i j m +ℚ unit_at i j *ℚ (two *ℚ sojourn_rate_at cell i m)))
      ∷ firsts ∷ size (two *ℚ sojourn_rate_at cell i m) ∷ size (sojourn_rate_at cell i m) ∷ exits i ∷ rate i
      ∷ paid_bound m ∷ load_bound m ∷ [])
      (le_of_equal same ⊞ row ⊞ paid ⊞ le_of_equal (doubled (sojourn_rate_at cell i m))
      ⊞ payments.sojourn i m ⊠ natural 2 1) (hlevel claims) refl
    where
      doubled : (y : Fraction) → size (whole (pos 2) *ℚ y) ≡ whole (pos 2) *ℚ size y
      doubled y = size_mul (whole (pos 2)) y ∙ ap (λ z. z *ℚ size y) (size_of_natural (natural 2 1))

      each : (e r s p : Fraction) → e ≤ℚ of_cell r *ℚ s *ℚ p
          → whole (pos 2) *ℚ e ≤ℚ (over (pos 1) 192 *ℚ p) *ℚ (r *ℚ s)
      each e r s p h = linear (e ∷ r ∷ s ∷ p ∷ []) (h ⊠ natural 2 1) (hlevel claims) refl

  -- the coupling by x
  pub coupling_by_x : (m : ℕ) → whole (pos 0) ≤ℚ x
      → norm_of_matrix Sup (matrix_of cell.states (coupling_entry cell m))
      ≤ℚ of_cell (whole (pos 2) *ℚ x) *ℚ paid_bound m
  coupling_by_x m some = table_rows cell.states cell.states (coupling_entry cell m)
      (of_cell (whole (pos 2) *ℚ x) *ℚ paid_bound m)
      (mul_natural (mul_natural (natural 1 384) (mul_natural (natural 2 1) some)) (paid_natural m))
      (λ i b. linear (sum_to cell.states (λ j. size (coupling_entry cell m i j)) ∷ exits i ∷ rate i ∷ x
      ∷ paid_bound m ∷ load_bound m ∷ [])
      (coupling_row i m b ⊞ (load_within_paid m ⊠ payments.rate_natural i) ⊠ natural 1 192
      ⊞ (exits_within_x i b ⊠ paid_natural m) ⊠ natural 1 192) (hlevel claims) refl)

  -- by the scale: x and the greatest sum leave room for each other
  module _ (G : Fraction) (greatest_natural : whole (pos 0) ≤ℚ greatest)
      (room : greatest +ℚ over (pos 1) 6 *ℚ x ≤ℚ G) where
    pub exits_small : (i : ℕ) → i < cell.states → exits i ≤ℚ over (pos 3) 2 *ℚ G
    exits_small i b =
        linear (exits i ∷ rate i ∷ x ∷ greatest ∷ G ∷ [])
        (exits_within_sum i b greatest_natural ⊠ natural 3 4 ⊞ exits_within_x i b ⊠ natural 1 4
        ⊞ payments.rate_natural i ⊠ natural 1 4 ⊞ room ⊠ natural 3 2) (hlevel claims) refl

    pub rate_small : (i : ℕ) → i < cell.states → rate i ≤ℚ whole (pos 6) *ℚ G
    rate_small i b =
        linear (exits i ∷ rate i ∷ x ∷ greatest ∷ G ∷ [])
        (exits_within_x i b ⊞ exits_natural i ⊞ greatest_natural ⊠ natural 6 1 ⊞ room ⊠ natural 6 1) (hlevel claims)
        refl

    -- the greatest sum times what the exits pay
    squares_small : (i : ℕ) → i < cell.states → greatest *ℚ exits i ≤ℚ over (pos 9) 8 *ℚ (G *ℚ G)
    squares_small i b =
        let t = exits i in
        let left : greatest +ℚ over (pos 1) 6 *ℚ t ≤ℚ G = linear (t ∷ rate i ∷ x ∷ greatest ∷ G ∷ [])
        (room ⊞ exits_within_x i b ⊠ natural 1 6 ⊞ payments.rate_natural i ⊠ natural 1 6) (hlevel claims) refl in
        let most = exits_small i b in
        let scale_natural : whole (pos 0) ≤ℚ G = linear (t ∷ greatest ∷ G ∷ [])
        (left ⊞ greatest_natural ⊞ exits_natural i ⊠ natural 1 6) (hlevel claims) refl in
        let far : t ≤ℚ over (pos 9) 2 *ℚ G = linear (t ∷ G ∷ []) (most ⊞ scale_natural ⊠ natural 3 1) (hlevel claims)
        refl in
        linear (t ∷ greatest ∷ G ∷ []) (left ⊠ exits_natural i ⊞ (most ⊠ far) ⊠ natural 1 6) (hlevel claims) refl

    pub coupling_by_scale : (m : ℕ) → whole (pos 0) ≤ℚ G
        → norm_of_matrix Sup (matrix_of cell.states (coupling_entry cell m))
        ≤ℚ of_cell (whole (pos 12) *ℚ G *ℚ load_bound m +ℚ whole (pos 3) *ℚ G *ℚ paid_bound m)
    coupling_by_scale m some = table_rows cell.states cell.states (coupling_entry cell m)
        (of_cell (whole (pos 12) *ℚ G *ℚ load_bound m +ℚ whole (pos 3) *ℚ G *ℚ paid_bound m))
        (linear (G ∷ load_bound m ∷ paid_bound m ∷ [])
        ((some ⊠ load_natural m) ⊠ natural 12 384 ⊞ (some ⊠ paid_natural m) ⊠ natural 3 384) (hlevel claims) refl)
        (λ i b. linear (sum_to cell.states (λ j. size (coupling_entry cell m i j)) ∷ exits i ∷ rate i ∷ G
        ∷ paid_bound m ∷ load_bound m ∷ [])
        (coupling_row i m b ⊞ (exits_small i b ⊠ paid_natural m) ⊠ natural 1 192
        ⊞ (rate_small i b ⊠ load_natural m) ⊠ natural 1 192) (hlevel claims) refl)

    pub second_by_scale : (m : ℕ) → whole (pos 0) ≤ℚ G
        → norm_of_vector Sup (vector_of cell.states (λ i. sum_to cell.states (λ j. second_payment_at cell i j m)))
        ≤ℚ of_cell (over (pos 9) 8 *ℚ (G *ℚ G)) *ℚ twice_paid_bound m
    second_by_scale m some = vector_most cell.states _ (of_cell (over (pos 9) 8 *ℚ (G *ℚ G)) *ℚ twice_paid_bound m)
        (mul_natural (mul_natural (natural 1 384) (mul_natural (natural 9 8) (mul_natural some some)))
        (twice_paid_natural m))
        (λ i b. le_trans (second_number_small i m)
        (linear ((greatest *ℚ exits i) ∷ G ∷ twice_paid_bound m ∷ [])
        ((squares_small i b ⊠ twice_paid_natural m) ⊠ natural 1 384) (hlevel claims) refl))

  -- by x
  pub second_by_x : (m : ℕ) → whole (pos 0) ≤ℚ x → whole (pos 0) ≤ℚ greatest
      → norm_of_vector Sup (vector_of cell.states (λ i. sum_to cell.states (λ j. second_payment_at cell i j m)))
      ≤ℚ of_cell (greatest *ℚ x) *ℚ twice_paid_bound m
  second_by_x m some most = vector_most cell.states _ (of_cell (greatest *ℚ x) *ℚ twice_paid_bound m)
      (mul_natural (mul_natural (natural 1 384) (mul_natural most some)) (twice_paid_natural m))
      (λ i b. le_trans (second_number_small i m)
      (by_x (exits i) (rate i) (twice_paid_bound m) (exits_within_x i b) (payments.rate_natural i) most
      (twice_paid_natural m)))
    where
      by_x : (t r y : Fraction) → r +ℚ t ≤ℚ x → whole (pos 0) ≤ℚ r → whole (pos 0) ≤ℚ greatest → whole (pos 0) ≤ℚ y
          → of_cell (greatest *ℚ t) *ℚ y ≤ℚ of_cell (greatest *ℚ x) *ℚ y
      by_x t r y h hr hg hy =
          linear (t ∷ r ∷ y ∷ x ∷ greatest ∷ []) (((h ⊠ hg) ⊠ hy) ⊠ natural 1 384 ⊞ ((hr ⊠ hg) ⊠ hy) ⊠ natural 1 384)
          (hlevel claims) refl
