-- The bound ledger carries both moments of a product.
use Rattle.std.specs.Prelude.{◌≡◌, ℕ, zero, suc, pos, ◌+◌, ◌-◌, ◌*◌, ◌^◌, ◌<◌, ◌≤◌, [], ◌∷◌, length}
use Rattle.std.proofs.Common.{refl, ap, sym, ◌∙◌, arith, lit≤}
use Rattle.std.proofs.lemmas.Int.{ints}
use Rattle.std.proofs.Math.IntN.{pos-*ℤ-pos}
use Rattle.std.proofs.Math.Nat.{pow-suc}
use mathlib.Core.Path.{ap₂}
use Rattle.frac_laws.specs.Fraction.{Fraction, over, whole, size, ◌+ℚ◌, ◌*ℚ◌, ◌≤ℚ◌}
use Rattle.frac_laws.specs.Ledger.{grow}
use Rattle.frac_laws.specs.Lists.{Vector, number_at}
use Rattle.frac_laws.specs.Norms.{Sup, norm_of_vector}
use Rattle.frac_laws.proofs.Linear.{linear, claims, natural, ◌⊞◌, ◌⊠◌}
use Rattle.frac_laws.proofs.Order.{le_trans, le_of_equal, mul_mono}
use Rattle.frac_laws.proofs.Positive.{le_of_mul_le, whole_positive}
use Rattle.frac_laws.proofs.Quotients.{whole_le, whole_mul, whole_add}
use Rattle.frac_laws.proofs.Lengths.{add_lists_fits}
use Rattle.frac_laws.proofs.Norms.{norm-add_lists, norm_natural, number_below_norm, size_zero}
use Rattle.frac_laws.proofs.Signs.{mul_natural}
use Rattle.frac_laws.proofs.Sizes.{size_add, size_mul, size_of_natural, size_natural}
use Rattle.cell_laws.specs.Pairs.{CoupledPair, second_taylor_value}
use Rattle.cell_laws.specs.Systems.{taylor_value}
use Rattle.cell_laws.specs.Tame.{growth_of}
use Rattle.cell_laws.proofs.Dimensions.{taylor_values_keep_dimension, second_taylor_values_keep_dimension}
use Rattle.model_specs.specs.Product.{Product}
use Rattle.model_specs.specs.Payments.{Plan, payment_plan, pattern_plan, lump_at}
use Rattle.model_specs.specs.Growth.{kappa40, pay, greatest_sum}
use Rattle.model_specs.specs.Ledgers.{scale, bound_before_term, greatest_lump}
use Rattle.model_specs.specs.RecordRules.{IsWellFormed}
use Rattle.model_specs.specs.Cells.{Backward, cells_of_32}
use Rattle.model_specs.specs.Systems.{norberg_pair}
use Rattle.model_specs.specs.Runs.{Moments, moments_month_back, before_lumps, moments_before_term, lump_vector}
use Rattle.model_laws.proofs.CellEntries.{systems_keep_states, runs_keep_states, list-length}
use Rattle.model_laws.proofs.Moments.{first_moments_agree}
use Rattle.ledger_laws.specs.MonthLaws.{ObeysAllMonths}
use Rattle.ledger_laws.specs.BeforeTermLaws.{bound_cells}
use Rattle.ledger_laws.proofs.MonthFacts.{admissible_obeys}
use Rattle.ledger_laws.proofs.BeforeTerm.{bound_greatest}
use Rattle.ledger_laws.proofs.BoundFacts.{scale_bounds_ledger, never_falls_by_months}
use Rattle.ledger_laws.proofs.Rounding.{rises_far, never_falls}
use Rattle.cell_bounds.specs.CellBounds.{of_cell}
use Rattle.moment_laws.specs.MomentLaws.{IsWithinLedger}
use Rattle.moment_laws.specs.SecondMomentLaws.{moments_over_cell, moments_back, MomentsGoByCells, moments_after_cells}
use Rattle.moment_laws.specs.SecondMomentLaws.{IsCarried, CarriesMoments, LedgerCarriesMoments}
use Rattle.moment_laws.specs.SecondMomentLaws.{SecondMomentsStayWithinScale}
use Rattle.product_cells.specs.MonthFractions.{month_bounds, plan_bounds}
use Rattle.product_cells.proofs.CellsWithin.{cell_within, cell_pays}
use Rattle.cell_growth.proofs.SmallCellGrowth.{small_cells_grow, small_pairs_grow}
use Rattle.product_cells.specs.EachCell.{backward_cell}
use Rattle.product_cells.specs.MonthFractions.{most_paid}
use Rattle.cell_bounds.proofs.TableNorms.{vector_most}
use Rattle.moment_laws.proofs.LumpSizes.{lump_within, lumps_norm, size-whole}
use Rattle.model_laws.proofs.PlanSteps.{HasFourEach, payment_plan_four, pattern_plan_four}
use Rattle.product_cells.proofs.ProductPayments.{x_natural}
use Rattle.product_cells.proofs.ProductPayments.{pay_covers}
use Rattle.moment_laws.proofs.LedgerSteps.{grow_least, date_step, cell_step}

-- a month of both moments, cell by cell
module _ (pair : ℕ → CoupledPair) (n cells : ℕ) (v : Moments) where
  rest : (left : ℕ) → left ≤ cells
      → moments_month_back pair n left (moments_back pair n cells v (cells - left)) ≡ moments_back pair n cells v cells
  rest zero within = let e : cells - 0 ≡ cells = omega arith in rw e refl
  rest (suc left) within =
      ap (moments_month_back pair n left)
      (let e : left ≡ cells - suc (cells - suc left) = omega (arith, within) in
      ap (λ c. moments_over_cell (pair c) n (moments_back pair n cells v (cells - suc left))) e)
      ∙ (let e : suc (cells - suc left) ≡ cells - left = omega (arith, within) in
      ap (λ d. moments_month_back pair n left (moments_back pair n cells v d)) e)
      ∙ rest left (omega (arith, within))

  pub moments_go : moments_month_back pair n cells v ≡ moments_back pair n cells v cells
  moments_go =
      (let e : 0 ≡ cells - cells = omega arith in
      ap (λ d. moments_month_back pair n cells (moments_back pair n cells v d)) e)
      ∙ rest cells (omega arith)

pub moments_go_by_cells : MomentsGoByCells
moments_go_by_cells pair n cells v = moments_go pair n cells v

-- what a cell adds to the second moments fits into the square of the ledger
received_gap : (b p s x w : Fraction) → whole (pos 1024) *ℚ w ≤ℚ b → whole (pos 1024) *ℚ s ≤ℚ b → whole (pos 0) ≤ℚ b
    → whole (pos 0) ≤ℚ x → whole (pos 0) ≤ℚ p → over (pos 16) 3 *ℚ x ≤ℚ p
    → whole (pos 1048576) *ℚ (over (pos 64) 63 *ℚ (over (pos 1) 153 *ℚ x *ℚ (over (pos 64) 63
    *ℚ (w +ℚ over (pos 5) 1536 *ℚ x)) +ℚ of_cell (over (pos 21) 16 *ℚ (s *ℚ x))))
    ≤ℚ whole (pos 2) *ℚ (b *ℚ p) +ℚ p *ℚ p
received_gap b p s x w held sum hb hx hp cover =
    linear (b ∷ p ∷ s ∷ x ∷ w ∷ [])
    ((held ⊠ hx) ⊠ natural 4194304 607257 ⊞ (sum ⊠ hx) ⊠ natural 32 9 ⊞ (cover ⊠ hb) ⊠ natural 397090 202419
    ⊞ (cover ⊠ hx) ⊠ natural 2621440 607257 ⊞ (cover ⊠ hp) ⊠ natural 163840 202419
    ⊞ (hb ⊠ hp) ⊠ natural 7748 202419 ⊞ (hp ⊠ hp) ⊠ natural 38579 202419)
    (hlevel claims) refl

square_gap : (b k p next z t r : Fraction) → whole (pos 0) ≤ℚ b → whole (pos 0) ≤ℚ k → whole (pos 0) ≤ℚ p
    → b +ℚ b *ℚ k +ℚ p ≤ℚ next → whole (pos 1048576) *ℚ z ≤ℚ b *ℚ b
    → t ≤ℚ (whole (pos 1) +ℚ k) *ℚ z +ℚ r → whole (pos 1048576) *ℚ r ≤ℚ whole (pos 2) *ℚ (b *ℚ p) +ℚ p *ℚ p
    → whole (pos 1048576) *ℚ t ≤ℚ next *ℚ next
square_gap b k p next z t r hb hk hp ledger held grown received =
    let y = b +ℚ b *ℚ k +ℚ p in
    let grows : whole (pos 0) ≤ℚ b *ℚ k = mul_natural hb hk in
    let y_natural : whole (pos 0) ≤ℚ y = linear (b ∷ (b *ℚ k) ∷ p ∷ []) (hb ⊞ grows ⊞ hp) (hlevel claims) refl in
    let sum : whole (pos 0) ≤ℚ next +ℚ y = linear (next ∷ b ∷ k ∷ p ∷ []) (ledger ⊞ y_natural ⊞ y_natural)
    (hlevel claims) refl in
    let factor : whole (pos 0) ≤ℚ whole (pos 1) +ℚ k = linear (k ∷ []) hk (hlevel claims) refl in
    let square : y *ℚ y ≤ℚ next *ℚ next = linear (next ∷ b ∷ k ∷ p ∷ []) (ledger ⊠ sum) (hlevel claims) refl in
    let inner : (whole (pos 1) +ℚ k) *ℚ (b *ℚ b) +ℚ whole (pos 2) *ℚ (b *ℚ p) +ℚ p *ℚ p ≤ℚ y *ℚ y =
    linear (b ∷ k ∷ p ∷ []) ((grows ⊠ hb) ⊞ grows ⊠ grows ⊞ (grows ⊠ hp) ⊠ natural 2 1) (hlevel claims) refl in
    linear (b ∷ k ∷ p ∷ next ∷ z ∷ t ∷ r ∷ [])
    (square ⊞ inner ⊞ held ⊠ factor ⊞ grown ⊠ natural 1048576 1 ⊞ received) (hlevel claims) refl

-- a date
lump_gap : (b l w z t : Fraction) → whole (pos 0) ≤ℚ l → whole (pos 1024) *ℚ w ≤ℚ b
    → whole (pos 1048576) *ℚ z ≤ℚ b *ℚ b → t ≤ℚ z +ℚ whole (pos 2) *ℚ l *ℚ w +ℚ l *ℚ l
    → whole (pos 1048576) *ℚ t ≤ℚ (b +ℚ whole (pos 1024) *ℚ l) *ℚ (b +ℚ whole (pos 1024) *ℚ l)
lump_gap b l w z t hl first second grown =
    linear (b ∷ l ∷ w ∷ z ∷ t ∷ []) (second ⊞ (first ⊠ hl) ⊠ natural 2048 1 ⊞ grown ⊠ natural 1048576 1)
    (hlevel claims) refl

module _ (product : Product) (plan : Plan) (n : ℕ) (formed : IsWellFormed product) (rules : ObeysAllMonths product)
    (four : HasFourEach plan) (above : 6 ≤ n) where
  abbrev month_at : ℕ → ℕ
  month_at months = product.months - suc months

  abbrev before : ℕ → Moments
  before months = moments_before_term product plan n months

  abbrev after : ℕ → ℕ → Moments
  after months done = moments_after_cells product plan n months done

  abbrev pair : ℕ → ℕ → CoupledPair
  pair months cell = norberg_pair (backward_cell product plan (month_at months) cell)

  -- the lengths
  first_fits : (months : ℕ) → length (before months).first ≤ length product.states
  first_fits months = rw (first_moments_agree product plan n months)
      ((runs_keep_states (cells_of_32 Backward) product plan n months).0)

  pub both_fits : (months done : ℕ) → (length (after months done).first ≤ length product.states)
      × (length (after months done).second ≤ length product.states)
  both_fits months zero = (
    add_lists_fits (length product.states) (before months).first
        (lump_vector product plan (suc (month_at months))) (first_fits months) (list-length (length product.states) _),
    list-length (length product.states) _,
  )
  both_fits months (suc done) =
      let cell = backward_cell product plan (month_at months) (32 - suc done) in
      let keeps = systems_keep_states cell in
      let fits = both_fits months done in (
        taylor_values_keep_dimension (norberg_pair cell).first (after months done).first n keeps.thiele fits.0,
        second_taylor_values_keep_dimension (norberg_pair cell) (after months done).first (after months done).second n
            keeps.second keeps.coupling fits.1,
      )

  -- the ledger is at least 1024 times the greatest sum
  sum_before : (months : ℕ) → 1024 * greatest_sum product plan ≤ bound_before_term product plan months
  sum_before months = rises_far (bound_before_term product plan) (never_falls_by_months product plan) 0 months
      (omega arith)

  sum_after : (months done : ℕ) → 1024 * greatest_sum product plan ≤ bound_cells product plan months done
  sum_after months done = omega (
    arith,
    sum_before months,
    never_falls (kappa40 product (month_at months)) (pay product plan (month_at months))
        (bound_before_term product plan months + 1024 * greatest_lump product plan (suc (month_at months))) 0 done
        (omega arith),
  )

  sum_held : (b : ℕ) → 1024 * greatest_sum product plan ≤ b
      → whole (pos 1024) *ℚ whole (pos (greatest_sum product plan)) ≤ℚ whole (pos b)
  sum_held b h = le_trans
      (le_of_equal (sym (ap whole (sym (pos-*ℤ-pos 1024 (greatest_sum product plan)))
      ∙ whole_mul (pos 1024) (pos (greatest_sum product plan)))))
      (whole_le (omega (arith, ints, h)))

  -- a date
  lumps_carried : (b date : ℕ) (v : Moments) → IsCarried b v
      → IsCarried (b + 1024 * greatest_lump product plan date) (before_lumps product plan date v)
  lumps_carried b date v carried =
      let l = greatest_lump product plan date in
      let w = norm_of_vector Sup v.first in
      let z = norm_of_vector Sup v.second in
      let most = z +ℚ whole (pos 2) *ℚ whole (pos l) *ℚ w +ℚ whole (pos l) *ℚ whole (pos l) in
      record {
        first = date_step b l w (norm_of_vector Sup (lump_vector product plan date))
            (norm_of_vector Sup (before_lumps product plan date v).first) carried.first (lumps_norm product plan date)
            (norm-add_lists Sup v.first (lump_vector product plan date));
        second = rw (
          whole_add (pos b) (pos (1024 * l)),
          ap whole (sym (pos-*ℤ-pos 1024 l))
              ∙ whole_mul (pos 1024) (pos l),
        )
            (lump_gap (whole (pos b)) (whole (pos l)) w z
            (norm_of_vector Sup (before_lumps product plan date v).second) (natural l 1) carried.first carried.second
            (vector_most (length product.states) _ most
            (linear (z ∷ whole (pos l) ∷ w ∷ [])
            (norm_natural Sup v.second ⊞ (natural l 1 ⊠ norm_natural Sup v.first) ⊠ natural 2 1
            ⊞ natural l 1 ⊠ natural l 1)
            (hlevel claims) refl)
            (λ i c. one (number_at v.second i) (whole (lump_at plan date i)) (number_at v.first i) z (whole (pos l)) w
            (number_below_norm Sup v.second i) (number_below_norm Sup v.first i)
            (size-whole (lump_at plan date i) l (lump_within product plan date i c)))));
      }
    where
      one : (z l w zs ls ws : Fraction) → size z ≤ℚ zs → size w ≤ℚ ws → size l ≤ℚ ls
          → size (z +ℚ whole (pos 2) *ℚ l *ℚ w +ℚ l *ℚ l) ≤ℚ zs +ℚ whole (pos 2) *ℚ ls *ℚ ws +ℚ ls *ℚ ls
      one z l w zs ls ws hz hw hl =
          let some = le_trans (size_natural l) hl in
          let middle : size (whole (pos 2) *ℚ l *ℚ w) ≡ whole (pos 2) *ℚ size l *ℚ size w =
          size_mul (whole (pos 2) *ℚ l) w ∙ ap (λ y. y *ℚ size w) (size_mul (whole (pos 2)) l
          ∙ ap (λ y. y *ℚ size l) (size_of_natural (natural 2 1))) in
          let product = mul_mono hl hw (size_natural l) (le_trans (size_natural w) hw) in
          let square = mul_mono hl hl (size_natural l) some in
          linear (size (z +ℚ whole (pos 2) *ℚ l *ℚ w +ℚ l *ℚ l) ∷ size (z +ℚ whole (pos 2) *ℚ l *ℚ w)
          ∷ size (l *ℚ l) ∷ size z ∷ size (whole (pos 2) *ℚ l *ℚ w) ∷ size l ∷ size w ∷ zs ∷ ls ∷ ws ∷ [])
          (size_add (z +ℚ whole (pos 2) *ℚ l *ℚ w) (l *ℚ l) ⊞ size_add z (whole (pos 2) *ℚ l *ℚ w)
          ⊞ le_of_equal middle ⊞ le_of_equal (size_mul l l) ⊞ hz ⊞ product ⊠ natural 2 1 ⊞ square) (hlevel claims) refl

  -- a cell
  cell_carried : (b months cell : ℕ) (v : Moments) → months < product.months → cell < 32
      → length v.first ≤ length product.states → length v.second ≤ length product.states
      → 1024 * greatest_sum product plan ≤ b → IsCarried b v
      → IsCarried (grow b (kappa40 product (month_at months)) (pay product plan (month_at months)))
      (moments_over_cell (pair months cell) n v)
  cell_carried b months cell v inside low fits fits_too enough carried =
      let m = month_at months in
      let below : m < product.months = omega arith in
      let r = rules m below in
      let here = backward_cell product plan m cell in
      let within = cell_within Backward product plan m cell formed r low in
      let pays = cell_pays Backward product plan m cell formed r low below four in
      let paid = most_paid product plan m in
      let some = x_natural product plan m formed r below four in
      let cover = pay_covers product plan m formed r below four in
      let s = whole (pos (greatest_sum product plan)) in
      let p = whole (pos (pay product plan m)) in
      let w = norm_of_vector Sup v.first in
      record {
        first = cell_step b (kappa40 product m) (pay product plan m) w
            (norm_of_vector Sup (taylor_value (pair months cell).first v.first n)) paid carried.first
            (small_cells_grow here (month_bounds product m) (plan_bounds product plan m) v.first n within pays fits
            above) cover;
        second = square_gap (whole (pos b)) (growth_of (kappa40 product m)) p
            (whole (pos (grow b (kappa40 product m) (pay product plan m)))) (norm_of_vector Sup v.second)
            (norm_of_vector Sup (second_taylor_value (pair months cell) v.first v.second n)) _
            (natural b 1) (natural (kappa40 product m) (2 ^ 40)) (natural (pay product plan m) 1)
            (grow_least b (kappa40 product m) (pay product plan m)) carried.second
            (small_pairs_grow here (month_bounds product m) (plan_bounds product plan m) v.first v.second n within pays
            fits_too above)
            (received_gap (whole (pos b)) p s paid w carried.first (sum_held b enough) (natural b 1) some
            (natural (pay product plan m) 1) cover);
      }

  carried_after : (months done : ℕ) → months < product.months → done ≤ 32
      → IsCarried (bound_before_term product plan months) (before months)
      → IsCarried (bound_cells product plan months done) (after months done)
  carried_after months zero inside few held =
      lumps_carried (bound_before_term product plan months) (suc (month_at months)) (before months) held
  carried_after months (suc done) inside few held =
      let fits = both_fits months done in
      cell_carried (bound_cells product plan months done) months (32 - suc done) (after months done) inside
      (omega arith)
      fits.0 fits.1 (sum_after months done) (carried_after months done inside (omega (arith, few)) held)

  carried_before : (months : ℕ) → months ≤ product.months
      → IsCarried (bound_before_term product plan months) (before months)
  carried_before zero within =
      let zeros : Vector = (before 0).first in
      let nothing : norm_of_vector Sup zeros ≤ℚ whole (pos 0) =
      vector_most (length product.states) (λ i. whole (pos 0)) (whole (pos 0)) (natural 0 1)
      (λ i b. le_of_equal size_zero) in
      let b = 1024 * greatest_sum product plan in
      record {
        first = linear (norm_of_vector Sup zeros ∷ whole (pos b) ∷ [])
            (nothing ⊠ natural 1024 1 ⊞ natural b 1) (hlevel claims) refl;
        second = linear (norm_of_vector Sup zeros ∷ whole (pos b) ∷ [])
            (nothing ⊠ natural 1048576 1 ⊞ natural b 1 ⊠ natural b 1) (hlevel claims) refl;
      }
  carried_before (suc months) within =
      rw (moments_go (pair months) n 32 (after months 0))
      (carried_after months 32 (omega (arith, within)) (lit≤ tt) (carried_before months (omega (arith, within))))

  pub carries : CarriesMoments product plan n
  carries = record {
    months = carried_before;
    cells = λ months done inside few. carried_after months done inside few
        (carried_before months (omega (arith, inside)));
  }

pub ledger_carries_moments : LedgerCarriesMoments
ledger_carries_moments product n admissible above =
    let formed = admissible.well_formed in
    let rules = admissible_obeys product admissible in (
      carries product (payment_plan product) n formed rules (payment_plan_four product formed) above,
      carries product (pattern_plan product) n formed rules (pattern_plan_four product) above,
    )

-- so both stay within the scale
pub four_power : (g : ℕ) → 4 ^ g ≡ 2 ^ g * 2 ^ g
four_power zero = refl
four_power (suc g) =
    pow-suc 4 g ∙ ap (λ z. z * 4) (four_power g) ∙ regroup (2 ^ g)
    ∙ sym (ap₂ (λ y z. y * z) (pow-suc 2 g) (pow-suc 2 g))
  where
    regroup : (a : ℕ) → a * a * 4 ≡ a * 2 * (a * 2)
    regroup a = grind arith

square_within : (b g : ℕ) (z : Fraction) → b ≤ 1024 * 2 ^ g
    → whole (pos (1024 * 1024)) *ℚ z ≤ℚ whole (pos b) *ℚ whole (pos b) → z ≤ℚ whole (pos (4 ^ g))
square_within b g z order held =
    let G = 2 ^ g in
    let is : whole (pos (4 ^ g)) ≡ whole (pos G) *ℚ whole (pos G) =
    ap whole (ap pos (four_power g) ∙ sym (pos-*ℤ-pos G G)) ∙ whole_mul (pos G) (pos G) in
    let most : whole (pos b) ≤ℚ whole (pos 1024) *ℚ whole (pos G) =
    le_trans (whole_le (omega (arith, ints, order)))
    (le_of_equal (ap whole (sym (pos-*ℤ-pos 1024 G)) ∙ whole_mul (pos 1024) (pos G))) in
    le_of_mul_le {c = whole (pos 1048576)} (whole_positive 1048576 (lit≤ tt))
    (rw is (linear (z ∷ whole (pos b) ∷ whole (pos G) ∷ [])
    (held ⊞ most ⊠ natural b 1 ⊞ (most ⊠ natural G 1) ⊠ natural 1024 1) (hlevel claims) refl))

first_within : (b g : ℕ) (v : Fraction) → b ≤ 1024 * 2 ^ g → IsWithinLedger b v → v ≤ℚ whole (pos (2 ^ g))
first_within b g v order held =
    le_of_mul_le {c = whole (pos 1024)} (whole_positive 1024 (lit≤ tt))
    (le_trans held (le_trans (whole_le (omega (arith, ints, order)))
    (le_of_equal (ap whole (sym (pos-*ℤ-pos 1024 (2 ^ g))) ∙ whole_mul (pos 1024) (pos (2 ^ g))))))

pub second_moments_stay_within_scale : SecondMomentsStayWithinScale
second_moments_stay_within_scale product n admissible above =
    let plan = payment_plan product in
    let carried = (ledger_carries_moments product n admissible above).0 in
    let ledger = scale_bounds_ledger product plan in
    let g = scale product plan in
    let order : (months done : ℕ) → months < product.months → done ≤ 32
    → bound_cells product plan months done ≤ 1024 * 2 ^ g =
    λ months done inside few. omega (arith, bound_greatest product plan months done inside few, ledger.0) in
    record {
      dates = λ date state b.
          le_trans (number_below_norm Sup (moments_before_term product plan n (product.months - date)).second state)
          (square_within (bound_before_term product plan (product.months - date)) g _
          (ledger.1.months (product.months - date) (omega arith))
          (carried.months (product.months - date) (omega arith)).second);
      first = λ months done inside few. first_within (bound_cells product plan months done) g _
          (order months done inside few) (carried.cells months done inside few).first;
      second = λ months done inside few. square_within (bound_cells product plan months done) g _
          (order months done inside few) (carried.cells months done inside few).second;
    }
