-- The bound ledger carries each run of the first moments that begins within it.
use Rattle.std.specs.Prelude.{◌≡◌, ℕ, zero, suc, pos, ◌+◌, ◌-◌, ◌*◌, ◌<◌, ◌≤◌, [], ◌∷◌, length}
use Rattle.std.proofs.Common.{refl, arith, lit≤}
use Rattle.frac_laws.specs.Fraction.{over, whole, size, ◌+ℚ◌, ◌*ℚ◌, ◌≤ℚ◌}
use Rattle.frac_laws.specs.Lists.{Vector, number_at}
use Rattle.frac_laws.specs.Norms.{Sup, norm_of_vector}
use Rattle.frac_laws.proofs.Linear.{linear, claims, natural, ◌⊞◌, ◌⊠◌}
use Rattle.frac_laws.proofs.Order.{le_trans}
use Rattle.frac_laws.proofs.Lengths.{add_lists_fits}
use Rattle.frac_laws.proofs.Norms.{norm-add_lists, number_below_norm}
use Rattle.frac_laws.proofs.Sizes.{size_add}
use Rattle.cell_laws.specs.Systems.{System, taylor_value}
use Rattle.cell_laws.specs.Tame.{growth_of}
use Rattle.cell_laws.proofs.Dimensions.{taylor_values_keep_dimension}
use Rattle.model_specs.specs.Product.{Product}
use Rattle.model_specs.specs.Payments.{Plan, payment_plan, pattern_plan, lump_at}
use Rattle.model_specs.specs.Growth.{kappa40, pay}
use Rattle.model_specs.specs.Ledgers.{bound_before_term, greatest_lump}
use Rattle.model_specs.specs.RecordRules.{IsWellFormed}
use Rattle.model_specs.specs.Cells.{Backward}
use Rattle.model_specs.specs.Systems.{thiele_system}
use Rattle.model_specs.specs.Runs.{lump_vector}
use Rattle.model_laws.proofs.CellEntries.{systems_keep_states, list-length}
use Rattle.ledger_laws.specs.MonthLaws.{ObeysAllMonths}
use Rattle.ledger_laws.specs.BeforeTermLaws.{bound_cells}
use Rattle.ledger_laws.proofs.MonthFacts.{admissible_obeys}
use Rattle.ledger_laws.proofs.BeforeTerm.{bound_greatest}
use Rattle.ledger_laws.proofs.BoundFacts.{scale_bounds_ledger}
use Rattle.moment_laws.specs.MomentLaws.{IsWithinLedger}
use Rattle.moment_laws.specs.RunsFrom.{first_from, first_from_cells, BeginsWithinLedger, KeepsLedgerFrom}
use Rattle.moment_laws.specs.RunsFrom.{StaysWithinScaleFrom, LedgerCarriesRuns, RunsStayWithinScale}
use Rattle.product_cells.specs.EachCell.{backward_cell}
use Rattle.product_cells.specs.MonthFractions.{most_paid}
use Rattle.moment_laws.proofs.MonthCells.{months_go}
use Rattle.moment_laws.proofs.LumpSizes.{lump_within, lumps_norm, size-whole}
use Rattle.product_cells.specs.MonthFractions.{month_bounds, plan_bounds}
use Rattle.product_cells.proofs.CellsWithin.{cell_within, cell_pays}
use Rattle.cell_growth.proofs.SmallCellGrowth.{small_cells_grow}
use Rattle.model_laws.proofs.PlanSteps.{HasFourEach, payment_plan_four, pattern_plan_four}
use Rattle.product_cells.proofs.ProductPayments.{pay_covers}
use Rattle.moment_laws.proofs.LedgerSteps.{date_step, cell_step, within_scale}

module _ (product : Product) (plan : Plan) (n : ℕ) (formed : IsWellFormed product) (rules : ObeysAllMonths product)
    (four : HasFourEach plan) (above : 6 ≤ n) where
  abbrev system : ℕ → ℕ → System
  system month cell = thiele_system (backward_cell product plan month cell)

  -- a cell of a month of the term
  one_cell : (month cell : ℕ) (v : Vector) → month < product.months → cell < 32
      → length v ≤ length product.states
      → norm_of_vector Sup (taylor_value (system month cell) v n)
      ≤ℚ (whole (pos 1) +ℚ growth_of (kappa40 product month)) *ℚ norm_of_vector Sup v
      +ℚ over (pos 1) 192 *ℚ most_paid product plan month
  one_cell m cell v b low fits =
      let r = rules m b in
      small_cells_grow (backward_cell product plan m cell) (month_bounds product m) (plan_bounds product plan m) v n
      (cell_within Backward product plan m cell formed r low)
      (cell_pays Backward product plan m cell formed r low b four) fits above

  -- a run that begins at a date from a vector within the ledger there
  module _ (begin : ℕ) (v : Vector) (starts : BeginsWithinLedger product plan begin v) where
    abbrev month_at : ℕ → ℕ
    month_at more = product.months - suc (begin + more)

    abbrev before : ℕ → Vector
    before more = first_from product plan n begin v more

    abbrev after : ℕ → ℕ → Vector
    after more done = first_from_cells product plan n begin v more done

    fits_after : (more done : ℕ) → length (before more) ≤ length product.states
        → length (after more done) ≤ length product.states
    fits_after more zero fits = add_lists_fits (length product.states) (before more)
        (lump_vector product plan (suc (month_at more))) fits (list-length (length product.states) _)
    fits_after more (suc done) fits =
        taylor_values_keep_dimension (system (month_at more) (32 - suc done)) (after more done) n
        (systems_keep_states (backward_cell product plan (month_at more) (32 - suc done))).thiele
        (fits_after more done fits)

    fits_before : (more : ℕ) → length (before more) ≤ length product.states
    fits_before zero = starts.fits
    fits_before (suc more) =
        rw (months_go (system (month_at more)) n 32 (after more 0)) (fits_after more 32 (fits_before more))

    held_after : (more done : ℕ) → begin + more < product.months → done ≤ 32
        → IsWithinLedger (bound_before_term product plan (begin + more)) (norm_of_vector Sup (before more))
        → IsWithinLedger (bound_cells product plan (begin + more) done) (norm_of_vector Sup (after more done))
    held_after more zero inside few held =
        let date = suc (month_at more) in
        date_step (bound_before_term product plan (begin + more)) (greatest_lump product plan date)
        (norm_of_vector Sup (before more)) (norm_of_vector Sup (lump_vector product plan date))
        (norm_of_vector Sup (after more 0)) held (lumps_norm product plan date)
        (norm-add_lists Sup (before more) (lump_vector product plan date))
    held_after more (suc done) inside few held =
        let m = month_at more in
        let b : m < product.months = omega arith in
        cell_step (bound_cells product plan (begin + more) done) (kappa40 product m) (pay product plan m)
        (norm_of_vector Sup (after more done)) (norm_of_vector Sup (after more (suc done)))
        (most_paid product plan m)
        (held_after more done inside (omega (arith, few)) held)
        (one_cell m (32 - suc done) (after more done) b (omega arith) (fits_after more done (fits_before more)))
        (pay_covers product plan m formed (rules m b) b four)

    held_before : (more : ℕ) → begin + more ≤ product.months
        → IsWithinLedger (bound_before_term product plan (begin + more)) (norm_of_vector Sup (before more))
    held_before zero within =
        let e : begin + 0 ≡ begin = omega arith in rw e starts.within
    held_before (suc more) within =
        let e : begin + suc more ≡ suc (begin + more) = omega arith in
        rw (e, months_go (system (month_at more)) n 32 (after more 0))
        (held_after more 32 (omega (arith, within)) (lit≤ tt) (held_before more (omega (arith, within))))

    pub keeps_ledger_from : KeepsLedgerFrom product plan n begin v
    keeps_ledger_from = record {
      months = held_before;
      cells = λ more done inside few. held_after more done inside few (held_before more (omega (arith, inside)));
    }

    pub stays_within_from : StaysWithinScaleFrom product plan n begin v
    stays_within_from =
        let ledger = scale_bounds_ledger product plan in
        record {
          dates = λ more state b.
              le_trans (number_below_norm Sup (before more) state)
              (within_scale product plan (bound_before_term product plan (begin + more)) _
              (ledger.1.months (begin + more) b)
              (held_before more b));
          lumps = λ more state b c.
              let date = product.months - (begin + more) in
              let e : product.months - date ≡ begin + more = omega (arith, b) in
              within_scale product plan (bound_before_term product plan (begin + more) + 1024 * greatest_lump product
              plan date) _
              (rw e at (ledger.1.dates date (omega arith)))
              (date_step (bound_before_term product plan (begin + more)) (greatest_lump product plan date)
              (size (number_at (before more) state)) (size (whole (lump_at plan date state)))
              _ (at_place more state b)
              (size-whole (lump_at plan date state) (greatest_lump product plan date)
              (lump_within product plan date state c))
              (size_add (number_at (before more) state) (whole (lump_at plan date state))));
          cells = λ more done state inside few.
              le_trans (number_below_norm Sup (after more done) state)
              (within_scale product plan (bound_cells product plan (begin + more) done) _
              (omega (arith, bound_greatest product plan (begin + more) done inside few, ledger.0))
              (held_after more done inside few (held_before more (omega (arith, inside)))));
        }
      where
        at_place : (more state : ℕ) → begin + more ≤ product.months
            → IsWithinLedger (bound_before_term product plan (begin + more)) (size (number_at (before more) state))
        at_place more state within =
            linear (size (number_at (before more) state) ∷ norm_of_vector Sup (before more)
            ∷ whole (pos (bound_before_term product plan (begin + more))) ∷ [])
            (number_below_norm Sup (before more) state ⊠ natural 1024 1 ⊞ held_before more within)
            (hlevel claims) refl

pub ledger_carries_runs : LedgerCarriesRuns
ledger_carries_runs product n begin v admissible above =
    let formed = admissible.well_formed in
    let rules = admissible_obeys product admissible in (
      keeps_ledger_from product (payment_plan product) n formed rules (payment_plan_four product formed) above begin v,
      keeps_ledger_from product (pattern_plan product) n formed rules (pattern_plan_four product) above begin v,
    )

pub runs_stay_within_scale : RunsStayWithinScale
runs_stay_within_scale product n begin v admissible above =
    let formed = admissible.well_formed in
    let rules = admissible_obeys product admissible in (
      stays_within_from product (payment_plan product) n formed rules (payment_plan_four product formed) above begin v,
      stays_within_from product (pattern_plan product) n formed rules (pattern_plan_four product) above begin v,
    )
