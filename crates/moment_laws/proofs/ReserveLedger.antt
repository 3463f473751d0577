-- The bound ledger carries the reserves: the run from the term is the one that begins there with zeros.
use Rattle.std.specs.Prelude.{◌≡◌, ℕ, zero, suc, pos, ◌+◌, ◌-◌, ◌*◌, ◌≤◌, [], ◌∷◌, length}
use Rattle.std.proofs.Common.{refl, ap, ◌∙◌, arith}
use Rattle.frac_laws.specs.Fraction.{whole, ◌≤ℚ◌}
use Rattle.frac_laws.specs.Lists.{Vector}
use Rattle.frac_laws.specs.Norms.{Sup, norm_of_vector}
use Rattle.frac_laws.proofs.Linear.{linear, claims, natural, ◌⊞◌, ◌⊠◌}
use Rattle.frac_laws.proofs.Order.{le_of_equal}
use Rattle.frac_laws.proofs.Lengths.{add_lists_fits}
use Rattle.frac_laws.proofs.Norms.{size_zero}
use Rattle.cell_laws.proofs.Dimensions.{taylor_values_keep_dimension}
use Rattle.model_specs.specs.Product.{Product}
use Rattle.model_specs.specs.Payments.{Plan, payment_plan, pattern_plan}
use Rattle.model_specs.specs.Growth.{greatest_sum}
use Rattle.model_specs.specs.Cells.{Backward, cells_of_32}
use Rattle.model_specs.specs.Systems.{thiele_system}
use Rattle.model_specs.specs.Runs.{first_before_term, lump_vector}
use Rattle.model_laws.proofs.CellEntries.{systems_keep_states, runs_keep_states, list-length}
use Rattle.moment_laws.specs.CellRuns.{first_after_cells}
use Rattle.moment_laws.specs.MomentLaws.{KeepsLedger, StaysWithinScale, LedgerCarriesReserves}
use Rattle.moment_laws.specs.MomentLaws.{ReservesStayWithinScale}
use Rattle.moment_laws.specs.RunsFrom.{KeepsLedgerFrom, StaysWithinScaleFrom}
use Rattle.product_cells.specs.EachCell.{backward_cell}
use Rattle.cell_bounds.proofs.TableNorms.{vector_most}
use Rattle.model_specs.specs.Runs.{month_back}
use Rattle.frac_laws.specs.Lists.{add_lists}
use Rattle.moment_laws.specs.CellRuns.{cells_back}
use Rattle.moment_laws.specs.RunsFrom.{first_from, first_from_cells, BeginsWithinLedger, RunsGoOn}
use Rattle.moment_laws.proofs.RunsFrom.{ledger_carries_runs, runs_stay_within_scale}

-- the run from the term, and what each month makes of a vector
pub runs_go_on : RunsGoOn
runs_go_on product plan n begin zero = let e : begin + 0 ≡ begin = omega arith in rw e refl
runs_go_on product plan n begin (suc more) =
    let e : begin + suc more ≡ suc (begin + more) = omega arith in
    let month = product.months - suc (begin + more) in
    rw e (ap (λ w. month_back (λ cell. thiele_system (backward_cell product plan month cell)) n 32
    (add_lists w (lump_vector product plan (suc month)))) (runs_go_on product plan n begin more))

cells_go_on : (product : Product) (plan : Plan) (n begin more done : ℕ)
    → first_from_cells product plan n begin (first_before_term (cells_of_32 Backward) product plan n begin) more done
    ≡ first_after_cells product plan n (begin + more) done
cells_go_on product plan n begin more done =
    let month = product.months - suc (begin + more) in
    ap (λ w. cells_back (λ cell. thiele_system (backward_cell product plan month cell)) n 32
    (add_lists w (lump_vector product plan (suc month))) done) (runs_go_on product plan n begin more)

-- zeros are within each ledger
zeros_begin : (product : Product) (plan : Plan) (n : ℕ)
    → BeginsWithinLedger product plan 0 (first_before_term (cells_of_32 Backward) product plan n 0)
zeros_begin product plan n =
    let zeros : Vector = first_before_term (cells_of_32 Backward) product plan n 0 in
    let nothing : norm_of_vector Sup zeros ≤ℚ whole (pos 0) =
    vector_most (length product.states) (λ i. whole (pos 0)) (whole (pos 0)) (natural 0 1)
    (λ i b. le_of_equal size_zero) in
    record {
      fits = list-length (length product.states) (λ i. whole (pos 0));
      within = linear (norm_of_vector Sup zeros ∷ whole (pos (1024 * greatest_sum product plan)) ∷ [])
          (nothing ⊠ natural 1024 1 ⊞ natural (1024 * greatest_sum product plan) 1) (hlevel claims) refl;
    }

module _ (product : Product) (plan : Plan) (n : ℕ) where
  abbrev zeros : Vector
  zeros = first_before_term (cells_of_32 Backward) product plan n 0

  from_zeros : (months : ℕ) → first_from product plan n 0 zeros months
      ≡ first_before_term (cells_of_32 Backward) product plan n months
  from_zeros months =
      let e : 0 + months ≡ months = omega arith in
      runs_go_on product plan n 0 months
      ∙ ap (λ m. first_before_term (cells_of_32 Backward) product plan n m) e

  cells_from_zeros : (months done : ℕ) → first_from_cells product plan n 0 zeros months done
      ≡ first_after_cells product plan n months done
  cells_from_zeros months done =
      let e : 0 + months ≡ months = omega arith in
      cells_go_on product plan n 0 months done ∙ ap (λ m. first_after_cells product plan n m done) e

  keeps : KeepsLedgerFrom product plan n 0 zeros → KeepsLedger product plan n
  keeps from = record {
    months = λ months within.
        let e : 0 + months ≡ months = omega arith in
        rw (from_zeros months, e) at (from.months months (omega (arith, within)));
    cells = λ months done inside few.
        let e : 0 + months ≡ months = omega arith in
        rw (cells_from_zeros months done, e) at (from.cells months done (omega (arith, inside)) few);
  }

  stays : StaysWithinScaleFrom product plan n 0 zeros → StaysWithinScale product plan n
  stays from = record {
    dates = λ date state b.
        rw (from_zeros (product.months - date)) at (from.dates (product.months - date) state (omega arith));
    lumps = λ date state b c.
        let e : product.months - (0 + (product.months - date)) ≡ date = omega (arith, b) in
        rw (from_zeros (product.months - date), e) at (from.lumps (product.months - date) state (omega arith) c);
    cells = λ months done state inside few.
        rw (cells_from_zeros months done) at (from.cells months done state (omega (arith, inside)) few);
  }

pub after_fits : (product : Product) (plan : Plan) (n months done : ℕ)
    → length (first_after_cells product plan n months done) ≤ length product.states
after_fits product plan n months zero = add_lists_fits (length product.states)
    (first_before_term (cells_of_32 Backward) product plan n months)
    (lump_vector product plan (suc (product.months - suc months)))
    (runs_keep_states (cells_of_32 Backward) product plan n months).0 (list-length (length product.states) _)
after_fits product plan n months (suc done) =
    let cell = backward_cell product plan (product.months - suc months) (32 - suc done) in
    taylor_values_keep_dimension (thiele_system cell) (first_after_cells product plan n months done) n
    (systems_keep_states cell).thiele (after_fits product plan n months done)

pub ledger_carries_reserves : LedgerCarriesReserves
ledger_carries_reserves product n admissible above =
    let paid = payment_plan product in
    let pattern = pattern_plan product in (
      keeps product paid n
          ((ledger_carries_runs product n 0 (zeros product paid n) admissible above).0 (zeros_begin product paid n)),
      keeps product pattern n
          ((ledger_carries_runs product n 0 (zeros product pattern n) admissible above).1
          (zeros_begin product pattern n)),
    )

pub reserves_stay_within_scale : ReservesStayWithinScale
reserves_stay_within_scale product n admissible above =
    let paid = payment_plan product in
    let pattern = pattern_plan product in (
      stays product paid n
          ((runs_stay_within_scale product n 0 (zeros product paid n) admissible above).0 (zeros_begin product paid n)),
      stays product pattern n
          ((runs_stay_within_scale product n 0 (zeros product pattern n) admissible above).1
          (zeros_begin product pattern n)),
    )
