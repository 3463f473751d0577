-- The first moments of a run that begins at any date from any vector: a value at that date that is given, before its
-- lumps. The run from the term is the case of zeros.
use Rattle.std.specs.Prelude.{◌≡◌, ℕ, zero, suc, pos, ◌+◌, ◌-◌, ◌^◌, ◌<◌, ◌≤◌, length}
use Rattle.frac_laws.specs.Fraction.{whole, size, ◌+ℚ◌, ◌≤ℚ◌}
use Rattle.frac_laws.specs.Lists.{Vector, number_at, add_lists}
use Rattle.frac_laws.specs.Norms.{Sup, norm_of_vector}
use Rattle.model_specs.specs.Product.{Product}
use Rattle.model_specs.specs.Payments.{Plan, payment_plan, pattern_plan, lump_at}
use Rattle.model_specs.specs.Ledgers.{scale, bound_before_term}
use Rattle.model_specs.specs.Systems.{thiele_system}
use Rattle.model_specs.specs.Runs.{month_back, first_before_term, lump_vector}
use Rattle.model_specs.specs.Cells.{Backward, cells_of_32}
use Rattle.model_specs.specs.ValuationRules.{IsAdmissible}
use Rattle.ledger_laws.specs.BeforeTermLaws.{bound_cells}
use Rattle.product_cells.specs.EachCell.{backward_cell}
use Rattle.moment_laws.specs.CellRuns.{cells_back}
use Rattle.moment_laws.specs.MomentLaws.{IsWithinLedger}

-- from v, so many months before the term, and back some months more, before that date's lumps
abbrev pub first_from : Product → Plan → (n begin : ℕ) → Vector → ℕ → Vector
first_from product plan n begin v zero = v
first_from product plan n begin v (suc more) =
    let month = product.months - suc (begin + more) in
    month_back (λ cell. thiele_system (backward_cell product plan month cell)) n 32
    (add_lists (first_from product plan n begin v more) (lump_vector product plan (suc month)))

-- and after some cells of the month before, with that date's lumps
abbrev pub first_from_cells : Product → Plan → (n begin : ℕ) → Vector → (more done : ℕ) → Vector
first_from_cells product plan n begin v more done =
    let month = product.months - suc (begin + more) in
    cells_back (λ cell. thiele_system (backward_cell product plan month cell)) n 32
    (add_lists (first_from product plan n begin v more) (lump_vector product plan (suc month))) done

-- the run from the term goes on from each of its own values
abbrev pub RunsGoOn : Type 0
RunsGoOn = (product : Product) (plan : Plan) (n begin more : ℕ)
    → first_from product plan n begin (first_before_term (cells_of_32 Backward) product plan n begin) more
    ≡ first_before_term (cells_of_32 Backward) product plan n (begin + more)

-- a vector with which a run may begin: a number a state at most, within the bound ledger there
pub record BeginsWithinLedger (product : Product) (plan : Plan) (begin : ℕ) (v : Vector) : Type 0 where
  pub fits : length v ≤ length product.states
  pub within : IsWithinLedger (bound_before_term product plan begin) (norm_of_vector Sup v)

-- the bound ledger carries the run: at each date, and after some cells of the month before (after no cell, with the
-- lumps of the month's end)
pub record KeepsLedgerFrom (product : Product) (plan : Plan) (n begin : ℕ) (v : Vector) : Type 0 where
  pub months : (more : ℕ) → begin + more ≤ product.months
      → IsWithinLedger (bound_before_term product plan (begin + more))
      (norm_of_vector Sup (first_from product plan n begin v more))
  pub cells : (more done : ℕ) → begin + more < product.months → done ≤ 32
      → IsWithinLedger (bound_cells product plan (begin + more) done)
      (norm_of_vector Sup (first_from_cells product plan n begin v more done))

-- so each value is at most G: at a date without and with its lump, and after each cell of a month
pub record StaysWithinScaleFrom (product : Product) (plan : Plan) (n begin : ℕ) (v : Vector) : Type 0 where
  pub dates : (more state : ℕ) → begin + more ≤ product.months
      → size (number_at (first_from product plan n begin v more) state) ≤ℚ whole (pos (2 ^ scale product plan))
  pub lumps : (more state : ℕ) → begin + more ≤ product.months → state < length product.states
      → size (number_at (first_from product plan n begin v more) state
      +ℚ whole (lump_at plan (product.months - (begin + more)) state)) ≤ℚ whole (pos (2 ^ scale product plan))
  pub cells : (more done state : ℕ) → begin + more < product.months → done ≤ 32
      → size (number_at (first_from_cells product plan n begin v more done) state)
      ≤ℚ whole (pos (2 ^ scale product plan))

-- a fact of each run of both plans that begins within the bound ledger, in each degree from 6 on
abbrev pub OfEachRun : (Product → Plan → (n begin : ℕ) → Vector → Type 0) → Type 0
OfEachRun Says = (product : Product) (n begin : ℕ) (v : Vector) → IsAdmissible product → 6 ≤ n
    → (BeginsWithinLedger product (payment_plan product) begin v → Says product (payment_plan product) n begin v)
    × (BeginsWithinLedger product (pattern_plan product) begin v → Says product (pattern_plan product) n begin v)

-- the bound ledger carries each of them
abbrev pub LedgerCarriesRuns : Type 0
LedgerCarriesRuns = OfEachRun KeepsLedgerFrom

-- each of them stays within the scale
abbrev pub RunsStayWithinScale : Type 0
RunsStayWithinScale = OfEachRun StaysWithinScaleFrom
