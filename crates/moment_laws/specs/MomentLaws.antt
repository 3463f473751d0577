-- The moments of an admissible product stay within the scale of their plan.
use Rattle.std.specs.Prelude.{ℕ, pos, ◌^◌, ◌<◌, ◌≤◌, length}
use Rattle.frac_laws.specs.Fraction.{Fraction, whole, size, ◌+ℚ◌, ◌*ℚ◌, ◌≤ℚ◌}
use Rattle.frac_laws.specs.Lists.{number_at}
use Rattle.frac_laws.specs.Norms.{Sup, norm_of_vector}
use Rattle.model_specs.specs.Product.{Product}
use Rattle.model_specs.specs.Payments.{Plan, payment_plan, pattern_plan, lump_at}
use Rattle.model_specs.specs.Ledgers.{scale, bound_before_term}
use Rattle.model_specs.specs.Runs.{first_before_term, reserve}
use Rattle.model_specs.specs.Cells.{Backward, cells_of_32}
use Rattle.model_specs.specs.ValuationRules.{IsAdmissible}
use Rattle.ledger_laws.specs.BeforeTermLaws.{bound_cells}
use Rattle.moment_laws.specs.CellRuns.{first_after_cells}

-- 1024 |v| is at most a number of the bound ledger
abbrev pub IsWithinLedger : ℕ → Fraction → Type 0
IsWithinLedger bound v = whole (pos 1024) *ℚ v ≤ℚ whole (pos bound)

-- the bound ledger carries the first moments of degree n: some months before the term, and after some cells of the
-- month before (after no cell, with the lumps of the month's end)
pub record KeepsLedger (product : Product) (plan : Plan) (n : ℕ) : Type 0 where
  pub months : (months : ℕ) → months ≤ product.months → IsWithinLedger (bound_before_term product plan months)
      (norm_of_vector Sup (first_before_term (cells_of_32 Backward) product plan n months))
  pub cells : (months done : ℕ) → months < product.months → done ≤ 32
      → IsWithinLedger (bound_cells product plan months done)
      (norm_of_vector Sup (first_after_cells product plan n months done))

-- so each value is at most G: at a date without and with its lump, and after each cell of a month
pub record StaysWithinScale (product : Product) (plan : Plan) (n : ℕ) : Type 0 where
  pub dates : (date state : ℕ) → date ≤ product.months
      → size (reserve product plan n date state) ≤ℚ whole (pos (2 ^ scale product plan))
  pub lumps : (date state : ℕ) → date ≤ product.months → state < length product.states
      → size (reserve product plan n date state +ℚ whole (lump_at plan date state))
      ≤ℚ whole (pos (2 ^ scale product plan))
  pub cells : (months done state : ℕ) → months < product.months → done ≤ 32
      → size (number_at (first_after_cells product plan n months done) state)
      ≤ℚ whole (pos (2 ^ scale product plan))

-- in each degree from 6 on, of both plans
abbrev pub OfBothPlans : (Product → Plan → ℕ → Type 0) → Type 0
OfBothPlans Says = (product : Product) (n : ℕ) → IsAdmissible product → 6 ≤ n
    → Says product (payment_plan product) n × Says product (pattern_plan product) n

-- the bound ledger carries the first moments of each admissible product
abbrev pub LedgerCarriesReserves : Type 0
LedgerCarriesReserves = OfBothPlans KeepsLedger

-- the first moments of each admissible product stay within the scale
abbrev pub ReservesStayWithinScale : Type 0
ReservesStayWithinScale = OfBothPlans StaysWithinScale
