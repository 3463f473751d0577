-- The second moments of a product stay within the square of the plan's scale.
use Rattle.std.specs.Prelude.{◌≡◌, ℕ, zero, suc, pos, ◌*◌, ◌^◌, ◌-◌, ◌<◌, ◌≤◌}
use Rattle.frac_laws.specs.Fraction.{whole, size, ◌*ℚ◌, ◌≤ℚ◌}
use Rattle.frac_laws.specs.Norms.{Sup, norm_of_vector}
use Rattle.cell_laws.specs.Systems.{taylor_value}
use Rattle.cell_laws.specs.Pairs.{CoupledPair, second_taylor_value}
use Rattle.model_specs.specs.Product.{Product}
use Rattle.model_specs.specs.Payments.{Plan, payment_plan}
use Rattle.model_specs.specs.Ledgers.{scale, bound_before_term}
use Rattle.model_specs.specs.Systems.{norberg_pair}
use Rattle.model_specs.specs.Runs.{Moments, moments_month_back, before_lumps, moments_before_term, second_moment}
use Rattle.model_specs.specs.ValuationRules.{IsAdmissible}
use Rattle.ledger_laws.specs.BeforeTermLaws.{bound_cells}
use Rattle.moment_laws.specs.MomentLaws.{IsWithinLedger, OfBothPlans}
use Rattle.product_cells.specs.EachCell.{backward_cell}

-- both moments over a cell
abbrev pub moments_over_cell : CoupledPair → ℕ → Moments → Moments
moments_over_cell pair n v = record {
  first = taylor_value pair.first v.first n;
  second = second_taylor_value pair v.first v.second n;
}

-- both moments after some cells of a month backward, the last cell first
abbrev pub moments_back : (ℕ → CoupledPair) → (n cells : ℕ) → Moments → ℕ → Moments
moments_back pair n cells v zero = v
moments_back pair n cells v (suc done) =
    moments_over_cell (pair (cells - suc done)) n (moments_back pair n cells v done)

-- a month backward is all of its cells, one after another
abbrev pub MomentsGoByCells : Type 0
MomentsGoByCells = (pair : ℕ → CoupledPair) (n cells : ℕ) (v : Moments)
    → moments_month_back pair n cells v ≡ moments_back pair n cells v cells

-- after some cells of the month that ends some months before the term, with that date's lumps
abbrev pub moments_after_cells : Product → Plan → (n months done : ℕ) → Moments
moments_after_cells product plan n months done =
    moments_back (λ cell. norberg_pair (backward_cell product plan (product.months - suc months) cell)) n 32
    (before_lumps product plan (suc (product.months - suc months)) (moments_before_term product plan n months)) done

-- 1024 |V| is at most a number of the ledger, and 1024^2 |Z| its square
pub record IsCarried (bound : ℕ) (v : Moments) : Type 0 where
  pub first : IsWithinLedger bound (norm_of_vector Sup v.first)
  pub second : whole (pos (1024 * 1024)) *ℚ norm_of_vector Sup v.second ≤ℚ whole (pos bound) *ℚ whole (pos bound)

-- the bound ledger carries both moments of degree n
pub record CarriesMoments (product : Product) (plan : Plan) (n : ℕ) : Type 0 where
  pub months : (months : ℕ) → months ≤ product.months
      → IsCarried (bound_before_term product plan months) (moments_before_term product plan n months)
  pub cells : (months done : ℕ) → months < product.months → done ≤ 32
      → IsCarried (bound_cells product plan months done) (moments_after_cells product plan n months done)

-- so it does for each admissible product
abbrev pub LedgerCarriesMoments : Type 0
LedgerCarriesMoments = OfBothPlans CarriesMoments

-- so both halves of the run stay within G and G^2: at each date, and with the date's lumps and after each cell
pub record PairStaysWithinScale (product : Product) (n : ℕ) : Type 0 where
  pub dates : (date state : ℕ) → date ≤ product.months
      → size (second_moment product n date state) ≤ℚ whole (pos (4 ^ scale product (payment_plan product)))
  pub first : (months done : ℕ) → months < product.months → done ≤ 32
      → norm_of_vector Sup (moments_after_cells product (payment_plan product) n months done).first
      ≤ℚ whole (pos (2 ^ scale product (payment_plan product)))
  pub second : (months done : ℕ) → months < product.months → done ≤ 32
      → norm_of_vector Sup (moments_after_cells product (payment_plan product) n months done).second
      ≤ℚ whole (pos (4 ^ scale product (payment_plan product)))

-- so they do for each admissible product in each degree from 6 on
abbrev pub SecondMomentsStayWithinScale : Type 0
SecondMomentsStayWithinScale =
    (product : Product) (n : ℕ) → IsAdmissible product → 6 ≤ n → PairStaysWithinScale product n
