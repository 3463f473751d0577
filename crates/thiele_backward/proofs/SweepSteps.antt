-- From month to month: where a run stands after another month, and that it may go on from there.
use Rattle.std.specs.Prelude.{◌≡◌, ℕ, zero, suc, ◌+◌, ◌-◌, ◌*◌, ◌<◌, ◌≤◌, min, ℤ, List, length}
use Rattle.std.proofs.Common.{refl, ap, subst, ◌∙◌, arith}
use Rattle.frac_laws.specs.Lists.{Vector}
use Rattle.frac_laws.specs.Norms.{Sup, norm_of_vector}
use Rattle.frac_laws.proofs.Order.{le_trans}
use Rattle.named_numbers.specs.Numbers.{cells_of_month, cell_rounding, least_degree}
use Rattle.model_specs.specs.Product.{Product}
use Rattle.model_specs.specs.Payments.{Plan}
use Rattle.model_specs.specs.Growth.{kappa40}
use Rattle.model_specs.specs.Ledgers.{radius, bound_before_term}
use Rattle.model_specs.specs.Systems.{thiele_system}
use Rattle.model_specs.specs.ValuationRules.{IsAdmissible}
use Rattle.ledger_laws.proofs.BoundFacts.{cells_add}
use Rattle.ledger_laws.proofs.GrowthFacts.{radius_back}
use Rattle.ledger_laws.proofs.MonthFacts.{admissible_obeys}
use Rattle.product_cells.specs.EachCell.{backward_cell}
use Rattle.model_laws.proofs.PlanSteps.{HasFourEach}
use Rattle.moment_laws.specs.MomentLaws.{IsWithinLedger}
use Rattle.moment_laws.specs.RunsFrom.{first_from, first_from_cells, BeginsWithinLedger}
use Rattle.moment_laws.proofs.MonthCells.{months_go}
use Rattle.moment_laws.proofs.RunsFrom.{keeps_ledger_from}
use Rattle.sweep_laws.proofs.Sweeps.{units-order}
use Rattle.thiele_backward.specs.MonthRuns.{month_values, AreWithin, IsNearAt, HasSome, EnclosesMonth}
use Rattle.thiele_backward.specs.Sweeps.{BackwardSweep, plan_in, IsStart, values_from, spare_units, month_earlier}
use Rattle.thiele_backward.proofs.MonthSteps.{values_fit, four_named}

-- over a month the radius grows by more than a unit
pub radius_some : (product : Product) (month : ℕ) → month < product.months → 1 ≤ radius product month
radius_some product month inside =
    at_least_one (radius product (suc month)) _ (radius product month)
    (cells_add (kappa40 product month) cell_rounding (radius product (suc month)) cells_of_month)
    (radius_back product month inside)
  where
    at_least_one : (w grown r : ℕ) → w + cells_of_month * cell_rounding ≤ grown → r ≡ grown → 1 ≤ r
    at_least_one w grown r most is = omega (arith, most, is)

module _ (product : Product) (plan : Plan) (n begin : ℕ) (v : Vector) (begins : BeginsWithinLedger product plan begin v)
  where
    -- the run after another month
    pub goes_on : (more month : ℕ) → product.months - suc (begin + more) ≡ month
        → first_from product plan n begin v (suc more)
        ≡ month_values product plan n month (first_from product plan n begin v more) cells_of_month
    goes_on more month is =
        months_go (λ cell. thiele_system (backward_cell product plan (product.months - suc (begin + more)) cell)) n
        cells_of_month (first_from_cells product plan n begin v more 0)
        ∙ ap (λ m. month_values product plan n m (first_from product plan n begin v more) cells_of_month) is

    run_fits : (more : ℕ) → length (first_from product plan n begin v more) ≤ length product.states
    run_fits zero = begins.fits
    run_fits (suc more) =
        rw (goes_on more (product.months - suc (begin + more)) refl)
        (values_fit product plan n (product.months - suc (begin + more)) (first_from product plan n begin v more)
        (run_fits more) cells_of_month)

    -- its values are within the bound ledger, so that a run may begin with them
    pub may_go_on : IsAdmissible product → HasFourEach plan → 6 ≤ n → (more left : ℕ) → begin + more ≡ left
        → left ≤ product.months → BeginsWithinLedger product plan left (first_from product plan n begin v more)
    may_go_on admissible four above more left is within =
        let ledger = (keeps_ledger_from product plan n admissible.well_formed (admissible_obeys product admissible)
        four above begin v begins).months more (rw is within) in
        record {
          fits = run_fits more;
          within = subst (λ k. IsWithinLedger (bound_before_term product plan k)
              (norm_of_vector Sup (first_from product plan n begin v more))) is ledger;
        }

-- where a sweep begins its numbers are those that it begins with
pub near_at_first : (product : Product) (plan : Plan) (date rad n : ℕ) (numbers : List ℤ) (v : Vector)
    → rad ≡ radius product date → IsNearAt product plan date numbers v
    → AreWithin product plan (rad - min 1 (date - date)) (first_from product plan n (product.months - date) v
    (date - date)) numbers
near_at_first product plan date rad n numbers v is start =
    let P : ℕ → Type 0 = λ k. AreWithin product plan (rad - min 1 k)
    (first_from product plan n (product.months - date) v k) numbers in
    let none : 0 ≡ date - date = omega arith in
    subst P none (le_trans start.near (units-order (radius product date) (rad - min 1 0) (omega (arith, is))))

-- a month of a sweep: s is where it stands before it, and the numbers go from old to new
module _ (s : BackwardSweep) (rad : ℕ) (old new : List ℤ) (admissible : IsAdmissible s.product)
    (begun : s.begun.months_left ≤ s.product.months) (left : s.months_left ≤ s.begun.months_left)
    (radius_is : rad ≡ radius s.product s.months_left) (least : least_degree ≤ s.degree)
    (near : (n : ℕ) (v : Vector) → s.degree ≤ n → IsStart s v
    → AreWithin s.product (plan_in s) (rad - spare_units s) (values_from s n v) old)
    (month : ℕ) (month_is : s.months_left ≡ suc month) where
  abbrev product : Product
  product = s.product

  abbrev plan : Plan
  plan = plan_in s

  abbrev begin : ℕ
  begin = product.months - s.begun.months_left

  abbrev more : ℕ
  more = s.begun.months_left - s.months_left

  -- the values at the month's end are near the numbers before it
  pub near_before : (n : ℕ) (v : Vector) → s.degree ≤ n → IsStart s v
      → IsNearAt product plan (suc month) old (values_from s n v)
  near_before n v from start = record {
    begins = may_go_on product plan n begin v start.begins admissible (four_named s.which product admissible)
        (omega (arith, least, from)) more (product.months - suc month) (omega (arith, begun, left, month_is))
        (omega arith);
    near = le_trans (near n v from start)
        (units-order (rad - spare_units s) (radius product (suc month)) (omega (
          arith,
          ap (radius product) month_is,
          radius_is,
        )));
  }

  pub some_before : HasSome (IsStart s) → HasSome (IsNearAt product plan (suc month) old)
  some_before some = record {
    values = values_from s s.degree some.values;
    has = near_before s.degree some.values (omega arith) some.has;
  }

  -- and those at its start near the numbers after it
  pub near_after : (answered : ℕ) → EnclosesMonth product plan month answered old new → (n : ℕ) (v : Vector)
      → (month_earlier s answered).degree ≤ n → IsStart s v
      → AreWithin product plan (radius product month - spare_units (month_earlier s answered))
      (values_from (month_earlier s answered) n v) new
  near_after answered encloses n v from start =
      let gone : s.begun.months_left - (s.months_left - 1) ≡ suc more = omega (arith, left, month_is) in
      let here = encloses n (values_from s n v) (omega (arith, from)) (near_before n v (omega (arith, from)) start) in
      let one : min 1 (suc more) ≡ 1 = omega arith in
      rw (gone, one, goes_on product plan n begin v start.begins more month (omega (arith, begun, left, month_is)))
      here
