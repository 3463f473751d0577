-- A cell of a month: the step may be taken, and what it encloses.
use Rattle.std.specs.Prelude.{◌≡◌, ℕ, suc, pos, ◌-◌, ◌^◌, ◌<◌, ◌≤◌, ℤ, max, IsTrue, List, []}
use Rattle.std.proofs.Common.{refl, sym, subst, arith}
use Rattle.frac_laws.specs.Fraction.{whole}
use Rattle.frac_laws.specs.Ledger.{grow}
use Rattle.frac_laws.specs.Lists.{scale_list}
use Rattle.frac_laws.specs.Norms.{Sup}
use Rattle.frac_laws.proofs.Linear.{linear, claims, natural}
use Rattle.frac_laws.proofs.Order.{le_trans}
use Rattle.cell_laws.specs.Systems.{System}
use Rattle.cell_laws.specs.Tame.{IsTame}
use Rattle.step_laws.specs.StepLaws.{IsStartNear}
use Rattle.named_numbers.specs.Numbers.{cells_of_month, least_degree, step_rounding, cell_rounding}
use Rattle.model_specs.specs.Product.{Product}
use Rattle.model_specs.specs.Payments.{Plan}
use Rattle.model_specs.specs.Growth.{kappa40}
use Rattle.model_specs.specs.Ledgers.{scale}
use Rattle.model_specs.specs.Stretches.{is_constant_month}
use Rattle.model_specs.specs.Systems.{thiele_system}
use Rattle.model_specs.specs.ValuationRules.{IsAdmissible}
use Rattle.ledger_laws.proofs.MonthFacts.{admissible_obeys}
use Rattle.ledger_laws.proofs.GrowthFacts.{radii_small_inside}
use Rattle.linear_system.specs.DegreeLimit.{IsConstant}
use Rattle.linear_system.specs.StandsFor.{StandsFor, in_units}
use Rattle.linear_system.specs.StoredSystem.{StoredSystem}
use Rattle.taylor_step.specs.CanStep.{CanStep, in_sup, AreAtMost}
use Rattle.taylor_step.specs.Enclosures.{Encloses}
use Rattle.payment_plan.specs.declared.pattern.Which.{Which}
use Rattle.payment_plan.specs.Payments.{plan_of}
use Rattle.product_model.specs.Views.{payments_of}
use Rattle.cell_bounds.specs.ScaledSystems.{scaling, scaled_system}
use Rattle.product_cells.specs.EachCell.{backward_cell, plan_scaling}
use Rattle.sweep_laws.specs.ScaledSteps.{next_cell}
use Rattle.sweep_laws.proofs.Sweeps.{units-order}
use Rattle.rate_bounds.specs.MonthPay.{plan_named}
use Rattle.rate_bounds.proofs.PaySteps.{plan_is}
use Rattle.cell_coeffs.specs.Rows.{cell_at}
use Rattle.thiele_backward.specs.MonthRuns.{month_values, radius_in, IsNearLumped, HasSome}
use Rattle.thiele_backward.specs.MonthRuns.{StaysNear, StaysNearWithSpare}
use Rattle.thiele_backward.proofs.MonthSteps.{four_named, values_within, scaled_fit, tame, steps_on, scaled}
use Rattle.thiele_backward.proofs.NearNumbers.{mid_most}

-- what has a unit to spare is near
pub near_by_spare : (product : Product) (plan : Plan) (month degree done : ℕ) (old new : List ℤ)
    → StaysNearWithSpare product plan month degree done old new → StaysNear product plan month degree done old new
near_by_spare product plan month degree done old new spare n v from start =
    le_trans (spare n v from start)
    (units-order (radius_in product month done - 1) (radius_in product month done) (omega arith))

module _ (which : Which) (product : Product) (month done : ℕ) (admissible : IsAdmissible product)
    (inside : month < product.months) (few : done < cells_of_month) where
  abbrev plan : Plan
  plan = plan_named which product

  abbrev e : System
  e = scaled product plan month admissible (four_named which product admissible) inside done

  radius_few : radius_in product month done ≤ 2 ^ 45
  radius_few = omega (
    arith,
    (radii_small_inside product admissible.well_formed (admissible_obeys product admissible) month done inside
        (omega (arith, few))).backward,
  )

  is_tame : IsTame Sup (kappa40 product month) e
  is_tame = tame product plan month admissible (four_named which product admissible) inside done few

  module _ (degree : ℕ) (least : least_degree ≤ degree) (start old : List ℤ)
      (near : StaysNear product plan month degree done start old) where
    -- the numbers fit, since some run is near them
    pub numbers_fit : HasSome (IsNearLumped product plan month start) → AreAtMost (2 ^ 65) old
    numbers_fit some =
        mid_most (scale_list (plan_scaling product plan) (month_values product plan degree month some.values done)) old
        (radius_in product month done)
        (values_within product plan month admissible (four_named which product admissible) inside degree some.values
        (omega (arith, least)) some.has.begins done (omega (arith, few)))
        (near degree some.values (omega arith) some.has) radius_few

    pub can_step : (s : StoredSystem) → StandsFor s e → HasSome (IsNearLumped product plan month start) → CanStep s old
    can_step s stands some = in_sup e (kappa40 product month) stands is_tame (numbers_fit some)

    -- after the step each run is near the new numbers, with a unit to spare
    pub stepped : (new : List ℤ) (answered : ℕ) → Encloses Sup e (kappa40 product month) old new answered
        → StaysNearWithSpare product plan month (max degree answered) (suc done) start new
    stepped new answered promise n v from is_start =
        let kappa = kappa40 product month in
        let rad = radius_in product month done in
        let y = scale_list (plan_scaling product plan) (month_values product plan n month v done) in
        let four = four_named which product admissible in
        let begun : IsStartNear Sup e.dimension (whole (pos 2)) rad y (in_units old) =
        record {
          fits = scaled_fit product plan month admissible four inside n v is_start.begins.fits done;
          small = le_trans
              (values_within product plan month admissible four inside n v (omega (arith, least, from))
              is_start.begins done (omega (arith, few)))
              (linear [] (natural 1 1) (hlevel claims) refl);
          near = near n v (omega (arith, from)) is_start;
          radius = radius_few;
        } in
        rw (steps_on product plan month admissible four inside n v done)
        (le_trans (promise y rad n begun (omega (arith, from)))
        (units-order (grow rad kappa step_rounding) (grow rad kappa cell_rounding - 1) (omega arith)))

    pub stepped_to : (new : List ℤ) (answered top next : ℕ) → top ≡ max degree answered → next ≡ suc done
        → Encloses Sup e (kappa40 product month) old new answered
        → StaysNearWithSpare product plan month top next start new
    stepped_to new answered top next is_top is_next promise =
        subst (λ k. StaysNearWithSpare product plan month k next start new) (sym is_top)
        (subst (λ k. StaysNearWithSpare product plan month (max degree answered) k start new) (sym is_next)
        (stepped new answered promise))

  -- what `fill` made for the cell stands for its system
  pub stands_here : (g cell : ℕ) (s : StoredSystem) → g ≡ scale product plan → cell ≡ next_cell done
      → StandsFor s (scaled_system (scaling g) (thiele_system (cell_at product which month cell))) → StandsFor s e
  stands_here g cell s is_scale is_cell stands =
      let P : Plan → Type 0 = λ q. StandsFor s (scaled_system (scaling (scale product plan))
      (thiele_system (backward_cell product q month (next_cell done)))) in
      subst P (plan_is which product) (rw (is_scale, is_cell) at stands)

  -- the promise of the step, for this system
  pub answers_here : (s : StoredSystem) (old new : List ℤ) (answered : ℕ) → StandsFor s e
      → ((e : System) (kappa : ℕ) → StandsFor s e → IsTame Sup kappa e → Encloses Sup e kappa old new answered)
      → Encloses Sup e (kappa40 product month) old new answered
  answers_here s old new answered stands promise = promise e (kappa40 product month) stands is_tame

-- before the first cell
pub begins_near : (product : Product) (plan : Plan) (month degree : ℕ) (start : List ℤ)
    → StaysNear product plan month degree 0 start start
begins_near _ _ _ _ _ n v from is_start = is_start.near

pub constant_named : (which : Which) (product p : Product) (month : ℕ) → p ≡ product
    → IsTrue (is_constant_month product (plan_named which product) month)
    → IsTrue (is_constant_month p (plan_of which (payments_of p)) month)
constant_named which product p month is constant = rw (is, plan_is which product) constant

-- where nothing varies, the degree is the least one
module _ (which : Which) (product : Product) (month done : ℕ) (admissible : IsAdmissible product)
    (inside : month < product.months) (few : done < cells_of_month) (degree : ℕ) (least : least_degree ≤ degree)
    (start old : List ℤ)
    (near : StaysNear product (plan_named which product) month degree done start old) (answered : ℕ)
    (s : StoredSystem) where
  pub constant_here : StandsFor s (e which product month done admissible inside few)
      → HasSome (IsNearLumped product (plan_named which product) month start)
      → ((e : System) (kappa : ℕ) → IsConstant s → StandsFor s e → IsTame Sup kappa e → AreAtMost (2 ^ 65) old
      → answered ≡ least_degree) → IsConstant s → degree ≡ least_degree → max degree answered ≡ least_degree
  constant_here stands some promise constant is_least =
      let answers_least : answered ≡ least_degree =
      promise (e which product month done admissible inside few) (kappa40 product month) constant stands
      (is_tame which product month done admissible inside few)
      (numbers_fit which product month done admissible inside few degree least start old near some) in
      omega (arith, answers_least, is_least)
