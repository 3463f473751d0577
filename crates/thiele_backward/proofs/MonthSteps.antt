-- Each cell of a month is a step of a tame system, from a start of norm at most 1.
use Rattle.std.specs.Prelude.{◌≡◌, ℕ, zero, suc, pos, ◌+◌, ◌-◌, ◌*◌, ◌^◌, ◌<◌, ◌≤◌, length}
use Rattle.std.proofs.Common.{sym, subst, arith}
use Rattle.frac_laws.specs.Fraction.{Fraction, whole, ◌≤ℚ◌}
use Rattle.frac_laws.specs.Lists.{Vector, scale_list, add_lists}
use Rattle.frac_laws.specs.Norms.{Sup, norm_of_vector}
use Rattle.frac_laws.proofs.Lengths.{scale_list_fits, add_lists_fits}
use Rattle.cell_laws.specs.Systems.{System, taylor_value}
use Rattle.cell_laws.specs.Tame.{IsTame}
use Rattle.cell_laws.proofs.Dimensions.{taylor_values_keep_dimension}
use Rattle.named_numbers.specs.Numbers.{cells_of_month, pay_unit}
use Rattle.model_specs.specs.Product.{Product}
use Rattle.model_specs.specs.Payments.{Plan}
use Rattle.model_specs.specs.Growth.{kappa40}
use Rattle.model_specs.specs.Ledgers.{scale, bound_before_term}
use Rattle.model_specs.specs.Runs.{lump_vector}
use Rattle.model_specs.specs.Systems.{thiele_system}
use Rattle.model_specs.specs.ValuationRules.{IsAdmissible}
use Rattle.model_laws.proofs.CellEntries.{systems_keep_states, list-length}
use Rattle.ledger_laws.proofs.MonthFacts.{admissible_obeys}
use Rattle.ledger_laws.proofs.BeforeTerm.{bound_greatest}
use Rattle.ledger_laws.proofs.BoundFacts.{scale_bounds_ledger, month_of}
use Rattle.ledger_laws.specs.BeforeTermLaws.{bound_cells}
use Rattle.payment_plan.specs.declared.pattern.Which.{Which}
use Rattle.payment_plan.specs.declared.pattern.Which.TheVariants.{Benefits, Pattern}
use Rattle.cell_bounds.specs.ScaledSystems.{scaled_system}
use Rattle.product_cells.specs.EachCell.{backward_cell, plan_scaling}
use Rattle.model_laws.proofs.PlanSteps.{HasFourEach, payment_plan_four, pattern_plan_four}
use Rattle.product_laws.proofs.ProductTame.{thiele_cell_tame}
use Rattle.moment_laws.specs.MomentLaws.{IsWithinLedger}
use Rattle.moment_laws.specs.CellRuns.{cells_back}
use Rattle.moment_laws.specs.RunsFrom.{BeginsWithinLedger}
use Rattle.moment_laws.proofs.LedgerSteps.{within_scale}
use Rattle.moment_laws.proofs.RunsFrom.{keeps_ledger_from}
use Rattle.moment_laws.proofs.ScaledRuns.{taylor_values_scale}
use Rattle.sweep_laws.specs.ScaledSteps.{next_cell}
use Rattle.sweep_laws.proofs.ScaledSteps.{scaled_within}
use Rattle.rate_bounds.specs.MonthPay.{plan_named}
use Rattle.thiele_backward.specs.MonthRuns.{month_values}

-- values with which a run may begin are within the scale
pub begun_within : (product : Product) (plan : Plan) (left : ℕ) (v : Vector) → left ≤ product.months
    → BeginsWithinLedger product plan left v
    → norm_of_vector Sup (scale_list (plan_scaling product plan) v) ≤ℚ whole (pos 1)
begun_within product plan left v within begins =
    scaled_within (scale product plan) v (within_scale product plan (bound_before_term product plan left) _
    ((scale_bounds_ledger product plan).1.months left within) begins.within)

-- the steps of both plans have four coefficients
pub four_named : (which : Which) (product : Product) → IsAdmissible product → HasFourEach (plan_named which product)
four_named Benefits product admissible = payment_plan_four product admissible.well_formed
four_named Pattern product admissible = pattern_plan_four product

-- a run has no more numbers than there are states
pub values_fit : (product : Product) (plan : Plan) (n month : ℕ) (v : Vector) → length v ≤ length product.states
    → (done : ℕ) → length (month_values product plan n month v done) ≤ length product.states
values_fit product plan n month v fits zero =
    add_lists_fits (length product.states) v (lump_vector product plan (suc month)) fits
    (list-length (length product.states) _)
values_fit product plan n month v fits (suc done) =
    let cell = backward_cell product plan month (cells_of_month - suc done) in
    taylor_values_keep_dimension (thiele_system cell) (month_values product plan n month v done) n
    (systems_keep_states cell).thiele (values_fit product plan n month v fits done)

module _ (product : Product) (plan : Plan) (month : ℕ) (admissible : IsAdmissible product) (four : HasFourEach plan)
    (inside : month < product.months) where
  -- how many months are between the month's end and the term
  abbrev months : ℕ
  months = product.months - suc month

  pub month-is : product.months - suc months ≡ month
  month-is = month_of product.months month inside

  abbrev h : Fraction
  h = plan_scaling product plan

  abbrev system : ℕ → System
  system cell = thiele_system (backward_cell product plan month cell)

  -- what the bound ledger says of a run that begins at the month's end
  held : (n : ℕ) (v : Vector) → 6 ≤ n → BeginsWithinLedger product plan months v
      → (done : ℕ) → done ≤ cells_of_month → IsWithinLedger (bound_cells product plan months done)
      (norm_of_vector Sup (month_values product plan n month v done))
  held n v above begins done few =
      let Says : ℕ → ℕ → Type 0 = λ k m. IsWithinLedger (bound_cells product plan k done)
      (norm_of_vector Sup (cells_back (λ cell. thiele_system (backward_cell product plan m cell)) n
      cells_of_month (add_lists v (lump_vector product plan (suc m))) done)) in
      let none_more : months + 0 ≡ months = omega arith in
      let ledger = (keeps_ledger_from product plan n admissible.well_formed (admissible_obeys product admissible)
      four above months v begins).cells 0 done (omega (arith, inside)) few in
      subst (λ m. Says months m) month-is (subst (λ k. Says k (product.months - suc k)) none_more ledger)

  pub values_within : (n : ℕ) (v : Vector) → 6 ≤ n → BeginsWithinLedger product plan months v
      → (done : ℕ) → done ≤ cells_of_month
      → norm_of_vector Sup (scale_list h (month_values product plan n month v done)) ≤ℚ whole (pos 1)
  values_within n v above begins done few =
      let bound : bound_cells product plan months done ≤ pay_unit * 2 ^ scale product plan =
      omega (
        arith,
        bound_greatest product plan months done (omega (arith, inside)) few,
        (scale_bounds_ledger product plan).0,
      ) in
      scaled_within (scale product plan) (month_values product plan n month v done)
      (within_scale product plan (bound_cells product plan months done) _ bound (held n v above begins done few))

  abbrev pub scaled : ℕ → System
  scaled done = scaled_system h (system (next_cell done))

  pub tame : (done : ℕ) → done < cells_of_month → IsTame Sup (kappa40 product month) (scaled done)
  tame done few = thiele_cell_tame product plan month (next_cell done) admissible.well_formed
      (admissible_obeys product admissible month inside) inside (omega arith) four

  pub steps_on : (n : ℕ) (v : Vector) (done : ℕ)
      → scale_list h (month_values product plan n month v (suc done))
      ≡ taylor_value (scaled done) (scale_list h (month_values product plan n month v done)) n
  steps_on n v done =
      sym (taylor_values_scale h (system (next_cell done)) (month_values product plan n month v done) n)

  pub scaled_fit : (n : ℕ) (v : Vector) → length v ≤ length product.states → (done : ℕ)
      → length (scale_list h (month_values product plan n month v done)) ≤ length product.states
  scaled_fit n v fits done = scale_list_fits (length product.states) h (month_values product plan n month v done)
      (values_fit product plan n month v fits done)
