-- A constant month by its map: the map can be made, stands for the other months of its stretch, and is as 32 cells.
use Rattle.std.specs.Prelude.{◌≡◌, ℕ, suc, pos, ◌+◌, ◌-◌, ◌^◌, ◌<◌, ◌≤◌, ℤ, IsTrue, List, length, slice_index_or}
use Rattle.std.proofs.Common.{sym, subst, ◌∙◌, arith, inl, inr}
use Rattle.std.proofs.lemmas.Bool.{cases_lt}
use Rattle.frac_laws.specs.Fraction.{over, size, ◌-ℚ◌, ◌≤ℚ◌}
use Rattle.frac_laws.specs.Lists.{Vector, number_at, scale_list, add_lists}
use Rattle.frac_laws.specs.Norms.{Sup}
use Rattle.frac_laws.proofs.Lengths.{number_at-past}
use Rattle.frac_laws.proofs.Linear.{natural}
use Rattle.frac_laws.proofs.Order.{le_trans}
use Rattle.cell_laws.specs.ErrorLaws.{distance}
use Rattle.cell_laws.specs.Systems.{System}
use Rattle.named_numbers.specs.Numbers.{cells_of_month, least_degree}
use Rattle.model_specs.specs.Product.{Product}
use Rattle.model_specs.specs.Payments.{Plan}
use Rattle.model_specs.specs.Growth.{kappa40}
use Rattle.model_specs.specs.Ledgers.{scale, radius}
use Rattle.model_specs.specs.Runs.{lump_vector}
use Rattle.model_specs.specs.Stretches.{is_constant_month, continues_stretch}
use Rattle.model_specs.specs.Systems.{thiele_system}
use Rattle.model_specs.specs.ValuationRules.{IsAdmissible}
use Rattle.ledger_laws.proofs.GrowthFacts.{radii_small}
use Rattle.ledger_laws.proofs.MonthFacts.{admissible_obeys}
use Rattle.linear_system.specs.DegreeLimit.{IsConstant}
use Rattle.linear_system.specs.StandsFor.{StandsFor, in_units}
use Rattle.linear_system.specs.StoredSystem.{StoredSystem}
use Rattle.linear_system.proofs.NumbersInUnits.{at-units, past-units, equal_is_near}
use Rattle.map_laws.specs.Applied.{grow_turns}
use Rattle.map_laws.specs.MonthOfCells.{IsConstantCell, IsStartOf, StaysNearFor32Cells}
use Rattle.month_maps.specs.MadeMaps.{CanMake, can_make, IsMadeFor}
use Rattle.month_maps.specs.StoredMap.{StoredMap}
use Rattle.taylor_step.specs.CanStep.{AreAtMost}
use Rattle.payment_plan.specs.declared.pattern.Which.{Which}
use Rattle.cell_bounds.specs.ScaledSystems.{scaling, scaled_system}
use Rattle.product_cells.specs.EachCell.{backward_cell, plan_scaling}
use Rattle.sweep_laws.specs.SweepLaws.{units}
use Rattle.sweep_laws.proofs.PairSweeps.{number_near, distance_most}
use Rattle.sweep_laws.proofs.Sweeps.{units-order}
use Rattle.rate_bounds.specs.MonthPay.{plan_named}
use Rattle.rate_bounds.proofs.PaySteps.{plan_is}
use Rattle.cell_coeffs.specs.Rows.{cell_at}
use Rattle.constant_months.specs.MonthSystems.{month_system}
use Rattle.constant_months.proofs.MonthSystems.{constant_cell, stretches_keep_their_system}
use Rattle.constant_months.proofs.MonthTurns.{months_are_turns, ledgers_leave_spare}
use Rattle.thiele_backward.specs.MonthMaps.{IsMapOf}
use Rattle.thiele_backward.specs.MonthRuns.{month_values, radius_in, IsNearLumped, HasSome, StaysNearWithSpare}
use Rattle.thiele_backward.proofs.CellSteps.{numbers_fit, begins_near}
use Rattle.thiele_backward.proofs.MonthSteps.{four_named, values_within, scaled_fit}

-- what `fill` made for the month's first cell stands for its system
pub stands_for_month : (which : Which) (product : Product) (month g : ℕ) (s : StoredSystem)
    → g ≡ scale product (plan_named which product)
    → StandsFor s (scaled_system (scaling g) (thiele_system (cell_at product which month 0)))
    → StandsFor s (month_system product (plan_named which product) month)
stands_for_month which product month g s is stands =
    let P : Plan → Type 0 = λ q. StandsFor s (scaled_system (scaling (scale product (plan_named which product)))
    (thiele_system (backward_cell product q month 0))) in
    subst P (plan_is which product) (rw is at stands)

-- numbers that are each near one of a vector are near it
near_each : (u : Vector) (numbers : List ℤ) (d rad : ℕ) → length u ≤ d → length numbers ≡ d
    → ((row : ℕ) → row < d → size (number_at u row -ℚ over (slice_index_or numbers row (pos 0)) (2 ^ 64)) ≤ℚ units rad)
    → distance Sup u (in_units numbers) ≤ℚ units rad
near_each u numbers d rad short long each =
    distance_most u (in_units numbers) (units rad) (natural rad (2 ^ 64)) (λ row. elim (cases_lt row d) [
      | inl inside ↦ rw (at-units numbers row (rw long inside)) (each row inside)
      | inr past ↦ equal_is_near (number_at u row) (number_at (in_units numbers) row) rad
          (number_at-past u d row short past ∙ sym (past-units numbers row (rw long past)))
    ])

-- the radius of a map's cells leaves a unit
spare_left : (product : Product) (month : ℕ)
    → grow_turns cells_of_month (radius product (suc month)) (kappa40 product month)
    ≤ radius_in product month cells_of_month - 1
spare_left product month = one_left (grow_turns cells_of_month (radius product (suc month)) (kappa40 product month))
    (radius_in product month cells_of_month)
    (ledgers_leave_spare cells_of_month (radius product (suc month)) (kappa40 product month))
  where
    one_left : (few more : ℕ) → few + cells_of_month ≤ more → few ≤ more - 1
    one_left few more h = omega arith

module _ (which : Which) (product : Product) (month : ℕ) (admissible : IsAdmissible product)
    (inside : month < product.months)
    (constant : IsTrue (is_constant_month product (plan_named which product) month)) where
  abbrev plan : Plan
  plan = plan_named which product

  abbrev e : System
  e = month_system product plan month

  is_cell : (s : StoredSystem) → StandsFor s e → IsConstantCell s (kappa40 product month) e
  is_cell = constant_cell product plan month admissible inside (four_named which product admissible) constant

  -- so its map can be made
  pub can_make_month : (s : StoredSystem) → IsConstant s → StandsFor s e → CanMake s
  can_make_month s only stands = can_make (kappa40 product month) e only (is_cell s stands)

  radius_few : radius product (suc month) ≤ 2 ^ 45
  radius_few = omega (
    arith,
    (radii_small product admissible.well_formed (admissible_obeys product admissible) (suc month)
        (omega (arith, inside))).backward_below,
  )

  -- the values with the lumps of the month's end, as a start for the map
  start_of : (old : List ℤ) (n : ℕ) (v : Vector) → length old ≡ length product.states → 6 ≤ n
      → IsNearLumped product plan month old v
      → IsStartOf (length product.states) (radius product (suc month))
      (scale_list (plan_scaling product plan) (month_values product plan n month v 0))
      (λ col. slice_index_or old col (pos 0))
  start_of old n v long above start =
      let y = scale_list (plan_scaling product plan) (month_values product plan n month v 0) in
      let four = four_named which product admissible in
      record {
        fits = scaled_fit product plan month admissible four inside n v start.begins.fits 0;
        small = values_within product plan month admissible four inside n v above start.begins 0 (omega arith);
        near = λ col b. rw (← at-units old col (rw long b)) (le_trans (number_near y (in_units old) col) start.near);
        at_most = radius_few;
      }

  -- the numbers that the map is applied to fit
  pub lumped_most : (numbers : List ℤ) → HasSome (IsNearLumped product plan month numbers) → AreAtMost (2 ^ 65) numbers
  lumped_most numbers some =
      numbers_fit which product month 0 admissible inside (omega arith) least_degree (omega arith)
      numbers numbers (begins_near product plan month least_degree numbers) some

  -- what the map makes of numbers is near each run, with a unit to spare
  pub near_by_map : (old new : List ℤ) (m : StoredMap) → IsMapOf product plan month m
      → length old ≡ length product.states → length new ≡ length product.states
      → ((s : StoredSystem) (kappa radius n : ℕ) (e : System) (y : Vector) → IsMadeFor s m → IsConstantCell s kappa e
      → m.degree ≤ n → IsStartOf m.dim radius y (λ col. slice_index_or old col (pos 0))
      → StaysNearFor32Cells e kappa radius n y (λ row. slice_index_or new row (pos 0)))
      → StaysNearWithSpare product plan month m.degree cells_of_month old new
  near_by_map old new m of_month long same promise n v from start =
      let s = of_month.system in
      let kappa = kappa40 product month in
      let rad = radius product (suc month) in
      let w = add_lists v (lump_vector product plan (suc month)) in
      let y = scale_list (plan_scaling product plan) w in
      let dim : length product.states ≡ m.dim = of_month.stands.dimension ∙ sym of_month.made.made.dim in
      let above : 6 ≤ n = omega (arith, from, of_month.made.made.degree) in
      let begun : IsStartOf m.dim rad y (λ col. slice_index_or old col (pos 0)) =
      subst (λ d. IsStartOf d rad y (λ col. slice_index_or old col (pos 0))) dim (start_of old n v long above start) in
      let stays = promise s kappa rad n e y of_month.made (is_cell s of_month.stands) from begun in
      near_each (scale_list (plan_scaling product plan) (month_values product plan n month v cells_of_month)) new
      (length product.states) (radius_in product month cells_of_month - 1)
      (scaled_fit product plan month admissible (four_named which product admissible) inside n v start.begins.fits
      cells_of_month) same
      (λ row b. rw (months_are_turns product plan n month cells_of_month w constant)
      (le_trans (stays row b) (units-order (grow_turns 32 rad kappa) (radius_in product month cells_of_month - 1)
      (spare_left product month))))

-- the map of a month is that of the next one, where that goes on with the stretch
pub map_goes_on : (which : Which) (product : Product) (month : ℕ) (m : StoredMap)
    → IsTrue (is_constant_month product (plan_named which product) (suc month))
    → IsTrue (continues_stretch product (plan_named which product) (suc month))
    → IsMapOf product (plan_named which product) month m → IsMapOf product (plan_named which product) (suc month) m
map_goes_on which product month m constant goes_on of_month = record {
  system = of_month.system;
  made = of_month.made;
  stands = subst (StandsFor of_month.system)
      (sym (stretches_keep_their_system product (plan_named which product) month constant goes_on)) of_month.stands;
}
