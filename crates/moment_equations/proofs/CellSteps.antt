-- A cell of a month: the step may be taken, and what it encloses of both moments.
use Rattle.std.specs.Prelude.{◌≡◌, ℕ, suc, ◌+◌, ◌-◌, ◌*◌, ◌^◌, ◌<◌, ◌≤◌, ℤ, max, List, length}
use Rattle.std.specs.Int.{div_ceil}
use Rattle.std.proofs.Common.{sym, subst, arith, pow_pos}
use Rattle.frac_laws.specs.Fraction.{Fraction}
use Rattle.frac_laws.specs.Ledger.{grow}
use Rattle.frac_laws.proofs.Order.{le_trans}
use Rattle.cell_laws.specs.Pairs.{CoupledPair}
use Rattle.cell_laws.specs.Tame.{IsTamePair}
use Rattle.named_numbers.specs.Numbers.{highest_degree}
use Rattle.model_specs.specs.Product.{Product}
use Rattle.model_specs.specs.Payments.{Plan, payment_plan}
use Rattle.model_specs.specs.Growth.{kappa40, pay}
use Rattle.model_specs.specs.Ledgers.{scale}
use Rattle.model_specs.specs.Systems.{norberg_pair}
use Rattle.model_specs.specs.ValuationRules.{IsAdmissible}
use Rattle.ledger_laws.specs.BeforeTermLaws.{radius_cells, second_cells, KeepsRadiusSmall, KeepsFourfold}
use Rattle.ledger_laws.proofs.BeforeTerm.{radius_small, second_fourfold}
use Rattle.ledger_laws.proofs.BoundFacts.{scale_bounds_ledger}
use Rattle.ledger_laws.proofs.MonthFacts.{admissible_obeys}
use Rattle.linear_system.specs.DegreeLimit.{IsConstant}
use Rattle.linear_system.specs.StandsFor.{StandsForPair}
use Rattle.linear_system.specs.StoredSystem.{StoredSystem}
use Rattle.taylor_step.specs.CanStep.{CanStep, in_pair, AreAtMost}
use Rattle.taylor_step.specs.Enclosures.{EnclosesFirst, EnclosesSecond, ArePairStarts}
use Rattle.cell_bounds.specs.ScaledSystems.{scaling, scaled_pair}
use Rattle.product_cells.specs.EachCell.{backward_cell, plan_scaling}
use Rattle.product_laws.specs.TameCells.{coupling_of}
use Rattle.sweep_laws.specs.ScaledSteps.{both_first, both_second, next_cell}
use Rattle.sweep_laws.proofs.ScaledSteps.{both_moments_step}
use Rattle.sweep_laws.proofs.Sweeps.{units-order}
use Rattle.sweep_laws.proofs.PairSweeps.{taken_counts}
use Rattle.moment_equations.specs.NearMoments.{AreNearIn, StaysNear}
use Rattle.moment_equations.proofs.Halves.{halves_most, numbers_small}

module _ (product : Product) (months done : ℕ) (admissible : IsAdmissible product) (inside : months < product.months)
    (few : done < 32) where
  abbrev plan : Plan
  plan = payment_plan product

  abbrev month : ℕ
  month = product.months - suc months

  abbrev G : ℕ
  G = 2 ^ scale product plan

  abbrev e : CoupledPair
  e = scaled_pair (plan_scaling product plan) (norberg_pair (backward_cell product plan month (next_cell done)))

  is_tame : IsTamePair (kappa40 product month) (coupling_of product plan month) e
  is_tame = (both_moments_step product 24 months done admissible (omega arith) inside few).tame

  radii : KeepsRadiusSmall product
  radii = radius_small product admissible.well_formed (admissible_obeys product admissible)

  fourfold : KeepsFourfold product plan G
  fourfold = second_fourfold product plan G admissible.well_formed (admissible_obeys product admissible)
      (pow_pos (scale product plan)) ((scale_bounds_ledger product plan).0)

  radius_few : radius_cells product months done ≤ 2 ^ 45
  radius_few = omega (arith, radii.cells months done inside (omega (arith, few)))

  second_few : second_cells product plan G months done ≤ 2 ^ 45
  second_few = omega (
    arith,
    radii.cells months done inside (omega (arith, few)),
    fourfold.cells months done inside (omega (arith, few)),
  )

  -- the numbers fit, since the run of the highest degree is near them
  numbers_fit : (mid : List ℤ) → length mid ≡ length product.states + length product.states
      → AreNearIn product highest_degree months done mid → AreAtMost (2 ^ 64 + 2 ^ 45) mid
  numbers_fit mid long near =
      let step = both_moments_step product 24 months done admissible (omega arith) inside few in
      halves_most mid (length product.states) long (both_first product 24 months done)
      (both_second product 24 months done) (radius_cells product months done)
      (second_cells product plan G months done) near.first near.second
      (numbers_small (both_first product 24 months done) step.first_starts)
      (numbers_small (both_second product 24 months done) step.second_starts) radius_few second_few

  -- what `fill_moments` made for the cell stands for its pair
  pub stands_here : (g at cell : ℕ) (s : StoredSystem) → g ≡ scale product plan → at ≡ month → cell ≡ next_cell done
      → StandsForPair s (length product.states)
      (scaled_pair (scaling g) (norberg_pair (backward_cell product plan at cell)))
      → StandsForPair s (length product.states) e
  stands_here g at cell s is_scale is_month is_cell stands = rw (is_scale, is_month, is_cell) at stands

  pub can_step : (s : StoredSystem) (mid : List ℤ) → StandsForPair s (length product.states) e
      → length mid ≡ length product.states + length product.states
      → AreNearIn product highest_degree months done mid → CanStep s mid
  can_step s mid stands long near =
      in_pair (length product.states) e (kappa40 product month) (coupling_of product plan month) stands is_tame
      (numbers_fit mid long near)

  -- where nothing varies, the step answers at most 9
  pub constant_here : (s : StoredSystem) (mid : List ℤ) → StandsForPair s (length product.states) e
      → length mid ≡ length product.states + length product.states
      → AreNearIn product highest_degree months done mid → (answered : ℕ)
      → ((half : ℕ) (p : CoupledPair) (kappa : ℕ) (c : Fraction) → IsConstant s → StandsForPair s half p
      → IsTamePair kappa c p → AreAtMost (2 ^ 64 + 2 ^ 45) mid → answered ≤ 9) → IsConstant s → answered ≤ 9
  constant_here s mid stands long near answered promise constant =
      promise (length product.states) e (kappa40 product month) (coupling_of product plan month) constant stands is_tame
      (numbers_fit mid long near)

  -- after the step each run is near the new numbers
  stepped : (n answered : ℕ) (old new : List ℤ) → 8 ≤ n → answered ≤ n
      → EnclosesFirst e (length product.states) (kappa40 product month) old new answered
      → EnclosesSecond e (length product.states) (kappa40 product month) (coupling_of product plan month) old new
      answered
      → AreNearIn product n months done old → AreNearIn product n months (suc done) new
  stepped n answered old new eight from promise_first promise_second near =
      let step = both_moments_step product n months done admissible (omega (arith, eight)) inside few in
      let w = both_first product n months done in
      let z = both_second product n months done in
      let kappa = kappa40 product month in
      let radius = radius_cells product months done in
      let second = second_cells product plan G months done in
      let taken = div_ceil (2 * pay product plan month * radius) (1024 * G) in
      let starts : ArePairStarts (length product.states) old w z radius second =
      record {
        first = record { fits = step.first_fits; small = step.first_starts; near = near.first; radius = radius_few };
        second = record {
          fits = step.second_fits;
          small = step.second_starts;
          near = near.second;
          radius = second_few;
        };
      } in
      record {
        first = rw step.first_steps (le_trans (promise_first w z radius second n starts from)
            (units-order (grow radius kappa 1023) (grow radius kappa 1024) (omega arith)));
        second = rw step.second_steps (le_trans (promise_second w z radius second n taken starts from
            (taken_counts (pay product plan month) radius G (pow_pos (scale product plan))))
            (units-order (grow second kappa (taken + 1023)) (grow second kappa (taken + 1024)) (omega arith)));
      }

  pub stays_on : (s : StoredSystem) (degree answered top next : ℕ) (start old new : List ℤ)
      → StandsForPair s (length product.states) e → 8 ≤ degree → top ≡ max degree answered → next ≡ suc done
      → ((half : ℕ) (p : CoupledPair) (kappa : ℕ) (c : Fraction) → StandsForPair s half p → IsTamePair kappa c p
      → EnclosesFirst p half kappa old new answered)
      → ((half : ℕ) (p : CoupledPair) (kappa : ℕ) (c : Fraction) → StandsForPair s half p → IsTamePair kappa c p
      → EnclosesSecond p half kappa c old new answered)
      → StaysNear product months degree done start old → StaysNear product months top next start new
  stays_on s degree answered top next start old new stands eight is_top is_next first second stays n from near =
      subst (λ k. AreNearIn product n months k new) (sym is_next)
      (stepped n answered old new (omega (arith, eight, is_top, from)) (omega (arith, is_top, from))
      (first (length product.states) e (kappa40 product month) (coupling_of product plan month) stands is_tame)
      (second (length product.states) e (kappa40 product month) (coupling_of product plan month) stands is_tame)
      (stays n (omega (arith, is_top, from)) near))
