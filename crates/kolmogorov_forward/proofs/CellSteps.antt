-- A cell of a month: the step may be taken, and what it encloses.
use Rattle.std.specs.Prelude.{◌≡◌, ℕ, suc, pos, ◌^◌, ◌<◌, ◌≤◌, ℤ, max, unsigned_abs, sum_by, List}
use Rattle.std.proofs.Common.{sym, subst, arith}
use Rattle.frac_laws.specs.Fraction.{whole}
use Rattle.frac_laws.specs.Ledger.{grow}
use Rattle.frac_laws.specs.Norms.{Sum}
use Rattle.frac_laws.proofs.Order.{le_trans}
use Rattle.cell_laws.specs.Systems.{System}
use Rattle.cell_laws.specs.Tame.{IsTame}
use Rattle.step_laws.specs.StepLaws.{IsStartNear}
use Rattle.model_specs.specs.Product.{Product}
use Rattle.model_specs.specs.Growth.{kappa40}
use Rattle.model_specs.specs.Systems.{kolmogorov_system}
use Rattle.model_specs.specs.ValuationRules.{IsAdmissible}
use Rattle.ledger_laws.proofs.MonthFacts.{admissible_obeys}
use Rattle.ledger_laws.proofs.GrowthFacts.{radii_small_inside}
use Rattle.linear_system.specs.DegreeLimit.{IsConstant}
use Rattle.linear_system.specs.StandsFor.{StandsFor, in_units}
use Rattle.linear_system.specs.StoredSystem.{StoredSystem, dim_of}
use Rattle.taylor_step.specs.CanStep.{CanStep, in_sum}
use Rattle.taylor_step.specs.Enclosures.{Encloses}
use Rattle.product_cells.specs.EachCell.{forward_cell}
use Rattle.probability_laws.specs.ProbabilityLaws.{probabilities_after}
use Rattle.sweep_laws.specs.ScaledSteps.{IsTameStep}
use Rattle.sweep_laws.proofs.ScaledSteps.{probabilities_step}
use Rattle.sweep_laws.proofs.Sweeps.{units-order}
use Rattle.kolmogorov_forward.specs.MonthRuns.{radius_in, AreNearIn}
use Rattle.kolmogorov_forward.proofs.NearNumbers.{sizes_near}

module _ (product : Product) (month done : ℕ) (admissible : IsAdmissible product) (inside : month < product.months)
    (few : done < 32) where
  abbrev e : System
  e = kolmogorov_system (forward_cell product month done)

  is_step : (n : ℕ) → 8 ≤ n → IsTameStep Sum (kappa40 product month) (whole (pos 2)) e n
      (probabilities_after product n month done) (probabilities_after product n month (suc done))
  is_step n above = probabilities_step product n month done admissible above inside few

  is_tame : IsTame Sum (kappa40 product month) e
  is_tame = (is_step 8 (omega arith)).tame

  radius_few : radius_in product month done ≤ 2 ^ 45
  radius_few = omega (
    arith,
    (radii_small_inside product admissible.well_formed (admissible_obeys product admissible) month done inside
        (omega (arith, few))).forward,
  )

  -- there are at most twelve states
  twelve : (s : StoredSystem) → StandsFor s e → dim_of s ≤ 12
  twelve s stands = omega (arith, stands.dimension, admissible.well_formed.names.at_most_twelve)

  module _ (degree : ℕ) (eight : 8 ≤ degree) (old : List ℤ) (near : AreNearIn product degree month done old) where
    -- the sizes add up to little, since some run is near the numbers
    pub sizes_few : sum_by unsigned_abs old ≤ 2 ^ 66
    sizes_few = sizes_near (probabilities_after product degree month done) old (radius_in product month done)
        (is_step degree eight).starts (near degree (omega arith)) radius_few

    pub can_step : (s : StoredSystem) → StandsFor s e → CanStep s old
    can_step s stands = in_sum e (kappa40 product month) stands is_tame sizes_few

    -- after the step each run is near the new numbers
    stepped : (new : List ℤ) (answered : ℕ) → Encloses Sum e (kappa40 product month) old new answered
        → AreNearIn product (max degree answered) month (suc done) new
    stepped new answered promise n from =
        let kappa = kappa40 product month in
        let rad = radius_in product month done in
        let y = probabilities_after product n month done in
        let step = is_step n (omega (arith, eight, from)) in
        let begun : IsStartNear Sum e.dimension (whole (pos 2)) rad y (in_units old) =
        record {
          fits = step.fits;
          small = step.starts;
          near = near n (omega (arith, from));
          radius = radius_few;
        } in
        le_trans (promise y rad n begun (omega (arith, from)))
        (units-order (grow rad kappa 1023) (grow rad kappa 1024) (omega arith))

    pub stepped_to : (new : List ℤ) (answered top next : ℕ) → top ≡ max degree answered → next ≡ suc done
        → Encloses Sum e (kappa40 product month) old new answered → AreNearIn product top month next new
    stepped_to new answered top next is_top is_next promise =
        subst (λ k. AreNearIn product k month next new) (sym is_top)
        (subst (λ k. AreNearIn product (max degree answered) month k new) (sym is_next)
        (stepped new answered promise))

    -- where nothing varies, the degree stays
    pub constant_here : (answered : ℕ) (s : StoredSystem) → StandsFor s e
        → ((e : System) (kappa : ℕ) → IsConstant s → dim_of s ≤ 12 → StandsFor s e → IsTame Sum kappa e
        → sum_by unsigned_abs old ≤ 2 ^ 66 → answered ≡ 8) → IsConstant s → max degree answered ≡ degree
    constant_here answered s stands promise constant =
        let is_eight : answered ≡ 8 =
        promise e (kappa40 product month) constant (twelve s stands) stands is_tame sizes_few in
        omega (arith, is_eight, eight)

  -- the promise of the step, for this system
  pub answers_here : (s : StoredSystem) (old new : List ℤ) (answered : ℕ) → StandsFor s e
      → ((e : System) (kappa : ℕ) → dim_of s ≤ 12 → StandsFor s e → IsTame Sum kappa e
      → Encloses Sum e kappa old new answered)
      → Encloses Sum e (kappa40 product month) old new answered
  answers_here s old new answered stands promise = promise e (kappa40 product month) (twelve s stands) stands is_tame
