-- The reserves of two degrees are close.
use Rattle.std.specs.Prelude.{◌≡◌, ℕ, zero, suc, pos, ◌+◌, ◌-◌, ◌^◌, ◌<◌, ◌≤◌, [], ◌∷◌}
use Rattle.std.proofs.Common.{refl, ap, subst, arith, lit≤, pow_pos}
use Rattle.frac_laws.specs.Fraction.{Fraction, whole, size, ◌+ℚ◌, ◌-ℚ◌, ◌*ℚ◌}
use Rattle.frac_laws.specs.Lists.{Vector, scale_list}
use Rattle.frac_laws.specs.Norms.{Sup}
use Rattle.frac_laws.proofs.FractionTerms.{ring, terms}
use Rattle.frac_laws.proofs.Linear.{linear, claims, natural}
use Rattle.frac_laws.proofs.Quotients.{inverse}
use Rattle.cell_laws.specs.ErrorLaws.{distance}
use Rattle.model_specs.specs.Product.{Product}
use Rattle.model_specs.specs.Payments.{Plan, payment_plan, pattern_plan, lump_at}
use Rattle.model_specs.specs.Growth.{kappa40}
use Rattle.model_specs.specs.Ledgers.{radius_before_term, radius, scale}
use Rattle.model_specs.specs.Runs.{first_before_term, lump_vector, reserve, value_before_issue}
use Rattle.model_specs.specs.Cells.{Backward, cells_of_32}
use Rattle.model_specs.specs.Systems.{thiele_system}
use Rattle.model_specs.specs.ValuationRules.{IsAdmissible}
use Rattle.ledger_laws.specs.BeforeTermLaws.{radius_cells}
use Rattle.ledger_laws.proofs.MonthFacts.{admissible_obeys}
use Rattle.ledger_laws.proofs.BeforeTerm.{radius_small}
use Rattle.cell_bounds.specs.ScaledSystems.{scaled_system}
use Rattle.product_cells.specs.EachCell.{plan_scaling, backward_cell}
use Rattle.moment_laws.specs.CellRuns.{first_after_cells}
use Rattle.sweep_laws.specs.ScaledSteps.{IsTameStep, scaled_first, next_cell}
use Rattle.moment_laws.proofs.MonthCells.{months_go}
use Rattle.moment_laws.proofs.ScaledRuns.{scale-add}
use Rattle.sweep_laws.proofs.ScaledSteps.{first_moments_step}
use Rattle.sweep_laws.proofs.Sweeps.{distance-shifted}
use Rattle.limit_laws.specs.CellTails.{IsWithinRadius}
use Rattle.limit_laws.specs.Modulus.{AreCloseBy, reserve_modulus, OfTwoDegrees, ReservesConverge}
use Rattle.limit_laws.specs.Modulus.{PlanReservesConverge, PatternReservesConverge}
use Rattle.limit_laws.proofs.CellSteps.{step_carried}
use Rattle.limit_laws.proofs.ModulusForms.{self_within, scaled_apart, close_by, close}

-- each cell of a plan's run is a step of a tame system
abbrev pub StepsOf : Product → Plan → ℕ → Type 0
StepsOf product plan n = (months done : ℕ) → months < product.months → done < 32
    → let month = product.months - suc months in
    IsTameStep Sup (kappa40 product month) (whole (pos 1))
    (scaled_system (plan_scaling product plan) (thiele_system (backward_cell product plan month (next_cell done)))) n
    (scaled_first product plan n months done) (scaled_first product plan n months (suc done))

-- both degrees of one plan
module _ (product : Product) (plan : Plan) (n more : ℕ) (above : 8 ≤ n) (steps : StepsOf product plan n)
    (later : StepsOf product plan (n + more)) where
  abbrev h : Fraction
  h = plan_scaling product plan

  abbrev before : ℕ → ℕ → Vector
  before degree months = first_before_term (cells_of_32 Backward) product plan degree months

  abbrev apart : ℕ → Fraction
  apart months = distance Sup (scale_list h (before (n + more) months)) (scale_list h (before n months))

  in_cells : (months done : ℕ) → months < product.months → done ≤ 32
      → IsWithinRadius n (radius_before_term product months) (apart months)
      → IsWithinRadius n (radius_cells product months done)
      (distance Sup (scaled_first product plan (n + more) months done) (scaled_first product plan n months done))
  in_cells months zero inside few near =
      let l = lump_vector product plan (suc (product.months - suc months)) in
      rw (
        ← scale-add h (before (n + more) months) l,
        ← scale-add h (before n months) l,
        distance-shifted Sup (scale_list h (before (n + more) months)) (scale_list h (before n months))
            (scale_list h l),
      ) near
  in_cells months (suc done) inside few near =
      let low : done < 32 = omega (arith, few) in
      step_carried Sup (kappa40 product (product.months - suc months)) n more (radius_cells product months done)
      (whole (pos 1)) _
      (scaled_first product plan n months done) (scaled_first product plan (n + more) months done)
      (scaled_first product plan n months (suc done)) (scaled_first product plan (n + more) months (suc done))
      (steps months done inside low) (later months done inside low) (linear [] (natural 1 1) (hlevel claims) refl)
      (lit≤ tt) above (in_cells months done inside (omega (arith, few)) near)

  pub at_dates : (months : ℕ) → months ≤ product.months
      → IsWithinRadius n (radius_before_term product months) (apart months)
  at_dates zero within = self_within Sup n 0 (scale_list h (before n 0))
  at_dates (suc months) within =
      let inside : months < product.months = omega (arith, within) in
      rw (
        months_go (λ cell. thiele_system (backward_cell product plan (product.months - suc months) cell)) (n + more) 32
            (first_after_cells product plan (n + more) months 0),
        months_go (λ cell. thiele_system (backward_cell product plan (product.months - suc months) cell)) n 32
            (first_after_cells product plan n months 0),
      ) (in_cells months 32 inside (lit≤ tt) (at_dates months (omega (arith, within))))

  pub inside_months : (months done : ℕ) → months < product.months → done ≤ 32
      → IsWithinRadius n (radius_cells product months done)
      (distance Sup (scaled_first product plan (n + more) months done) (scaled_first product plan n months done))
  inside_months months done inside few =
      in_cells months done inside few (at_dates months (omega (arith, inside)))

  unit : whole (pos (2 ^ scale product plan)) *ℚ h ≡ whole (pos 1)
  unit = inverse (2 ^ scale product plan) (pow_pos (scale product plan))

  pub each : (date state : ℕ) → AreCloseBy n (reserve_modulus product plan date)
      (reserve product plan (n + more) date state) (reserve product plan n date state)
  each date state =
      let months = product.months - date in
      close_by n (2 ^ scale product plan) (radius product date) h (reserve product plan (n + more) date state)
      (reserve product plan n date state) (apart months) unit
      (scaled_apart Sup h (before (n + more) months) (before n months) state (natural 1 (2 ^ scale product plan)))
      (at_dates months (omega arith))

-- of a plan whose runs of degree 8 and more have such steps
module _ (product : Product) (plan : Plan) (few : (date : ℕ) → radius product date ≤ 2 ^ 45)
    (steps : (n : ℕ) → 8 ≤ n → StepsOf product plan n) where
  reserves_have_modulus : OfTwoDegrees (λ n later. (date state : ℕ) → AreCloseBy n (reserve_modulus product plan date)
      (reserve product plan later date state) (reserve product plan n date state))
  reserves_have_modulus n later above more date state =
      let e : n + (later - n) ≡ later = omega (arith, more) in
      subst (λ degree. AreCloseBy n (reserve_modulus product plan date)
      (reserve product plan degree date state) (reserve product plan n date state)) e
      (each product plan n (later - n) above (steps n above) (steps (n + (later - n)) (omega (arith, above))) date
      state)

  value_has_modulus : OfTwoDegrees (λ n later. AreCloseBy n (reserve_modulus product plan 0)
      (value_before_issue product plan later) (value_before_issue product plan n))
  value_has_modulus n later above more =
      rw (ap size (same (reserve product plan later 0 product.start) (reserve product plan n 0 product.start)
      (whole (lump_at plan 0 product.start)))) (reserves_have_modulus n later above more 0 product.start)
    where
      same : (x y l : Fraction) → (x +ℚ l) -ℚ (y +ℚ l) ≡ x -ℚ y
      same x y l = ring (x ∷ y ∷ l ∷ []) (hlevel terms) refl

  plan_converges : ReservesConverge product plan
  plan_converges = record {
    modulus = reserves_have_modulus;
    close = λ n later above more date state. close n (2 ^ scale product plan) (radius product date)
        (reserve product plan later date state) (reserve product plan n date state) (few date)
        (reserves_have_modulus n later above more date state);
    value_modulus = value_has_modulus;
    value_close = λ n later above more. close n (2 ^ scale product plan) (radius product 0)
        (value_before_issue product plan later) (value_before_issue product plan n) (few 0)
        (value_has_modulus n later above more);
  }

radius_few : (product : Product) → IsAdmissible product → (date : ℕ) → radius product date ≤ 2 ^ 45
radius_few product admissible date =
    let small = radius_small product admissible.well_formed (admissible_obeys product admissible) in
    let most = small.months (product.months - date) (omega arith) in omega (arith, most)

pub plan_reserves_converge : PlanReservesConverge
plan_reserves_converge product admissible =
    plan_converges product (payment_plan product) (radius_few product admissible)
    (λ n above. (first_moments_step product n admissible (omega (arith, above))).0)

pub pattern_reserves_converge : PatternReservesConverge
pattern_reserves_converge product admissible =
    plan_converges product (pattern_plan product) (radius_few product admissible)
    (λ n above. (first_moments_step product n admissible (omega (arith, above))).1)
