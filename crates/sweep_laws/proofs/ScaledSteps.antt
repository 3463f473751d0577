-- The scaled runs are made of Taylor steps of tame systems.
use Rattle.std.specs.Prelude.{◌≡◌, ℕ, suc, pos, ◌*◌, ◌^◌, ◌-◌, ◌<◌, ◌≤◌, [], ◌∷◌}
use Rattle.std.proofs.Common.{refl, ap, sym, ◌∙◌, arith, pow_pos}
use Rattle.std.proofs.Math.IntN.{pos-*ℤ-pos}
use Rattle.frac_laws.specs.Fraction.{Fraction, over, whole, ◌+ℚ◌, ◌*ℚ◌, ◌≤ℚ◌}
use Rattle.frac_laws.specs.Lists.{Vector, vector_at, scale_list}
use Rattle.frac_laws.specs.Norms.{Sup, norm_of_vector}
use Rattle.frac_laws.proofs.Linear.{linear, claims, natural, ◌⊞◌, ◌⊠◌, ◌·◌}
use Rattle.frac_laws.proofs.Lengths.{scale_list_fits}
use Rattle.frac_laws.proofs.Norms.{norm-scale_list}
use Rattle.frac_laws.proofs.Quotients.{inverse, whole_mul}
use Rattle.frac_laws.proofs.Signs.{mul_natural}
use Rattle.frac_laws.proofs.Sizes.{size_of_natural}
use Rattle.cell_laws.specs.Systems.{System, KeepsDimension}
use Rattle.model_specs.specs.Product.{Product}
use Rattle.model_specs.specs.Payments.{Plan, payment_plan, pattern_plan}
use Rattle.model_specs.specs.Growth.{kappa40}
use Rattle.model_specs.specs.Ledgers.{scale}
use Rattle.model_specs.specs.ValuationRules.{IsAdmissible}
use Rattle.model_specs.specs.Systems.{thiele_system, norberg_pair}
use Rattle.model_laws.proofs.CellEntries.{systems_keep_states}
use Rattle.ledger_laws.proofs.MonthFacts.{admissible_obeys}
use Rattle.ledger_laws.proofs.BeforeTerm.{bound_greatest}
use Rattle.ledger_laws.proofs.BoundFacts.{scale_bounds_ledger}
use Rattle.ledger_laws.specs.BeforeTermLaws.{bound_cells}
use Rattle.cell_bounds.specs.ScaledSystems.{scaled_system}
use Rattle.product_cells.specs.EachCell.{backward_cell, forward_cell, plan_scaling}
use Rattle.moment_laws.specs.CellRuns.{first_after_cells}
use Rattle.moment_laws.specs.MomentLaws.{KeepsLedger}
use Rattle.moment_laws.specs.SecondMomentLaws.{moments_after_cells}
use Rattle.sweep_laws.specs.ScaledSteps.{FirstMomentsStep, BothMomentsStep, ProbabilitiesStep, IsTameStep, next_cell}
use Rattle.sweep_laws.specs.ScaledSteps.{scaled_first}
use Rattle.model_laws.proofs.PlanSteps.{HasFourEach, payment_plan_four, pattern_plan_four}
use Rattle.product_laws.proofs.ProductTame.{thiele_cell_tame, kolmogorov_cells_are_tame}
use Rattle.product_laws.proofs.ProductPairs.{norberg_pairs_are_tame}
use Rattle.moment_laws.proofs.LedgerSteps.{within_scale}
use Rattle.moment_laws.proofs.ReserveLedger.{after_fits, ledger_carries_reserves}
use Rattle.moment_laws.proofs.SecondMoments.{second_moments_stay_within_scale, four_power, both_fits}
use Rattle.moment_laws.proofs.ScaledRuns.{taylor_values_scale, second_taylor_values_scale, free-scaled}
use Rattle.probability_laws.proofs.ProbabilityRuns.{probabilities_stay_small}
use Rattle.probability_laws.proofs.ProbabilityRuns as probability_runs

-- divided by G, a vector within G is within one
pub scaled_within : (g : ℕ) (v : Vector) → norm_of_vector Sup v ≤ℚ whole (pos (2 ^ g))
    → norm_of_vector Sup (scale_list (over (pos 1) (2 ^ g)) v) ≤ℚ whole (pos 1)
scaled_within g v within =
    let h = over (pos 1) (2 ^ g) in
    rw (norm-scale_list Sup h v, size_of_natural (natural 1 (2 ^ g)))
    (linear (norm_of_vector Sup v ∷ h ∷ whole (pos (2 ^ g)) ∷ [])
    (within ⊠ natural 1 (2 ^ g) ⊞ whole (pos 1) · inverse (2 ^ g) (pow_pos g)) (hlevel claims) refl)

-- and one within G^2, divided by G^2
square_scaled_within : (g : ℕ) (v : Vector) → norm_of_vector Sup v ≤ℚ whole (pos (4 ^ g))
    → norm_of_vector Sup (scale_list (over (pos 1) (2 ^ g) *ℚ over (pos 1) (2 ^ g)) v) ≤ℚ whole (pos 1)
square_scaled_within g v within =
    let G = 2 ^ g in
    let h = over (pos 1) G in
    let is : whole (pos (4 ^ g)) ≡ whole (pos G) *ℚ whole (pos G) =
    ap whole (ap pos (four_power g) ∙ sym (pos-*ℤ-pos G G)) ∙ whole_mul (pos G) (pos G) in
    let unit = inverse G (pow_pos g) in
    rw (norm-scale_list Sup (h *ℚ h) v, size_of_natural (mul_natural (natural 1 G) (natural 1 G)))
    (linear (norm_of_vector Sup v ∷ h ∷ whole (pos G) ∷ [])
    (((rw is at within) ⊠ natural 1 G) ⊠ natural 1 G ⊞ (whole (pos G) *ℚ h +ℚ whole (pos 1)) · unit) (hlevel claims)
    refl)

-- a scaled system keeps its dimension
pub scaled_keeps : (c : Fraction) (s : System) → KeepsDimension s → KeepsDimension (scaled_system c s)
scaled_keeps c s keeps = record {
  rows = keeps.rows;
  free = λ k. rw (free-scaled c s.free k) (scale_list_fits s.dimension c (vector_at s.free k) (keeps.free k));
}

first_step : (product : Product) (plan : Plan) (n months done : ℕ) → IsAdmissible product → HasFourEach plan → 6 ≤ n
    → KeepsLedger product plan n → months < product.months → done < 32
    → let month = product.months - suc months in
    IsTameStep Sup (kappa40 product month) (whole (pos 1))
    (scaled_system (plan_scaling product plan) (thiele_system (backward_cell product plan month (next_cell done)))) n
    (scaled_first product plan n months done) (scaled_first product plan n months (suc done))
first_step product plan n months done admissible four above ledger inside few =
    let month = product.months - suc months in
    let below : month < product.months = omega (arith, inside) in
    let formed = admissible.well_formed in
    let rules = admissible_obeys product admissible in
    let h = plan_scaling product plan in
    let s = thiele_system (backward_cell product plan month (next_cell done)) in
    let bound : bound_cells product plan months done ≤ 1024 * 2 ^ scale product plan =
    omega (
      arith,
      bound_greatest product plan months done inside (omega (arith, few)),
      (scale_bounds_ledger product plan).0,
    ) in
    record {
      tame = thiele_cell_tame product plan month (next_cell done) formed (rules month below) below (omega arith) four;
      keeps = scaled_keeps h s (systems_keep_states (backward_cell product plan month (next_cell done))).thiele;
      fits = scale_list_fits s.dimension h (first_after_cells product plan n months done)
          (after_fits product plan n months done);
      starts = scaled_within (scale product plan) (first_after_cells product plan n months done)
          (within_scale product plan (bound_cells product plan months done) _ bound
          (ledger.cells months done inside (omega (arith, few))));
      steps = sym (taylor_values_scale h s (first_after_cells product plan n months done) n);
    }

pub first_moments_step : FirstMomentsStep
first_moments_step product n admissible above =
    let ledgers = ledger_carries_reserves product n admissible above in (
      λ months done. first_step product (payment_plan product) n months done admissible
          (payment_plan_four product admissible.well_formed) above ledgers.0,
      λ months done. first_step product (pattern_plan product) n months done admissible (pattern_plan_four product)
          above
          ledgers.1,
    )

pub both_moments_step : BothMomentsStep
both_moments_step product n months done admissible above inside few =
    let month = product.months - suc months in
    let plan = payment_plan product in
    let h = plan_scaling product plan in
    let p = norberg_pair (backward_cell product plan month (next_cell done)) in
    let v = moments_after_cells product plan n months done in
    let within = second_moments_stay_within_scale product n admissible above in
    let fits = both_fits product plan n admissible.well_formed (admissible_obeys product admissible)
    (payment_plan_four product admissible.well_formed) above months done in
    record {
      tame = norberg_pairs_are_tame product month (next_cell done) admissible (omega (arith, inside)) (omega arith);
      first_fits = scale_list_fits p.first.dimension h v.first fits.0;
      second_fits = scale_list_fits p.second.dimension (h *ℚ h) v.second fits.1;
      first_starts = scaled_within (scale product plan) v.first (within.first months done inside (omega (arith, few)));
      second_starts = square_scaled_within (scale product plan) v.second
          (within.second months done inside (omega (arith, few)));
      first_steps = sym (taylor_values_scale h p.first v.first n);
      second_steps = sym (second_taylor_values_scale h p v.first v.second n);
    }

pub probabilities_step : ProbabilitiesStep
probabilities_step product n month cells admissible above inside few = record {
  tame = kolmogorov_cells_are_tame product month cells admissible inside few;
  keeps = (systems_keep_states (forward_cell product month cells)).kolmogorov;
  fits = probability_runs.after_fits product admissible n month cells;
  starts = (probabilities_stay_small product n month cells admissible above inside (omega (arith, few))).1;
  steps = refl;
}
