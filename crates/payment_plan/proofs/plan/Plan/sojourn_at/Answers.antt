use Rattle.std.proofs.Common.{◌≡◌, ◌-◌, ◌+◌, pos, Bool, true, false, FitsSigned, arith, rules, refl, ap, sym}
use Rattle.std.proofs.Common.{subst, ◌∙◌}
use Rattle.std.specs.Int.{from_bool, w64}
use Rattle.std.proofs.lemmas.Int.{to_z-of_z}
use Rattle.model_specs.specs.Product.{Step}
use Rattle.model_specs.specs.Payments.{step_at, sojourn_at, constant_step}
use Rattle.model_specs.specs.Cells.{amount_cell}
use Rattle.model_specs.specs.Growth.{load}
use Rattle.payment_plan.specs.Payments.{pattern_of}
use Rattle.payment_plan.proofs.Constants.{AreSameUnit, same_load, same_amount}
use Rattle.model_specs.specs.RecordRules.{IsBoundedStep}
use Rattle.payment_plan.specs.Records.{steps_of, record_of}
use Rattle.payment_plan.specs.Steps.{HasGoodSteps, steps_in_state}
use Rattle.payment_plan.specs.Tables.{pays_in_month}
use Rattle.payment_plan.proofs.GoodSteps.{good_sojourns, first_start}
use Rattle.payment_plan.proofs.Patterns.{unit_amount, unit_bounded, pattern_rate}
use Rattle.payment_plan.proofs.plan.Plan.sojourn_at.Goals as goal

pub step_at-requires : goal.step_at-requires
step_at-requires c =
    let steps_are = c.steps_of_state.ensures ∙ ap (λ s. steps_in_state s c.args.state) c.sojourns.ensures.sojourns in
    let good = good_sojourns c.args.self.now c.args.state c.sojourns.ensures.allowed.payments in
    rw steps_are
    (first_start c.args.self.now.months c.args.month (steps_in_state c.args.self.now.sojourns c.args.state) good)

pub returns-in-Benefits : goal.returns-in-Benefits
returns-in-Benefits c =
    let steps_are = c.steps_of_state.ensures ∙ ap (λ s. steps_in_state s c.args.state) c.sojourns.ensures.sojourns in
    let good : HasGoodSteps c.args.self.now.months (steps_of c.steps_of_state.result.now) =
    rw steps_are (good_sojourns c.args.self.now c.args.state c.sojourns.ensures.allowed.payments) in
    let covers = c.step_at.ensures c.args.self.now.months good c.requires.month in
    let step_is = covers.step_is ∙ ap (λ steps. step_at steps c.args.month) steps_are in
    rw c.in-Benefits.is
    (record {
      benefits = λ _. step_is;
      pattern = λ other. cc;
      coefficients = ap (λ s. s.c) step_is;
      load = ap (λ s. load s c.args.month) step_is;
      amount = λ grid cell. ap (λ s. amount_cell grid s c.args.month cell) step_is;
      started = covers.started;
      bounded = covers.bounded;
    })

pub returns-in-Pattern : goal.returns-in-Pattern
returns-in-Pattern c =
    let wide : FitsSigned w64 c.from.result = search rules in
    let pays : c.pays_in.result ≡ pays_in_month c.args.self.now.pattern c.args.state c.args.month =
    c.pays_in.ensures ∙ ap (λ p. pays_in_month p c.args.state c.args.month) c.pattern.ensures.pattern in
    let amount : c.from.result ≡ unit_amount (pays_in_month c.args.self.now.pattern c.args.state c.args.month) =
    c.from.ensures ∙ unit_is c.pays_in.result ∙ ap unit_amount pays in
    let step : record_of c.constant.result
    ≡ constant_step 0 (unit_amount (pays_in_month c.args.self.now.pattern c.args.state c.args.month)) =
    simp to_z-of_z at c.constant.ensures ∙ ap (constant_step 0) amount in
    let same : AreSameUnit (record_of c.constant.result)
    (sojourn_at (pattern_of c.args.self.now) c.args.state c.args.month)
    (pays_in_month c.args.self.now.pattern c.args.state c.args.month) =
    record { first = ap (λ s. s.c) step; second = pattern_rate c.args.self.now c.args.state c.args.month } in
    let P : Step → Type 0 = λ s. IsBoundedStep s.c (c.args.month - c.constant.result.from + 1) in
    rw c.in-Pattern.is
    (record {
      benefits = λ other. cc;
      pattern = λ _. ap (λ s. s.from) step;
      coefficients = ap (λ s. s.c) step ∙ sym (pattern_rate c.args.self.now c.args.state c.args.month);
      load = same_load _ _ _ c.args.month same;
      amount = same_amount _ _ _ c.args.month same;
      started = omega (arith, ap (λ s. s.from) step);
      bounded = subst P (sym step)
          (unit_bounded (pays_in_month c.args.self.now.pattern c.args.state c.args.month)
          (c.args.month - c.constant.result.from + 1));
    })
  where
    unit_is : (b : Bool) → pos (from_bool b) ≡ unit_amount b
    unit_is true = refl
    unit_is false = refl
