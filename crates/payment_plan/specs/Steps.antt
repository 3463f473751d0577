-- Steps in order, and the one that covers a month.
use Rattle.std.specs.Prelude.{◌≡◌, ℕ, ◌+◌, ◌-◌, ◌≤◌, ◌==◌, List, [], length, find, option_map, unwrap_or}
use Rattle.model_specs.specs.Product.{Step, Sojourn}
use Rattle.model_specs.specs.Payments.{step_at}
use Rattle.model_specs.specs.RecordRules.{IsPayment, IsBoundedStep, IsBoundedPayment}

-- the steps of a sum or of a rate, if there are any, obey rules 10 and 11
pub record HasGoodSteps (months : ℕ) (steps : List Step) : Type 0 where
  pub payment : 1 ≤ length steps → IsPayment months steps
  pub bounded : IsBoundedPayment months steps

-- the step holds in a month, and rule 11 bounds it up to the month's end
pub record CoversMonth (steps : List Step) (month : ℕ) (step : Step) : Type 0 where
  pub step_is : step ≡ step_at steps month
  pub started : step.from ≤ month
  pub bounded : IsBoundedStep step.c (month - step.from + 1)

-- the steps of a state's rate, and none where it has no sojourn
abbrev pub steps_in_state : List Sojourn → ℕ → List Step
steps_in_state sojourns state = unwrap_or (option_map (λ s. s.steps) (find (λ s. s.state == state) sojourns)) []
