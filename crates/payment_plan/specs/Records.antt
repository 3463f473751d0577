-- Payments as the plain records of a product.
use Rattle.std.specs.Prelude.{ℕ, List, map, Vec}
use Rattle.std.specs.declared.alloc.Global.{Global}
use Rattle.model_specs.specs.Curve.{Piece}
use Rattle.model_specs.specs.Product as model
use Rattle.model_specs.specs.RecordRules.{step_starts}
use Rattle.payment_plan.specs.declared.step.StepAmount.{StepAmount}
use Rattle.payment_plan.specs.declared.lump.Lump.{Lump}
use Rattle.payment_plan.specs.declared.pattern.PatternRule.{PatternRule}
use Rattle.payment_plan.specs.Payments.{Payments}

-- a step as a plain record
abbrev pub record_of : StepAmount → model.Step
record_of s = record { from = s.from; c = s.c }

-- a step as a piece of four coefficients
abbrev pub piece_of : StepAmount → Piece
piece_of s = record { from = s.from; c = s.c }

-- the steps as plain records
abbrev pub steps_of : List StepAmount → List model.Step
steps_of steps = map record_of steps

-- the months at which they start
abbrev pub starts_of : List StepAmount → List ℕ
starts_of steps = step_starts (steps_of steps)

-- the sum of each transition
abbrev pub sums_of : List (Vec StepAmount Global) → List (List model.Step)
sums_of sums = map (λ steps. steps_of steps.items) sums

-- a state and the steps of its rate as a plain record
abbrev pub sojourn_of : ℕ × Vec StepAmount Global → model.Sojourn
sojourn_of s = record { state = s.0; steps = steps_of s.1.items }

-- all of them
abbrev pub sojourns_of : List (ℕ × Vec StepAmount Global) → List model.Sojourn
sojourns_of sojourns = map sojourn_of sojourns

-- a lump as a plain record
abbrev pub lump_of : Lump → model.Lump
lump_of l = record { month = l.month; state = l.state; amount = l.amount }

-- the lumps as plain records
abbrev pub lumps_of : List Lump → List model.Lump
lumps_of lumps = map lump_of lumps

-- the premium pattern as a plain record
abbrev pub pattern_rule_of : PatternRule → model.PremiumPattern
pattern_rule_of rule = record { payers = rule.payers.items; until = rule.until; every = rule.every }

-- the payments of these parts
abbrev pub payments_of : ℕ → ℕ → List (Vec StepAmount Global) → List (ℕ × Vec StepAmount Global) → List Lump
    → PatternRule → Payments
payments_of states months sums sojourns lumps rule = record {
  states = states;
  months = months;
  sums = sums_of sums;
  sojourns = sojourns_of sojourns;
  lumps = lumps_of lumps;
  pattern = pattern_rule_of rule;
}
