use Rattle.std.proofs.Common.{◌≡◌, ◌∷◌, take}
use Rattle.std.specs.Prelude.{All}
use Rattle.model_specs.specs.Payments.{step_at}
use Rattle.payment_plan.specs.Records.{steps_of}
use Rattle.file_changes.specs.ContinuousAsks.{AreWords}
use Rattle.file_changes.specs.ContinuousCharges as charges
use Rattle.file_changes.proofs.StepStarts.{steps_after}
use Rattle.file_changes.proofs.later.steps_from.Given as goal

-- the step of the month and those of the steps so far that start later, with numbers of 64 bits
abbrev pub invariant-loop-i : goal.invariant-loop-i
invariant-loop-i l =
    (steps_of l.later.items ≡ charges.continued_step l.month (step_at (steps_of l.steps) l.month)
    ∷ steps_after l.month (take l.i (steps_of l.steps)))
    × All (λ s. AreWords s.c) (steps_of l.later.items)
