use Rattle.std.proofs.Common.{get_or, []}
use Rattle.std.proofs.lemmas.List.{get_or_default}
use Rattle.payment_plan.specs.declared.step.StepAmount.{StepAmount}
use Rattle.payment_plan.specs.Records.{record_of}
use Rattle.curve_pieces.proofs.Lookups.{IsFound}
use Rattle.payment_plan.proofs.Lookups.{from_of, starts_are, step_covers}
use Rattle.payment_plan.proofs.step.step_at.Goals as goal

pub last_start-requires-clause-first : goal.last_start-requires-clause-first
last_start-requires-clause-first c = rw (starts_are c.args.steps.now) c.requires

pub returns-else-is_empty : goal.returns-else-is_empty
returns-else-is_empty c =
    λ months good term.
    let none : StepAmount = record { from = 0; c = [] } in
    let found : IsFound record_of from_of c.args.steps.now months c.args.month c.last_start.result
    (get_or c.args.steps.now c.last_start.result none) =
    record {
      term = term;
      inside = c.last_start.ensures.inside;
      item_is = get_or_default c.args.steps.now c.last_start.result none _ c.last_start.ensures.inside;
      started = rw (starts_are c.args.steps.now) at c.last_start.ensures.started;
      next = rw (starts_are c.args.steps.now) at c.last_start.ensures.next;
    } in
    step_covers _ _ _ _ _ found good
