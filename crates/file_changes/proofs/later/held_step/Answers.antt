use Rattle.std.proofs.Common.{get_or, [], arith}
use Rattle.std.specs.Prelude.{pos}
use Rattle.std.proofs.lemmas.List.{get_or_default}
use Rattle.model_specs.specs.Payments.{constant_step}
use Rattle.payment_plan.specs.declared.step.StepAmount.{StepAmount}
use Rattle.payment_plan.specs.Records.{record_of}
use Rattle.payment_plan.proofs.Lookups.{from_of, starts_are}
use Rattle.curve_pieces.proofs.Lookups.{IsFound, found_covers}
use Rattle.file_changes.proofs.StepMonths.{start_at}
use Rattle.file_changes.proofs.later.held_step.Goals as goal

pub last_start-requires-clause-first : goal.last_start-requires-clause-first
last_start-requires-clause-first c = rw (starts_are c.args.steps.now) (omega (arith, c.requires.good.starts.first))

pub returns-clause-step_is : goal.returns-clause-step_is
returns-clause-step_is c =
    let none : StepAmount = record { from = 0; c = [] } in
    let found : IsFound record_of from_of c.args.steps.now c.args.months c.args.month c.last_start.result
    (get_or c.args.steps.now c.last_start.result none) =
    record {
      term = c.requires.within;
      inside = c.last_start.ensures.inside;
      item_is = get_or_default c.args.steps.now c.last_start.result none _ c.last_start.ensures.inside;
      started = rw (starts_are c.args.steps.now) at c.last_start.ensures.started;
      next = rw (starts_are c.args.steps.now) at c.last_start.ensures.next;
    } in
    found_covers record_of from_of c.args.steps.now c.args.months c.args.month c.last_start.result
    (get_or c.args.steps.now c.last_start.result none) (constant_step 0 (pos 0)) c.requires.good.starts found

pub returns-clause-started : goal.returns-clause-started
returns-clause-started c =
    let none : StepAmount = record { from = 0; c = [] } in
    let started = rw (starts_are c.args.steps.now) at c.last_start.ensures.started in
    omega (arith, started, start_at c.args.steps.now c.last_start.result none c.last_start.ensures.inside)
