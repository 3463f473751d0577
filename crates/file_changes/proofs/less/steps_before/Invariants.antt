use Rattle.std.proofs.Common.{◌≡◌, map, take}
use Rattle.std.specs.Prelude.{All, filter, nat_lt}
use Rattle.payment_plan.specs.Records.{steps_of}
use Rattle.file_changes.specs.ContinuousAsks.{AreWords}
use Rattle.file_changes.specs.ContinuousCharges as continuous
use Rattle.file_changes.proofs.less.steps_before.Given as goal

abbrev pub invariant-loop-i : goal.invariant-loop-i
invariant-loop-i l = record {
  made : steps_of l.before.items
      ≡ map (continuous.less_step l.amount) (filter (λ s. nat_lt s.from l.until) (take l.i (steps_of l.steps)));
  words : All (λ s. AreWords s.c) (steps_of l.before.items);
}
