use Rattle.std.proofs.Common.{◌≡◌, map, take}
use Rattle.toml.specs.View.{view}
use Rattle.payment_plan.specs.Records.{steps_of}
use Rattle.file_upgrade.proofs.Values.{step_data}
use Rattle.file_upgrade.proofs.payments.steps.Given as goal

abbrev pub invariant-loop-i : goal.invariant-loop-i
invariant-loop-i l = map view l.items.items ≡ map step_data (take l.i (steps_of l.steps))
