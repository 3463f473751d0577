use Rattle.std.proofs.Common.{◌≡◌, ◌++◌, map, take}
use Rattle.std.specs.Prelude.{filter, not}
use Rattle.payment_plan.specs.Records.{sojourns_of}
use Rattle.file_changes.specs.ContinuousCharges as charges
use Rattle.file_changes.proofs.sojourners.completed_sojourns.Given as goal

abbrev pub invariant-loop-i : goal.invariant-loop-i
invariant-loop-i l = sojourns_of l.all.items ≡ l.plan.sojourns ++ map charges.zero_sojourn
    (filter (λ payer. not (charges.has_sojourn l.plan.sojourns payer)) (take l.i l.rule.payers.items))
