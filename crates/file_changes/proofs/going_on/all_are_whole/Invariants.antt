use Rattle.std.proofs.Common.{take}
use Rattle.std.specs.Prelude.{All, IsTrue}
use Rattle.payment_plan.specs.Records.{sojourns_of}
use Rattle.payment_plan.specs.Tables.{is_payer}
use Rattle.file_changes.specs.ContinuousAsks.{GoesOnWhole}
use Rattle.file_changes.proofs.going_on.all_are_whole.Given as goal

-- the sojourns so far go on whole
abbrev pub invariant-loop-i : goal.invariant-loop-i
invariant-loop-i l = All (λ s. IsTrue (is_payer l.rule.payers.items s.state) → GoesOnWhole l.rule.until s.steps)
    (take l.i (sojourns_of l.sojourns))
