use Rattle.std.proofs.Common.{◌≡◌, ◌++◌, map}
use Rattle.std.specs.Prelude.{filter}
use Rattle.whole_laws.specs.Whole.{places}
use Rattle.payment_plan.specs.Records.{lumps_of, pattern_rule_of}
use Rattle.file_changes.specs.Charges as charges
use Rattle.file_changes.proofs.completing.completed_lumps.Given as goal

abbrev pub invariant-loop-place : goal.invariant-loop-place
invariant-loop-place l = lumps_of l.all.items ≡ lumps_of l.lumps ++ map (charges.zero_lump l.states)
    (filter (charges.is_missing l.states (lumps_of l.lumps) (pattern_rule_of l.rule)) (places l.place))
