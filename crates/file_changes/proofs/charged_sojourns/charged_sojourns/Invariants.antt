use Rattle.std.proofs.Common.{◌≡◌, map, take}
use Rattle.payment_plan.specs.Records.{pattern_rule_of, sojourns_of}
use Rattle.file_changes.specs.ContinuousAsks.{AreSmallSojourns}
use Rattle.file_changes.specs.ContinuousCharges as continuous
use Rattle.file_changes.proofs.charged_sojourns.charged_sojourns.Given as goal

abbrev pub invariant-loop-i : goal.invariant-loop-i
invariant-loop-i l = record {
  made : sojourns_of l.charged.items
      ≡ map (continuous.charged_sojourn l.amount l.months (pattern_rule_of l.rule)) (take l.i (sojourns_of l.sojourns));
  small : AreSmallSojourns l.months (sojourns_of l.charged.items);
}
