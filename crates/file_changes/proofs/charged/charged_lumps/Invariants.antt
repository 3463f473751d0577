use Rattle.std.proofs.Common.{◌≡◌, map, take}
use Rattle.payment_plan.specs.Records.{lumps_of, pattern_rule_of}
use Rattle.file_changes.specs.Asks.{AreSmallLumps}
use Rattle.file_changes.specs.Charges as charges
use Rattle.file_changes.proofs.charged.charged_lumps.Given as goal

abbrev pub invariant-loop-i : goal.invariant-loop-i
invariant-loop-i l = record {
  made : lumps_of l.changed.items
      ≡ map (charges.charged_lump l.amount (pattern_rule_of l.rule)) (take l.i (lumps_of l.lumps));
  small : AreSmallLumps (lumps_of l.changed.items);
}
