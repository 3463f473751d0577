use Rattle.std.proofs.Common.{◌≡◌, ◌*ℤ◌, take}
use Rattle.curve_pieces.specs.Records.{records_of}
use Rattle.file_changes.specs.Asks.{HaveWords}
use Rattle.file_changes.specs.BasisChanges as basis
use Rattle.file_changes.proofs.curves.changed_pieces.Given as goal

abbrev pub invariant-loop-i : goal.invariant-loop-i
invariant-loop-i l = record {
  made : records_of l.changed.items
      ≡ basis.changed_pieces l.factor (l.units *ℤ l.den) (take l.i (records_of l.pieces));
  words : HaveWords (records_of l.changed.items);
}
