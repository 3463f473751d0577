use Rattle.std.proofs.Common.{◌≡◌, map, take}
use Rattle.toml.specs.View.{view}
use Rattle.curve_pieces.specs.Records.{records_of}
use Rattle.file_upgrade.proofs.Values.{piece_data}
use Rattle.file_upgrade.proofs.curves.pieces.Given as goal

abbrev pub invariant-loop-i : goal.invariant-loop-i
invariant-loop-i l = map view l.items.items ≡ map piece_data (take l.i (records_of l.pieces))
