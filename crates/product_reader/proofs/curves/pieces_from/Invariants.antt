use Rattle.std.proofs.Common.{◌≡◌, map, take}
use Rattle.curve_pieces.specs.Records.{records_of}
use Rattle.product_file.specs.CurveRules.{piece_of}
use Rattle.toml.specs.View.{view}
use Rattle.product_reader.proofs.curves.pieces_from.Given as goal

abbrev pub invariant-loop-i : goal.invariant-loop-i
invariant-loop-i l =
    records_of l.pieces.items ≡ map piece_of (take l.i (map view l.values))
