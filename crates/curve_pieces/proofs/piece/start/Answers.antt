use Rattle.std.proofs.Common.{sym}
use Rattle.curve_pieces.specs.Records.{record_of}
use Rattle.curve_pieces.proofs.ItemStarts.{start-at}
use Rattle.curve_pieces.proofs.piece.start.Goals as goal

pub returns : goal.returns
returns c = sym (start-at record_of c.args.pieces.now c.args.i _ c.requires)
