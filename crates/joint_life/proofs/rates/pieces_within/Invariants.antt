use Rattle.std.proofs.Common.{◌≡◌, take}
use Rattle.curve_pieces.specs.Records.{records_of}
use Rattle.joint_life.specs.JointRecord.{pieces_within}
use Rattle.joint_life.proofs.rates.pieces_within.Given as goal

abbrev pub invariant-loop-i : goal.invariant-loop-i
invariant-loop-i l = records_of l.kept.items ≡ pieces_within l.months (take l.i (records_of l.pieces))
