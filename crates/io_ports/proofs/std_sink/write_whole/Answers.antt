use Rattle.std.proofs.Common.{arith}
use Rattle.std.proofs.lemmas.List.{take_rest}
use Rattle.io_ports.proofs.Growth.{Appends-take-add}
use Rattle.io_ports.proofs.std_sink.write_whole.Goals as goal

pub loop-at-preserved : goal.loop-at-preserved
loop-at-preserved g c =
    let before = c.loop-at.invariant.written in
    let piece = rw (take_rest c.args.bytes.now c.loop-at.at) at c.in_ok-at.ensures.ok in
    record {
      within = omega (arith, c.in_ok-at.ensures.taken);
      written = Appends-take-add _ _ _ c.args.bytes.now c.loop-at.at c.in_ok-at.field-0 before piece;
    }
