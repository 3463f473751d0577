use Rattle.std.proofs.Common.{◌+◌, arith}
use Rattle.thiele_cli.proofs.Growth.{grows_to, grows_by_prefix}
use Rattle.thiele_cli.proofs.pieces.write_pieces.Goals as goal

pub loop-at-preserved : goal.loop-at-preserved
loop-at-preserved g c = record {
  within = omega arith;
  written = grows_to _ (g.K.Sink.written c.loop-at.sink) _ c.args.text.now c.loop-at.at
      (c.loop-at.at + c.min.result) (omega arith) c.loop-at.invariant.written c.in-Ok.ensures.written;
  faults = grind (arith, c.in-Ok.ensures.no_fault, c.loop-at.invariant.faults);
}

pub returns-in-Err-clause-written_at_fault : goal.returns-in-Err-clause-written_at_fault
returns-in-Err-clause-written_at_fault g c =
    grows_by_prefix _ (g.K.Sink.written c.loop-at.sink) _ c.args.text.now c.loop-at.at _
    c.loop-at.invariant.written c.in-Err.ensures.written_at_fault
