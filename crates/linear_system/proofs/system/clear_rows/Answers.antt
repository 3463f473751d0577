use Rattle.std.proofs.Common.{arith}
use Rattle.linear_system.proofs.Clearing.{one_cleared}
use Rattle.linear_system.proofs.system.clear_rows.Goals as goal

pub loop-i-preserved : goal.loop-i-preserved
loop-i-preserved c =
    one_cleared c.loop-i.rows c.args.rows.now c.loop-i.i c.index-rows-i.result c.clear.new.self
    c.loop-i.invariant
    (omega (arith, c.loop-i-test.true, c.loop-i.auto.rows)) c.clear.ensures.columns c.clear.ensures.numbers
