use Rattle.std.proofs.Common.{length, arith, ap, ◌∙◌, ◌*◌, ◌+◌}
use mathlib.Core.Path.{ap₂}
use Rattle.taylor_step.proofs.Rows.{strip_is, row_written, zeros_room}
use Rattle.taylor_step.proofs.strips.write_zero_blocks.Goals as goal
use Rattle.taylor_step.specs.Strips.{zeros}
use Rattle.linear_system.specs.StoredSystem.{row_of, dim_of}

pub write_zeros-requires : goal.write_zeros-requires
write_zeros-requires c =
    let e = strip_is c.args.sys.now c.loop-i.strips c.loop-i.i c.index-strips-i.result _
    c.loop-i.invariant.room (omega arith) c.deref_mut.ensures.value in
    let row = c.degree-degree.ensures.system.each c.loop-i.i (omega arith) in
    zeros_room (dim_of c.args.sys.now) _ _ _ (rw c.degree-degree.ensures.degree
    c.degree-degree.ensures.system.degree_small) (rw c.columns-width.ensures row.columns.few)
    (ap length e ∙ c.loop-i.invariant.room.blocks c.loop-i.i (omega arith))

pub loop-i-preserved : goal.loop-i-preserved
loop-i-preserved c = row_written c.args.sys.now c.loop-i.strips _ c.loop-i.i 24 _
    (λ j. zeros ((c.args.sys.now.degree + 1) * length (row_of c.args.sys.now j).columns)) c.index-strips-i.result
    c.deref_mut.result.now c.write_zeros.new.strip _ c.loop-i.invariant (omega arith)
    c.deref_mut.ensures.value
    (ap (λ cs. 24 * length cs) c.columns-width.ensures)
    (ap zeros (ap₂ (λ t cs. (t + 1) * length cs) c.degree-degree.ensures.degree c.columns-width.ensures))
    c.write_zeros.ensures
