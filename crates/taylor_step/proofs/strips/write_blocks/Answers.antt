use Rattle.std.proofs.Common.{pos, length, map, arith, get_or, ap, ◌∙◌, ◌*◌}
use Rattle.taylor_step.proofs.Rows.{strip_is, row_written, block_room}
use Rattle.taylor_step.proofs.strips.write_blocks.Goals as goal
use Rattle.linear_system.specs.StoredSystem.{row_of, dim_of}

pub write_block-requires-clause-room : goal.write_block-requires-clause-room
write_block-requires-clause-room c =
    let e = strip_is c.args.sys.now c.loop-i.strips c.loop-i.i c.index-strips-i.result _
    c.loop-i.invariant.room (omega arith) c.deref_mut.ensures.value in
    let row = c.degree-degree.ensures.system.each c.loop-i.i (omega arith) in
    block_room (dim_of c.args.sys.now) _ c.args.block _ c.requires.block
    (rw c.columns-columns.ensures row.columns.few)
    (ap length e ∙ c.loop-i.invariant.room.blocks c.loop-i.i (omega arith))

pub loop-i-preserved : goal.loop-i-preserved
loop-i-preserved c = row_written c.args.sys.now c.loop-i.strips _ c.loop-i.i c.args.block _
    (λ j. map (λ k. get_or c.args.newest.now k (pos 0)) (row_of c.args.sys.now j).columns)
    c.index-strips-i.result c.deref_mut.result.now c.write_block.new.strip _ c.loop-i.invariant (omega arith)
    c.deref_mut.ensures.value
    (ap (λ cs. c.args.block * length cs) c.columns-columns.ensures)
    (ap (map (λ k. get_or c.args.newest.now k (pos 0))) c.columns-columns.ensures) c.write_block.ensures
