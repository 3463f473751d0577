use Rattle.std.proofs.Common.{pos, get_or, map}
use Rattle.taylor_step.proofs.Rows.{Shifted}
use Rattle.taylor_step.proofs.strips.write_blocks.Given as goal
use Rattle.taylor_step.specs.Strips.{contents}
use Rattle.linear_system.specs.StoredSystem.{row_of}

abbrev pub invariant-loop-i : goal.invariant-loop-i
invariant-loop-i l = Shifted l.sys (contents l.strips) (contents l.initial.strips) l.i l.block
    (λ j. map (λ c. get_or l.newest c (pos 0)) (row_of l.sys j).columns)
