use Rattle.std.proofs.Common.{length, ◌*◌, ◌+◌}
use Rattle.taylor_step.proofs.Rows.{Shifted}
use Rattle.taylor_step.proofs.strips.write_zero_blocks.Given as goal
use Rattle.taylor_step.specs.Strips.{zeros, contents}
use Rattle.linear_system.specs.StoredSystem.{row_of}

abbrev pub invariant-loop-i : goal.invariant-loop-i
invariant-loop-i l = Shifted l.sys (contents l.strips) (contents l.initial.strips) l.i 24
    (λ j. zeros ((l.sys.degree + 1) * length (row_of l.sys j).columns))
