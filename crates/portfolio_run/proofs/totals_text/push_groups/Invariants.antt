use Rattle.std.proofs.Common.{◌≡◌, ◌++◌, take}
use Rattle.portfolio_run.specs.TotalsText.{group_lines}
use Rattle.portfolio_run.proofs.totals_text.push_groups.Given as goal

abbrev pub invariant-loop-i : goal.invariant-loop-i
invariant-loop-i l = l.out.items ≡ l.fn.out.items ++ group_lines (take l.i l.groups)
