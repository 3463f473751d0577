use Rattle.std.proofs.Common.{◌≡◌, ◌++◌, take}
use Rattle.basis_compare.specs.ChangesText.{change_lines}
use Rattle.basis_compare.proofs.changes_text.push_rows.Given as goal

abbrev pub invariant-loop-i : goal.invariant-loop-i
invariant-loop-i l = l.out.items ≡ l.fn.out.items ++ change_lines l.a (take l.i l.rows)
