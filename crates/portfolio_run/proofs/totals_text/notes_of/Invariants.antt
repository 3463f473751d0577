use Rattle.std.proofs.Common.{◌≡◌, take}
use Rattle.portfolio_run.specs.TotalsText.{notes_from}
use Rattle.portfolio_run.proofs.totals_text.notes_of.Given as goal

abbrev pub invariant-loop-i : goal.invariant-loop-i
invariant-loop-i l = l.notes.items ≡ notes_from 0 (take l.i l.groups)
