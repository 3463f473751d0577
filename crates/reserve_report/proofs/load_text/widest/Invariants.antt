use Rattle.std.proofs.Common.{◌≡◌, take}
use Rattle.reserve_report.specs.LoadText.{widest}
use Rattle.reserve_report.proofs.load_text.widest.Given as goal

-- how far apart the ends of the widest row so far stand
abbrev pub invariant-loop-row : goal.invariant-loop-row
invariant-loop-row l = l.most ≡ widest (take l.row-index l.rows)
