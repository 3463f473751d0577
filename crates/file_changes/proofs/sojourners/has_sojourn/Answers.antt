use Rattle.std.proofs.Common.{sym}
use Rattle.std.proofs.lemmas.Bool.{eq-eqb, ne_eqb}
use Rattle.file_changes.proofs.OwnSojourns.{sojourn_is_found, sojourn_is_passed}
use Rattle.file_changes.proofs.sojourners.has_sojourn.Goals as goal

pub returns-then-sojourns-i : goal.returns-then-sojourns-i
returns-then-sojourns-i c =
    sym (sojourn_is_found c.args.sojourns.now c.args.state c.loop-i.i c.index-sojourns-i.result c.loop-i-test.true
    (eq-eqb _ _ c.if-sojourns-i.true))

pub loop-i-preserved : goal.loop-i-preserved
loop-i-preserved c =
    sojourn_is_passed c.args.sojourns.now c.args.state c.loop-i.i c.index-sojourns-i.result c.loop-i-test.true
    c.loop-i.invariant (ne_eqb _ _ c.if-sojourns-i.false)
