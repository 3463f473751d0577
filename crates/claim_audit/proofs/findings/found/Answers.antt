use Rattle.std.proofs.Common.{refl, rules}
use Rattle.std.proofs.lemmas.Int.{to_z-of_z}
use mir.Syntax.{w128}
use mir.Val.{SFits}
use Rattle.claim_audit.proofs.findings.found.Goals as goal

pub returns : goal.returns
returns c =
    let claim : SFits w128 c.args.claimed.now.claim = search rules in
    let lo : SFits w128 c.args.ends.now.lo = search rules in
    let hi : SFits w128 c.args.ends.now.hi = search rules in
    let eps : SFits w128 c.args.eps = c.ranges.eps in
    record {
      month_is = refl;
      state_is = refl;
      claim_is = simp to_z-of_z refl;
      lo_is = simp to_z-of_z refl;
      hi_is = simp to_z-of_z refl;
      yes = simp to_z-of_z at c.mark.ensures.yes;
      no = simp to_z-of_z at c.mark.ensures.no;
    }
