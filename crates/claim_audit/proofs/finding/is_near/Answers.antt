use Rattle.std.proofs.Common.{◌+ℤ◌, arith, rules}
use Rattle.std.proofs.lemmas.Int.{ints, to_z-of_z}
use mir.Syntax.{w128}
use mir.Val.{SFits}
use Rattle.claim_audit.proofs.Nearness.{order_is_found}
use Rattle.claim_audit.proofs.finding.is_near.Goals as goal

pub returns-then-claim-eps : goal.returns-then-claim-eps
returns-then-claim-eps c =
    let claim : SFits w128 c.args.claim = c.ranges.claim in
    let eps : SFits w128 c.args.eps = c.ranges.eps in
    let hi : SFits w128 c.args.hi = c.ranges.hi in
    let sum : SFits w128 (c.args.claim +ℤ c.args.eps) = search rules in (
      λ to. (grind (arith, ints), grind (arith, ints)),
      λ near. simp to_z-of_z (order_is_found c.args.hi (c.args.claim +ℤ c.args.eps) near.1),
    )
