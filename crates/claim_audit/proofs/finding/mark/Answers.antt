use Rattle.std.proofs.Common.{refl}
use Rattle.std.proofs.lemmas.Int.{to_z-of_z}
use mir.Syntax.{w128}
use mir.Val.{SFits}
use Rattle.claim_audit.proofs.Nearness.{near_is_near, far_is_far, neither_is_close}
use Rattle.claim_audit.proofs.finding.mark.Goals as goal

pub returns-then-is_near-clause-yes : goal.returns-then-is_near-clause-yes
returns-then-is_near-clause-yes c =
    let claim : SFits w128 c.args.claim = c.ranges.claim in
    let eps : SFits w128 c.args.eps = c.ranges.eps in
    let lo : SFits w128 c.args.lo = c.ranges.lo in
    let hi : SFits w128 c.args.hi = c.ranges.hi in
    let near = simp to_z-of_z at c.if-is_near.ensures in
    (λ e. near.0 refl, λ near. refl)

pub returns-then-is_far-clause-no : goal.returns-then-is_far-clause-no
returns-then-is_far-clause-no c =
    let claim : SFits w128 c.args.claim = c.ranges.claim in
    let eps : SFits w128 c.args.eps = c.ranges.eps in
    let lo : SFits w128 c.args.lo = c.ranges.lo in
    let hi : SFits w128 c.args.hi = c.ranges.hi in
    let far = simp to_z-of_z at c.if-is_far.ensures in
    (λ e. far.0 refl, λ far. refl)

pub returns-else-is_far-clause-no : goal.returns-else-is_far-clause-no
returns-else-is_far-clause-no c =
    let claim : SFits w128 c.args.claim = c.ranges.claim in
    let eps : SFits w128 c.args.eps = c.ranges.eps in
    let lo : SFits w128 c.args.lo = c.ranges.lo in
    let hi : SFits w128 c.args.hi = c.ranges.hi in
    let far = simp to_z-of_z at c.if-is_far.ensures in
    (λ e. absurd (let wrong = e in cc), λ is_far. absurd (let wrong = far.1 is_far in cc))

pub returns-then-is_near-clause-nearness : goal.returns-then-is_near-clause-nearness
returns-then-is_near-clause-nearness c =
    let claim : SFits w128 c.args.claim = c.ranges.claim in
    let eps : SFits w128 c.args.eps = c.ranges.eps in
    let lo : SFits w128 c.args.lo = c.ranges.lo in
    let hi : SFits w128 c.args.hi = c.ranges.hi in
    let near = simp to_z-of_z at c.if-is_near.ensures in
    near_is_near c.args.claim c.args.eps c.args.lo c.args.hi (near.0 refl)

pub returns-then-is_far-clause-nearness : goal.returns-then-is_far-clause-nearness
returns-then-is_far-clause-nearness c =
    let claim : SFits w128 c.args.claim = c.ranges.claim in
    let eps : SFits w128 c.args.eps = c.ranges.eps in
    let lo : SFits w128 c.args.lo = c.ranges.lo in
    let hi : SFits w128 c.args.hi = c.ranges.hi in
    let far = simp to_z-of_z at c.if-is_far.ensures in
    far_is_far c.args.claim c.args.eps c.args.lo c.args.hi (far.0 refl)

pub returns-else-is_far-clause-nearness : goal.returns-else-is_far-clause-nearness
returns-else-is_far-clause-nearness c =
    let claim : SFits w128 c.args.claim = c.ranges.claim in
    let eps : SFits w128 c.args.eps = c.ranges.eps in
    let lo : SFits w128 c.args.lo = c.ranges.lo in
    let hi : SFits w128 c.args.hi = c.ranges.hi in
    let near = simp to_z-of_z at c.if-is_near.ensures in
    let far = simp to_z-of_z at c.if-is_far.ensures in
    neither_is_close c.args.claim c.args.eps c.args.lo c.args.hi
    (λ is_near. absurd (let wrong = near.1 is_near in cc)) (λ is_far. absurd (let wrong = far.1 is_far in cc))
