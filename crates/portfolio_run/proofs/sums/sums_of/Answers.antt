use Rattle.std.proofs.Common.{◌≡◌, ◌^◌, ◌<◌, ◌≤◌, ◌∙◌, length, take, refl, sym, subst, arith}
use Rattle.std.proofs.lemmas.List.{length-take, take_more}
use Rattle.std.proofs.lemmas.List.Elements.{All-get_or}
use Rattle.std.proofs.lemmas.Option.{slice_get_read}
use Rattle.portfolio_run.specs.Sums.{HasPlace}
use Rattle.portfolio_run.specs.Values.{IsReserve}
use Rattle.portfolio_run.proofs.AllSums.{first_missing, no_sums, sum_is, sums_more}
use Rattle.portfolio_run.proofs.sums.sums_of.Goals as goal

pub loop-i-init : goal.loop-i-init
loop-i-init c =
    let count : length c.in-Ok.sums.items ≡ c.args.groups = sym c.in-Ok.sums.ok.0 ∙ c.in-Ok.ensures.len in
    no_sums c.args.valued.now c.args.groups c.in-Ok.sums.items count
    (c.in-Ok.ensures.items_if_clones_equal (λ y same. same))

pub with-requires-clause-lo : goal.with-requires-clause-lo
with-requires-clause-lo c =
    let policy = c.index-policies-i.result in
    let within : c.loop-i.i < length c.args.policies.now = omega arith in
    let place = subst (HasPlace (length c.args.valued.now) c.args.groups) (sym c.index-policies-i.is)
    (All-get_or (HasPlace (length c.args.valued.now) c.args.groups) c.args.policies.now c.loop-i.i policy within
    c.requires.places) in
    let is = sum_is c.args.valued.now (take c.loop-i.i c.args.policies.now) c.args.groups c.loop-i.sums.items
    policy.group c.index.result.now c.loop-i.invariant place.group c.index.ensures in
    let few : length (take c.loop-i.i c.args.policies.now) ≤ 2 ^ 20 =
    omega (arith, length-take c.loop-i.i c.args.policies.now, c.requires.few) in
    omega (arith, is.small_lo, few)

pub with-requires-clause-hi : goal.with-requires-clause-hi
with-requires-clause-hi c =
    let policy = c.index-policies-i.result in
    let within : c.loop-i.i < length c.args.policies.now = omega arith in
    let place = subst (HasPlace (length c.args.valued.now) c.args.groups) (sym c.index-policies-i.is)
    (All-get_or (HasPlace (length c.args.valued.now) c.args.groups) c.args.policies.now c.loop-i.i policy within
    c.requires.places) in
    let is = sum_is c.args.valued.now (take c.loop-i.i c.args.policies.now) c.args.groups c.loop-i.sums.items
    policy.group c.index.result.now c.loop-i.invariant place.group c.index.ensures in
    let few : length (take c.loop-i.i c.args.policies.now) ≤ 2 ^ 20 =
    omega (arith, length-take c.loop-i.i c.args.policies.now, c.requires.few) in
    omega (arith, is.small_hi, few)

pub with-requires-clause-tol : goal.with-requires-clause-tol
with-requires-clause-tol c =
    let policy = c.index-policies-i.result in
    let within : c.loop-i.i < length c.args.policies.now = omega arith in
    let place = subst (HasPlace (length c.args.valued.now) c.args.groups) (sym c.index-policies-i.is)
    (All-get_or (HasPlace (length c.args.valued.now) c.args.groups) c.args.policies.now c.loop-i.i policy within
    c.requires.places) in
    let is = sum_is c.args.valued.now (take c.loop-i.i c.args.policies.now) c.args.groups c.loop-i.sums.items
    policy.group c.index.result.now c.loop-i.invariant place.group c.index.ensures in
    let few : length (take c.loop-i.i c.args.policies.now) ≤ 2 ^ 20 =
    omega (arith, length-take c.loop-i.i c.args.policies.now, c.requires.few) in
    omega (arith, is.small_tol, few)

pub returns-in-Err-clause-err : goal.returns-in-Err-clause-err
returns-in-Err-clause-err c =
    let policy = c.index-policies-i.result in
    let within : c.loop-i.i < length c.args.policies.now = omega arith in
    let place = subst (HasPlace (length c.args.valued.now) c.args.groups) (sym c.index-policies-i.is)
    (All-get_or (HasPlace (length c.args.valued.now) c.args.groups) c.args.policies.now c.loop-i.i policy within
    c.requires.places) in
    let file = slice_get_read c.args.valued.now (length c.args.valued.now) policy.file c.index-valued-policy.result refl
    place.file c.index-valued-policy.is in
    first_missing c.args.valued.now c.args.policies.now c.loop-i.i policy c.index-valued-policy.result
    c.deref.result.now c.in-Err.missing c.part.result within c.index-policies-i.is c.loop-i.invariant.covered file
    c.deref.ensures.value c.in-Err.ensures.err c.part.ensures

pub loop-i-preserved : goal.loop-i-preserved
loop-i-preserved c =
    let policy = c.index-policies-i.result in
    let within : c.loop-i.i < length c.args.policies.now = omega arith in
    let place = subst (HasPlace (length c.args.valued.now) c.args.groups) (sym c.index-policies-i.is)
    (All-get_or (HasPlace (length c.args.valued.now) c.args.groups) c.args.policies.now c.loop-i.i policy within
    c.requires.places) in
    let file = slice_get_read c.args.valued.now (length c.args.valued.now) policy.file c.index-valued-policy.result refl
    place.file c.index-valued-policy.is in
    let is = sum_is c.args.valued.now (take c.loop-i.i c.args.policies.now) c.args.groups c.loop-i.sums.items
    policy.group c.index.result.now c.loop-i.invariant place.group c.index.ensures in
    let reserve = subst (λ state. IsReserve c.index-valued-policy.result c.index-policies-i.result.month state
    c.in-Ok-reserve.reserve) c.deref.ensures.value c.in-Ok-reserve.ensures.ok in
    let one_more = take_more c.args.policies.now c.loop-i.i policy within in
    let sums = sums_more c.args.valued.now (take c.loop-i.i c.args.policies.now) c.args.groups c.loop-i.sums.items
    policy c.index-valued-policy.result c.in-Ok-reserve.reserve c.index.result.now c.with.result c.loop-i.invariant
    place file reserve is c.with.ensures.lo c.with.ensures.hi c.with.ensures.tol in
    rw (one_more, ← c.index-policies-i.is) sums
