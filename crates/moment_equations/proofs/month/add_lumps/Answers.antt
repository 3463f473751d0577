use Rattle.std.proofs.Common.{◌≡◌, ◌+◌, ◌^◌, ◌≤◌, suc, pos, ap, sym, subst, ◌∙◌, arith, rules, length, slice_index_or}
use Rattle.std.specs.Prelude.{ℤ, List, ◌++◌, take, drop, unsigned_abs}
use Rattle.std.proofs.lemmas.List.{take-append-drop}
use mathlib.Core.Path.{ap₂}
use Rattle.payment_plan.specs.declared.pattern.Which.TheVariants.{Benefits}
use Rattle.product_model.specs.Views.{payments_of}
use Rattle.model_specs.specs.Payments.{payment_plan}
use Rattle.cell_coeffs.proofs.DateLumps.{lumps_of_states}
use Rattle.thiele_backward.proofs.LumpedNumbers.{lumps_are, lumps_few, lumps_within}
use Rattle.moment_equations.specs.NearMoments.{months_behind, AreNear}
use Rattle.moment_equations.proofs.DateNumbers.{date_most, front_most, back_most}
use Rattle.moment_equations.proofs.LumpedHalves.{lumped_near}
use Rattle.moment_equations.proofs.month.add_lumps.Goals as goal

two_most : (z : ℤ) → unsigned_abs z ≤ 2 ^ 64 + 2 ^ 45 → unsigned_abs z ≤ 2 ^ 65
two_most z small = omega (arith, small)

pub apply_second-requires-clause-amounts : goal.apply_second-requires-clause-amounts
apply_second-requires-clause-amounts c =
    let product = c.args.adm.now in
    let are = lumps_are Benefits product c.args.month c.plan.result.now c.lumps_at-lumps.result.now
    (c.plan.ensures.payments ∙ ap payments_of c.product.ensures.product) c.lumps_at-lumps.ensures in
    rw are (lumps_within product (payment_plan product) c.scale-g.result (suc c.args.month)
    c.scale-g.ensures.value (omega (arith, c.requires.month)))

pub apply_second-requires-clause-firsts : goal.apply_second-requires-clause-firsts
apply_second-requires-clause-firsts c i =
    let most = date_most c.args.adm.now (suc c.args.month) c.args.mid.now c.product.ensures.admissible
    (omega (arith, c.requires.month)) c.requires.mid c.requires.near in
    rw c.split_at_mut-first.ensures.front (two_most (slice_index_or (take c.states.result c.args.mid.now) i (pos 0))
    (front_most c.args.mid.now c.states.result _ most i))

pub apply_second-requires-clause-seconds : goal.apply_second-requires-clause-seconds
apply_second-requires-clause-seconds c i =
    let most = date_most c.args.adm.now (suc c.args.month) c.args.mid.now c.product.ensures.admissible
    (omega (arith, c.requires.month)) c.requires.mid c.requires.near in
    rw c.split_at_mut-first.ensures.back (two_most (slice_index_or (drop c.states.result c.args.mid.now) i (pos 0))
    (back_most c.args.mid.now c.states.result _ most i))

pub apply_first-requires-clause-few : goal.apply_first-requires-clause-few
apply_first-requires-clause-few c =
    let product = c.args.adm.now in
    let are = lumps_are Benefits product c.args.month c.plan.result.now c.lumps_at-lumps.result.now
    (c.plan.ensures.payments ∙ ap payments_of c.product.ensures.product) c.lumps_at-lumps.ensures in
    lumps_few product (payment_plan product) (suc c.args.month) c.lumps_at-lumps.result.now
    c.product.ensures.admissible.well_formed are

pub apply_first-requires-clause-states : goal.apply_first-requires-clause-states
apply_first-requires-clause-states c =
    let product = c.args.adm.now in
    let are = lumps_are Benefits product c.args.month c.plan.result.now c.lumps_at-lumps.result.now
    (c.plan.ensures.payments ∙ ap payments_of c.product.ensures.product) c.lumps_at-lumps.ensures in
    let states : c.states.result ≡ length c.args.adm.now.states = search rules in
    rw (c.split_at_mut-first.ensures.front_len ∙ states, are)
    (lumps_of_states (length product.states) (payment_plan product) (suc c.args.month))

pub apply_first-requires-clause-amounts : goal.apply_first-requires-clause-amounts
apply_first-requires-clause-amounts c =
    let product = c.args.adm.now in
    let are = lumps_are Benefits product c.args.month c.plan.result.now c.lumps_at-lumps.result.now
    (c.plan.ensures.payments ∙ ap payments_of c.product.ensures.product) c.lumps_at-lumps.ensures in
    rw are (lumps_within product (payment_plan product) c.scale-g.result (suc c.args.month)
    c.scale-g.ensures.value (omega (arith, c.requires.month)))

pub apply_first-requires-clause-sizes : goal.apply_first-requires-clause-sizes
apply_first-requires-clause-sizes c i =
    let most = date_most c.args.adm.now (suc c.args.month) c.args.mid.now c.product.ensures.admissible
    (omega (arith, c.requires.month)) c.requires.mid c.requires.near in
    rw c.split_at_mut-first.ensures.front (two_most (slice_index_or (take c.states.result c.args.mid.now) i (pos 0))
    (front_most c.args.mid.now c.states.result _ most i))

pub returns : goal.returns
returns c n near =
    let product = c.args.adm.now in
    let are = lumps_are Benefits product c.args.month c.plan.result.now c.lumps_at-lumps.result.now
    (c.plan.ensures.payments ∙ ap payments_of c.product.ensures.product) c.lumps_at-lumps.ensures in
    let states : c.states.result ≡ length c.args.adm.now.states = search rules in
    let first_long : length c.split_at_mut-first.result.0.now ≡ length c.args.adm.now.states =
    c.split_at_mut-first.ensures.front_len ∙ states in
    let second_long : length c.split_at_mut-first.result.1.now ≡ length c.args.adm.now.states =
    omega (arith, c.split_at_mut-first.ensures.back_len, states, c.requires.mid) in
    let whole : c.split_at_mut-first.result.0.now ++ c.split_at_mut-first.result.1.now ≡ c.args.mid.now =
    ap₂ (λ (x y : List ℤ). x ++ y) c.split_at_mut-first.ensures.front c.split_at_mut-first.ensures.back
    ∙ take-append-drop c.states.result c.args.mid.now in
    lumped_near product n (months_behind product c.args.month) c.args.month c.scale-g.result
    (omega (arith, c.requires.month)) c.scale-g.ensures.value c.scale-g.ensures.most
    c.split_at_mut-first.result.0.now c.split_at_mut-first.result.1.now c.apply_first.new.mid c.apply_second.new.second
    c.lumps_at-lumps.result.now are first_long second_long (c.apply_first.auto.mid ∙ first_long)
    (c.apply_second.auto.second ∙ second_long) c.apply_first.ensures c.apply_second.ensures.near
    c.apply_second.ensures.none
    (subst (λ (m : List ℤ). AreNear product n (months_behind product c.args.month) m) (sym whole) near)
