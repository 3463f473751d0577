use Rattle.std.proofs.Common.{◌≡◌, ◌<◌, ◌∙◌, sym, subst, rules, ap, length, FitsSigned}
use Rattle.std.specs.Prelude.{ℤ, pos, ◌+ℤ◌, ◌*ℤ◌, ◌^◌}
use Rattle.std.specs.Int.{w64, w128}
use Rattle.frac_laws.specs.Lists.{number_at}
use Rattle.model_specs.specs.Runs.{reserve}
use Rattle.std.proofs.lemmas.Int.{to_z-of_z}
use Rattle.model_specs.specs.Payments.{lump_at}
use Rattle.product_model.specs.Views.{payments_of}
use Rattle.thiele_backward.specs.Sweeps.{BackwardSweep, plan_in, values_from, spare_of}
use Rattle.thiele_backward.proofs.Enclosed.{moved}
use Rattle.thiele_backward.proofs.KeptRuns.{state_lump, state_lump_small}
use Rattle.thiele_backward.proofs.sweep.Sweep.enclosure_before.Goals as goal

pub units_of-units-requires : goal.units_of-units-requires
units_of-units-requires c =
    let fits : FitsSigned w64 c.lump_of.result = search rules in
    let inside = subst (λ (s : BackwardSweep). c.args.state < length s.product.states) (sym c.self.view_is)
    c.requires.state in
    let product_is = c.requires.product ∙ sym (ap (λ (s : BackwardSweep). s.product) c.self.view_is) in
    let lump_is = c.lump_of.ensures ∙ state_lump _ _ _ _ _ _ c.self.invariant.runs c.args.state inside c.plan.result.now
    c.lumps_at-lumps.result.now (c.plan.ensures.payments ∙ ap payments_of (c.product.ensures.product ∙ product_is))
    c.lumps_at-lumps.ensures in
    simp to_z-of_z (rw lump_is (state_lump_small _ _ _ _ _ _ c.self.invariant.runs c.args.state inside))

pub returns-clause-values : goal.returns-clause-values
returns-clause-values c = λ n v from start.
    let fits : FitsSigned w64 c.lump_of.result = search rules in
    let units_fit : FitsSigned w128 c.units_of-units.result = search rules in
    let l = lump_at (plan_in c.args.self.now) c.args.self.now.months_left c.args.state in
    let inside = subst (λ (s : BackwardSweep). c.args.state < length s.product.states) (sym c.self.view_is)
    c.requires.state in
    let product_is = c.requires.product ∙ sym (ap (λ (s : BackwardSweep). s.product) c.self.view_is) in
    let lump_is : c.lump_of.result ≡ l =
    c.lump_of.ensures ∙ state_lump _ _ _ _ _ _ c.self.invariant.runs c.args.state inside c.plan.result.now
    c.lumps_at-lumps.result.now (c.plan.ensures.payments ∙ ap payments_of (c.product.ensures.product ∙ product_is))
    c.lumps_at-lumps.ensures
    ∙ ap (λ (s : BackwardSweep). lump_at (plan_in s) s.months_left c.args.state) c.self.view_is in
    let units_are : c.units_of-units.result ≡ l *ℤ pos (2 ^ 64) =
    (simp to_z-of_z at c.units_of-units.ensures.value) ∙ ap (λ (z : ℤ). z *ℤ pos (2 ^ 64)) lump_is in
    moved (spare_of c.args.self.now) (number_at (values_from c.args.self.now n v) c.args.state) l c.enclosure.result
    c.moved.result
    ((simp to_z-of_z at c.moved.ensures.lo) ∙ ap (λ (z : ℤ). c.enclosure.result.lo +ℤ z) units_are)
    ((simp to_z-of_z at c.moved.ensures.hi) ∙ ap (λ (z : ℤ). c.enclosure.result.hi +ℤ z) units_are)
    (c.enclosure.ensures.values n v from start)

pub returns-clause-reserves : goal.returns-clause-reserves
returns-clause-reserves c = λ is n from.
    let fits : FitsSigned w64 c.lump_of.result = search rules in
    let units_fit : FitsSigned w128 c.units_of-units.result = search rules in
    let s = c.args.self.now in
    let l = lump_at (plan_in c.args.self.now) c.args.self.now.months_left c.args.state in
    let inside = subst (λ (s : BackwardSweep). c.args.state < length s.product.states) (sym c.self.view_is)
    c.requires.state in
    let product_is = c.requires.product ∙ sym (ap (λ (s : BackwardSweep). s.product) c.self.view_is) in
    let lump_is : c.lump_of.result ≡ l =
    c.lump_of.ensures ∙ state_lump _ _ _ _ _ _ c.self.invariant.runs c.args.state inside c.plan.result.now
    c.lumps_at-lumps.result.now (c.plan.ensures.payments ∙ ap payments_of (c.product.ensures.product ∙ product_is))
    c.lumps_at-lumps.ensures
    ∙ ap (λ (s : BackwardSweep). lump_at (plan_in s) s.months_left c.args.state) c.self.view_is in
    let units_are : c.units_of-units.result ≡ l *ℤ pos (2 ^ 64) =
    (simp to_z-of_z at c.units_of-units.ensures.value) ∙ ap (λ (z : ℤ). z *ℤ pos (2 ^ 64)) lump_is in
    moved (spare_of s) (reserve s.product (plan_in s) n s.months_left c.args.state) l c.enclosure.result c.moved.result
    ((simp to_z-of_z at c.moved.ensures.lo) ∙ ap (λ (z : ℤ). c.enclosure.result.lo +ℤ z) units_are)
    ((simp to_z-of_z at c.moved.ensures.hi) ∙ ap (λ (z : ℤ). c.enclosure.result.hi +ℤ z) units_are)
    (c.enclosure.ensures.reserves is n from)
