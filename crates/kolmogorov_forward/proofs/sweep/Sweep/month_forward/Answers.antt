use Rattle.std.proofs.Common.{◌<◌, ◌∙◌, refl, sym, subst, ap}
use Rattle.kolmogorov_forward.specs.Sweeps.{ForwardSweep}
use Rattle.kolmogorov_forward.proofs.KeptRuns.{keeps_month, keeps_written}
use Rattle.kolmogorov_forward.proofs.sweep.Sweep.month_forward.Goals as goal

pub month_over-degree-requires-clause-made : goal.month_over-degree-requires-clause-made
month_over-degree-requires-clause-made g c =
    let product_is = c.requires.product ∙ sym (ap (λ (s : ForwardSweep). s.product) c.self.view_is) in
    rw product_is c.self.invariant.made

pub month_over-degree-requires-clause-mid : goal.month_over-degree-requires-clause-mid
month_over-degree-requires-clause-mid g c =
    let product_is = c.requires.product ∙ sym (ap (λ (s : ForwardSweep). s.product) c.self.view_is) in
    rw (product_is, c.deref_mut.ensures.value) c.self.invariant.long

pub month_over-degree-requires-clause-work : goal.month_over-degree-requires-clause-work
month_over-degree-requires-clause-work g c =
    let product_is = c.requires.product ∙ sym (ap (λ (s : ForwardSweep). s.product) c.self.view_is) in
    rw product_is c.self.invariant.room

pub month_over-degree-requires-clause-near : goal.month_over-degree-requires-clause-near
month_over-degree-requires-clause-near g c =
    let product_is = c.requires.product ∙ sym (ap (λ (s : ForwardSweep). s.product) c.self.view_is) in
    rw (product_is, c.deref_mut.ensures.value) c.self.invariant.near

pub invariant_of-self : goal.invariant_of-self
invariant_of-self g c =
    let left : c.self.inside.date < c.self.inside.product.value.months =
    subst (λ (s : ForwardSweep). s.date < s.product.months) (sym c.self.view_is) c.requires.left in
    let product_is = c.requires.product ∙ sym (ap (λ (s : ForwardSweep). s.product) c.self.view_is) in
    keeps_written _ _ _ _ _ c.month_over-degree.new.mid c.self.inside.mid.items
    (c.month_over-degree.auto.mid ∙ c.deref_mut.ensures.len)
    (keeps_month _ _ _ _ _ c.self.invariant left c.args.adm.now c.deref_mut.result.now product_is
    c.deref_mut.ensures.value c.month_over-degree.result _ c.radius_forward-radius.result c.month_over-degree.new.work
    c.month_over-degree.new.system c.month_over-degree.new.mid c.month_over-degree.ensures.near
    c.month_over-degree.ensures.least c.month_over-degree.ensures.highest refl c.radius_forward-radius.ensures.value
    c.radius_forward-radius.ensures.most c.month_over-degree.ensures.places c.month_over-degree.ensures.work
    c.month_over-degree.auto.mid)
