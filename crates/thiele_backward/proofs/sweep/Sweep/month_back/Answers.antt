use Rattle.std.proofs.Common.{◌<◌, ◌-◌, ◌∙◌, sym, arith, ap}
use Rattle.thiele_backward.specs.Sweeps.{BackwardSweep}
use Rattle.thiele_backward.proofs.KeptRuns.{some_near, keeps_month_of, keeps_written, month_inside}
use Rattle.thiele_backward.proofs.sweep.Sweep.month_back.Goals as goal

pub month_over-degree-requires-clause-month : goal.month_over-degree-requires-clause-month
month_over-degree-requires-clause-month g c =
    let left : 0 < c.self.inside.months_left =
    rw (ap (λ (s : BackwardSweep). s.months_left) c.self.view_is) c.requires.left in
    let product_is = c.requires.product ∙ sym (ap (λ (s : BackwardSweep). s.product) c.self.view_is) in
    rw product_is
    (month_inside _ _ _ _ _ _ c.self.invariant.runs (c.self.inside.months_left - 1) (omega (arith, left)))

pub month_over-degree-requires-clause-made : goal.month_over-degree-requires-clause-made
month_over-degree-requires-clause-made g c =
    let product_is = c.requires.product ∙ sym (ap (λ (s : BackwardSweep). s.product) c.self.view_is) in
    rw product_is c.self.invariant.runs.made

pub month_over-degree-requires-clause-mid : goal.month_over-degree-requires-clause-mid
month_over-degree-requires-clause-mid g c =
    let product_is = c.requires.product ∙ sym (ap (λ (s : BackwardSweep). s.product) c.self.view_is) in
    rw (product_is, c.deref_mut.ensures.value) c.self.invariant.runs.long

pub month_over-degree-requires-clause-work : goal.month_over-degree-requires-clause-work
month_over-degree-requires-clause-work g c =
    let product_is = c.requires.product ∙ sym (ap (λ (s : BackwardSweep). s.product) c.self.view_is) in
    rw product_is c.self.invariant.runs.room

pub month_over-degree-requires-clause-some : goal.month_over-degree-requires-clause-some
month_over-degree-requires-clause-some g c =
    let left : 0 < c.self.inside.months_left =
    rw (ap (λ (s : BackwardSweep). s.months_left) c.self.view_is) c.requires.left in
    let product_is = c.requires.product ∙ sym (ap (λ (s : BackwardSweep). s.product) c.self.view_is) in
    rw (product_is, c.deref_mut.ensures.value)
    (some_near _ _ _ _ _ _ c.self.invariant.runs (c.self.inside.months_left - 1) (omega (arith, left)))

pub invariant_of-self : goal.invariant_of-self
invariant_of-self g c =
    let left : 0 < c.self.inside.months_left =
    rw (ap (λ (s : BackwardSweep). s.months_left) c.self.view_is) c.requires.left in
    let product_is = c.requires.product ∙ sym (ap (λ (s : BackwardSweep). s.product) c.self.view_is) in
    let runs = keeps_written _ _ _ _ _ _ c.month_over-degree.new.mid c.self.inside.mid.items
    (c.month_over-degree.auto.mid ∙ c.deref_mut.ensures.len)
    (keeps_month_of _ _ _ _ _ _ c.self.invariant.runs (c.self.inside.months_left - 1) (omega (arith, left))
    c.args.adm.now c.deref_mut.result.now product_is c.deref_mut.ensures.value c.month_over-degree.result
    c.max-self-inside.result
    c.radius-radius.result c.month_over-degree.new.work c.month_over-degree.new.system c.month_over-degree.new.mid
    c.month_over-degree.ensures.near c.month_over-degree.ensures.highest c.max-self-inside.ensures
    c.radius-radius.ensures.value
    c.radius-radius.ensures.most c.month_over-degree.ensures.places c.month_over-degree.ensures.work
    c.month_over-degree.auto.mid) in
    record { runs = runs; maps_are = c.self.invariant.maps_are }
