use Rattle.std.proofs.Common.{◌∙◌, ap, length}
use Rattle.model_specs.specs.Product.{Product}
use Rattle.state_graph.specs.StateGraphs.{StateGraph}
use Rattle.kolmogorov_forward.proofs.KeptRuns.{keeps_begun}
use Rattle.kolmogorov_forward.proofs.sweep.Sweep.prepare.Goals as goal

pub invariant_of-result : goal.invariant_of-result
invariant_of-result c =
    let product_is = c.of-valued.ensures ∙ c.product-product.ensures.product in
    let states = c.states-states.ensures.count ∙ ap (λ (g : StateGraph). length g.names) c.graph.ensures.graph
    ∙ ap (λ (p : Product). length p.states) c.product-product.ensures.product in
    rw product_is
    (keeps_begun c.args.adm.now c.radius_forward-radius.result c.in_ok-system.system c.in_ok-work.work
    c.states-states.result c.start.result c.in_ok-mid.mid.items c.product-product.ensures.admissible
    c.radius_forward-radius.ensures.value c.radius_forward-radius.ensures.most
    (rw c.product-product.ensures.product at c.in_ok-system.ensures) c.in_ok-work.ensures states
    (c.start.ensures.value ∙ ap (λ (p : Product). p.start) c.product-product.ensures.product) c.in_ok-mid.ensures)
