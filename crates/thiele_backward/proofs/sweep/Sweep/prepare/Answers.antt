use Rattle.std.proofs.Common.{◌∙◌, ap, length}
use Rattle.std.specs.Prelude.{pos, replicate}
use Rattle.model_specs.specs.Product.{Product}
use Rattle.state_graph.specs.StateGraphs.{StateGraph}
use Rattle.thiele_backward.proofs.KeptRuns.{some_at_term}
use Rattle.thiele_backward.proofs.sweep.Sweep.prepare.Goals as goal

pub begin-requires-clause-start : goal.begin-requires-clause-start
begin-requires-clause-start g c =
    let product_is = c.product-product.ensures.product in
    let states = c.states.ensures.count ∙ ap (λ (g : StateGraph). length g.names) c.graph.ensures.graph
    ∙ ap (λ (p : Product). length p.states) product_is in
    some_at_term c.args.which c.args.adm.now c.months.result c.in_ok-zeros.zeros.items
    (c.months.ensures.value ∙ ap (λ (p : Product). p.months) product_is)
    (c.in_ok-zeros.ensures ∙ ap (λ k. replicate k (pos 0)) states)
