use Rattle.std.proofs.Common.{◌∙◌, ap, length}
use Rattle.model_specs.specs.Product.{Product}
use Rattle.state_graph.specs.StateGraphs.{StateGraph}
use Rattle.cell_coeffs.proofs.RowSteps.{made_kept}
use Rattle.thiele_backward.proofs.KeptRuns.{keeps_begun}
use Rattle.thiele_backward.proofs.sweep.Sweep.begin.Goals as goal

pub make-requires-clause-made : goal.make-requires-clause-made
make-requires-clause-made g c = rw c.product-product.ensures.product at c.in_ok-system.ensures

pub make-requires-clause-work : goal.make-requires-clause-work
make-requires-clause-work g c =
    c.in_ok-work.ensures ∙ c.states.ensures.count
    ∙ ap (λ (g : StateGraph). length g.names) c.graph.ensures.graph
    ∙ ap (λ (p : Product). length p.states) c.product-product.ensures.product

pub invariant_of-result : goal.invariant_of-result
invariant_of-result g c =
    let product_is = c.of-valued.ensures ∙ c.product-product.ensures.product in
    let made = rw c.product-product.ensures.product at c.in_ok-system.ensures in
    let room = c.in_ok-work.ensures ∙ c.states.ensures.count
    ∙ ap (λ (g : StateGraph). length g.names) c.graph.ensures.graph
    ∙ ap (λ (p : Product). length p.states) c.product-product.ensures.product in
    record {
      runs = rw (product_is, c.of-begun_at.ensures, c.of-begun_from.ensures)
          (keeps_begun c.args.adm.now c.args.which c.args.months_left c.scale-scale.result c.radius-radius.result
          c.make.new.system c.make.new.work c.args.mid.items c.product-product.ensures.admissible c.requires.date
          c.scale-scale.ensures.value c.scale-scale.ensures.most c.radius-radius.ensures.value
          c.radius-radius.ensures.most (made_kept c.args.adm.now _ _ c.make.ensures.places made)
          (c.make.ensures.work ∙ room) c.requires.numbers c.requires.start);
      maps_are = rw product_is c.in_ok-maps.ensures.made;
    }
