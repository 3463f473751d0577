use Rattle.std.proofs.Common.{sym}
use Rattle.product_model.specs.Parts.{Parts, parts_of}
use Rattle.product_model.proofs.PartsAgree.{graph_of_parts}
use Rattle.product_model.proofs.product.Product.graph.Goals as goal

pub returns-clause-graph : goal.returns-clause-graph
returns-clause-graph c =
    let p = c.self.inside in
    let parts : Parts = parts_of p.name.items p.graph p.start p.months p.den p.interest p.rates.items p.plan in
    rw (← c.self.view_is) (sym (graph_of_parts parts))
