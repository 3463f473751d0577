use Rattle.std.proofs.Common.{arith}
use Rattle.product_model.specs.Parts.{Parts, parts_of}
use Rattle.product_model.proofs.PartsAgree.{transition_count_of_parts}
use Rattle.product_model.proofs.product.Product.transitions.Goals as goal

pub returns-clause-count : goal.returns-clause-count
returns-clause-count c =
    let p = c.self.inside in
    let parts : Parts = parts_of p.name.items p.graph p.start p.months p.den p.interest p.rates.items p.plan in
    rw (← c.self.view_is)
    (omega (arith, c.len.ensures, c.self.invariant.fit.rate_count, transition_count_of_parts parts))
