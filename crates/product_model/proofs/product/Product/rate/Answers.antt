use Rattle.std.proofs.Common.{sym, arith}
use Rattle.product_model.specs.Parts.{Parts, parts_of}
use Rattle.product_model.proofs.PartsAgree.{transition_count_of_parts, rate_of_parts}
use Rattle.product_model.proofs.product.Product.rate.Goals as goal

pub index-requires : goal.index-requires
index-requires c =
    let p = c.self.inside in
    let parts : Parts = parts_of p.name.items p.graph p.start p.months p.den p.interest p.rates.items p.plan in
    let inside = rw (← c.self.view_is) at c.requires in
    omega (arith, inside, transition_count_of_parts parts, c.self.invariant.fit.rate_count)

pub returns-clause-curve : goal.returns-clause-curve
returns-clause-curve c =
    let p = c.self.inside in
    let parts : Parts = parts_of p.name.items p.graph p.start p.months p.den p.interest p.rates.items p.plan in
    let inside = rw (← c.self.view_is) at c.requires in
    rw (← c.self.view_is)
    (sym (rate_of_parts parts c.args.transition _ c.self.invariant.fit inside c.index.ensures))
