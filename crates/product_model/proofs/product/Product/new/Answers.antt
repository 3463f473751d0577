use Rattle.std.proofs.lemmas.Int.{to_z-of_z}
use Rattle.product_model.proofs.WellFormed.{lawful_parts_are_well_formed}
use Rattle.product_model.proofs.product.Product.new.Goals as goal

pub invariant_of-result : goal.invariant_of-result
invariant_of-result c =
    let fits = c.ranges.den in
    rw to_z-of_z
    (record {
      fit = c.requires;
      well_formed = lawful_parts_are_well_formed _ c.requires
          (record {
            graph = c.graph_is_lawful.ensures;
            interest = c.curve_is_lawful.ensures;
            rates = rw c.deref.ensures.value at c.curves_are_lawful.ensures;
            payments = c.plan_is_lawful.ensures;
          });
    })
