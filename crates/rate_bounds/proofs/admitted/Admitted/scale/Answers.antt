use Rattle.std.proofs.Common.{arith}
use Rattle.rate_bounds.proofs.admitted.Admitted.scale.Goals as goal

pub returns-in-Pattern-clause-most : goal.returns-in-Pattern-clause-most
returns-in-Pattern-clause-most c =
    let admissible = c.self.invariant.admissible in
    let small = c.pattern_bound_stays_small.ensures c.self.inside.product admissible.well_formed
    (c.admissible_products_obey.ensures c.self.inside.product admissible) in
    omega (arith, c.self.invariant.ledgers.pattern_scale, small.scale)
