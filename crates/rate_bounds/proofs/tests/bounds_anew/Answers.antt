use Rattle.rate_bounds.proofs.tests.bounds_anew.Goals as goal

pub month_bounds-requires-clause-rules : goal.month_bounds-requires-clause-rules
month_bounds-requires-clause-rules c =
    let obeys = c.admissible_products_obey.ensures c.args.admitted.now c.product.ensures.admissible in
    rw c.product.ensures.product (obeys c.args.month c.requires)
