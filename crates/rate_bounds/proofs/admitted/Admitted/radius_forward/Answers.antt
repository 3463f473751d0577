use Rattle.std.proofs.Common.{◌^◌, suc, arith, ap, ◌∙◌}
use Rattle.model_specs.specs.Ledgers.{radius_forward}
use Rattle.rate_bounds.proofs.DatedRadii.{number_there, numbers_count, below_same}
use Rattle.rate_bounds.proofs.admitted.Admitted.radius_forward.Goals as goal

pub index-requires : goal.index-requires
index-requires c =
    let p = c.self.inside.product in
    let same = ap (λ q. q.months) c.self.view_is in
    let count = numbers_count (radius_forward p) (suc p.months) c.self.inside.ledgers.forwards.items
    c.self.invariant.ledgers.forward in
    omega (arith, count, c.requires, same)

pub returns-clause-value : goal.returns-clause-value
returns-clause-value c =
    let p = c.self.inside.product in
    let same = ap (λ q. q.months) c.self.view_is in
    number_there (radius_forward p) (suc p.months) c.args.month c.index.result.now
    c.self.inside.ledgers.forwards.items c.self.invariant.ledgers.forward (omega (arith, c.requires, same))
    c.index.ensures
    ∙ ap (λ q. radius_forward q c.args.month) c.self.view_is

pub returns-clause-most : goal.returns-clause-most
returns-clause-most c =
    let p = c.self.inside.product in
    let admissible = c.self.invariant.admissible in
    let same = ap (λ q. q.months) c.self.view_is in
    below_same c.index.result.now (radius_forward p c.args.month) (2 ^ 39)
    (number_there (radius_forward p) (suc p.months) c.args.month c.index.result.now
    c.self.inside.ledgers.forwards.items c.self.invariant.ledgers.forward (omega (arith, c.requires, same))
    c.index.ensures)
    (c.radii_stay_small.ensures.dates p admissible.well_formed (c.admissible_products_obey.ensures p admissible)
    c.args.month (omega (arith, c.requires, same))).forward_below
