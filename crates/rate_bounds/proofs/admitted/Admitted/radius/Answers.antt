use Rattle.std.proofs.Common.{◌-◌, ◌^◌, suc, arith, ap, ◌∙◌}
use Rattle.model_specs.specs.Ledgers.{radius, radius_before_term}
use Rattle.rate_bounds.proofs.DatedRadii.{number_there, numbers_count, below_same}
use Rattle.rate_bounds.proofs.admitted.Admitted.radius.Goals as goal

pub index-requires : goal.index-requires
index-requires c =
    let p = c.self.inside.product in
    let count = numbers_count (radius_before_term p) (suc p.months) c.self.inside.ledgers.radii.items
    c.self.invariant.ledgers.backward in
    omega (arith, count, c.months.ensures.value)

pub returns-clause-value : goal.returns-clause-value
returns-clause-value c =
    let p = c.self.inside.product in
    let months = c.months.ensures.value in
    number_there (radius_before_term p) (suc p.months) (c.months.result - c.args.month) c.index.result.now
    c.self.inside.ledgers.radii.items c.self.invariant.ledgers.backward (omega (arith, months)) c.index.ensures
    ∙ ap (λ n. radius_before_term p (n - c.args.month)) months
    ∙ ap (λ q. radius q c.args.month) c.self.view_is

pub returns-clause-most : goal.returns-clause-most
returns-clause-most c =
    let p = c.self.inside.product in
    let months = c.months.ensures.value in
    let admissible = c.self.invariant.admissible in
    let same = ap (λ q. q.months) c.self.view_is in
    below_same c.index.result.now (radius p c.args.month) (2 ^ 39)
    (number_there (radius_before_term p) (suc p.months) (c.months.result - c.args.month) c.index.result.now
    c.self.inside.ledgers.radii.items c.self.invariant.ledgers.backward (omega (arith, months)) c.index.ensures
    ∙ ap (λ n. radius_before_term p (n - c.args.month)) months)
    (c.radii_stay_small.ensures.dates p admissible.well_formed (c.admissible_products_obey.ensures p admissible)
    c.args.month (omega (arith, c.requires, same))).backward_below
