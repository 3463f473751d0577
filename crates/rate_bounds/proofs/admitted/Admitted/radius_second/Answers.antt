use Rattle.std.proofs.Common.{◌-◌, ◌^◌, suc, arith, ap, ◌∙◌}
use Rattle.model_specs.specs.Payments.{payment_plan}
use Rattle.model_specs.specs.Ledgers.{scale, second_radius, second_before_term}
use Rattle.rate_bounds.proofs.DatedRadii.{number_there, numbers_count, below_same}
use Rattle.rate_bounds.proofs.admitted.Admitted.radius_second.Goals as goal

pub index-requires : goal.index-requires
index-requires c =
    let p = c.self.inside.product in
    let count = numbers_count (second_before_term p (payment_plan p) (2 ^ scale p (payment_plan p))) (suc p.months)
    c.self.inside.ledgers.seconds.items c.self.invariant.ledgers.second in
    omega (arith, count, c.months.ensures.value)

pub returns-clause-value : goal.returns-clause-value
returns-clause-value c =
    let p = c.self.inside.product in
    let months = c.months.ensures.value in
    number_there (second_before_term p (payment_plan p) (2 ^ scale p (payment_plan p))) (suc p.months)
    (c.months.result - c.args.month) c.index.result.now c.self.inside.ledgers.seconds.items
    c.self.invariant.ledgers.second
    (omega (arith, months)) c.index.ensures
    ∙ ap (λ n. second_before_term p (payment_plan p) (2 ^ scale p (payment_plan p)) (n - c.args.month)) months
    ∙ ap (λ q. second_radius q c.args.month) c.self.view_is

pub returns-clause-most : goal.returns-clause-most
returns-clause-most c =
    let p = c.self.inside.product in
    let months = c.months.ensures.value in
    let admissible = c.self.invariant.admissible in
    below_same c.index.result.now (second_radius p c.args.month) (2 ^ 41)
    (number_there (second_before_term p (payment_plan p) (2 ^ scale p (payment_plan p))) (suc p.months)
    (c.months.result - c.args.month) c.index.result.now c.self.inside.ledgers.seconds.items
    c.self.invariant.ledgers.second
    (omega (arith, months)) c.index.ensures
    ∙ ap (λ n. second_before_term p (payment_plan p) (2 ^ scale p (payment_plan p)) (n - c.args.month)) months)
    ((c.second_stays_small.ensures p admissible.well_formed (c.admissible_products_obey.ensures p admissible)).dates
    c.args.month)
