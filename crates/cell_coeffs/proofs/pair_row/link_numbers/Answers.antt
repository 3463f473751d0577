use Rattle.std.proofs.Common.{sym, ◌∙◌, rules, FitsSigned}
use Rattle.std.specs.Int.{w64}
use Rattle.std.proofs.lemmas.Int.{to_z-of_z}
use Rattle.std.proofs.lemmas.List.{length-map}
use Rattle.payment_plan.specs.Records.{record_of}
use Rattle.cell_bounds.specs.ScaledSystems.{scaling}
use Rattle.cell_coeffs.proofs.Links.{found_inside, intensity-found, sum_small}
use Rattle.cell_coeffs.proofs.pair_row.link_numbers.Goals as goal

pub rate-requires : goal.rate-requires
rate-requires c =
    found_inside c.args.p.now c.args.from c.args.to c.in_ok-e.e (sym c.transition_between.ensures ∙ c.in_ok-e.was)

pub curve_numbers-rate-requires-clause-small : goal.curve_numbers-rate-requires-clause-small
curve_numbers-rate-requires-clause-small c =
    let den_fits : FitsSigned w64 c.den.result = search rules in
    let found = sym c.transition_between.ensures ∙ c.in_ok-e.was in
    simp to_z-of_z (rw (c.den.ensures.value, c.rate.ensures.curve)
    (λ m. rw (← intensity-found c.args.p.now c.args.at.which c.args.at.month c.args.at.cell c.args.from c.args.to
    c.in_ok-e.e m found)
    (c.requires.small.intensity_most c.args.from c.args.to c.requires.from c.requires.to m)))

pub sum_at-step-requires-clause-transition : goal.sum_at-step-requires-clause-transition
sum_at-step-requires-clause-transition c =
    rw (c.plan.ensures.payments, length-map c.args.p.now.transitions)
    (found_inside c.args.p.now c.args.from c.args.to c.in_ok-e.e
    (sym c.transition_between.ensures ∙ c.in_ok-e.was))

pub sum_numbers-sum-requires-clause-small : goal.sum_numbers-sum-requires-clause-small
sum_numbers-sum-requires-clause-small c =
    sum_small c.args.p.now c.args.at.which c.args.at.month c.args.at.cell c.args.from c.args.to c.in_ok-e.e
    (sym c.transition_between.ensures ∙ c.in_ok-e.was) (scaling c.args.at.g) (record_of c.sum_at-step.result)
    (rw c.plan.ensures.payments at c.sum_at-step.ensures.step) (c.requires.small.sums_most c.args.from c.args.to)
