use Rattle.std.proofs.Common.{◌≡◌, ℕ, ap, sym, ◌∙◌, arith, inl, inr, rules}
use Rattle.std.proofs.Common.{FitsSigned, to_z, of_z}
use Rattle.std.specs.Prelude.{unsigned_abs}
use Rattle.std.specs.Int.{w64}
use Rattle.std.proofs.lemmas.Bool.{cases_lt}
use Rattle.std.proofs.lemmas.Int.{to_z-of_z}
use Rattle.std.proofs.lemmas.List.{length-map}
use Rattle.frac_laws.specs.Fraction.{◌*ℚ◌}
use Rattle.model_specs.specs.Systems.{intensity_at, sum_paid_at, first_payment_at}
use Rattle.payment_plan.specs.Records.{record_of}
use Rattle.cell_bounds.specs.ScaledSystems.{scaling}
use Rattle.cell_coeffs.specs.Rows.{cell_at}
use Rattle.cell_coeffs.proofs.Near.{stored_of_near}
use Rattle.cell_coeffs.proofs.PaidNear.{paid_near, rates_fit}
use Rattle.cell_coeffs.proofs.Links.{found_inside, intensity-found, intensity-none, paid-none, adds_near, adds_none}
use Rattle.cell_coeffs.proofs.Links.{rate_near, rate_beyond, sum_small, sum_near, stored_zero}
use Rattle.cell_coeffs.proofs.row.fill_link.Goals as goal

pub rate-requires : goal.rate-requires
rate-requires c =
    found_inside c.args.p.now c.args.from c.args.to c.in-Some.e (sym c.transition_between.ensures ∙ c.in-Some.is)

pub curve_numbers-rate-requires-clause-small : goal.curve_numbers-rate-requires-clause-small
curve_numbers-rate-requires-clause-small c =
    let den_fits : FitsSigned w64 c.den.result = search rules in
    let found = sym c.transition_between.ensures ∙ c.in-Some.is in
    simp to_z-of_z (rw (c.den.ensures.value, c.rate.ensures.curve)
    (λ m. rw (← intensity-found c.args.p.now c.args.at.which c.args.at.month c.args.at.cell c.args.from c.args.to
    c.in-Some.e m found)
    (c.requires.small.intensity_most c.args.from c.args.to c.requires.from c.requires.to m)))

pub sum_at-step-requires-clause-transition : goal.sum_at-step-requires-clause-transition
sum_at-step-requires-clause-transition c =
    rw (c.plan.ensures.payments, length-map c.args.p.now.transitions)
    (found_inside c.args.p.now c.args.from c.args.to c.in-Some.e
    (sym c.transition_between.ensures ∙ c.in-Some.is))

pub sum_numbers-sum-requires-clause-small : goal.sum_numbers-sum-requires-clause-small
sum_numbers-sum-requires-clause-small c =
    sum_small c.args.p.now c.args.at.which c.args.at.month c.args.at.cell c.args.from c.args.to c.in-Some.e
    (sym c.transition_between.ensures ∙ c.in-Some.is) (scaling c.args.at.g) (record_of c.sum_at-step.result)
    (rw c.plan.ensures.payments at c.sum_at-step.ensures.step) (c.requires.small.sums_most c.args.from c.args.to)

pub paid_all-requires-clause-rates : goal.paid_all-requires-clause-rates
paid_all-requires-clause-rates c =
    let den_fits : FitsSigned w64 c.den.result = search rules in
    let is_den : unsigned_abs (to_z w64 (of_z w64 c.den.result)) ≡ c.args.p.now.den =
    simp to_z-of_z (ap unsigned_abs c.den.ensures.value) in
    rates_fit (intensity_at (cell_at c.args.p.now c.args.at.which c.args.at.month c.args.at.cell) c.args.from c.args.to)
    (sum_paid_at (cell_at c.args.p.now c.args.at.which c.args.at.month c.args.at.cell) c.args.from c.args.to)
    (scaling c.args.at.g) c.curve_numbers-rate.result c.sum_numbers-sum.result
    (rate_near c.args.p.now c.args.at.which c.args.at.month c.args.at.cell c.args.from c.args.to c.in-Some.e
    (sym c.transition_between.ensures ∙ c.in-Some.is)
    (unsigned_abs (to_z w64 (of_z w64 c.den.result))) c.rate.result.now.pieces c.curve_numbers-rate.result is_den
    (ap (λ q. q.pieces) c.rate.ensures.curve)
    c.curve_numbers-rate.ensures.near)
    (sum_near c.args.p.now c.args.at.which c.args.at.month c.args.at.cell c.args.from c.args.to c.in-Some.e
    (sym c.transition_between.ensures ∙ c.in-Some.is)
    (scaling c.args.at.g) (record_of c.sum_at-step.result) c.sum_numbers-sum.result
    (rw c.plan.ensures.payments at c.sum_at-step.ensures.step) c.sum_numbers-sum.ensures.near)
    (c.requires.small.intensity c.args.from c.args.to c.requires.from c.requires.to)
    (c.requires.small.sums c.args.from c.args.to)

pub returns-in-Some-clause-leaving : goal.returns-in-Some-clause-leaving
returns-in-Some-clause-leaving c =
    let den_fits : FitsSigned w64 c.den.result = search rules in
    let is_den : unsigned_abs (to_z w64 (of_z w64 c.den.result)) ≡ c.args.p.now.den =
    simp to_z-of_z (ap unsigned_abs c.den.ensures.value) in
    adds_near 2 (intensity_at (cell_at c.args.p.now c.args.at.which c.args.at.month c.args.at.cell) c.args.from
    c.args.to)
    c.args.leaving.now c.add.new.numbers c.curve_numbers-rate.result
    (λ m few. rate_near c.args.p.now c.args.at.which c.args.at.month c.args.at.cell c.args.from c.args.to c.in-Some.e
    (sym c.transition_between.ensures ∙ c.in-Some.is)
    (unsigned_abs (to_z w64 (of_z w64 c.den.result))) c.rate.result.now.pieces c.curve_numbers-rate.result is_den
    (ap (λ q. q.pieces) c.rate.ensures.curve)
    c.curve_numbers-rate.ensures.near m) c.add.ensures

pub returns-in-Some-clause-free : goal.returns-in-Some-clause-free
returns-in-Some-clause-free c =
    let den_fits : FitsSigned w64 c.den.result = search rules in
    let is_den : unsigned_abs (to_z w64 (of_z w64 c.den.result)) ≡ c.args.p.now.den =
    simp to_z-of_z (ap unsigned_abs c.den.ensures.value) in
    adds_near 5 (λ (m : ℕ). scaling c.args.at.g *ℚ first_payment_at
    (cell_at c.args.p.now c.args.at.which c.args.at.month c.args.at.cell) c.args.from c.args.to m)
    c.args.free.now c.add-in-Some.new.numbers c.paid_all.result
    (λ m few. rw (c.paid_all.ensures.value m few)
    (paid_near (intensity_at (cell_at c.args.p.now c.args.at.which c.args.at.month c.args.at.cell) c.args.from
    c.args.to)
    (sum_paid_at (cell_at c.args.p.now c.args.at.which c.args.at.month c.args.at.cell) c.args.from c.args.to)
    (scaling c.args.at.g) c.curve_numbers-rate.result c.sum_numbers-sum.result
    (rate_near c.args.p.now c.args.at.which c.args.at.month c.args.at.cell c.args.from c.args.to c.in-Some.e
    (sym c.transition_between.ensures ∙ c.in-Some.is)
    (unsigned_abs (to_z w64 (of_z w64 c.den.result))) c.rate.result.now.pieces c.curve_numbers-rate.result is_den
    (ap (λ q. q.pieces) c.rate.ensures.curve)
    c.curve_numbers-rate.ensures.near)
    (sum_near c.args.p.now c.args.at.which c.args.at.month c.args.at.cell c.args.from c.args.to c.in-Some.e
    (sym c.transition_between.ensures ∙ c.in-Some.is)
    (scaling c.args.at.g) (record_of c.sum_at-step.result) c.sum_numbers-sum.result
    (rw c.plan.ensures.payments at c.sum_at-step.ensures.step) c.sum_numbers-sum.ensures.near)
    (c.requires.small.intensity c.args.from c.args.to c.requires.from c.requires.to)
    (c.requires.small.sums c.args.from c.args.to) m few))
    c.add-in-Some.ensures

pub returns-in-Some-clause-link : goal.returns-in-Some-clause-link
returns-in-Some-clause-link c =
    let den_fits : FitsSigned w64 c.den.result = search rules in
    let is_den : unsigned_abs (to_z w64 (of_z w64 c.den.result)) ≡ c.args.p.now.den =
    simp to_z-of_z (ap unsigned_abs c.den.ensures.value) in
    λ m none. elim (cases_lt m 6) [
      | inl low ↦ rw (c.put.ensures.here m low)
          (stored_of_near 2 _ _ (omega arith) (rate_near c.args.p.now c.args.at.which c.args.at.month c.args.at.cell
          c.args.from c.args.to c.in-Some.e
          (sym c.transition_between.ensures ∙ c.in-Some.is)
          (unsigned_abs (to_z w64 (of_z w64 c.den.result))) c.rate.result.now.pieces c.curve_numbers-rate.result
          is_den (ap (λ q. q.pieces) c.rate.ensures.curve)
          c.curve_numbers-rate.ensures.near m))
      | inr high ↦ stored_zero _ _ (rate_beyond c.args.p.now c.args.at.which c.args.at.month c.args.at.cell
          c.args.from c.args.to c.in-Some.e
          (sym c.transition_between.ensures ∙ c.in-Some.is)
          (unsigned_abs (to_z w64 (of_z w64 c.den.result))) c.rate.result.now.pieces is_den
          (ap (λ q. q.pieces) c.rate.ensures.curve) c.curve_numbers-rate.ensures.beyond m high)
          (c.put.ensures.higher m high ∙ none)
    ]

pub returns-in_default-clause-leaving : goal.returns-in_default-clause-leaving
returns-in_default-clause-leaving c =
    adds_none 2 (intensity_at (cell_at c.args.p.now c.args.at.which c.args.at.month c.args.at.cell) c.args.from
    c.args.to)
    c.args.leaving.now (λ m. intensity-none c.args.p.now c.args.at.which c.args.at.month c.args.at.cell c.args.from
    c.args.to m
    (sym c.transition_between.ensures ∙ c.in_default.is))

pub returns-in_default-clause-free : goal.returns-in_default-clause-free
returns-in_default-clause-free c =
    adds_none 5 (λ (m : ℕ). scaling c.args.at.g *ℚ first_payment_at
    (cell_at c.args.p.now c.args.at.which c.args.at.month c.args.at.cell) c.args.from c.args.to m)
    c.args.free.now (λ m. paid-none c.args.p.now c.args.at.which c.args.at.month c.args.at.cell c.args.from c.args.to
    (scaling c.args.at.g) m
    (sym c.transition_between.ensures ∙ c.in_default.is))

pub returns-in_default-clause-link : goal.returns-in_default-clause-link
returns-in_default-clause-link c =
    λ m none. stored_zero _ _ (intensity-none c.args.p.now c.args.at.which c.args.at.month c.args.at.cell c.args.from
    c.args.to m
    (sym c.transition_between.ensures ∙ c.in_default.is)) none
