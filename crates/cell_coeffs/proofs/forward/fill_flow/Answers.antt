use Rattle.std.proofs.Common.{◌≡◌, ap, sym, ◌∙◌, arith, inl, inr, rules}
use Rattle.std.proofs.Common.{FitsSigned, to_z, of_z}
use Rattle.std.specs.Prelude.{unsigned_abs}
use Rattle.std.specs.Int.{w64}
use Rattle.std.proofs.lemmas.Bool.{cases_lt}
use Rattle.std.proofs.lemmas.Int.{to_z-of_z}
use Rattle.model_specs.specs.Systems.{intensity_at}
use Rattle.product_cells.specs.EachCell.{forward_cell}
use Rattle.cell_coeffs.proofs.Near.{stored_of_near}
use Rattle.cell_coeffs.proofs.Links.{found_inside, adds_near, adds_none, stored_zero}
use Rattle.cell_coeffs.proofs.ForwardCells.{flow-found, flow-none, flow_near}
use Rattle.cell_coeffs.proofs.forward.fill_flow.Goals as goal

pub rate-requires : goal.rate-requires
rate-requires c =
    found_inside c.args.p.now c.args.from c.args.to c.in-Some.e (sym c.transition_between.ensures ∙ c.in-Some.is)

pub numbers_in-rate-requires-clause-small : goal.numbers_in-rate-requires-clause-small
numbers_in-rate-requires-clause-small c =
    let den_fits : FitsSigned w64 c.den.result = search rules in
    let found = sym c.transition_between.ensures ∙ c.in-Some.is in
    simp to_z-of_z (rw (c.den.ensures.value, c.rate.ensures.curve)
    (λ m. rw (← flow-found c.args.p.now c.args.month c.args.cell c.args.from c.args.to c.in-Some.e m found)
    (c.requires.small.flows c.args.from c.args.to m c.requires.from c.requires.to)))

pub returns-in-Some-clause-leaving : goal.returns-in-Some-clause-leaving
returns-in-Some-clause-leaving c =
    let den_fits : FitsSigned w64 c.den.result = search rules in
    let is_den : unsigned_abs (to_z w64 (of_z w64 c.den.result)) ≡ c.args.p.now.den =
    simp to_z-of_z (ap unsigned_abs c.den.ensures.value) in
    adds_near 2 (intensity_at (forward_cell c.args.p.now c.args.month c.args.cell) c.args.from c.args.to)
    c.args.leaving.now c.add.new.numbers c.numbers_in-rate.result
    (λ m few. flow_near c.args.p.now c.args.month c.args.cell c.args.from c.args.to c.in-Some.e
    (sym c.transition_between.ensures ∙ c.in-Some.is) (unsigned_abs (to_z w64 (of_z w64 c.den.result)))
    c.rate.result.now.pieces c.numbers_in-rate.result is_den (ap (λ q. q.pieces) c.rate.ensures.curve)
    c.numbers_in-rate.ensures.near m) c.add.ensures

pub returns-in-Some-clause-flow : goal.returns-in-Some-clause-flow
returns-in-Some-clause-flow c =
    let den_fits : FitsSigned w64 c.den.result = search rules in
    let is_den : unsigned_abs (to_z w64 (of_z w64 c.den.result)) ≡ c.args.p.now.den =
    simp to_z-of_z (ap unsigned_abs c.den.ensures.value) in
    λ m none. elim (cases_lt m 6) [
      | inl low ↦ rw (c.put.ensures.here m low)
          (stored_of_near 2 _ _ (omega arith) (flow_near c.args.p.now c.args.month c.args.cell c.args.from c.args.to
          c.in-Some.e (sym c.transition_between.ensures ∙ c.in-Some.is)
          (unsigned_abs (to_z w64 (of_z w64 c.den.result))) c.rate.result.now.pieces c.numbers_in-rate.result
          is_den (ap (λ q. q.pieces) c.rate.ensures.curve) c.numbers_in-rate.ensures.near m))
      | inr high ↦ stored_zero _ _ (c.requires.small.none c.args.from c.args.to m high)
          (c.put.ensures.higher m high ∙ none)
    ]

pub returns-in_default-clause-leaving : goal.returns-in_default-clause-leaving
returns-in_default-clause-leaving c =
    adds_none 2 (intensity_at (forward_cell c.args.p.now c.args.month c.args.cell) c.args.from c.args.to)
    c.args.leaving.now (λ m. flow-none c.args.p.now c.args.month c.args.cell c.args.from c.args.to m
    (sym c.transition_between.ensures ∙ c.in_default.is))

pub returns-in_default-clause-flow : goal.returns-in_default-clause-flow
returns-in_default-clause-flow c =
    λ m none. stored_zero _ _ (flow-none c.args.p.now c.args.month c.args.cell c.args.from c.args.to m
    (sym c.transition_between.ensures ∙ c.in_default.is)) none
