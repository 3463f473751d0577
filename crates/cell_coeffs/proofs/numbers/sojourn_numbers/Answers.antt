use Rattle.std.proofs.Common.{◌*◌, ◌^◌, ℕ, arith, rules, FitsSigned}
use Rattle.std.specs.Int.{w128}
use Rattle.std.proofs.lemmas.Nat.{pow_pos}
use Rattle.frac_laws.specs.Fraction.{◌*ℚ◌}
use Rattle.frac_laws.specs.Lists.{number_at}
use Rattle.model_specs.specs.Cells.{amount_cell, per_cell, cells_of_32, Backward}
use Rattle.payment_plan.specs.Records.{record_of}
use Rattle.cell_bounds.specs.ScaledSystems.{scaling}
use Rattle.cell_coeffs.proofs.Amounts.{rate_scale, rate_is, year_scale_small}
use Rattle.cell_coeffs.proofs.Numerators.{fine_within, fine_near}
use Rattle.cell_coeffs.proofs.numbers.sojourn_numbers.Goals as goal

pub fine_all-requires-clause-small : goal.fine_all-requires-clause-small
fine_all-requires-clause-small c =
    let pow_fits : FitsSigned w128 c.pow.result = search rules in
    rw (rate_scale c.args.g c.pow.result pow_fits c.pow.ensures c.requires.scale)
    (year_scale_small c.args.g c.requires.scale)

pub fine_all-requires-clause-within : goal.fine_all-requires-clause-within
fine_all-requires-clause-within c =
    let pow_fits : FitsSigned w128 c.pow.result = search rules in
    rw (rate_scale c.args.g c.pow.result pow_fits c.pow.ensures c.requires.scale)
    (fine_within (λ (m : ℕ). scaling c.args.g *ℚ number_at
    (per_cell (cells_of_32 Backward) (amount_cell (cells_of_32 Backward) (record_of c.args.step.now) c.args.month
    c.args.cell)) m)
    c.amount_cell-n.result c.amount_cell-n.result (384 ^ 4 * 2 ^ c.args.g) (omega (arith, pow_pos c.args.g))
    (λ m. rate_is c.amount_cell-n.result (amount_cell (cells_of_32 Backward) (record_of c.args.step.now) c.args.month
    c.args.cell)
    c.args.g m c.amount_cell-n.ensures.polynomial) c.requires.small)

pub returns-clause-near : goal.returns-clause-near
returns-clause-near c =
    let pow_fits : FitsSigned w128 c.pow.result = search rules in
    let value =
    rw (rate_scale c.args.g c.pow.result pow_fits c.pow.ensures c.requires.scale) at c.fine_all.ensures.value in
    fine_near (λ (m : ℕ). scaling c.args.g *ℚ number_at
    (per_cell (cells_of_32 Backward) (amount_cell (cells_of_32 Backward) (record_of c.args.step.now) c.args.month
    c.args.cell)) m)
    c.amount_cell-n.result c.fine_all.result (384 ^ 4 * 2 ^ c.args.g) (omega (arith, pow_pos c.args.g))
    (λ m. rate_is c.amount_cell-n.result (amount_cell (cells_of_32 Backward) (record_of c.args.step.now) c.args.month
    c.args.cell)
    c.args.g m c.amount_cell-n.ensures.polynomial) value c.fine_all.ensures.none
