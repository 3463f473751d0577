use Rattle.std.proofs.Common.{◌*◌, ◌^◌, ℕ, arith, rules, FitsSigned}
use Rattle.std.specs.Int.{w128}
use Rattle.std.proofs.lemmas.Nat.{pow_pos}
use Rattle.frac_laws.specs.Fraction.{◌*ℚ◌}
use Rattle.frac_laws.specs.Lists.{number_at}
use Rattle.model_specs.specs.Cells.{amount_cell, cells_of_32, Backward}
use Rattle.payment_plan.specs.Records.{record_of}
use Rattle.cell_bounds.specs.ScaledSystems.{scaling}
use Rattle.cell_coeffs.proofs.Amounts.{sum_scale, sum_is}
use Rattle.cell_coeffs.proofs.Numerators.{coarse_within, coarse_near}
use Rattle.cell_coeffs.proofs.numbers.sum_numbers.Goals as goal

pub coarse_all-requires-clause-within : goal.coarse_all-requires-clause-within
coarse_all-requires-clause-within c =
    let pow_fits : FitsSigned w128 c.pow.result = search rules in
    rw (sum_scale c.args.g c.pow.result pow_fits c.pow.ensures c.requires.scale)
    (coarse_within (λ (m : ℕ). scaling c.args.g *ℚ number_at
    (amount_cell (cells_of_32 Backward) (record_of c.args.step.now) c.args.month c.args.cell) m)
    c.amount_cell-n.result c.amount_cell-n.result (384 ^ 3 * 2 ^ c.args.g) (omega (arith, pow_pos c.args.g))
    (λ m. sum_is c.amount_cell-n.result (amount_cell (cells_of_32 Backward) (record_of c.args.step.now) c.args.month
    c.args.cell)
    c.args.g m c.amount_cell-n.ensures.polynomial) c.requires.small)

pub returns-clause-near : goal.returns-clause-near
returns-clause-near c =
    let pow_fits : FitsSigned w128 c.pow.result = search rules in
    let value =
    rw (sum_scale c.args.g c.pow.result pow_fits c.pow.ensures c.requires.scale) at c.coarse_all.ensures.value in
    coarse_near (λ (m : ℕ). scaling c.args.g *ℚ number_at
    (amount_cell (cells_of_32 Backward) (record_of c.args.step.now) c.args.month c.args.cell) m)
    c.amount_cell-n.result c.coarse_all.result (384 ^ 3 * 2 ^ c.args.g) (omega (arith, pow_pos c.args.g))
    (λ m. sum_is c.amount_cell-n.result (amount_cell (cells_of_32 Backward) (record_of c.args.step.now) c.args.month
    c.args.cell)
    c.args.g m c.amount_cell-n.ensures.polynomial) value c.coarse_all.ensures.none
