use Rattle.std.proofs.Common.{◌≡◌, ◌+◌, ◌-◌, ◌*◌, ◌^◌, pos, length, arith, rules, ap, ◌∙◌}
use Rattle.frac_laws.specs.Fraction.{over}
use Rattle.frac_laws.specs.Polynomials.{all_over, stretched}
use Rattle.named_numbers.specs.Numbers.{cells_of_year}
use Rattle.model_specs.specs.RecordRules.{IsBounded}
use Rattle.model_specs.specs.Cells.{cells_of_32, per_cell, cell_polynomial}
use Rattle.curve_pieces.specs.Records.{record_of}
use Rattle.curve_pieces.specs.Directions.{direction_of}
use Rattle.curve_pieces.proofs.Cells.{cell_is_curve}
use Rattle.curve_pieces.proofs.Sizes.{FormsCell, units_fit, shift_fits, cell_fits}
use Rattle.curve_pieces.proofs.curve.Curve.cell_of.Goals as goal

pub origin-origin-requires-clause-month : goal.origin-origin-requires-clause-month
origin-origin-requires-clause-month c = omega (arith, c.at-piece.ensures.term, c.requires.month)

pub in_units-requires-clause-fits : goal.in_units-requires-clause-fits
in_units-requires-clause-fits c =
    let six : length c.in_years.result.c ≡ 6 = search rules in
    let k = c.args.month - c.at-piece.result.now.from in
    let bounded : IsBounded c.in_years.result.c (c.args.month - c.at-piece.result.now.from + 1) =
    rw c.in_years.ensures c.at-piece.ensures.bounded in
    units_fit c.in_years.result.c (c.args.month - c.at-piece.result.now.from) six bounded

pub shift-requires : goal.shift-requires
shift-requires c =
    let six : length c.in_years.result.c ≡ 6 = search rules in
    let k = c.args.month - c.at-piece.result.now.from in
    let bounded : IsBounded c.in_years.result.c (c.args.month - c.at-piece.result.now.from + 1) =
    rw c.in_years.ensures c.at-piece.ensures.bounded in
    shift_fits c.in_years.result.c c.in_units.result.c (c.args.month - c.at-piece.result.now.from)
    c.origin-origin.result six bounded c.origin-origin.ensures.within c.in_units.ensures.coefficients

pub turned-requires : goal.turned-requires
turned-requires c =
    let six : length c.in_years.result.c ≡ 6 = search rules in
    let k = c.args.month - c.at-piece.result.now.from in
    let bounded : IsBounded c.in_years.result.c (c.args.month - c.at-piece.result.now.from + 1) =
    rw c.in_years.ensures c.at-piece.ensures.bounded in
    let forms : FormsCell c.in_years.result.c c.in_units.result.c c.shift.result.c
    (c.args.month - c.at-piece.result.now.from) c.origin-origin.result =
    record {
      six = six;
      bounded = bounded;
      origin_within = c.origin-origin.ensures.within;
      units = c.in_units.ensures.coefficients;
      size = c.shift.ensures.size;
    } in
    cell_fits _ _ _ _ _ forms

pub returns-clause-polynomial : goal.returns-clause-polynomial
returns-clause-polynomial c =
    λ den positive.
    cell_is_curve c.in_units.result.c c.shift.result.c c.turned.result.c (direction_of c.args.dir)
    c.origin-origin.result c.args.month c.args.cell den (record_of c.at-piece.result.now) positive
    (c.in_units.ensures.polynomial den positive (omega arith)
    ∙ ap (λ p. stretched (over (pos 1) cells_of_year) (all_over den p)) c.in_years.ensures)
    (c.shift.ensures.polynomial (den * cells_of_year ^ 5)) (c.turned.ensures.polynomial (den * cells_of_year ^ 5))
    c.origin-origin.ensures.value
    ∙ ap (λ piece. per_cell (cells_of_32 (direction_of c.args.dir))
    (cell_polynomial (cells_of_32 (direction_of c.args.dir)) (all_over den piece.c) (c.args.month - piece.from)
    c.args.cell))
    c.at-piece.ensures.covers

pub returns-clause-size : goal.returns-clause-size
returns-clause-size c =
    let six : length c.in_years.result.c ≡ 6 = search rules in
    let k = c.args.month - c.at-piece.result.now.from in
    let bounded : IsBounded c.in_years.result.c (c.args.month - c.at-piece.result.now.from + 1) =
    rw c.in_years.ensures c.at-piece.ensures.bounded in
    let forms : FormsCell c.in_years.result.c c.in_units.result.c c.shift.result.c
    (c.args.month - c.at-piece.result.now.from) c.origin-origin.result =
    record {
      six = six;
      bounded = bounded;
      origin_within = c.origin-origin.ensures.within;
      units = c.in_units.ensures.coefficients;
      size = c.shift.ensures.size;
    } in
    omega (arith, cell_fits _ _ _ _ _ forms, c.turned.ensures.size)
