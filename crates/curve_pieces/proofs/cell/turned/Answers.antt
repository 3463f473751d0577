use Rattle.std.proofs.Common.{◌≡◌, ℕ, sym, subst}
use Rattle.frac_laws.specs.Fraction.{whole}
use Rattle.frac_laws.specs.Polynomials.{all_over, stretched}
use Rattle.model_specs.specs.Cells.{sign_of}
use Rattle.curve_pieces.specs.declared.cell.Dir.{Dir}
use Rattle.curve_pieces.specs.Directions.{direction_of}
use Rattle.curve_pieces.proofs.Cells.{stretched-one}
use Rattle.curve_pieces.proofs.cell.turned.Goals as goal

pub returns-in-Forward-clause-polynomial : goal.returns-in-Forward-clause-polynomial
returns-in-Forward-clause-polynomial c =
    let P : Dir → Type 0 = λ dir. (den : ℕ) → all_over den c.args.poly.c
    ≡ stretched (whole (sign_of (direction_of dir))) (all_over den c.args.poly.c) in
    subst P (sym c.in-Forward.is) (λ den. sym (stretched-one (all_over den c.args.poly.c)))
