-- The polynomial of a cell is the curve there.
use Rattle.std.proofs.Common.{◌≡◌, ℕ, ◌+◌, ◌-◌, ◌*◌, ◌^◌, ◌≤◌, ℤ, pos, List, [], ◌∷◌}
use Rattle.std.proofs.Common.{arith, refl, ap, sym, ◌∙◌}
use mathlib.Core.Path.{ap₂}
use Rattle.frac_laws.specs.Fraction.{Fraction, over, whole, ◌*ℚ◌}
use Rattle.frac_laws.specs.Lists.{scale_list}
use Rattle.frac_laws.specs.Polynomials.{all_over, shifted, stretched}
use Rattle.frac_laws.proofs.Quotients.{over_is}
use Rattle.frac_laws.proofs.ListAlgebra.{scale_list-one}
use Rattle.frac_laws.proofs.Polynomials.{shifted-stretched, stretched-stretched}
use Rattle.named_numbers.specs.Numbers.{cells_of_month, cells_of_year}
use Rattle.poly_small.proofs.Units.{all_over-times}
use Rattle.model_specs.specs.Curve as model
use Rattle.model_specs.specs.Cells.{Direction, sign_of, origin_of}
use Rattle.model_laws.proofs.CellEntries.{cells_in_years}

pub stretched-one : (p : List Fraction) → stretched (whole (pos 1)) p ≡ p
stretched-one [] = refl
stretched-one (c ∷ p) = ap (λ q. c ∷ q) (scale_list-one (stretched (whole (pos 1)) p) ∙ stretched-one p)

pub cell_is_curve : (q r n : List ℤ) (direction : Direction) (origin month cell den : ℕ) (piece : model.Piece) → 1 ≤ den
    → all_over (den * cells_of_year ^ 5) q ≡ stretched (over (pos 1) cells_of_year) (all_over den piece.c)
    → all_over (den * cells_of_year ^ 5) r ≡ shifted (whole (pos origin)) (all_over (den * cells_of_year ^ 5) q)
    → all_over (den * cells_of_year ^ 5) n
    ≡ stretched (whole (sign_of direction)) (all_over (den * cells_of_year ^ 5) r)
    → origin ≡ origin_of direction ((month - piece.from) * cells_of_month + cell)
    → all_over (den * cells_of_year ^ 6) n
    ≡ scale_list (over (pos 1) cells_of_year) (stretched (over (sign_of direction) cells_of_year)
    (shifted (over (pos (origin_of direction ((month - piece.from) * cells_of_month + cell))) cells_of_year)
    (all_over den piece.c)))
cell_is_curve q r n direction origin month cell den piece positive units shift turn start =
    ap (λ d. all_over d n) denominators
    ∙ all_over-times n (den * cells_of_year ^ 5) cells_of_year (omega arith) (omega arith)
    ∙ ap (scale_list (over (pos 1) cells_of_year))
    (turn ∙ ap (stretched (whole (sign_of direction))) (shift ∙ ap (shifted (whole (pos origin))) units
    ∙ shifted-stretched (whole (pos origin)) (over (pos 1) cells_of_year) (all_over den piece.c))
    ∙ stretched-stretched (whole (sign_of direction)) (over (pos 1) cells_of_year)
    (shifted (over (pos 1) cells_of_year *ℚ whole (pos origin)) (all_over den piece.c))
    ∙ ap₂ (λ h b. stretched h (shifted b (all_over den piece.c)))
    (sym (over_is (sign_of direction) cells_of_year))
    (cells_in_years (pos origin) ∙ ap (λ b. over (pos b) cells_of_year) start))
  where
    denominators : den * cells_of_year ^ 6 ≡ den * cells_of_year ^ 5 * cells_of_year
    denominators = omega arith
