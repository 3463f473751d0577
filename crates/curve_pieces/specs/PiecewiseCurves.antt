-- What contracts see of a curve.
use Rattle.std.specs.Prelude.{◌≡◌, ℕ, ◌≤◌, List, All, length}
use Rattle.named_numbers.specs.Numbers.{most_months}
use Rattle.model_specs.specs.Curve.{Piece}
use Rattle.model_specs.specs.RecordRules.{piece_starts}
use Rattle.curve_pieces.specs.BrokenRules.{StartsInOrder, IsBoundedAt}

-- a curve: its pieces in the file's order, and its term in months
pub record PiecewiseCurve : Type 0 where
  pub pieces : List Piece
  pub months : ℕ

-- a term of 1 to 1200 months, and rules 8 and 9
pub record IsAllowed (c : PiecewiseCurve) : Type 0 where
  pub some_months : 1 ≤ c.months
  pub most_months : c.months ≤ most_months
  pub in_order : (i : ℕ) → StartsInOrder c.months (piece_starts c.pieces) i
  pub bounded : (i : ℕ) → IsBoundedAt c.months c.pieces i

-- what each curve keeps: six coefficients a piece, its term, and rules 8 and 9
pub record KeepsRules (c : PiecewiseCurve) : Type 0 where
  pub six : All (λ piece. length piece.c ≡ 6) c.pieces
  pub allowed : IsAllowed c
