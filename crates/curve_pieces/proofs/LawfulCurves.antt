-- What a curve keeps, in the words of the product's rules.
use Rattle.std.proofs.Common.{ℕ, zero, suc, ◌<◌, length, get_or}
use Rattle.model_specs.specs.RecordRules.{IsCurve, StartsRise, piece_starts}
use Rattle.curve_pieces.specs.PiecewiseCurves.{PiecewiseCurve, IsAllowed, KeepsRules}

starts_below : (c : PiecewiseCurve) → IsAllowed c → (k : ℕ) → k < length (piece_starts c.pieces)
    → get_or (piece_starts c.pieces) k 0 < c.months
starts_below c allowed zero inside = (allowed.in_order 0).2
starts_below c allowed (suc k) inside = (allowed.in_order (suc k) inside).1

pub starts_rise : (c : PiecewiseCurve) → IsAllowed c → StartsRise c.months (piece_starts c.pieces)
starts_rise c allowed = record {
  some = (allowed.in_order 0).0;
  first = (allowed.in_order 0).1;
  rising = λ k inside. (allowed.in_order (suc k) inside).0;
  below = starts_below c allowed;
}

pub curve_is_lawful : (c : PiecewiseCurve) → KeepsRules c → IsCurve c.months c.pieces
curve_is_lawful c keeps = record { six = keeps.six; starts = starts_rise c keeps.allowed }
