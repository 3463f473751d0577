-- Rule 9 at a place, from the piece there.
use Rattle.std.proofs.Common.{◌≡◌, ℕ, suc, ◌-◌, ◌<◌, List, Bool, length, get_or, arith, ap}
use Rattle.std.specs.Prelude.{IsTrue, ◌↔◌}
use Rattle.std.proofs.lemmas.List.{length-map}
use Rattle.model_specs.specs.Curve.{zero_piece}
use Rattle.model_specs.specs.RecordRules.{IsBounded}
use Rattle.curve_pieces.specs.declared.piece.Piece.{Piece}
use Rattle.curve_pieces.specs.Records.{record_of, records_of, starts_of}
use Rattle.curve_pieces.specs.BrokenRules.{IsBoundedAt}
use Rattle.curve_pieces.proofs.ItemStarts.{piece-at}

pub bounded_at : (pieces : List Piece) (i months : ℕ) (none : Piece) (end start : ℕ) (b : Bool) → i < length pieces
    → end ≡ get_or (starts_of pieces) (suc i) months → start ≡ get_or (starts_of pieces) i 0
    → (IsTrue b ↔ IsBounded (get_or pieces i none).c (end - start))
    → IsTrue b ↔ IsBoundedAt months (records_of pieces) i
bounded_at pieces i months none end start b inside e s answer =
    let P : ℕ → ℕ → Type 0 = λ to from. IsBounded (get_or (records_of pieces) i zero_piece).c (to - from) in
    let same : (get_or (records_of pieces) i zero_piece).c ≡ (get_or pieces i none).c =
    ap (λ p. p.c) (piece-at record_of pieces i none zero_piece inside) in (
      λ h held. rw (same, ← e, ← s) (answer.0 h),
      λ h. answer.1 (rw (same, ← e, ← s) at (h (omega (arith, length-map pieces record_of)))),
    )
