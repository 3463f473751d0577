-- What a look-up of a curve's piece by its month gives.
use Rattle.std.proofs.Common.{◌≡◌, ℕ, ◌+◌, ◌-◌, ℤ, List, get_or, arith, ap, sym, subst}
use Rattle.std.proofs.lemmas.List.{length-map}
use Rattle.model_specs.specs.Curve as model
use Rattle.model_specs.specs.Curve.{zero_piece, piece_at}
use Rattle.model_specs.specs.RecordRules.{IsBounded, months_of}
use Rattle.curve_pieces.specs.declared.piece.Piece.{Piece}
use Rattle.curve_pieces.specs.Records.{record_of, records_of, starts_of}
use Rattle.curve_pieces.specs.PiecewiseCurves.{PiecewiseCurve, IsAllowed}
use Rattle.curve_pieces.proofs.LawfulCurves.{starts_rise}
use Rattle.curve_pieces.proofs.Lookups.{IsFound, found_record, found_covers, found_holds}
use Rattle.model_laws.proofs.BoundedCoefficients.{bounded_shorter}

-- the month at which a piece starts
abbrev pub from_of : model.Piece → ℕ
from_of piece = piece.from

-- the curve of some pieces
abbrev pub curve_of : List Piece → ℕ → PiecewiseCurve
curve_of pieces months = record { pieces = records_of pieces; months = months }

pub piece_covers : (pieces : List Piece) (months month low : ℕ) (p : Piece) → IsAllowed (curve_of pieces months)
    → IsFound record_of from_of pieces months month low p → record_of p ≡ piece_at (records_of pieces) month
piece_covers pieces months month low p allowed f =
    found_covers record_of from_of pieces months month low p zero_piece (starts_rise (curve_of pieces months) allowed) f

pub piece_is_bounded : (pieces : List Piece) (months month low : ℕ) (p : Piece) → IsAllowed (curve_of pieces months)
    → IsFound record_of from_of pieces months month low p → IsBounded p.c (month - p.from + 1)
piece_is_bounded pieces months month low p allowed f =
    let P : List ℤ → Type 0 = λ c. IsBounded c (months_of months (starts_of pieces) low) in
    let same : (get_or (records_of pieces) low zero_piece).c ≡ p.c =
    ap (λ q. q.c) (sym (found_record record_of from_of pieces months month low p zero_piece f)) in
    bounded_shorter p.c (month - p.from + 1) (months_of months (starts_of pieces) low)
    (found_holds record_of from_of pieces months month low p f)
    (subst P same (allowed.bounded low (omega (arith, length-map pieces record_of, f.inside))))
