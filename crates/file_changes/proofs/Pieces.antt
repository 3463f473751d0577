-- Pieces and curves that are changed.
use Rattle.std.proofs.Common.{◌≡◌, ℕ, zero, suc, ◌+◌, ◌<◌, ℤ, List, [], ◌∷◌, ◌++◌, length, take, get_or}
use Rattle.std.proofs.Common.{arith, ap, sym, ◌∙◌, subst}
use Rattle.std.specs.Prelude.{Ok, Err, Result, IfOk, IfSome, IfNone, IsOk}
use Rattle.std.specs.Result.{result_ok}
use Rattle.std.proofs.lemmas.List.{get_or-map, length-map, map-append}
use Rattle.std.proofs.lemmas.List.Elements.{All-append}
use Rattle.std.proofs.lemmas.Simd.{map-map}
use Rattle.model_specs.specs.Curve as model
use Rattle.model_specs.specs.RecordRules.{IsBoundedCurve, piece_starts}
use Rattle.curve_pieces.specs.BrokenRules.{StartsInOrder}
use Rattle.curve_pieces.specs.declared.piece.Piece.{Piece}
use Rattle.curve_pieces.specs.PiecewiseCurves.{IsAllowed}
use Rattle.curve_pieces.specs.Records.{record_of, records_of}
use Rattle.product_reader.proofs.Grown.{one_more_of}
use Rattle.file_changes.specs.Asks.{HaveWords}
use Rattle.file_changes.specs.ContinuousAsks.{AreWords}
use Rattle.file_changes.specs.BasisChanges.{changed_coefficients, changed_piece, changed_pieces}

-- one piece more
pub piece_more : (factor more : ℤ) (pieces made : List Piece) (i : ℕ) (d p : Piece)
    → records_of made ≡ changed_pieces factor more (take i (records_of pieces))
    → record_of p ≡ changed_piece factor more (record_of (get_or pieces i d)) → i < length pieces
    → records_of (made ++ p ∷ []) ≡ changed_pieces factor more (take (i + 1) (records_of pieces))
piece_more factor more pieces made i d p so_far next inside =
    one_more_of record_of (changed_piece factor more) (records_of pieces) i (record_of d) made p so_far
    (next ∙ ap (changed_piece factor more) (sym (get_or-map record_of pieces i d (record_of d) inside)))
    (subst (λ n. i < n) (sym (length-map pieces record_of)) inside)

-- the words of one piece more
pub words_more : (made : List Piece) (p : Piece) → HaveWords (records_of made) → AreWords p.c
    → HaveWords (records_of (made ++ p ∷ []))
words_more made p all one = subst HaveWords (sym (map-append record_of made (p ∷ [])))
    (All-append (λ (piece : model.Piece). AreWords piece.c) (records_of made) (record_of p ∷ []) all only)
  where
    only : HaveWords (record_of p ∷ [])
    only zero d below = one
    only (suc k) d below = absurd (omega (arith, below))

-- where a piece has too large a coefficient, the curve has
pub piece_is_too_large : (factor more : ℤ) (pieces : List Piece) (i : ℕ) (d : Piece) → i < length pieces
    → ¬ AreWords (changed_coefficients factor more (get_or pieces i d).c)
    → ¬ HaveWords (changed_pieces factor more (records_of pieces))
piece_is_too_large factor more pieces i d inside wide all =
    let records_inside : i < length (records_of pieces) = subst (λ n. i < n) (sym
    (length-map pieces record_of)) inside in
    wide (subst (λ (piece : model.Piece). AreWords piece.c)
    (get_or-map (changed_piece factor more) (records_of pieces) i (record_of d)
    (changed_piece factor more (record_of d)) records_inside
    ∙ ap (changed_piece factor more) (get_or-map record_of pieces i d (record_of d) inside))
    (all i (changed_piece factor more (record_of d))
    (subst (λ n. i < n) (sym (length-map (records_of pieces) (changed_piece factor more))) records_inside)))

-- changed pieces start where the pieces did
pub starts_stay : (factor more : ℤ) (pieces : List model.Piece)
    → piece_starts (changed_pieces factor more pieces) ≡ piece_starts pieces
starts_stay factor more pieces = map-map (λ (piece : model.Piece). piece.from) (changed_piece factor more) pieces

-- a changed curve that obeys rule 9 is a curve
pub changed_is_allowed : (factor more : ℤ) (pieces : List model.Piece) (months : ℕ)
    → IsAllowed (record { pieces = pieces; months = months })
    → IsBoundedCurve months (changed_pieces factor more pieces)
    → IsAllowed (record { pieces = changed_pieces factor more pieces; months = months })
changed_is_allowed factor more pieces months h bounded = record {
  some_months = h.some_months;
  most_months = h.most_months;
  in_order = λ i. subst (λ starts. StartsInOrder months starts i) (sym (starts_stay factor more pieces)) (h.in_order i);
  bounded = bounded;
}

-- what a result that is made an option says
pub ok_gives : {T E : Type 0} (r : Result T E) (P : T → Type 0) → IfOk r P → IfSome (result_ok r) P
ok_gives (Ok x) P h = h
ok_gives (Err e) P h = tt

pub not_ok_gives : {T E : Type 0} (r : Result T E) (A : Type 0) → (A → IsOk r) → IfNone (result_ok r) (¬ A)
not_ok_gives (Ok x) A h = tt
not_ok_gives (Err e) A h = λ a. absurd (cc (h a))
