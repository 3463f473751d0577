-- The pieces that start below a term, one after the other.
use Rattle.std.proofs.Common.{◌≡◌, ℕ, ◌+◌, ◌<◌, ◌≤◌, List, [], ◌∷◌, ◌++◌, length, take, get_or, arith}
use Rattle.std.proofs.Common.{ap, sym, ◌∙◌, subst, cond, append-nil}
use Rattle.std.specs.Prelude.{Bool, true, false, nat_lt}
use Rattle.std.proofs.lemmas.Bool.{lt-ltb}
use Rattle.std.proofs.lemmas.Bool.Decides.{nat_tests}
use Rattle.std.proofs.lemmas.List.{get_or-map, length-map, map-append}
use Rattle.std.proofs.lemmas.List.Elements.{filter_more}
use Rattle.model_specs.specs.Curve as model
use Rattle.curve_pieces.specs.declared.piece.Piece.{Piece}
use Rattle.curve_pieces.specs.Records.{record_of, records_of}
use Rattle.joint_life.specs.JointRecord.{pieces_within}

one_more_looked_at : (months : ℕ) (pieces : List Piece) (i : ℕ) (d : Piece) (b : Bool) → i < length pieces
    → nat_lt (get_or pieces i d).from months ≡ b
    → pieces_within months (take (i + 1) (records_of pieces))
    ≡ pieces_within months (take i (records_of pieces)) ++ cond b (record_of (get_or pieces i d) ∷ []) []
one_more_looked_at months pieces i d b below is =
    let at = get_or-map record_of pieces i d (record_of d) below in
    filter_more (λ (piece : model.Piece). nat_lt piece.from months) (records_of pieces) i (record_of d)
    (subst (λ n. i < n) (sym (length-map pieces record_of)) below)
    ∙ ap (λ (piece : model.Piece). pieces_within months (take i (records_of pieces))
    ++ cond (nat_lt piece.from months) (piece ∷ []) []) at
    ∙ ap (λ test. pieces_within months (take i (records_of pieces))
    ++ cond test (record_of (get_or pieces i d) ∷ []) []) is

pub piece_is_kept : (months : ℕ) (pieces kept : List Piece) (i : ℕ) (d : Piece) → i < length pieces
    → (get_or pieces i d).from < months → records_of kept ≡ pieces_within months (take i (records_of pieces))
    → records_of (kept ++ get_or pieces i d ∷ []) ≡ pieces_within months (take (i + 1) (records_of pieces))
piece_is_kept months pieces kept i d below within so_far =
    map-append record_of kept (get_or pieces i d ∷ [])
    ∙ ap (λ ps. ps ++ record_of (get_or pieces i d) ∷ []) so_far
    ∙ sym (one_more_looked_at months pieces i d true below (lt-ltb _ months within))

not_within : (a b : ℕ) → b ≤ a → nat_lt a b ≡ false
not_within a b h = grind (arith, nat_tests)

pub piece_is_passed : (months : ℕ) (pieces kept : List Piece) (i : ℕ) (d : Piece) → i < length pieces
    → months ≤ (get_or pieces i d).from → records_of kept ≡ pieces_within months (take i (records_of pieces))
    → records_of kept ≡ pieces_within months (take (i + 1) (records_of pieces))
piece_is_passed months pieces kept i d below past so_far =
    so_far ∙ sym (one_more_looked_at months pieces i d false below (not_within _ months past)
    ∙ append-nil (pieces_within months (take i (records_of pieces))))
