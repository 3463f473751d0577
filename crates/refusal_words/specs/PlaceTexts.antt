-- A place in words: by the names of a file, and without them.
use Rattle.std.specs.Prelude.{ℕ, ◌-◌, nat_lt, pos, int_le, List, [], ◌++◌, count_by, codes, decimal}
use Rattle.std.specs.Prelude.{if◌then◌else◌}
use Rattle.toml.specs.Data.{Members}
use Rattle.product_file.specs.Members.{items_of}
use Rattle.product_file.specs.CurveRules.{start_of}
use Rattle.refusal_words.specs.declared.places.Place.{Place}
use Rattle.refusal_words.specs.declared.places.Place.TheVariants as place
use Rattle.refusal_words.specs.declared.rules.Rule.{Rule}
use Rattle.refusal_words.specs.declared.rules.Rule.TheVariants as rule
use Rattle.refusal_words.specs.Places.{word_of}
use Rattle.refusal_words.specs.FileNames.{numbered, state_words, transition_words, lump_words, payer_words, curve_words}
use Rattle.refusal_words.specs.FileNames.{step_words, owner_of, thing_words}

-- a transition without a file
unfoldable pub plain_transition : ℕ → List ℕ
plain_transition k = numbered (codes "transition ") k

-- a curve without a file
unfoldable pub plain_curve : ℕ → List ℕ
plain_curve curve =
    if nat_lt 0 curve then plain_transition (curve - 1) ++ codes ", rate" else codes "interest"

-- a place without a file
abbrev pub plain_place : Place → List ℕ
plain_place (place.Thing thing) = word_of thing
plain_place (place.State i) = numbered (codes "state ") i
plain_place (place.Transition k) = plain_transition k
plain_place (place.Piece curve piece) = plain_curve curve ++ numbered (codes ", piece ") piece
plain_place (place.Step list step) = numbered (codes "list of steps ") list ++ numbered (codes ", step ") step
plain_place (place.Lump k) = numbered (codes "lump ") k
plain_place (place.Payer i) = numbered (codes "premium, payer ") i
plain_place (place.Month month) = codes "month " ++ decimal month

-- the piece of the interest that holds in a month, from 1: so many start at or before it
abbrev pub interest_piece : Members → ℕ → ℕ
interest_piece tree month = count_by (λ d. int_le (start_of d) (pos month)) (items_of (codes "interest") tree)

-- what a rule of months speaks of, where that is one curve
unfoldable pub curve_in_month : Members → Rule → Place → List ℕ
curve_in_month tree rule.Interest (place.Month month) =
    codes ", interest, piece " ++ decimal (interest_piece tree month)
curve_in_month tree own at = []

-- a place of a file
abbrev pub file_place : Members → Place → List ℕ
file_place tree (place.Thing thing) = thing_words tree thing
file_place tree (place.State i) = state_words tree i
file_place tree (place.Transition k) = transition_words tree k
file_place tree (place.Piece curve piece) = curve_words tree curve ++ numbered (codes ", piece ") piece
file_place tree (place.Step list step) = step_words tree (owner_of tree list) step
file_place tree (place.Lump k) = lump_words tree k
file_place tree (place.Payer i) = payer_words tree i
file_place tree (place.Month month) = codes "month " ++ decimal month
