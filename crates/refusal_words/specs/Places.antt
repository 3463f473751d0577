-- What the place of a broken rule stands for.
use Rattle.std.specs.Prelude.{ℕ, ◌-◌, ◌/◌, ◌%◌, ◌==◌, List, [], ◌∷◌, slice_index_or, codes, if◌then◌else◌}
use Rattle.product_file.specs.Checks.{places_of_list}
use Rattle.refusal_words.specs.declared.rules.Rule.{Rule}
use Rattle.refusal_words.specs.declared.rules.Rule.TheVariants as rule
use Rattle.refusal_words.specs.declared.places.Thing.{Thing}
use Rattle.refusal_words.specs.declared.places.Thing.TheVariants as thing
use Rattle.refusal_words.specs.declared.places.Place.{Place}
use Rattle.refusal_words.specs.declared.places.Place.TheVariants as place

-- the keys of the top table, in the order of rule 1
abbrev pub top_keys : List Thing
top_keys = thing.Format ∷ thing.Name ∷ thing.Months ∷ thing.Den ∷ thing.Start ∷ thing.States ∷ thing.Interest
    ∷ thing.Transition ∷ thing.Sojourn ∷ thing.Lump ∷ thing.Premium ∷ []

-- the key with a number, and another one past the last
abbrev pub top_key_of : ℕ → Thing
top_key_of number = slice_index_or top_keys number thing.Another

-- its words
unfoldable pub word_of : Thing → List ℕ
word_of thing.Format = codes "format"
word_of thing.Name = codes "name"
word_of thing.Months = codes "months"
word_of thing.Den = codes "den"
word_of thing.Start = codes "start"
word_of thing.States = codes "states"
word_of thing.Interest = codes "interest"
word_of thing.Transition = codes "transition"
word_of thing.Sojourn = codes "sojourn"
word_of thing.Lump = codes "lump"
word_of thing.Premium = codes "premium"
word_of thing.Another = codes "another key"
word_of thing.Until = codes "premium, until"
word_of thing.Every = codes "premium, every"
word_of thing.Product = codes "the product"

-- of names: the product's, the number of states, or a state
abbrev pub name_place : ℕ → Place
name_place number =
    if number == 0 then place.Thing thing.Name else if number == 1 then place.Thing thing.States
    else place.State (number - 2)

-- of the premium table: its keys, or a payer
abbrev pub payer_place : ℕ → Place
payer_place number = if number == 0 then place.Thing thing.Premium else place.Payer (number - 1)

-- a piece of a curve
abbrev pub piece_place : ℕ → Place
piece_place number = place.Piece (number / places_of_list) (number % places_of_list)

-- a step of a list
abbrev pub step_place : ℕ → Place
step_place number = place.Step (number / places_of_list) (number % places_of_list)

-- what a place of a rule stands for
abbrev pub place_of : Rule → ℕ → Place
place_of rule.Keys number = place.Thing (top_key_of number)
place_of rule.Format number = place.Thing thing.Format
place_of rule.Names number = name_place number
place_of rule.Term number = place.Thing thing.Months
place_of rule.Denominator number = place.Thing thing.Den
place_of rule.Start number = place.Thing thing.Start
place_of rule.Transitions number = place.Transition number
place_of rule.Pieces number = piece_place number
place_of rule.Coefficients number = piece_place number
place_of rule.Steps number = step_place number
place_of rule.Amounts number = step_place number
place_of rule.Lumps number = place.Lump number
place_of rule.Payers number = payer_place number
place_of rule.Pattern number = if number == 0 then place.Thing thing.Until else place.Thing thing.Every
place_of rule.Interest number = place.Month number
place_of rule.Intensities number = place.Month number
place_of rule.Exits number = place.Month number
place_of rule.Bound number = place.Thing thing.Product
