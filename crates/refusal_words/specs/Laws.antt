-- What places stand for, both ways, and that the names are those of what the rules speak of.
use Rattle.std.specs.Prelude.{◌≡◌, ℕ, suc, ◌+◌, ◌*◌, ◌<◌, List, [], ◌++◌, length, map, slice_index_or, codes}
use Rattle.toml.specs.Data.{Data, Members}
use Rattle.product_file.specs.Checks.{places_of_list}
use Rattle.product_file.specs.Members.{items_of, item_at, members_of}
use Rattle.product_file.specs.TransitionRule.{transition_items}
use Rattle.product_file.specs.PaymentRules.{sojourn_items, steps_items, sum_items}
use Rattle.refusal_words.specs.declared.places.Place.{Place}
use Rattle.refusal_words.specs.declared.places.Place.TheVariants as place
use Rattle.refusal_words.specs.declared.places.Thing.{Thing}
use Rattle.refusal_words.specs.declared.places.Thing.TheVariants as thing
use Rattle.refusal_words.specs.declared.rules.Rule.{Rule}
use Rattle.refusal_words.specs.declared.rules.Rule.TheVariants as rule
use Rattle.refusal_words.specs.FileNames.{owner_of, pieces_of, steps_of}
use Rattle.refusal_words.specs.Places.{place_of}

-- the number of a key of the top table, and of what else has words of its own among its kind
abbrev pub number_of_thing : Thing → ℕ
number_of_thing thing.Format = 0
number_of_thing thing.Name = 1
number_of_thing thing.Months = 2
number_of_thing thing.Den = 3
number_of_thing thing.Start = 4
number_of_thing thing.States = 5
number_of_thing thing.Interest = 6
number_of_thing thing.Transition = 7
number_of_thing thing.Sojourn = 8
number_of_thing thing.Lump = 9
number_of_thing thing.Premium = 10
number_of_thing thing.Another = 11
number_of_thing thing.Until = 0
number_of_thing thing.Every = 1
number_of_thing thing.Product = 0

-- the place of a thing of a rule that speaks of counted things
abbrev pub number_of_counted : Place → ℕ
number_of_counted (place.Thing thing.States) = 1
number_of_counted (place.Thing other) = 0
number_of_counted (place.State i) = 2 + i
number_of_counted (place.Transition k) = k
number_of_counted (place.Piece curve piece) = places_of_list * curve + piece
number_of_counted (place.Step list step) = places_of_list * list + step
number_of_counted (place.Lump k) = k
number_of_counted (place.Payer i) = 1 + i
number_of_counted (place.Month month) = month

-- the place of a thing of rule 1 or 14
abbrev pub number_of_named : Place → ℕ
number_of_named (place.Thing thing) = number_of_thing thing
number_of_named other = 0

-- how a rule writes a place as a number
abbrev pub number_of : Rule → Place → ℕ
number_of rule.Keys at = number_of_named at
number_of rule.Pattern at = number_of_named at
number_of other at = number_of_counted at

-- the places that a rule has: keys, one place, two, or as many as the file has things
abbrev pub IsPlaceOf : Rule → ℕ → Type 0
IsPlaceOf rule.Keys number = number < 12
IsPlaceOf rule.Format number = number ≡ 0
IsPlaceOf rule.Term number = number ≡ 0
IsPlaceOf rule.Denominator number = number ≡ 0
IsPlaceOf rule.Start number = number ≡ 0
IsPlaceOf rule.Pattern number = number < 2
IsPlaceOf rule.Bound number = number ≡ 0
IsPlaceOf other number = Unit {0}

-- what places stand for, both ways
pub record PlacesAreTold : Type 0 where
  pub pieces : (curve piece : ℕ) → piece < places_of_list
      → place_of rule.Pieces (places_of_list * curve + piece) ≡ place.Piece curve piece
  pub coefficients : (curve piece : ℕ) → piece < places_of_list
      → place_of rule.Coefficients (places_of_list * curve + piece) ≡ place.Piece curve piece
  pub steps : (list step : ℕ) → step < places_of_list
      → place_of rule.Steps (places_of_list * list + step) ≡ place.Step list step
  pub amounts : (list step : ℕ) → step < places_of_list
      → place_of rule.Amounts (places_of_list * list + step) ≡ place.Step list step
  pub states : (i : ℕ) → place_of rule.Names (2 + i) ≡ place.State i
  pub payers : (i : ℕ) → place_of rule.Payers (1 + i) ≡ place.Payer i
  pub back : (own : Rule) (number : ℕ) → IsPlaceOf own number → number_of own (place_of own number) ≡ number

-- the steps of each list of rules 10 and 11, in their order
abbrev pub lists_of_steps : Members → List (List Data)
lists_of_steps tree = map sum_items (transition_items tree) ++ map steps_items (sojourn_items tree)

-- the curve and the list that are named are those of the rules
pub record NamesAreOfTheRules (tree : Members) : Type 0 where
  pub interest : pieces_of tree 0 ≡ items_of (codes "interest") tree
  pub rates : (k : ℕ) → k < length (transition_items tree)
      → pieces_of tree (suc k) ≡ items_of (codes "rate") (members_of (item_at (transition_items tree) k))
  pub lists : (list : ℕ) → list < length (lists_of_steps tree)
      → slice_index_or (lists_of_steps tree) list [] ≡ steps_of tree (owner_of tree list)
