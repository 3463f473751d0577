-- What a product file names: shown where it is a good name, and else left out.
use Rattle.std.specs.Prelude.{ℕ, ◌+◌, ◌-◌, nat_lt, List, [], ◌++◌, length, slice_index_or, Bool, ◌&&◌, not}
use Rattle.std.specs.Prelude.{codes, decimal, find, unwrap_or, if◌then◌else◌}
use Rattle.toml.specs.Data.{Data, Members}
use Rattle.named_numbers.specs.Numbers.{longest_product_name}
use Rattle.product_file.specs.Members.{text_of, items_of, item_at, members_of, is_among, keys_of}
use Rattle.product_file.specs.Keys.{names_of, top_keys}
use Rattle.product_file.specs.HeadRules.{is_good_name}
use Rattle.product_file.specs.TransitionRule.{transition_items}
use Rattle.product_file.specs.PaymentRules.{sojourn_items, is_good_sojourn, sum_items, steps_items}
use Rattle.product_file.specs.LumpRule.{lump_items}
use Rattle.product_file.specs.PatternRules.{payer_items}
use Rattle.product_file.specs.CurveRules.{curve_items}
use Rattle.file_tree.specs.Texts.{text_in}
use Rattle.refusal_words.specs.declared.owners.Owner.{Owner}
use Rattle.refusal_words.specs.declared.owners.Owner.TheVariants as owner
use Rattle.refusal_words.specs.declared.places.Thing.{Thing}
use Rattle.refusal_words.specs.declared.places.Thing.TheVariants as thing
use Rattle.refusal_words.specs.Places.{word_of}

-- a text that is shown as it stands: a good name
unfoldable pub is_shown : List ℕ → Bool
is_shown name = is_good_name longest_product_name name

-- a comma and a name, or nothing where it is not shown
unfoldable pub named : List ℕ → List ℕ
named name = if is_shown name then codes ", " ++ name else []

-- the text at a key of something in a list, and none where there is no such thing
abbrev pub text_at : List ℕ → List Data → ℕ → List ℕ
text_at key items k = text_of key (members_of (item_at items k))

-- a comma and from where to where, or nothing where one of them is not shown
unfoldable pub ends_words : (from to : List ℕ) → List ℕ
ends_words from to = if is_shown from && is_shown to then codes ", " ++ from ++ codes " to " ++ to else []

-- a number that counts from 1, behind a word
unfoldable pub numbered : List ℕ → ℕ → List ℕ
numbered word k = word ++ decimal (k + 1)

-- a key that no product has
abbrev pub is_other_key : List ℕ → Bool
is_other_key key = not (is_among (names_of top_keys) key)

-- the first such key of the file, and none where it has none
unfoldable pub other_key : Members → List ℕ
other_key tree = unwrap_or (find is_other_key (keys_of tree)) []

-- what has words of its own, with the name of another key
unfoldable pub thing_words : Members → Thing → List ℕ
thing_words tree thing.Another = word_of thing.Another ++ named (other_key tree)
thing_words tree other = word_of other

-- a state
unfoldable pub state_words : Members → ℕ → List ℕ
state_words tree i = numbered (codes "state ") i ++ named (text_in (item_at (items_of (codes "states") tree) i))

-- a transition
unfoldable pub transition_words : Members → ℕ → List ℕ
transition_words tree k = numbered (codes "transition ") k
    ++ ends_words (text_at (codes "from") (transition_items tree) k) (text_at (codes "to") (transition_items tree) k)

-- a sojourn
unfoldable pub sojourn_words : Members → ℕ → List ℕ
sojourn_words tree s = numbered (codes "sojourn ") s ++ named (text_at (codes "state") (sojourn_items tree) s)

-- a lump
unfoldable pub lump_words : Members → ℕ → List ℕ
lump_words tree k = numbered (codes "lump ") k ++ named (text_at (codes "state") (lump_items tree) k)

-- a payer, or all of them where there is none
unfoldable pub payer_words : Members → ℕ → List ℕ
payer_words tree i =
    if nat_lt 0 (length (payer_items tree))
    then numbered (codes "premium, payer ") i ++ named (text_in (item_at (payer_items tree) i))
    else codes "premium, payers"

-- a curve: the interest, or the intensity of a transition
unfoldable pub curve_words : Members → ℕ → List ℕ
curve_words tree curve =
    if nat_lt 0 curve then transition_words tree (curve - 1) ++ codes ", rate" else codes "interest"

-- a step of a sojourn, or the sojourn alone where it is itself at fault
unfoldable pub sojourn_step_words : Members → (sojourn step : ℕ) → List ℕ
sojourn_step_words tree sojourn step =
    if is_good_sojourn tree sojourn then sojourn_words tree sojourn ++ numbered (codes ", steps, step ") step
    else sojourn_words tree sojourn

-- whose steps a list holds: those of the sum of a transition, or, behind these, of a sojourn
abbrev pub owner_of : Members → ℕ → Owner
owner_of tree list =
    if nat_lt list (length (transition_items tree)) then owner.Transition list
    else owner.Sojourn (list - length (transition_items tree))

-- a step of a list
unfoldable pub step_words : Members → Owner → ℕ → List ℕ
step_words tree (owner.Transition k) step = transition_words tree k ++ numbered (codes ", sum, step ") step
step_words tree (owner.Sojourn s) step = sojourn_step_words tree s step

-- the pieces of a curve
abbrev pub pieces_of : Members → ℕ → List Data
pieces_of tree curve = slice_index_or (curve_items tree) curve []

-- the steps of a list
abbrev pub steps_of : Members → Owner → List Data
steps_of tree (owner.Transition k) = sum_items (item_at (transition_items tree) k)
steps_of tree (owner.Sojourn s) = steps_items (item_at (sojourn_items tree) s)
