-- What is found at the place of a broken rule, and what is wanted there, where that can be told simply.
use Rattle.std.specs.Prelude.{ℕ, ◌-◌, nat_lt, ℤ, pos, neg_ℤ, ◌+ℤ◌, ◌-ℤ◌, int_lt, List, [], ◌++◌, length}
use Rattle.std.specs.Prelude.{Bool, codes, decimal, if◌then◌else◌}
use Rattle.std.specs.Fmt.{signed_decimal}
use Rattle.toml.specs.Data.{Data, Members}
use Rattle.named_numbers.specs.Numbers.{most_months, most_denominator, most_amount, most_lump, most_every}
use Rattle.product_file.specs.Members.{whole_of, text_of, item_at, members_of}
use Rattle.product_file.specs.HeadRules.{is_format_1, is_from_to, most_states_of, state_names}
use Rattle.product_file.specs.CurveRules.{is_piece, most_coefficients, start_of}
use Rattle.product_file.specs.PaymentRules.{is_step, is_good_sojourn}
use Rattle.product_file.specs.LumpRule.{is_lump, lump_items}
use Rattle.product_file.specs.PatternRules.{premium_of}
use Rattle.refusal_words.specs.declared.findings.Finding.{Finding}
use Rattle.refusal_words.specs.declared.findings.Finding.TheVariants as finding
use Rattle.refusal_words.specs.declared.findings.Number.{Number}
use Rattle.refusal_words.specs.declared.findings.Number.TheVariants as number
use Rattle.refusal_words.specs.declared.findings.Want.{Want}
use Rattle.refusal_words.specs.declared.findings.Want.TheVariants as want
use Rattle.refusal_words.specs.declared.owners.Owner.{Owner}
use Rattle.refusal_words.specs.declared.owners.Owner.TheVariants as owner
use Rattle.refusal_words.specs.declared.places.Place.{Place}
use Rattle.refusal_words.specs.declared.places.Place.TheVariants as place
use Rattle.refusal_words.specs.declared.places.Thing.{Thing}
use Rattle.refusal_words.specs.declared.places.Thing.TheVariants as thing
use Rattle.refusal_words.specs.declared.rules.Rule.{Rule}
use Rattle.refusal_words.specs.declared.rules.Rule.TheVariants as rule
use Rattle.refusal_words.specs.FileNames.{is_shown, owner_of, pieces_of, steps_of}
use Rattle.refusal_words.specs.KeyTexts.{key_lines}

-- a number that is not from one to another
unfoldable pub outside : Number → (found low high : ℤ) → Finding
outside number found low high =
    if is_from_to low high found then finding.Nothing else finding.Outside number found low high

-- the number at a key of a table
abbrev pub key_finding : Number → (key : List ℕ) → Members → (low high : ℤ) → Finding
key_finding number key t low high = outside number (whole_of key t) low high

-- how many states there are
unfoldable pub count_finding : Members → Finding
count_finding tree = finding.States (length (state_names tree)) (most_states_of tree)

-- the month from which a later piece or step holds: above the one before, and below the term, if any such month is left
unfoldable pub later_finding : (months before start : ℤ) → Finding
later_finding months before start =
    if int_lt before months
    then (if int_lt (before +ℤ pos 1) months then outside number.From start (before +ℤ pos 1) (months -ℤ pos 1)
    else finding.NoFurther start)
    else finding.NoFurther start

-- the month from which a piece or a step holds
unfoldable pub start_finding : (months : ℤ) → List Data → ℕ → Finding
start_finding months items i =
    if nat_lt 0 i then later_finding months (start_of (item_at items (i - 1))) (start_of (item_at items i))
    else outside number.From (start_of (item_at items 0)) (pos 0) (pos 0)

-- a piece or a step of a list: there is none, it is no such table, or its month
unfoldable pub item_finding : (none shape : Want) → Bool → (months : ℤ) → List Data → ℕ → Finding
item_finding none shape is_one months items i =
    if nat_lt 0 (length items) then (if is_one then start_finding months items i else finding.Wants shape)
    else finding.Wants none

-- what a piece has
abbrev pub piece_want : Members → Want
piece_want tree = if is_format_1 tree then want.FourNumbers else want.SixNumbers

-- a piece of a curve
unfoldable pub piece_finding : Members → (curve piece : ℕ) → Finding
piece_finding tree curve piece =
    item_finding want.SomePiece (piece_want tree)
    (is_piece (most_coefficients tree) (item_at (pieces_of tree curve) piece))
    (whole_of (codes "months") tree) (pieces_of tree curve) piece

-- what a step has
abbrev pub step_want : Members → Want
step_want tree = if is_format_1 tree then want.Amount else want.FourNumbers

-- a step among the steps of its list
unfoldable pub step_finding : Members → List Data → ℕ → Finding
step_finding tree items step =
    item_finding want.SomeStep (step_want tree) (is_step tree (item_at items step))
    (whole_of (codes "months") tree) items step

-- a step of a list: nothing is told where the sojourn itself is at fault
unfoldable pub list_finding : Members → Owner → ℕ → Finding
list_finding tree (owner.Transition k) step = step_finding tree (steps_of tree (owner.Transition k)) step
list_finding tree (owner.Sojourn s) step =
    if is_good_sojourn tree s then step_finding tree (steps_of tree (owner.Sojourn s)) step else finding.Nothing

-- the number at a key of a table, which may have at most a size
abbrev pub size_finding : Number → (key : List ℕ) → Members → (most : ℕ) → Finding
size_finding number key t most = key_finding number key t (neg_ℤ (pos most)) (pos most)

-- the amount of a step of format 1
unfoldable pub amount_finding : Members → Owner → ℕ → Finding
amount_finding tree own step =
    if is_format_1 tree
    then size_finding number.Amount (codes "amount") (members_of (item_at (steps_of tree own) step)) most_amount
    else finding.Nothing

-- the month and the amount of a lump
unfoldable pub lump_finding : (months : ℤ) → Members → Finding
lump_finding months t =
    if is_from_to (pos 0) months (whole_of (codes "month") t)
    then size_finding number.Amount (codes "amount") t most_lump
    else finding.Outside number.Month (whole_of (codes "month") t) (pos 0) months

-- a lump by its place
unfoldable pub lump_finding_at : Members → ℕ → Finding
lump_finding_at tree k =
    if is_lump (item_at (lump_items tree) k)
    then lump_finding (whole_of (codes "months") tree) (members_of (item_at (lump_items tree) k))
    else finding.Nothing

-- a key of the top table: of one that no product has nothing more is told
abbrev pub kind_finding : Thing → Finding
kind_finding thing.Another = finding.Nothing
kind_finding key = finding.Key key

-- what the file has at the place of a rule, where that can be told
abbrev pub finding_of : Members → Rule → Place → Finding
finding_of tree rule.Keys (place.Thing key) = kind_finding key
finding_of tree rule.Format at = key_finding number.Format (codes "format") tree (pos 1) (pos 2)
finding_of tree rule.Names (place.Thing thing.States) = count_finding tree
finding_of tree rule.Term at = key_finding number.Months (codes "months") tree (pos 1) (pos most_months)
finding_of tree rule.Denominator at = key_finding number.Den (codes "den") tree (pos 1) (pos most_denominator)
finding_of tree rule.Start at = finding.Start
finding_of tree rule.Pieces (place.Piece curve piece) = piece_finding tree curve piece
finding_of tree rule.Steps (place.Step list step) = list_finding tree (owner_of tree list) step
finding_of tree rule.Amounts (place.Step list step) = amount_finding tree (owner_of tree list) step
finding_of tree rule.Lumps (place.Lump k) = lump_finding_at tree k
finding_of tree rule.Pattern (place.Thing thing.Until) =
    key_finding number.Until (codes "until") (premium_of tree) (pos 1) (whole_of (codes "months") tree)
finding_of tree rule.Pattern (place.Thing thing.Every) =
    key_finding number.Every (codes "every") (premium_of tree) (pos 0) (pos most_every)
finding_of tree own at = finding.Nothing

-- the word of a number
unfoldable pub number_word : Number → List ℕ
number_word number.Format = codes "format"
number_word number.Months = codes "months"
number_word number.Den = codes "den"
number_word number.From = codes "from"
number_word number.Amount = codes "amount"
number_word number.Month = codes "month"
number_word number.Until = codes "until"
number_word number.Every = codes "every"

-- what is wanted, where no number is told
unfoldable pub want_text : Want → List ℕ
want_text want.SomePiece = codes "found: no piece\nwanted: at least one piece\n"
want_text want.SomeStep = codes "found: no step\nwanted: at least one step\n"
want_text want.FourNumbers = codes "wanted: from, a whole number, and c, 1 to 4 whole numbers\n"
want_text want.SixNumbers = codes "wanted: from, a whole number, and c, 1 to 6 whole numbers\n"
want_text want.Amount = codes "wanted: from and amount, both whole numbers\n"

-- a number with its word
unfoldable pub equals : Number → ℤ → List ℕ
equals number value = number_word number ++ codes " = " ++ signed_decimal value

-- from one number to another, or the one where there is no further one
unfoldable pub range : Number → (low high : ℤ) → List ℕ
range number low high =
    if int_lt low high then equals number low ++ codes " to " ++ signed_decimal high else equals number low

-- the line of the number that is found
unfoldable pub found_line : Number → ℤ → List ℕ
found_line number found = codes "found: " ++ equals number found ++ codes "\n"

-- the line of the range that is wanted
unfoldable pub wanted_line : Number → (low high : ℤ) → List ℕ
wanted_line number low high = codes "wanted: " ++ range number low high ++ codes "\n"

-- both lines of a number
unfoldable pub number_lines : Number → (found low high : ℤ) → List ℕ
number_lines number found low high = found_line number found ++ wanted_line number low high

-- the lines of a start behind which no month is left
unfoldable pub no_further_lines : (start : ℤ) → List ℕ
no_further_lines start = found_line number.From start
    ++ codes "wanted: no further piece or step here, since the one before starts in the last month or later\n"

-- the lines of the number of states
unfoldable pub count_lines : (found most : ℕ) → List ℕ
count_lines found most =
    codes "found: " ++ decimal found ++ codes " states\nwanted: 1 to " ++ decimal most ++ codes " states\n"

-- the words before a start
unfoldable pub start_words : List ℕ
start_words = codes "found: start = "

-- the line of a start
unfoldable pub start_line : List ℕ → List ℕ
start_line name = start_words ++ name ++ codes "\n"

-- the line of a start, where it is shown
unfoldable pub start_found : List ℕ → List ℕ
start_found name = if is_shown name then start_line name else []

-- the start that is found, and what is wanted
unfoldable pub start_lines : Members → List ℕ
start_lines tree = start_found (text_of (codes "start") tree) ++ codes "wanted: start = the name of a state\n"

-- the lines of what is found
abbrev pub finding_lines : Members → Finding → List ℕ
finding_lines tree finding.Nothing = []
finding_lines tree (finding.Outside number found low high) = number_lines number found low high
finding_lines tree (finding.States found most) = count_lines found most
finding_lines tree (finding.NoFurther start) = no_further_lines start
finding_lines tree (finding.Key key) = key_lines tree key
finding_lines tree finding.Start = start_lines tree
finding_lines tree (finding.Wants wanted) = want_text wanted
