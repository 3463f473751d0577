-- In which form an answer is asked for, by a word before those of the command.
use Rattle.std.specs.Prelude.{◌≡◌, ℕ, List, [], ◌∷◌, codes, bytes_eq, drop, Bool, true, false, not}
use Rattle.std.specs.Prelude.{if◌then◌else◌}
use Rattle.command_words.specs.declared.form.Form.{Form}
use Rattle.command_words.specs.declared.form.Form.TheVariants.{Report, Csv, Json, Explained}
use Rattle.command_words.specs.Readings.{Request, Check, Value, Reserves, Occupancy, Moments, Premium, Generate, Load}
use Rattle.command_words.specs.Readings.{Upgrade, Join, Compare, Audit, Portfolio, Help, Version, Shift, Multiply}
use Rattle.command_words.specs.Readings.{Charge, Merge, AreReadAs}

-- the answer has rows
abbrev pub has_rows : Request → Bool
has_rows (Check file) = false
has_rows (Value file) = true
has_rows (Reserves file every) = true
has_rows (Occupancy file every) = true
has_rows (Moments file every) = true
has_rows (Premium file) = true
has_rows (Generate seed) = false
has_rows (Load seed) = false
has_rows (Upgrade file) = false
has_rows (Join first second) = false
has_rows (Compare first second every) = true
has_rows (Audit file claims eps) = true
has_rows (Portfolio file) = true
has_rows Help = false
has_rows Version = false
has_rows (Shift file rate) = false
has_rows (Multiply file from to factor) = false
has_rows (Charge file amount) = false
has_rows (Merge file) = true

-- the program's own words or its version are asked for
abbrev pub is_help : Request → Bool
is_help Help = true
is_help Version = true
is_help _ = false

-- the answer has rows
abbrev pub HasRows : Request → Type 0
HasRows request = has_rows request ≡ true

-- neither the program's own words nor its version is asked for
abbrev pub IsNoHelp : Request → Type 0
IsNoHelp request = is_help request ≡ false

-- the words are a form's word and words that are read as this request
pub record AreReadBehind (words : List (List ℕ)) (form : List ℕ) (request : Request) : Type 0 where
  pub behind : List (List ℕ)
  pub are : words ≡ form ∷ behind
  pub reads : AreReadAs behind request

-- the words are read in this form as this request; none of the forms' words stands before a report
abbrev pub AreReadIn : List (List ℕ) → Form → Request → Type 0
AreReadIn words Report request = AreReadAs words request
AreReadIn words Csv request = AreReadBehind words (codes "csv") request × HasRows request
AreReadIn words Json request = AreReadBehind words (codes "json") request × HasRows request
AreReadIn words Explained request = AreReadBehind words (codes "explain") request × IsNoHelp request

-- the words have a reading
abbrev pub HaveReading : List (List ℕ) → Type 0
HaveReading words = (form : Form) × (request : Request) × AreReadIn words form request

-- words have at most one reading
abbrev pub ReadingsAreOne : Type 0
ReadingsAreOne = (words : List (List ℕ)) (f g : Form) (a b : Request) → AreReadIn words f a → AreReadIn words g b
    → (f ≡ g) × (a ≡ b)

-- the form that a first word names, or a report
abbrev pub form_named : List ℕ → Form
form_named word =
    if bytes_eq word (codes "csv") then Csv else (if bytes_eq word (codes "json") then Json
    else (if bytes_eq word (codes "explain") then Explained else Report))

-- the form that the words begin with, or a report
abbrev pub form_of : List (List ℕ) → Form
form_of [] = Report
form_of (word ∷ words) = form_named word

-- the words of the command: all words in a report, and else those behind the first one
abbrev pub behind_form : Form → List (List ℕ) → List (List ℕ)
behind_form Report words = words
behind_form Csv words = drop 1 words
behind_form Json words = drop 1 words
behind_form Explained words = drop 1 words

-- an answer to this request can be printed in this form
abbrev pub can_be_in : Form → Request → Bool
can_be_in Report request = true
can_be_in Csv request = has_rows request
can_be_in Json request = has_rows request
can_be_in Explained request = not (is_help request)
