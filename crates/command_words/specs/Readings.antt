-- What the words of the command line ask for. This product's own.
use Rattle.std.specs.Prelude.{◌≡◌, ℕ, ◌<◌, ◌≤◌, ◌^◌, ℤ, List, [], ◌∷◌, codes, decimal, length}
use Rattle.std.specs.Prelude.{String, string_bytes, map, Some}
use Rattle.std.specs.declared.alloc.Global.{Global}
use Rattle.decimal_in.specs.declared.written.Decimal.{Decimal}
use Rattle.decimal_in.specs.Decimals.{signed_whole_of, unsigned_millionths_of}
use Rattle.decimal_in.specs.Places.{decimal_of, unsigned_decimal_of}

-- the bytes of the words
abbrev pub words_of : List (String Global) → List (List ℕ)
words_of words = map string_bytes words

-- what can be asked for: of no file; of a file or of two by their names; at each so many months; of a seed; of a file
-- and of claims about it, to so many millionths; or of a file that is changed: by a rate, by a factor of the intensity
-- between two states, or by an amount
pub data Request : Type 0 where
  Check : List ℕ → Request
  Value : List ℕ → Request
  Reserves : List ℕ → ℕ → Request
  Occupancy : List ℕ → ℕ → Request
  Moments : List ℕ → ℕ → Request
  Premium : List ℕ → Request
  Generate : ℕ → Request
  Load : ℕ → Request
  Upgrade : List ℕ → Request
  Join : List ℕ → List ℕ → Request
  Compare : List ℕ → List ℕ → ℕ → Request
  Audit : List ℕ → List ℕ → ℤ → Request
  Portfolio : List ℕ → Request
  Help : Request
  Version : Request
  Shift : List ℕ → Decimal → Request
  Multiply : List ℕ → List ℕ → List ℕ → Decimal → Request
  Charge : List ℕ → ℤ → Request
  Merge : List ℕ → Request

-- the words are a command and the name of a file, which has at least one byte
pub record AsksOfFile (words : List (List ℕ)) (command file : List ℕ) : Type 0 where
  pub are : words ≡ command ∷ file ∷ []
  pub named : 0 < length file

-- the words are a command, the name of a file, and a number of months from 1 to 1200 in decimal
pub record AsksAtDates (words : List (List ℕ)) (command file : List ℕ) (every : ℕ) : Type 0 where
  pub are : words ≡ command ∷ file ∷ decimal every ∷ []
  pub named : 0 < length file
  pub least : 1 ≤ every
  pub most : every ≤ 1200

-- the words are a command and the names of two files
pub record AsksOfFiles (words : List (List ℕ)) (command first second : List ℕ) : Type 0 where
  pub are : words ≡ command ∷ first ∷ second ∷ []
  pub first_named : 0 < length first
  pub second_named : 0 < length second

-- the words are a command, the names of two files, and such a number of months
pub record AsksOfFilesAtDates (words : List (List ℕ)) (command first second : List ℕ) (every : ℕ) : Type 0 where
  pub are : words ≡ command ∷ first ∷ second ∷ decimal every ∷ []
  pub first_named : 0 < length first
  pub second_named : 0 < length second
  pub least : 1 ≤ every
  pub most : every ≤ 1200

-- the words are `audit`, the names of a product file and of a file of claims, and a decimal without a sign
pub record AsksOfClaims (words : List (List ℕ)) (file claims : List ℕ) (eps : ℤ) : Type 0 where
  pub distance : List ℕ
  pub are : words ≡ codes "audit" ∷ file ∷ claims ∷ distance ∷ []
  pub file_named : 0 < length file
  pub claims_named : 0 < length claims
  pub reads : unsigned_millionths_of distance ≡ Some eps

-- the words are a command and a number below 2^64 in decimal
pub record AsksOfSeed (words : List (List ℕ)) (command : List ℕ) (seed : ℕ) : Type 0 where
  pub are : words ≡ command ∷ decimal seed ∷ []
  pub fits : seed < 2 ^ 64

-- the words are `shift`, the name of a file, and a decimal, with a minus sign or without
pub record AsksOfShift (words : List (List ℕ)) (file : List ℕ) (rate : Decimal) : Type 0 where
  pub decimal : List ℕ
  pub are : words ≡ codes "shift" ∷ file ∷ decimal ∷ []
  pub named : 0 < length file
  pub reads : decimal_of decimal ≡ Some rate

-- the words are `multiply`, the names of a file and of two states, and a decimal without a sign
pub record AsksOfFactor (words : List (List ℕ)) (file from to : List ℕ) (factor : Decimal) : Type 0 where
  pub decimal : List ℕ
  pub are : words ≡ codes "multiply" ∷ file ∷ from ∷ to ∷ decimal ∷ []
  pub file_named : 0 < length file
  pub from_named : 0 < length from
  pub to_named : 0 < length to
  pub reads : unsigned_decimal_of decimal ≡ Some factor

-- the words are `charge`, the name of a file, and a whole number of up to 18 digits, with a minus sign or without
pub record AsksOfCharge (words : List (List ℕ)) (file : List ℕ) (amount : ℤ) : Type 0 where
  pub number : List ℕ
  pub are : words ≡ codes "charge" ∷ file ∷ number ∷ []
  pub named : 0 < length file
  pub reads : signed_whole_of 18 number ≡ Some amount

-- the words are read as this request; decimal numbers have no needless zeros
abbrev pub AreReadAs : List (List ℕ) → Request → Type 0
AreReadAs words (Check file) = AsksOfFile words (codes "check") file
AreReadAs words (Value file) = AsksOfFile words (codes "value") file
AreReadAs words (Reserves file every) = AsksAtDates words (codes "reserves") file every
AreReadAs words (Occupancy file every) = AsksAtDates words (codes "occupancy") file every
AreReadAs words (Moments file every) = AsksAtDates words (codes "moments") file every
AreReadAs words (Premium file) = AsksOfFile words (codes "premium") file
AreReadAs words (Generate seed) = AsksOfSeed words (codes "generate") seed
AreReadAs words (Load seed) = AsksOfSeed words (codes "load") seed
AreReadAs words (Upgrade file) = AsksOfFile words (codes "upgrade") file
AreReadAs words (Join first second) = AsksOfFiles words (codes "join") first second
AreReadAs words (Compare first second every) = AsksOfFilesAtDates words (codes "compare") first second every
AreReadAs words (Audit file claims eps) = AsksOfClaims words file claims eps
AreReadAs words (Portfolio file) = AsksOfFile words (codes "portfolio") file
AreReadAs words Help = words ≡ codes "help" ∷ []
AreReadAs words Version = words ≡ codes "version" ∷ []
AreReadAs words (Shift file rate) = AsksOfShift words file rate
AreReadAs words (Multiply file from to factor) = AsksOfFactor words file from to factor
AreReadAs words (Charge file amount) = AsksOfCharge words file amount
AreReadAs words (Merge file) = AsksOfFile words (codes "merge") file

-- the words are those of a command
abbrev pub AreACommand : List (List ℕ) → Type 0
AreACommand words = (request : Request) × AreReadAs words request

-- the words of a command have one reading
abbrev pub CommandsAreOne : Type 0
CommandsAreOne = (words : List (List ℕ)) (a b : Request) → AreReadAs words a → AreReadAs words b → a ≡ b
