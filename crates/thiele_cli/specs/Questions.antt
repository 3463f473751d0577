-- What the commands ask, and of which files or seed.
use Rattle.std.specs.Prelude.{ℕ, ◌<◌, ℤ, List, ⊤}
use Rattle.command_words.specs.Readings.{Request, Check, Value, Reserves, Occupancy, Moments, Premium, Generate}
use Rattle.command_words.specs.Readings.{Load, Upgrade, Join, Compare, Audit, Portfolio, Help, Version, Shift, Multiply}
use Rattle.command_words.specs.Readings.{Charge, Merge, AreReadAs}
use Rattle.command_words.specs.Forms.{AreReadIn}
use Rattle.command_words.specs.declared.form.Form.{Form}
use Rattle.decimal_in.specs.declared.written.Decimal.{Decimal}
use Rattle.thiele_cli.specs.declared.page.Page.{Page}
use Rattle.thiele_cli.specs.declared.page.Page.TheVariants as page
use Rattle.thiele_cli.specs.declared.question.Question.{Question}
use Rattle.thiele_cli.specs.declared.question.Question.TheVariants as question
use Rattle.thiele_cli.specs.declared.pair_question.PairQuestion.{PairQuestion}
use Rattle.thiele_cli.specs.declared.pair_question.PairQuestion.TheVariants as pair_question

-- a change that is asked of a product: to its force of interest, to the intensity from one state to another, or of the
-- premium pattern, so many times
pub data Change : Type 0 where
  Shifted : Decimal → Change
  Multiplied : List ℕ → List ℕ → Decimal → Change
  Charged : ℤ → Change

-- what is asked: something of the file with this name, something of two files, the product file of a seed, the
-- reserves of its product, of a product file and a file of claims, which of these are near, the totals of the
-- portfolio in a file, a changed product file, the sums of totals in a file, or what the program tells of itself
pub data Asked : Type 0 where
  OfFile : Question → List ℕ → Asked
  OfFiles : PairQuestion → List ℕ → List ℕ → Asked
  OfSeed : ℕ → Asked
  LoadOf : ℕ → Asked
  OfClaims : List ℕ → List ℕ → ℤ → Asked
  OfPortfolio : List ℕ → Asked
  OfChange : List ℕ → Change → Asked
  OfShards : List ℕ → Asked
  OfPage : Page → Asked

-- what a request asks
abbrev pub asked_of : Request → Asked
asked_of (Check file) = OfFile question.Limits file
asked_of (Value file) = OfFile question.ValueAtIssue file
asked_of (Reserves file every) = OfFile (question.Reserves every) file
asked_of (Occupancy file every) = OfFile (question.Occupancy every) file
asked_of (Moments file every) = OfFile (question.Moments every) file
asked_of (Premium file) = OfFile question.Premium file
asked_of (Generate seed) = OfSeed seed
asked_of (Load seed) = LoadOf seed
asked_of (Portfolio csv) = OfPortfolio csv
asked_of (Upgrade file) = OfFile question.Upgraded file
asked_of (Join first second) = OfFiles pair_question.Joined first second
asked_of (Compare first second every) = OfFiles (pair_question.Changes every) first second
asked_of (Audit file claims eps) = OfClaims file claims eps
asked_of (Shift file rate) = OfChange file (Shifted rate)
asked_of (Multiply file from to factor) = OfChange file (Multiplied from to factor)
asked_of (Charge file amount) = OfChange file (Charged amount)
asked_of (Merge csv) = OfShards csv
asked_of Help = OfPage page.Help
asked_of Version = OfPage page.Version

-- dates that are asked for lie some months apart
abbrev pub HasDates : Question → Type 0
HasDates question.Limits = ⊤
HasDates question.ValueAtIssue = ⊤
HasDates (question.Reserves every) = 0 < every
HasDates (question.Occupancy every) = 0 < every
HasDates (question.Moments every) = 0 < every
HasDates question.Premium = ⊤
HasDates question.Upgraded = ⊤

-- and so do those that are asked for of two products
abbrev pub HasDatesOfTwo : PairQuestion → Type 0
HasDatesOfTwo pair_question.Joined = ⊤
HasDatesOfTwo (pair_question.Changes every) = 0 < every

-- some words are read as the request
abbrev pub IsRead : Request → Type 0
IsRead request = (words : List (List ℕ)) × AreReadAs words request

-- what is asked needs no file: it is of a seed, or of the program itself
abbrev pub NeedsNoFile : Asked → Type 0
NeedsNoFile (OfFile question name) = ⊥
NeedsNoFile (OfFiles question first second) = ⊥
NeedsNoFile (OfSeed seed) = ⊤
NeedsNoFile (LoadOf seed) = ⊤
NeedsNoFile (OfClaims name claims eps) = ⊥
NeedsNoFile (OfPortfolio csv) = ⊥
NeedsNoFile (OfChange name change) = ⊥
NeedsNoFile (OfShards csv) = ⊥
NeedsNoFile (OfPage page) = ⊤

-- and so it is with what the words ask
abbrev pub AskForNoFile : List (List ℕ) → Type 0
AskForNoFile words = (form : Form) × (request : Request) × AreReadIn words form request × NeedsNoFile (asked_of request)
