-- What the words and the files that they name come to, for the files that a shelf tells.
use Rattle.std.specs.Prelude.{◌≡◌, ◌⊎◌, ℕ, ◌+◌, ◌≤◌, ℤ, List, [], ◌∷◌, ⊤, Option, Some, None, length}
use Rattle.std.specs.Prelude.{Bool, false, bytes_eq, codes, if◌then◌else◌}
use Rattle.named_numbers.specs.Numbers.{most_file_bytes}
use Rattle.io_ports.specs.Files.{file_of, IsLonger}
use Rattle.rule_breaks.specs.Breaks.{break_of}
use Rattle.model_specs.specs.Product.{Product}
use Rattle.product_file.specs.Verdict.{IsNotToml, IsValid, Breaks}
use Rattle.command_words.specs.declared.form.Form.{Form}
use Rattle.command_words.specs.declared.form.Form.TheVariants as forms
use Rattle.command_words.specs.Readings.{Request}
use Rattle.command_words.specs.Forms.{AreReadIn, HaveReading}
use Rattle.thiele_cli.specs.declared.file_break.FileBreak.{FileBreak}
use Rattle.thiele_cli.specs.declared.file_break.FileBreak.TheVariants as file
use Rattle.thiele_cli.specs.declared.question.Question.{Question}
use Rattle.thiele_cli.specs.declared.pair_question.PairQuestion.{PairQuestion}
use Rattle.rule_breaks.specs.declared.breaks.RowBreak.{RowBreak}
use Rattle.portfolio_run.specs.Holdings.{Holding}
use Rattle.portfolio_run.specs.Readings.{AreHoldingsIn, files_of}
use Rattle.thiele_cli.specs.FileFaults.{FileFault, too_long}
use Rattle.thiele_cli.specs.Portfolios.{ComeTo, IsFirstRefused, IsWrongRow, IsUncoveredRow, AreCovered, NamesFile}
use Rattle.thiele_cli.specs.declared.page.Page.{Page}
use Rattle.thiele_cli.specs.Questions.{Asked, OfFile, OfFiles, OfSeed, LoadOf, OfClaims, OfPortfolio, OfChange}
use Rattle.thiele_cli.specs.Questions.{Change, OfPage, OfShards, asked_of}

-- what a shelf tells of its files: the names with their bytes, or nothing
abbrev pub Files : Type 0
Files = Option (List (List ℕ × List ℕ))

-- told files hold these bytes under the name; of files that are not told any bytes may be said
abbrev pub AreTold : Files → List ℕ → List ℕ → Type 0
AreTold None name bytes = ⊤
AreTold (Some files) name bytes = file_of name files ≡ Some bytes

-- the file of that name has more bytes than a file may have, where files are told
abbrev pub IsLong : Files → List ℕ → Type 0
IsLong None name = ⊤
IsLong (Some files) name = IsLonger (Some files) name most_file_bytes

-- the file of that name has these bytes, and no more than a file may have
pub record AreBytesOf (files : Files) (name bytes : List ℕ) : Type 0 where
  pub told : AreTold files name bytes
  pub short : length bytes ≤ most_file_bytes

-- the file of that name is refused by this cause, and has this text: it is too long, it is no TOML, or it breaks this
-- rule first
abbrev pub IsRefusedBy : Files → List ℕ → FileBreak → List ℕ → Type 0
IsRefusedBy files name (file.TooLong seen) text = IsLong files name × (seen ≡ most_file_bytes + 1) × (text ≡ [])
IsRefusedBy files name file.NotToml text = AreBytesOf files name text × IsNotToml text
IsRefusedBy files name (file.Rule found) text = AreBytesOf files name text × Breaks text (break_of found)

-- the file of that name has this fault
abbrev pub HasFault : Files → List ℕ → FileFault → Type 0
HasFault files name fault = IsRefusedBy files name fault.cause fault.text

-- the file of that name has this product, which breaks no rule
abbrev pub HasProduct : Files → List ℕ → Product → Type 0
HasProduct files name product = (bytes : List ℕ) × AreBytesOf files name bytes × IsValid bytes product

-- what words and files come to: no reading, a seed whose file or whose reserves are asked for, a first or a second
-- file that is refused, a question about a product or about two that break no rule, or a distance, such a product and
-- the text of claims about it; of a portfolio a row that is wrong and its text, a product file that is refused, by its
-- place among the different ones, or holdings and the products of their files; a change that is asked of a product that
-- breaks no rule; the text of sums that are to be merged; or what the program tells of itself
pub data Case : Type 0 where
  NoReading : Case
  Generated : ℕ → Case
  Loaded : ℕ → Case
  WrongRow : RowBreak → List ℕ → Case
  PolicyRefused : ℕ → FileFault → Case
  SummedUp : List Holding → List Product → Case
  FirstRefused : FileFault → Case
  SecondRefused : FileFault → Case
  Answered : Question → Product → Case
  AnsweredOfTwo : PairQuestion → Product → Product → Case
  AnsweredOfClaims : ℤ → Product → List ℕ → Case
  AnsweredOfChange : Change → Product → Case
  AnsweredOfShards : List ℕ → Case
  Told : Page → Case

-- what a product file comes to: it is refused, or it has a product that comes to the rest
abbrev pub IsFileCase : Files → List ℕ → (FileFault → Case) → (Product → Case → Type 0) → Case → Type 0
IsFileCase files name refused IsRest case =
    ((fault : FileFault) × HasFault files name fault × (case ≡ refused fault))
    ⊎ ((product : Product) × HasProduct files name product × IsRest product case)

-- what a second product file comes to, where this is asked of it and a first product
abbrev pub IsSecondCase : Files → PairQuestion → List ℕ → Product → Case → Type 0
IsSecondCase files what name old case =
    IsFileCase files name SecondRefused (λ new rest. rest ≡ AnsweredOfTwo what old new) case

-- what a file comes to that is no product file: it is too long, or it has a text that comes to the rest
abbrev pub IsTextCase : Files → List ℕ → (FileFault → Case) → (List ℕ → Case → Type 0) → Case → Type 0
IsTextCase files name refused IsRest case =
    ((seen : ℕ) × HasFault files name (too_long seen) × (case ≡ refused (too_long seen)))
    ⊎ ((text : List ℕ) × AreBytesOf files name text × IsRest text case)

-- what a file of claims comes to, where a distance is asked of it and a product
abbrev pub IsClaimsCase : Files → ℤ → List ℕ → Product → Case → Type 0
IsClaimsCase files eps name product case =
    IsTextCase files name SecondRefused (λ text rest. rest ≡ AnsweredOfClaims eps product text) case

-- what the holdings of a text come to, whose different files have these products: a row whose product has not its date
-- or its state, or what is summed up
abbrev pub IsCoverCase : (text : List ℕ) → List Holding → List Product → Case → Type 0
IsCoverCase text holdings products case =
    ((broken : RowBreak) × IsUncoveredRow holdings products broken × (case ≡ WrongRow broken text))
    ⊎ (AreCovered holdings products × (case ≡ SummedUp holdings products))

-- what the holdings of a text come to: the first of their different files that is refused, or each file has a product
abbrev pub IsHoldingsCase : Files → (text : List ℕ) → List Holding → Case → Type 0
IsHoldingsCase files text holdings case =
    ((place : ℕ) × (fault : FileFault)
    × IsFirstRefused (HasProduct files) (HasFault files) (files_of holdings) place fault
    × (case ≡ PolicyRefused place fault))
    ⊎ ((products : List Product) × ComeTo (HasProduct files) (files_of holdings) products
    × IsCoverCase text holdings products case)

-- what the text of a portfolio comes to: its first wrong row, or its holdings
abbrev pub IsPoliciesCase : Files → (text : List ℕ) → Case → Type 0
IsPoliciesCase files text case =
    ((broken : RowBreak) × IsWrongRow text broken × (case ≡ WrongRow broken text))
    ⊎ ((holdings : List Holding) × AreHoldingsIn text holdings × IsHoldingsCase files text holdings case)

-- what a request comes to by what it asks; a second file is looked at only where the first has a product
abbrev pub IsAskedCase : Files → Asked → Case → Type 0
IsAskedCase files (OfFile what name) case =
    IsFileCase files name FirstRefused (λ product rest. rest ≡ Answered what product) case
IsAskedCase files (OfFiles what first second) case =
    IsFileCase files first FirstRefused (IsSecondCase files what second) case
IsAskedCase files (OfSeed seed) case = case ≡ Generated seed
IsAskedCase files (LoadOf seed) case = case ≡ Loaded seed
IsAskedCase files (OfClaims name claims eps) case =
    IsFileCase files name FirstRefused (IsClaimsCase files eps claims) case
IsAskedCase files (OfPortfolio csv) case = IsTextCase files csv FirstRefused (IsPoliciesCase files) case
IsAskedCase files (OfChange name change) case =
    IsFileCase files name FirstRefused (λ product rest. rest ≡ AnsweredOfChange change product) case
IsAskedCase files (OfShards csv) case =
    IsTextCase files csv FirstRefused (λ text rest. rest ≡ AnsweredOfShards text) case
IsAskedCase files (OfPage page) case = case ≡ Told page

-- the words begin with that of an explanation
abbrev pub begin_so : List (List ℕ) → Bool
begin_so [] = false
begin_so (word ∷ words) = bytes_eq word (codes "explain")

-- the form in which words without a reading are refused: explained where they begin so
abbrev pub form_of_none : List (List ℕ) → Form
form_of_none words = if begin_so words then forms.Explained else forms.Report

-- what the words come to, and in which form: they have no reading, or they are read as this request
abbrev pub IsCase : Files → List (List ℕ) → Form → Case → Type 0
IsCase files words form case =
    ((¬ HaveReading words) × (form ≡ form_of_none words) × (case ≡ NoReading))
    ⊎ ((request : Request) × AreReadIn words form request × IsAskedCase files (asked_of request) case)

-- a holding of the portfolio in that file names this file
abbrev pub IsNamedIn : Files → (csv name : List ℕ) → Type 0
IsNamedIn files csv name = (text : List ℕ) × AreBytesOf files csv text × NamesFile text name

-- something is asked of this file
abbrev pub IsAskedOf : Files → Asked → List ℕ → Type 0
IsAskedOf files (OfFile what name) file = file ≡ name
IsAskedOf files (OfFiles what first second) file = (file ≡ first) ⊎ (file ≡ second)
IsAskedOf files (OfSeed seed) file = ⊥
IsAskedOf files (LoadOf seed) file = ⊥
IsAskedOf files (OfClaims name claims eps) file = (file ≡ name) ⊎ (file ≡ claims)
IsAskedOf files (OfPortfolio csv) file = (file ≡ csv) ⊎ IsNamedIn files csv file
IsAskedOf files (OfChange name change) file = file ≡ name
IsAskedOf files (OfShards csv) file = file ≡ csv
IsAskedOf files (OfPage page) file = ⊥

-- the words ask something of this file, or of one that a portfolio names of which they ask
abbrev pub AskAbout : Files → List (List ℕ) → List ℕ → Type 0
AskAbout files words file =
    (form : Form) × (request : Request) × AreReadIn words form request × IsAskedOf files (asked_of request) file
