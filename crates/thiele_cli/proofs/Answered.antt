-- From the verdict on a file to the answer of the words that name it.
use Rattle.std.proofs.Common.{◌≡◌, ℕ, ◌≤◌, List, length, inl, inr, refl, sym, subst}
use Rattle.std.specs.Prelude.{Some, None, Ok, Err, Vec}
use Rattle.std.specs.declared.alloc.Global.{Global}
use Rattle.named_numbers.specs.Numbers.{most_file_bytes}
use Rattle.io_ports.specs.Files.{AnswersFrom}
use Rattle.io_ports.specs.declared.shelf.FetchError.TheVariants as fetch
use Rattle.command_words.specs.declared.form.Form.{Form}
use Rattle.command_words.specs.Forms.{AreReadIn, HaveReading}
use Rattle.command_words.specs.Readings.{Request}
use Rattle.rule_breaks.specs.Breaks.{break_of}
use Rattle.model_specs.specs.Product.{Product}
use Rattle.product_file.specs.Verdict.{IsNotToml, Breaks}
use Rattle.thiele_cli.specs.declared.answer.Answer.{Answer}
use Rattle.thiele_cli.specs.declared.answer.Answer.TheVariants as answer
use Rattle.thiele_cli.specs.declared.file_break.FileBreak.{FileBreak}
use Rattle.thiele_cli.specs.declared.file_break.FileBreak.TheVariants as file
use Rattle.thiele_cli.specs.declared.file_break.FileRefusal.{FileRefusal}
use Rattle.thiele_cli.specs.declared.question.Question.{Question}
use Rattle.thiele_cli.specs.declared.pair_question.PairQuestion.{PairQuestion}
use Rattle.thiele_cli.specs.declared.refusal.Refusal.TheVariants as refusal
use Rattle.thiele_cli.specs.declared.verdict.Verdict.{Verdict}
use Rattle.thiele_cli.specs.declared.verdict.Verdict.TheVariants as verdict
use Rattle.thiele_cli.specs.Questions.{OfFile, OfFiles, OfSeed, LoadOf, asked_of}
use Rattle.thiele_cli.specs.Cases.{Files, IsLong, AreBytesOf, IsRefusedBy, HasFault, HasProduct, form_of_none}
use Rattle.thiele_cli.specs.Loads.{IsLoaded}
use Rattle.thiele_cli.specs.Cases.{NoReading, Generated, Loaded, FirstRefused, SecondRefused, Answered, AnsweredOfTwo}
use Rattle.thiele_cli.specs.RefusedTexts.{IsRefusedText}
use Rattle.thiele_cli.specs.Replies.{AnswersQuestion, AnswersOfTwo, IsGenerated}
use Rattle.thiele_cli.specs.Ends.{IsAnswer}
use Rattle.thiele_cli.specs.AskedAnswers.{AnswersAsked}
use Rattle.thiele_cli.specs.FileFaults.{FileFault, fault_in}
use Rattle.thiele_cli.specs.Verdicts.{AreRefusedBy, IsVerdictOn, IsVerdictOnFile}

-- ---- files

-- the bytes that a shelf gave are those that it tells
pub bytes_of : (files : Files) (name : List ℕ) (bytes : Vec ℕ Global)
    → AnswersFrom files name most_file_bytes (Ok bytes) → length bytes.items ≤ most_file_bytes
    → AreBytesOf files name bytes.items
bytes_of None name bytes from short = record { told = tt; short = short }
bytes_of (Some files) name bytes from short = record { told = from; short = short }

-- and a file that it calls too long is long
pub long_file : (files : Files) (name : List ℕ) (seen : ℕ)
    → AnswersFrom files name most_file_bytes (Err (fetch.TooLong seen)) → IsLong files name
long_file None name seen from = tt
long_file (Some files) name seen from = from

-- a cause by which the bytes of a file are refused is that of the file
refused_by : (files : Files) (name bytes : List ℕ) (cause : FileBreak) (text : List ℕ) → text ≡ bytes
    → AreBytesOf files name bytes → AreRefusedBy bytes cause → IsRefusedBy files name cause text
refused_by files name bytes (file.TooLong seen) text same given says = absurd says
refused_by files name bytes file.NotToml text same given says =
    (subst (AreBytesOf files name) (sym same) given, subst IsNotToml (sym same) says)
refused_by files name bytes (file.Rule found) text same given says =
    (subst (AreBytesOf files name) (sym same) given, subst (λ t. Breaks t (break_of found)) (sym same) says)

-- the verdict on the bytes of a file is that on the file
pub verdict_of_file : (files : Files) (name bytes : List ℕ) (v : Verdict) → AreBytesOf files name bytes
    → IsVerdictOn bytes v → IsVerdictOnFile files name v
verdict_of_file files name bytes (verdict.Admitted product) given says = (bytes, given, says)
verdict_of_file files name bytes (verdict.Refused refused) given says =
    refused_by files name bytes refused.cause refused.text.items says.0 given says.1

-- a product that is admitted is that of the file, over the same files
pub product_of : (given files : Files) (name : List ℕ) (v : Verdict) (product : Product) → given ≡ files
    → v ≡ verdict.Admitted product → IsVerdictOnFile given name v → HasProduct files name product
product_of given files name v product same is says =
    subst (λ told. HasProduct told name product) same (subst (IsVerdictOnFile given name) is says)

-- and that by which it is refused is its fault
pub fault_of : (given files : Files) (name : List ℕ) (v : Verdict) (refused : FileRefusal) → given ≡ files
    → v ≡ verdict.Refused refused → IsVerdictOnFile given name v → HasFault files name (fault_in refused)
fault_of given files name v refused same is says =
    subst (λ told. HasFault told name (fault_in refused)) same (subst (IsVerdictOnFile given name) is says)

-- ---- what is asked

-- a file that is refused
pub refused_file : (files : Files) (question : Question) (name : List ℕ) (fault : FileFault) (given : Answer)
    → HasFault files name fault → IsRefusedText (refusal.First fault.cause) fault.text given
    → AnswersAsked files (OfFile question name) given
refused_file files question name fault given has says =
    record { case = FirstRefused fault; holds = inl (fault, has, refl); says = says }

-- a product of which this is asked
pub answered_file : (files : Files) (question : Question) (name : List ℕ) (product : Product) (given : Answer)
    → HasProduct files name product → AnswersQuestion question product given
    → AnswersAsked files (OfFile question name) given
answered_file files question name product given has says =
    record { case = Answered question product; holds = inr (product, has, refl); says = says }

-- the first of two files is refused
pub refused_first : (files : Files) (question : PairQuestion) (first second : List ℕ) (fault : FileFault)
    (given : Answer) → HasFault files first fault → IsRefusedText (refusal.First fault.cause) fault.text given
    → AnswersAsked files (OfFiles question first second) given
refused_first files question first second fault given has says =
    record { case = FirstRefused fault; holds = inl (fault, has, refl); says = says }

-- the second is
pub refused_second : (files : Files) (question : PairQuestion) (first second : List ℕ) (old : Product)
    (fault : FileFault) (given : Answer) → HasProduct files first old → HasFault files second fault
    → IsRefusedText (refusal.Second fault.cause) fault.text given
    → AnswersAsked files (OfFiles question first second) given
refused_second files question first second old fault given has has_fault says = record {
  case = SecondRefused fault;
  holds = inr (old, has, inl (fault, has_fault, refl));
  says = says;
}

-- two products of which this is asked
pub answered_pair : (files : Files) (question : PairQuestion) (first second : List ℕ) (old new : Product)
    (given : Answer) → HasProduct files first old → HasProduct files second new → AnswersOfTwo question old new given
    → AnswersAsked files (OfFiles question first second) given
answered_pair files question first second old new given has_old has_new says = record {
  case = AnsweredOfTwo question old new;
  holds = inr (old, has_old, inr (new, has_new, refl));
  says = says;
}

-- the product file of a seed is that of what is asked
pub seed_answers : (files : Files) (seed : ℕ) (given : Answer) → IsGenerated seed given
    → AnswersAsked files (OfSeed seed) given
seed_answers files seed given says = record { case = Generated seed; holds = refl; says = says }

-- and so are its reserves
pub load_answers : (files : Files) (seed : ℕ) (given : Answer) → IsLoaded seed given
    → AnswersAsked files (LoadOf seed) given
load_answers files seed given says = record { case = Loaded seed; holds = refl; says = says }

-- ---- words

-- the answer of a request is that of the words that are read as it
pub request_answers : (files : Files) (words : List (List ℕ)) (asked_in : Form) (request : Request) (given : Answer)
    → AreReadIn words asked_in request → AnswersAsked files (asked_of request) given
    → IsAnswer files words asked_in given
request_answers files words asked_in request given read s =
    record { case = s.case; holds = inr (request, read, s.holds); says = s.says }

-- and words without a reading are refused
pub no_reading_answers : (files : Files) (words : List (List ℕ)) → ¬ HaveReading words
    → IsAnswer files words (form_of_none words) (answer.Refused refusal.Words)
no_reading_answers files words none = record { case = NoReading; holds = inl (none, refl, refl); says = refl }
