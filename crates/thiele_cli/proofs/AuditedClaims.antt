-- From a product and the text of claims about it to the answer of the words that name their files.
use Rattle.std.proofs.Common.{◌≡◌, ℕ, ℤ, List, Vec, inl, inr, refl, subst}
use Rattle.std.specs.declared.alloc.Global.{Global}
use Rattle.model_specs.specs.Product.{Product}
use Rattle.decimal_in.proofs.SmallSizes.{unsigned_is_least, unsigned_is_small}
use Rattle.rule_breaks.specs.declared.breaks.RowBreak.{RowBreak}
use Rattle.claim_audit.specs.declared.auditing.Audited.{Audited}
use Rattle.claim_audit.specs.declared.reading.AuditError.{AuditError}
use Rattle.claim_audit.specs.declared.reading.AuditError.TheVariants as error
use Rattle.claim_audit.specs.Audits.{IsAudit}
use Rattle.claim_audit.specs.Readings.{TellsWrongIn}
use Rattle.command_words.specs.Readings.{Audit}
use Rattle.refusal_words.specs.declared.row_texts.CsvTable.TheVariants as table
use Rattle.thiele_cli.specs.declared.answer.Answer.{Answer}
use Rattle.thiele_cli.specs.declared.answer.Answer.TheVariants as answer
use Rattle.thiele_cli.specs.declared.fetching.Fetched.{Fetched}
use Rattle.thiele_cli.specs.declared.fetching.Fetched.TheVariants as fetch
use Rattle.thiele_cli.specs.declared.file_break.FileRefusal.{FileRefusal}
use Rattle.thiele_cli.specs.declared.refusal.Refusal.TheVariants as refusal
use Rattle.thiele_cli.specs.FileFaults.{FileFault, fault_in, too_long}
use Rattle.thiele_cli.specs.Questions.{OfClaims, IsRead}
use Rattle.thiele_cli.specs.RefusedTexts.{IsRefusedText}
use Rattle.thiele_cli.specs.Cases.{Files, AreBytesOf, HasFault, HasProduct}
use Rattle.thiele_cli.specs.Cases.{FirstRefused, SecondRefused, AnsweredOfClaims}
use Rattle.thiele_cli.specs.Audits.{AnswersAudit, IsDistance}
use Rattle.thiele_cli.specs.AskedAnswers.{AnswersAsked}
use Rattle.thiele_cli.specs.Fetches.{IsFetched}

-- ---- words and files

-- what words ask for is a distance
pub distance_of_words : (name claims : List ℕ) (eps : ℤ) → IsRead (Audit name claims eps) → IsDistance eps
distance_of_words name claims eps read = record {
  least = unsigned_is_least read.1.distance eps read.1.reads;
  small = unsigned_is_small read.1.distance eps read.1.reads;
}

-- the bytes that were fetched of a file, over the same files
pub bytes_told : (given files : Files) (name : List ℕ) (fetched : Fetched) (bytes : Vec ℕ Global) → given ≡ files
    → fetched ≡ fetch.Bytes bytes → IsFetched given name fetched → AreBytesOf files name bytes.items
bytes_told given files name fetched bytes same is told =
    subst (λ told. AreBytesOf told name bytes.items) same (subst (IsFetched given name) is told)

-- a file that is too long has that fault
pub long_fault : (files : Files) (name : List ℕ) (seen : ℕ) → IsFetched files name (fetch.TooLong seen)
    → HasFault files name (too_long seen)
long_fault files name seen told = (told.0, told.1, refl)

-- and that it was too long
pub long_told : (given files : Files) (name : List ℕ) (fetched : Fetched) (seen : ℕ) → given ≡ files
    → fetched ≡ fetch.TooLong seen → IsFetched given name fetched → HasFault files name (too_long seen)
long_told given files name fetched seen same is told =
    subst (λ told. HasFault told name (too_long seen)) same
    (long_fault given name seen (subst (IsFetched given name) is told))

-- the product file is refused
pub refused_product : (files : Files) (name claims : List ℕ) (eps : ℤ) (fault : FileFault) (given : Answer)
    → HasFault files name fault → IsRefusedText (refusal.First fault.cause) fault.text given
    → AnswersAsked files (OfClaims name claims eps) given
refused_product files name claims eps fault given has says =
    record { case = FirstRefused fault; holds = inl (fault, has, refl); says = says }

-- the file of claims is too long
pub refused_claims : (files : Files) (name claims : List ℕ) (eps : ℤ) (product : Product) (seen : ℕ)
    (refused : FileRefusal) (given : Answer) → HasProduct files name product → HasFault files claims (too_long seen)
    → fault_in refused ≡ too_long seen → IsRefusedText (refusal.Second refused.cause) refused.text.items given
    → AnswersAsked files (OfClaims name claims eps) given
refused_claims files name claims eps product seen refused given has fault is says = record {
  case = SecondRefused (too_long seen);
  holds = inr (product, has, inl (seen, fault, refl));
  says = subst (λ (f : FileFault). IsRefusedText (refusal.Second f.cause) f.text given) is says;
}

-- its text is audited
pub answered_claims : (files : Files) (name claims : List ℕ) (eps : ℤ) (product : Product) (text : List ℕ)
    (given : Answer) → HasProduct files name product → AreBytesOf files claims text
    → AnswersAudit eps product text given → AnswersAsked files (OfClaims name claims eps) given
answered_claims files name claims eps product text given has told says = record {
  case = AnsweredOfClaims eps product text;
  holds = inr (product, has, inr (text, told, refl));
  says = says;
}

-- ---- audits

-- claims that are audited
pub audit_answers : (eps : ℤ) (product : Product) (text : List ℕ) (audited : Audited)
    → IsAudit product text eps audited → AnswersAudit eps product text (answer.Audit product eps audited)
audit_answers eps product text audited right =
    inr (record { audited = audited; answers = refl; right = right })

-- a text with a wrong row
pub wrong_row_answers : (eps : ℤ) (product : Product) (text : List ℕ) (why : AuditError) (broken : RowBreak)
    (given : Answer) → why ≡ error.Row broken → TellsWrongIn product.months product.states text why
    → IsRefusedText (refusal.Row table.Claims broken) text given → AnswersAudit eps product text given
wrong_row_answers eps product text why broken given is tells says =
    inl (record {
      broken = broken;
      answers = says;
      first = subst (TellsWrongIn product.months product.states text) is tells;
    })
