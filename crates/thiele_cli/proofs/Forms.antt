-- The texts of answers in each form.
use Rattle.std.proofs.Common.{◌≡◌, ℕ, List, refl, subst}
use Rattle.std.specs.Prelude.{Bool, true, false, None, Option, Result, Vec, IfOk, codes, map, string_bytes}
use Rattle.std.specs.Prelude.{if◌then◌else◌}
use Rattle.std.specs.declared.alloc.AllocError.{AllocError}
use Rattle.std.specs.declared.alloc.Global.{Global}
use Rattle.std.proofs.lemmas.Result.{IfOk-weaker}
use Rattle.command_words.specs.declared.form.Form.{Form}
use Rattle.command_words.specs.declared.form.Form.TheVariants as forms
use Rattle.command_words.specs.Forms.{AreReadIn}
use Rattle.command_words.specs.Readings.{Request}
use Rattle.io_ports.specs.Given.{Evidence, evidence_of}
use Rattle.report_columns.specs.Columns.{ColumnText}
use Rattle.row_sheets.specs.declared.about.About.{About}
use Rattle.row_sheets.specs.JsonText.{json_text}
use Rattle.row_sheets.specs.Sheets.{Contents}
use Rattle.thiele_cli.specs.declared.answer.Answer.{Answer}
use Rattle.thiele_cli.specs.declared.answer.Answer.TheVariants as answer
use Rattle.thiele_cli.specs.declared.refusal.Refusal.TheVariants as refusal
use Rattle.thiele_cli.specs.Cases.{begin_so, form_of_none}
use Rattle.thiele_cli.specs.Forms.{IsJsonText, IsTextIn, degree_of, explained_words, none_text, rest_of, scale_of}
use Rattle.thiele_cli.specs.Forms.{sheet_of, text_or}
use Rattle.thiele_cli.specs.Questions.{IsRead}
use Rattle.thiele_cli.specs.Replies.{text_of}

-- words that are read in a form have a command in them
pub read_in_form : (words : List (List ℕ)) (form : Form) (request : Request) → AreReadIn words form request
    → IsRead request
read_in_form words forms.Report request read = (words, read)
read_in_form words forms.Csv request read = (read.0.behind, read.0.reads)
read_in_form words forms.Json request read = (read.0.behind, read.0.reads)
read_in_form words forms.Explained request read = (read.0.behind, read.0.reads)

-- the text of words without a reading is in its form
told_so : (so : Bool) (words : List (List ℕ)) (evidence : List Evidence) (columns : List ColumnText)
    → IsTextIn (if so then forms.Explained else forms.Report) words evidence (answer.Refused refusal.Words) columns
    (if so then explained_words else codes "refused words\n")
unfolding explained_words
told_so true words evidence columns = refl
told_so false words evidence columns = refl

pub none_is_told : (words : List (List ℕ)) (evidence : List Evidence) (columns : List ColumnText)
    → IsTextIn (form_of_none words) words evidence (answer.Refused refusal.Words) columns (none_text words)
none_is_told words evidence columns = told_so (begin_so words) words evidence columns

-- the words, the files and the ledgers that JSON tells of an answer
pub record Tells (about : About) (words : List (List ℕ)) (evidence : List Evidence) (given : Answer) : Type 0 where
  pub words_are : map string_bytes about.words.now ≡ rest_of words
  pub files_are : evidence_of about.files.now ≡ evidence
  pub degree_is : about.degree ≡ degree_of given
  pub scale_is : about.scale ≡ scale_of given

-- the text of the rows of an answer is its text as JSON
pub json_told : (about : About) (words : List (List ℕ)) (evidence : List Evidence) (given : Answer)
    (columns : List ColumnText) (sheet : Option Contents) (text : List ℕ) → Tells about words evidence given
    → sheet ≡ sheet_of given → text ≡ text_or (json_text about) (text_of given columns) sheet
    → IsJsonText words evidence given columns text
json_told about words evidence given columns sheet text tells is told = record {
  about = about;
  words_are = tells.words_are;
  files_are = tells.files_are;
  degree_is = tells.degree_is;
  scale_is = tells.scale_is;
  text_is = subst (λ s. text ≡ text_or (json_text about) (text_of given columns) s) is told;
}

-- and its own text is, where it has none
pub none_as_json : (about : About) (words : List (List ℕ)) (evidence : List Evidence) (given : Answer)
    (columns : List ColumnText) (result : Result (Vec ℕ Global) AllocError) → Tells about words evidence given
    → None ≡ sheet_of given → IfOk result (λ bytes. bytes.items ≡ text_of given columns)
    → IfOk result (λ bytes. IsJsonText words evidence given columns bytes.items)
none_as_json about words evidence given columns result tells is told =
    IfOk-weaker result (λ bytes. bytes.items ≡ text_of given columns)
    (λ bytes. IsJsonText words evidence given columns bytes.items)
    (λ bytes same. json_told about words evidence given columns None bytes.items tells is same) told
