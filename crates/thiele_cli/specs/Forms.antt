-- What is written of an answer, in each form.
use Rattle.std.specs.Prelude.{◌≡◌, ℕ, List, [], ◌∷◌, ◌++◌, Option, Some, None, codes, map, string_bytes, if◌then◌else◌}
use Rattle.answer_sheets.specs.AuditSheet.{audit_sheet_of}
use Rattle.answer_sheets.specs.ChangesSheet.{changes_sheet_of}
use Rattle.answer_sheets.specs.ReportSheet.{report_sheet_of}
use Rattle.answer_sheets.specs.TotalsSheet.{totals_sheet_of}
use Rattle.command_words.specs.declared.form.Form.{Form}
use Rattle.command_words.specs.declared.form.Form.TheVariants as forms
use Rattle.io_ports.specs.Given.{Evidence, evidence_of}
use Rattle.refusal_words.specs.PartTexts.{words_text}
use Rattle.report_columns.specs.Columns.{ColumnText}
use Rattle.row_sheets.specs.declared.about.About.{About}
use Rattle.row_sheets.specs.CsvText.{csv_text}
use Rattle.row_sheets.specs.JsonText.{json_text}
use Rattle.row_sheets.specs.Sheets.{Contents}
use Rattle.thiele_cli.specs.declared.answer.Answer.{Answer}
use Rattle.thiele_cli.specs.declared.answer.Answer.TheVariants as answer
use Rattle.thiele_cli.specs.declared.refusal.Refusal.{Refusal}
use Rattle.thiele_cli.specs.Cases.{begin_so}
use Rattle.thiele_cli.specs.Explanations.{ExplainText, lines_of}
use Rattle.thiele_cli.specs.Refusals.{line_of}
use Rattle.thiele_cli.specs.Replies.{text_of}

-- the rows of an answer that has rows
abbrev pub sheet_of : Answer → Option Contents
sheet_of (answer.Limits product) = None
sheet_of (answer.Report product report) = Some (report_sheet_of product report)
sheet_of (answer.Load product report) = None
sheet_of (answer.File text) = None
sheet_of (answer.Refused why) = None
sheet_of (answer.RefusedText why text) = None
sheet_of (answer.Changes old new changes) = Some (changes_sheet_of old changes)
sheet_of (answer.Audit product eps audited) = Some (audit_sheet_of product audited)
sheet_of (answer.Portfolio totals) = Some (totals_sheet_of totals)
sheet_of (answer.Told page) = None

-- the degree that it tells
abbrev pub degree_of : Answer → Option ℕ
degree_of (answer.Limits product) = None
degree_of (answer.Report product report) = Some report.degree
degree_of (answer.Load product report) = Some report.degree
degree_of (answer.File text) = None
degree_of (answer.Refused why) = None
degree_of (answer.RefusedText why text) = None
degree_of (answer.Changes old new changes) = Some changes.degree
degree_of (answer.Audit product eps audited) = Some audited.degree
degree_of (answer.Portfolio totals) = Some totals.degree
degree_of (answer.Told page) = None

-- the scale that it tells
abbrev pub scale_of : Answer → Option ℕ
scale_of (answer.Limits product) = None
scale_of (answer.Report product report) = Some report.scale
scale_of (answer.Load product report) = Some report.scale
scale_of (answer.File text) = None
scale_of (answer.Refused why) = None
scale_of (answer.RefusedText why text) = None
scale_of (answer.Changes old new changes) = None
scale_of (answer.Audit product eps audited) = None
scale_of (answer.Portfolio totals) = None
scale_of (answer.Told page) = None

-- the text of rows, or another where there are none
abbrev pub text_or : (Contents → List ℕ) → (otherwise : List ℕ) → Option Contents → List ℕ
text_or form otherwise None = otherwise
text_or form otherwise (Some sheet) = form sheet

-- the words behind the first one
abbrev pub rest_of : List (List ℕ) → List (List ℕ)
rest_of [] = []
rest_of (word ∷ words) = words

-- the text of an answer as JSON: its rows, with the words of the command, the files that were given, and its degree and
-- scale; or its own text where it has no rows
pub record IsJsonText (words : List (List ℕ)) (evidence : List Evidence) (given : Answer) (columns : List ColumnText)
    (text : List ℕ) : Type 0 where
  pub about : About
  pub words_are : map string_bytes about.words.now ≡ rest_of words
  pub files_are : evidence_of about.files.now ≡ evidence
  pub degree_is : about.degree ≡ degree_of given
  pub scale_is : about.scale ≡ scale_of given
  pub text_is : text ≡ text_or (json_text about) (text_of given columns) (sheet_of given)

-- the line of a refusal, and lines that explain it by the text of a file
pub record IsExplainedText (why : Refusal) (kept text : List ℕ) : Type 0 where
  pub lines : List ℕ
  pub explain : ExplainText why kept lines
  pub text_is : text ≡ line_of why ++ lines

-- the text of an answer; of a refusal its line, and lines that explain it
abbrev pub IsExplained : Answer → List ColumnText → (text : List ℕ) → Type 0
IsExplained (answer.Limits product) columns text = text ≡ text_of (answer.Limits product) columns
IsExplained (answer.Report product report) columns text = text ≡ text_of (answer.Report product report) columns
IsExplained (answer.Load product report) columns text = text ≡ text_of (answer.Load product report) columns
IsExplained (answer.File file) columns text = text ≡ text_of (answer.File file) columns
IsExplained (answer.Refused why) columns text = text ≡ line_of why ++ lines_of why
IsExplained (answer.RefusedText why kept) columns text = IsExplainedText why kept.items text
IsExplained (answer.Changes old new changes) columns text = text ≡ text_of (answer.Changes old new changes) columns
IsExplained (answer.Audit product eps audited) columns text =
    text ≡ text_of (answer.Audit product eps audited) columns
IsExplained (answer.Portfolio totals) columns text = text ≡ text_of (answer.Portfolio totals) columns
IsExplained (answer.Told page) columns text = text ≡ text_of (answer.Told page) columns

-- the line that refuses words, and the lines that explain it
unfoldable pub explained_words : List ℕ
explained_words = codes "refused words\n" ++ words_text

-- what is written of words without a reading
abbrev pub none_text : (words : List (List ℕ)) → List ℕ
none_text words = if begin_so words then explained_words else codes "refused words\n"

-- the text of an answer in a form
abbrev pub IsTextIn : Form → (words : List (List ℕ)) → List Evidence → Answer → List ColumnText → (text : List ℕ)
    → Type 0
IsTextIn forms.Report words evidence given columns text = text ≡ text_of given columns
IsTextIn forms.Csv words evidence given columns text =
    text ≡ text_or csv_text (text_of given columns) (sheet_of given)
IsTextIn forms.Json words evidence given columns text = IsJsonText words evidence given columns text
IsTextIn forms.Explained words evidence given columns text = IsExplained given columns text
