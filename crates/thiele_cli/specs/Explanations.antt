-- The lines that explain why there is no answer.
use Rattle.std.specs.Prelude.{◌≡◌, ℕ, List, []}
use Rattle.claim_audit.specs.Readings.{AreRecordsOf}
use Rattle.toml.specs.Data.{Members}
use Rattle.product_file.specs.Verdict.{ReadsAs, IsNotToml}
use Rattle.rule_breaks.specs.declared.breaks.RowBreak.{RowBreak}
use Rattle.rule_breaks.specs.declared.breaks.RuleBreak.{RuleBreak}
use Rattle.refusal_words.specs.declared.row_texts.CsvTable.{CsvTable}
use Rattle.refusal_words.specs.RuleTexts.{derived_text, rule_text}
use Rattle.refusal_words.specs.PartTexts.{change_text, compare_text, join_text, length_text, premium_text, words_text}
use Rattle.refusal_words.specs.RowTexts.{row_text}
use Rattle.refusal_words.specs.TomlTexts.{IsTomlText}
use Rattle.thiele_cli.specs.declared.file_break.FileBreak.{FileBreak}
use Rattle.thiele_cli.specs.declared.file_break.FileBreak.TheVariants as file
use Rattle.thiele_cli.specs.declared.refusal.Refusal.{Refusal}
use Rattle.thiele_cli.specs.declared.refusal.Refusal.TheVariants as refusal

-- the lines that explain a refusal that is not by the text of a file
abbrev pub lines_of : Refusal → List ℕ
lines_of refusal.Words = words_text
lines_of (refusal.First cause) = []
lines_of (refusal.Second cause) = []
lines_of (refusal.Premium low) = premium_text
lines_of (refusal.Join broken) = join_text broken.part
lines_of (refusal.Derived found) = derived_text found
lines_of (refusal.Compare broken) = compare_text broken.part
lines_of (refusal.Row table broken) = []
lines_of (refusal.Policy broken) = []
lines_of (refusal.Change broken) = change_text broken.part

-- lines explain why a text breaks a rule: by its tree, whose names they tell
pub record ExplainRule (text : List ℕ) (found : RuleBreak) (lines : List ℕ) : Type 0 where
  pub read : (tree : Members) → ReadsAs text tree → lines ≡ rule_text tree found
  pub not_toml : IsNotToml text → lines ≡ derived_text found

-- lines explain why the text of a file is refused
abbrev pub ExplainFile : FileBreak → (text lines : List ℕ) → Type 0
ExplainFile (file.TooLong seen) text lines = lines ≡ length_text
ExplainFile file.NotToml text lines = IsTomlText text lines
ExplainFile (file.Rule found) text lines = ExplainRule text found lines

-- lines explain why a row of a CSV text is wrong: by its records, of which they tell what was found
pub record ExplainRow (table : CsvTable) (broken : RowBreak) (text lines : List ℕ) : Type 0 where
  pub records : List (List (List ℕ))
  pub are_records : AreRecordsOf text records
  pub lines_are : lines ≡ row_text table broken records

-- lines explain a refusal by the text of a file
abbrev pub ExplainText : Refusal → (text lines : List ℕ) → Type 0
ExplainText refusal.Words text lines = lines ≡ []
ExplainText (refusal.First cause) text lines = ExplainFile cause text lines
ExplainText (refusal.Second cause) text lines = ExplainFile cause text lines
ExplainText (refusal.Premium low) text lines = lines ≡ []
ExplainText (refusal.Join broken) text lines = lines ≡ []
ExplainText (refusal.Derived found) text lines = lines ≡ []
ExplainText (refusal.Compare broken) text lines = lines ≡ []
ExplainText (refusal.Row table broken) text lines = ExplainRow table broken text lines
ExplainText (refusal.Policy broken) text lines = ExplainFile broken.cause text lines
ExplainText (refusal.Change broken) text lines = lines ≡ []
