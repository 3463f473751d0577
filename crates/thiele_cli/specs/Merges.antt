-- What a request to merge totals is answered by.
use Rattle.std.specs.Prelude.{◌≡◌, ◌⊎◌, ℕ, List}
use Rattle.portfolio_run.specs.declared.totals.Totals.{Totals}
use Rattle.refusal_words.specs.declared.row_texts.CsvTable.TheVariants as table
use Rattle.rule_breaks.specs.declared.breaks.RowBreak.{RowBreak}
use Rattle.total_merge.specs.Merged.{AreMergedIn}
use Rattle.total_merge.specs.Tables.{IsFirstWrongIn}
use Rattle.thiele_cli.specs.declared.answer.Answer.{Answer}
use Rattle.thiele_cli.specs.declared.answer.Answer.TheVariants as answer
use Rattle.thiele_cli.specs.declared.refusal.Refusal.TheVariants as refusal
use Rattle.thiele_cli.specs.RefusedTexts.{IsRefusedText}

-- a text with a wrong row is refused by the first such row and its first wrong part, and it is kept
pub record AreNotMerged (text : List ℕ) (given : Answer) : Type 0 where
  pub broken : RowBreak
  pub answers : IsRefusedText (refusal.Row table.Totals broken) text given
  pub first : IsFirstWrongIn text broken.row broken.part

-- the totals of all others are summed up by group
pub record AreMerged (text : List ℕ) (given : Answer) : Type 0 where
  pub totals : Totals
  pub answers : given ≡ answer.Portfolio totals
  pub right : AreMergedIn text totals

-- the answer to `merge`
abbrev pub AnswersMerge : (text : List ℕ) → Answer → Type 0
AnswersMerge text given = AreNotMerged text given ⊎ AreMerged text given
