-- From the text of totals to the answer of the words that name its file.
use Rattle.std.proofs.Common.{◌≡◌, ℕ, List, inl, inr, refl, subst}
use Rattle.portfolio_run.specs.declared.totals.Totals.{Totals}
use Rattle.refusal_words.specs.declared.row_texts.CsvTable.TheVariants as table
use Rattle.rule_breaks.specs.declared.breaks.RowBreak.{RowBreak}
use Rattle.total_merge.specs.declared.reading.MergeError.{MergeError}
use Rattle.total_merge.specs.declared.reading.MergeError.TheVariants as error
use Rattle.total_merge.specs.Merged.{AreMergedIn}
use Rattle.total_merge.specs.Tables.{TellsWrongIn}
use Rattle.thiele_cli.specs.declared.answer.Answer.{Answer}
use Rattle.thiele_cli.specs.declared.answer.Answer.TheVariants as answer
use Rattle.thiele_cli.specs.declared.file_break.FileRefusal.{FileRefusal}
use Rattle.thiele_cli.specs.declared.refusal.Refusal.TheVariants as refusal
use Rattle.thiele_cli.specs.AskedAnswers.{AnswersAsked}
use Rattle.thiele_cli.specs.Cases.{Files, AreBytesOf, HasFault, FirstRefused, AnsweredOfShards}
use Rattle.thiele_cli.specs.FileFaults.{FileFault, fault_in, too_long}
use Rattle.thiele_cli.specs.Merges.{AnswersMerge}
use Rattle.thiele_cli.specs.Questions.{OfShards}
use Rattle.thiele_cli.specs.RefusedTexts.{IsRefusedText}

-- totals that are summed up
pub are_merged : (text : List ℕ) (totals : Totals) → AreMergedIn text totals
    → AnswersMerge text (answer.Portfolio totals)
are_merged text totals right = inr (record { totals = totals; answers = refl; right = right })

-- a text with a wrong row
pub not_merged : (text : List ℕ) (why : MergeError) (broken : RowBreak) (given : Answer) → why ≡ error.Row broken
    → TellsWrongIn text why → IsRefusedText (refusal.Row table.Totals broken) text given → AnswersMerge text given
not_merged text why broken given is tells says =
    inl (record { broken = broken; answers = says; first = subst (TellsWrongIn text) is tells })

-- the text of the file is asked to be merged
pub answered_shards : (files : Files) (csv text : List ℕ) (given : Answer) → AreBytesOf files csv text
    → AnswersMerge text given → AnswersAsked files (OfShards csv) given
answered_shards files csv text given told says =
    record { case = AnsweredOfShards text; holds = inr (text, told, refl); says = says }

-- the file is too long
pub long_shards : (files : Files) (csv : List ℕ) (seen : ℕ) (refused : FileRefusal) (given : Answer)
    → HasFault files csv (too_long seen) → fault_in refused ≡ too_long seen
    → IsRefusedText (refusal.First refused.cause) refused.text.items given → AnswersAsked files (OfShards csv) given
long_shards files csv seen refused given fault is says = record {
  case = FirstRefused (too_long seen);
  holds = inl (seen, fault, refl);
  says = subst (λ (f : FileFault). IsRefusedText (refusal.First f.cause) f.text given) is says;
}
