-- What a run writes.
use Rattle.std.specs.Prelude.{◌≡◌, ◌⊎◌, ℕ, ◌<◌, List, length, Option, None}
use Rattle.std.specs.Io.KnownBytes.{Appends, Keeps}
use Rattle.command_words.specs.declared.form.Form.{Form}
use Rattle.io_ports.specs.Given.{Evidence}
use Rattle.io_ports.specs.Growth.{AppendsPrefix}
use Rattle.report_columns.specs.Columns.{ColumnText}
use Rattle.reserve_report.specs.declared.report.Report.{Report}
use Rattle.thiele_cli.specs.declared.answer.Answer.{Answer}
use Rattle.thiele_cli.specs.declared.end.End.{End}
use Rattle.thiele_cli.specs.declared.end.End.TheVariants.{FetchFault, WriteFault, Memory}
use Rattle.thiele_cli.specs.declared.end.Extra.{Extra}
use Rattle.thiele_cli.specs.declared.end.Extra.TheVariants.{Nothing}
use Rattle.thiele_cli.specs.Cases.{Files, AskAbout}
use Rattle.thiele_cli.specs.Forms.{IsTextIn}
use Rattle.thiele_cli.specs.Replies.{end_of, report_of, extra_of}
use Rattle.thiele_cli.specs.Ends.{IsAnswer}

-- told bytes grew by the text, and the end is the one that was meant; or by a prefix of the text, which is not empty
-- as a whole, at a fault of the sink
abbrev pub Delivers : (text : List ℕ) → (meant own : End) → Option (List ℕ) → Option (List ℕ) → Type 0
Delivers text meant own old new =
    ((own ≡ meant) × Appends old new text)
    ⊎ ((own ≡ WriteFault) × (0 < length text) × AppendsPrefix old new text)

-- a run with this answer ends as the answer does, or with a write fault
abbrev pub EndsAs : Answer → End → Type 0
EndsAs given own = (own ≡ end_of given) ⊎ (own ≡ WriteFault)

-- there is no answer: a file of which the words ask was not fetched, or memory was refused
abbrev pub HaveNoAnswer : Files → List (List ℕ) → End → Type 0
HaveNoAnswer files words own = ((own ≡ FetchFault) × (file : List ℕ) × AskAbout files words file) ⊎ (own ≡ Memory)

-- what is written: a text of an answer to the words and the files, in the form that the words ask for, with its report
-- and these columns behind it, or with what else it has; the files that were given are this evidence of it
pub record WritesAnswer (files : Files) (words : List (List ℕ)) (evidence : List Evidence) (columns : List ColumnText)
    (own : End) (report : Option Report) (extra : Extra) (old new : Option (List ℕ)) : Type 0 where
  pub form : Form
  pub given : Answer
  pub text : List ℕ
  pub is_answer : IsAnswer files words form given
  pub report_is : report ≡ report_of given
  pub extra_is : extra ≡ extra_of given
  pub is_text : IsTextIn form words evidence given columns text
  pub delivers : Delivers text (end_of given) own old new

-- nothing is written where there is no answer
abbrev pub Writes : Files → List (List ℕ) → List Evidence → List ColumnText → End → Option Report → Extra
    → Option (List ℕ) → Option (List ℕ) → Type 0
Writes files words evidence columns own report extra old new =
    (HaveNoAnswer files words own × (report ≡ None) × (extra ≡ Nothing) × Keeps old new)
    ⊎ WritesAnswer files words evidence columns own report extra old new
