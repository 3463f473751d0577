-- The ends of a run, what each of them comes by, and the names whose fetch failed.
use Rattle.std.specs.Prelude.{◌≡◌, ◌≢◌, ◌⊎◌, ℕ, List, [], ◌∷◌, ◌++◌, IsSome, ⊤}
use Rattle.command_words.specs.declared.form.Form.{Form}
use Rattle.thiele_cli.specs.declared.answer.Answer.{Answer}
use Rattle.thiele_cli.specs.declared.end.End.{End}
use Rattle.thiele_cli.specs.declared.end.End.TheVariants as end
use Rattle.thiele_cli.specs.declared.end.Extra.{Extra}
use Rattle.thiele_cli.specs.declared.end.Extra.TheVariants as extra
use Rattle.thiele_cli.specs.Cases.{Files, Case, IsCase}
use Rattle.thiele_cli.specs.Replies.{end_of, report_of, extra_of, Answers}

-- the exit status of each end
abbrev pub status_of : End → ℕ
status_of end.Done = 0
status_of end.BadWords = 2
status_of end.FetchFault = 3
status_of (end.TooLong seen) = 4
status_of end.NotToml = 5
status_of (end.Rule found) = 6
status_of (end.NoPremium low) = 7
status_of end.WriteFault = 8
status_of end.Memory = 9
status_of (end.Second cause) = 11
status_of (end.Join broken) = 12
status_of (end.Derived found) = 13
status_of (end.Compare broken) = 16
status_of (end.Row broken) = 14
status_of (end.Policy broken) = 15
status_of (end.Change broken) = 17

-- what is handed back beside the report is there
abbrev pub IsExtra : Extra → Type 0
IsExtra extra.Nothing = ⊥
IsExtra (extra.Compare changes) = ⊤
IsExtra (extra.Audit audited) = ⊤
IsExtra (extra.Portfolio totals) = ⊤

-- the ends of a run that has no answer or could not write it
abbrev pub IsFault : End → Type 0
IsFault end.FetchFault = ⊤
IsFault end.WriteFault = ⊤
IsFault end.Memory = ⊤
IsFault _ = ⊥

-- in this form the words and the files come to a case with this answer
pub record IsAnswer (files : Files) (words : List (List ℕ)) (form : Form) (given : Answer) : Type 0 where
  pub case : Case
  pub holds : IsCase files words form case
  pub says : Answers case given

-- they come to a case with an answer of this end
pub record EndBy (files : Files) (words : List (List ℕ)) (own : End) : Type 0 where
  pub form : Form
  pub given : Answer
  pub is_answer : IsAnswer files words form given
  pub ends : own ≡ end_of given

-- they come to a case whose every answer has this end
pub record LeadTo (files : Files) (words : List (List ℕ)) (own : End) : Type 0 where
  pub form : Form
  pub case : Case
  pub holds : IsCase files words form case
  pub leads : (given : Answer) → Answers case given → end_of given ≡ own

-- they come to a case whose every answer is a report
pub record LeadToReport (files : Files) (words : List (List ℕ)) : Type 0 where
  pub form : Form
  pub case : Case
  pub holds : IsCase files words form case
  pub reports : (given : Answer) → Answers case given → IsSome (report_of given)

-- they come to a case whose every answer has a result of its own kind
pub record LeadToExtra (files : Files) (words : List (List ℕ)) : Type 0 where
  pub form : Form
  pub case : Case
  pub holds : IsCase files words form case
  pub has : (given : Answer) → Answers case given → IsExtra (extra_of given)

-- the end comes only by a case with such an answer; and where the files are told and no fetch failed, a case that leads
-- to it has no other end than want of memory and a fault of the sink
pub record ComesBy (files : Files) (words failed_before failed_now : List (List ℕ)) (reached own : End)
    : Type 0 where
  pub only : reached ≡ own → EndBy files words own
  pub always : IsSome files → failed_now ≡ failed_before → LeadTo files words own
      → (reached ≡ own) ⊎ (reached ≡ end.Memory) ⊎ (reached ≡ end.WriteFault)

-- after a fetch fault the list of failed names has one more, which is of this kind; after any other end it has none
abbrev pub NotesFailure : (List ℕ → Type 0) → End → List (List ℕ) → List (List ℕ) → Type 0
NotesFailure IsName own before now =
    ((own ≡ end.FetchFault) × (name : List ℕ) × IsName name × (now ≡ before ++ name ∷ []))
    ⊎ ((own ≢ end.FetchFault) × (now ≡ before))
