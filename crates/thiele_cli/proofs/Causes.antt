-- From the answer of the words and the files to the end of a run, and back.
use Rattle.std.proofs.Common.{◌≡◌, ℕ, List, inl, inr, ◌⊎◌}
use Rattle.std.proofs.Common.{sym, ◌∙◌, subst}
use Rattle.std.specs.Prelude.{Option, IsSome}
use Rattle.command_words.specs.declared.form.Form.{Form}
use Rattle.reserve_report.specs.declared.report.Report.{Report}
use Rattle.thiele_cli.specs.declared.answer.Answer.{Answer}
use Rattle.thiele_cli.specs.declared.end.End.{End}
use Rattle.thiele_cli.specs.declared.end.End.TheVariants as end
use Rattle.thiele_cli.specs.declared.end.Extra.{Extra}
use Rattle.thiele_cli.specs.Cases.{Files, Case, IsCase}
use Rattle.thiele_cli.specs.Replies.{end_of, report_of, extra_of, Answers}
use Rattle.thiele_cli.specs.Ends.{IsExtra, IsFault, IsAnswer, LeadTo, LeadToReport, LeadToExtra, ComesBy}
use Rattle.thiele_cli.specs.Outcome.{EndsAs}
use Rattle.thiele_cli.proofs.OneCase.{one_case}

-- over told files the answer is one of any case that the words and the files come to
of_case : (files : Files) (words : List (List ℕ)) (form other : Form) (given : Answer) (case : Case) → IsSome files
    → IsAnswer files words form given → IsCase files words other case → Answers case given
of_case files words form other given case told a holds =
    subst (λ x. Answers x given) (one_case files words form other a.case case told a.holds holds) a.says

-- and its end is the one that this case leads to
one_end : (files : Files) (words : List (List ℕ)) (form : Form) (given : Answer) (own : End) → IsSome files
    → IsAnswer files words form given → LeadTo files words own → end_of given ≡ own
one_end files words form given own told a cause =
    cause.leads given (of_case files words form cause.form given cause.case told a cause.holds)

-- an end that is no fault comes by its cases
pub comes_by : (files : Files) (words failed now : List (List ℕ)) (form : Form) (given : Answer) (reached own : End)
    → IsAnswer files words form given → EndsAs given reached → ¬ IsFault own
    → ComesBy files words failed now reached own
comes_by files words failed now form given reached own a (inl ends) sound = record {
  only = λ e. record { form = form; given = given; is_answer = a; ends = sym e ∙ ends };
  always = λ told same cause. inl (ends ∙ one_end files words form given own told a cause);
}
comes_by files words failed now form given reached own a (inr fault) sound = record {
  only = λ e. absurd (sound (subst IsFault (sym fault ∙ e) tt));
  always = λ told same cause. inr (inr fault);
}

-- a report is handed back
pub reported : (files : Files) (words : List (List ℕ)) (form : Form) (given : Answer) (report : Option Report)
    → IsAnswer files words form given → report ≡ report_of given → LeadToReport files words → IsSome files
    → IsSome report
reported files words form given report a is cause told =
    subst IsSome (sym is)
    (cause.reports given (of_case files words form cause.form given cause.case told a cause.holds))

-- and so is what else an answer has
pub has_extra : (files : Files) (words : List (List ℕ)) (form : Form) (given : Answer) (extra : Extra)
    → IsAnswer files words form given → extra ≡ extra_of given → LeadToExtra files words → IsSome files → IsExtra extra
has_extra files words form given extra a is cause told =
    subst IsExtra (sym is) (cause.has given (of_case files words form cause.form given cause.case told a cause.holds))

-- with no fault of the sink each case has its end
pub completes : (files : Files) (words : List (List ℕ)) (form : Form) (given : Answer) (reached own : End)
    (Faulty : Type 0) → IsAnswer files words form given → EndsAs given reached → LeadTo files words own → IsSome files
    → (reached ≡ end.WriteFault → Faulty) → ¬ Faulty → (reached ≡ own) ⊎ (reached ≡ end.Memory)
completes files words form given reached own Faulty a (inl ends) cause told faulty sound =
    inl (ends ∙ one_end files words form given own told a cause)
completes files words form given reached own Faulty a (inr fault) cause told faulty sound =
    absurd (sound (faulty fault))
