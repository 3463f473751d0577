-- What each case is answered by, and how an answer ends, reports and reads.
use Rattle.std.specs.Prelude.{◌≡◌, ◌⊎◌, ℕ, ◌^◌, ◌≤◌, ℤ, unsigned_abs, List, Option, Some, None}
use Rattle.std.specs.Prelude.{⊤, Vec}
use Rattle.std.specs.declared.alloc.Global.{Global}
use Rattle.named_numbers.specs.Numbers.{highest_degree}
use Rattle.basis_compare.specs.ChangesText.{HaveText, changes_text}
use Rattle.claim_audit.specs.AuditText.{AreAboutStates, audit_text}
use Rattle.model_specs.specs.Product.{Product}
use Rattle.product_file.specs.Verdict.{ReadsAs, IsValid}
use Rattle.file_upgrade.specs.Upgraded.{IsOfFormat2}
use Rattle.report_columns.specs.Columns.{ColumnText}
use Rattle.reserve_report.specs.declared.report.Report.{Report}
use Rattle.reserve_report.specs.declared.report.Kind.TheVariants as kind
use Rattle.reserve_report.specs.LoadText.{load_text}
use Rattle.reserve_report.specs.Reports.{HasText}
use Rattle.premium_solver.specs.Premiums.{IsTooSmall, IsLargePattern}
use Rattle.reserve_report.specs.ReportText.{report_text}
use Rattle.reserve_report.specs.CheckText.{check_text}
use Rattle.portfolio_run.specs.TotalsText as totals_texts
use Rattle.portfolio_run.specs.TotalsText.{totals_text}
use Rattle.workload_gen.specs.Laws.{generated_product}
use Rattle.workload_gen.specs.Tree.{generated}
use Rattle.refusal_words.specs.declared.row_texts.CsvTable.TheVariants as table
use Rattle.thiele_cli.specs.declared.end.End.{End}
use Rattle.thiele_cli.specs.declared.end.End.TheVariants as end
use Rattle.thiele_cli.specs.declared.end.Extra.{Extra}
use Rattle.thiele_cli.specs.declared.end.Extra.TheVariants as extra
use Rattle.thiele_cli.specs.declared.question.Question.{Question}
use Rattle.thiele_cli.specs.declared.question.Question.TheVariants as question
use Rattle.thiele_cli.specs.declared.pair_question.PairQuestion.{PairQuestion}
use Rattle.thiele_cli.specs.declared.pair_question.PairQuestion.TheVariants as pair_question
use Rattle.thiele_cli.specs.declared.refusal.Refusal.{Refusal}
use Rattle.thiele_cli.specs.declared.refusal.Refusal.TheVariants as refusal
use Rattle.thiele_cli.specs.declared.answer.Answer.{Answer}
use Rattle.thiele_cli.specs.declared.answer.Answer.TheVariants as answer
use Rattle.thiele_cli.specs.Refusals.{refused_end, line_of}
use Rattle.thiele_cli.specs.RefusedTexts.{IsRefusedText}
use Rattle.thiele_cli.specs.Premiums.{HasClosePremium}
use Rattle.thiele_cli.specs.MonthGrids.{IsReserveReport}
use Rattle.thiele_cli.specs.Audits.{AnswersAudit}
use Rattle.thiele_cli.specs.ChangedFiles.{AnswersChange}
use Rattle.thiele_cli.specs.Comparisons.{AnswersComparison}
use Rattle.thiele_cli.specs.JointFiles.{AnswersJoin}
use Rattle.thiele_cli.specs.Loads.{IsLoaded}
use Rattle.thiele_cli.specs.Merges.{AnswersMerge}
use Rattle.thiele_cli.specs.Pages.{page_text}
use Rattle.thiele_cli.specs.Portfolios.{AreSummedUp}
use Rattle.thiele_cli.specs.Valuations.{IsValuation}
use Rattle.thiele_cli.specs.Cases.{Case, NoReading, Generated, Loaded, FirstRefused, SecondRefused, Answered}
use Rattle.thiele_cli.specs.Cases.{AnsweredOfTwo, AnsweredOfClaims, AnsweredOfChange, AnsweredOfShards, Told}
use Rattle.thiele_cli.specs.Cases.{WrongRow, PolicyRefused, SummedUp}

-- the end of a run with this answer, once its text is written
abbrev pub end_of : Answer → End
end_of (answer.Limits product) = end.Done
end_of (answer.Report product report) = end.Done
end_of (answer.Load product report) = end.Done
end_of (answer.File text) = end.Done
end_of (answer.Refused why) = refused_end why
end_of (answer.RefusedText why text) = refused_end why
end_of (answer.Changes old new changes) = end.Done
end_of (answer.Audit product eps audited) = end.Done
end_of (answer.Portfolio totals) = end.Done
end_of (answer.Told page) = end.Done

-- the report of an answer that is one
abbrev pub report_of : Answer → Option Report
report_of (answer.Limits product) = None
report_of (answer.Report product report) = Some report
report_of (answer.Load product report) = Some report
report_of (answer.File text) = None
report_of (answer.Refused why) = None
report_of (answer.RefusedText why text) = None
report_of (answer.Changes old new changes) = None
report_of (answer.Audit product eps audited) = None
report_of (answer.Portfolio totals) = None
report_of (answer.Told page) = None

-- what it has beside a report
abbrev pub extra_of : Answer → Extra
extra_of (answer.Limits product) = extra.Nothing
extra_of (answer.Report product report) = extra.Nothing
extra_of (answer.Load product report) = extra.Nothing
extra_of (answer.File text) = extra.Nothing
extra_of (answer.Refused why) = extra.Nothing
extra_of (answer.RefusedText why text) = extra.Nothing
extra_of (answer.Changes old new changes) = extra.Compare changes
extra_of (answer.Audit product eps audited) = extra.Audit audited
extra_of (answer.Portfolio totals) = extra.Portfolio totals
extra_of (answer.Told page) = extra.Nothing

-- the text of an answer, with these columns behind a report or behind totals
abbrev pub text_of : Answer → List ColumnText → List ℕ
text_of (answer.Limits product) columns = check_text product
text_of (answer.Report product report) columns = report_text product report columns
text_of (answer.Load product report) columns = load_text product report
text_of (answer.File text) columns = text.items
text_of (answer.Refused why) columns = line_of why
text_of (answer.RefusedText why text) columns = line_of why
text_of (answer.Changes old new changes) columns = changes_text old new changes
text_of (answer.Audit product eps audited) columns = audit_text product eps audited
text_of (answer.Portfolio totals) columns = totals_text totals columns
text_of (answer.Told page) columns = page_text page

-- a refusal has a line: the number that it tells is not too large for it
abbrev pub HasLine : Refusal → Type 0
HasLine refusal.Words = ⊤
HasLine (refusal.First cause) = ⊤
HasLine (refusal.Second cause) = ⊤
HasLine (refusal.Premium low) = unsigned_abs low ≤ 2 ^ 100
HasLine (refusal.Derived found) = ⊤
HasLine (refusal.Join broken) = ⊤
HasLine (refusal.Compare broken) = ⊤
HasLine (refusal.Row table broken) = ⊤
HasLine (refusal.Policy broken) = ⊤
HasLine (refusal.Change broken) = ⊤

-- the answer has a text
abbrev pub IsPrintable : Answer → Type 0
IsPrintable (answer.Limits product) = ⊤
IsPrintable (answer.Report product report) = HasText product report
IsPrintable (answer.Load product report) = HasText product report
IsPrintable (answer.File text) = ⊤
IsPrintable (answer.Refused why) = HasLine why
IsPrintable (answer.RefusedText why text) = HasLine why
IsPrintable (answer.Changes old new changes) = HaveText old changes
IsPrintable (answer.Audit product eps audited) = AreAboutStates product audited
IsPrintable (answer.Portfolio totals) = totals_texts.HaveText totals
IsPrintable (answer.Told page) = ⊤

-- the answer is a report about the product, and it is right in this sense
abbrev pub Reports : Product → (Report → Type 0) → Answer → Type 0
Reports product IsRight given =
    (report : Report) × (given ≡ answer.Report product report) × IsRight report

-- a report of the premium, whose ends are as close as the tolerances of the benefits and of the pattern say
pub record IsPremiumReport (product : Product) (report : Report) : Type 0 where
  pub valuation : IsValuation product kind.Premium 1 report
  pub close : HasClosePremium product report

-- the pattern's value is refused: its interval begins below 1/32, and no value of degree 24 or more is at least 1/32
-- and the width of its interval
pub record IsRefusedPremium (product : Product) (given : Answer) : Type 0 where
  pub low : ℤ
  pub refused : given ≡ answer.Refused (refusal.Premium low)
  pub too_small : IsTooSmall product low
  pub none_large : (n : ℕ) → highest_degree ≤ n → ¬ IsLargePattern product n

-- the answer is a text of format 2 whose product is this one, and it breaks no rule
pub record IsUpgraded (product : Product) (given : Answer) : Type 0 where
  pub text : Vec ℕ Global
  pub answers : given ≡ answer.File text
  pub valid : IsValid text.items product
  pub format : IsOfFormat2 text.items

-- the answer to a question about a product that breaks no rule
abbrev pub AnswersQuestion : Question → Product → Answer → Type 0
AnswersQuestion question.Limits product given = given ≡ answer.Limits product
AnswersQuestion question.ValueAtIssue product given = Reports product (IsValuation product kind.Value 1) given
AnswersQuestion (question.Reserves every) product given = Reports product (IsReserveReport product every) given
AnswersQuestion (question.Occupancy every) product given =
    Reports product (IsValuation product kind.Occupancy every) given
AnswersQuestion (question.Moments every) product given = Reports product (IsValuation product kind.Moments every) given
AnswersQuestion question.Premium product given =
    Reports product (IsPremiumReport product) given ⊎ IsRefusedPremium product given
AnswersQuestion question.Upgraded product given = IsUpgraded product given

-- the answer to a question about two products that break no rule
abbrev pub AnswersOfTwo : PairQuestion → (old new : Product) → Answer → Type 0
AnswersOfTwo pair_question.Joined old new given = AnswersJoin old new given
AnswersOfTwo (pair_question.Changes every) old new given = AnswersComparison old new every given

-- the answer is a text that reads as the tree of the seed, and breaks no rule
pub record IsGenerated (seed : ℕ) (given : Answer) : Type 0 where
  pub text : Vec ℕ Global
  pub answers : given ≡ answer.File text
  pub reads : ReadsAs text.items (generated seed)
  pub valid : IsValid text.items (generated_product seed)

-- the answer to each case
abbrev pub Answers : Case → Answer → Type 0
Answers NoReading given = given ≡ answer.Refused refusal.Words
Answers (Generated seed) given = IsGenerated seed given
Answers (Loaded seed) given = IsLoaded seed given
Answers (WrongRow broken text) given = IsRefusedText (refusal.Row table.Holdings broken) text given
Answers (PolicyRefused place fault) given =
    IsRefusedText (refusal.Policy (record { file = place; cause = fault.cause })) fault.text given
Answers (SummedUp holdings products) given = AreSummedUp holdings products given
Answers (FirstRefused fault) given = IsRefusedText (refusal.First fault.cause) fault.text given
Answers (SecondRefused fault) given = IsRefusedText (refusal.Second fault.cause) fault.text given
Answers (Answered asked product) given = AnswersQuestion asked product given
Answers (AnsweredOfTwo asked old new) given = AnswersOfTwo asked old new given
Answers (AnsweredOfClaims eps product text) given = AnswersAudit eps product text given
Answers (AnsweredOfChange change product) given = AnswersChange change product given
Answers (AnsweredOfShards text) given = AnswersMerge text given
Answers (Told page) given = given ≡ answer.Told page
