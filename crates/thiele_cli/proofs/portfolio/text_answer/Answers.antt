use Rattle.std.proofs.Common.{◌≡◌, ◌∙◌, ap, arith, length, subst, sym}
use Rattle.std.specs.Prelude.{Err}
use Rattle.std.proofs.lemmas.Result.{err_from_is_err_and}
use Rattle.thiele_cli.specs.declared.fault.Fault.TheVariants.{Fetch}
use Rattle.portfolio_run.specs.declared.reading.PolicyError.TheVariants as error
use Rattle.portfolio_run.specs.Readings.{AreHoldingsIn, TellsWrongIn}
use Rattle.portfolio_run.specs.Totals.{TellsUncovered}
use Rattle.portfolio_run.proofs.FileNames.{files_are_few, files_are_texts}
use Rattle.thiele_cli.specs.FileFaults.{fault_in}
use Rattle.thiele_cli.specs.PortfolioFiles.{IsLast}
use Rattle.thiele_cli.proofs.Portfolios.{file_refused, summed_up, uncovered_row, wrong_row}
use Rattle.thiele_cli.proofs.portfolio.text_answer.Goals as goal

pub returns-in-Err-Row-clause-answer : goal.returns-in-Err-Row-clause-answer
returns-in-Err-Row-clause-answer g c =
    wrong_row (g.H.Shelf.files c.args.shelf.now) c.args.text.items c.in-Err-Row.broken c.row_refused.result
    (subst (λ text. TellsWrongIn text (error.Row c.in-Err-Row.broken)) c.deref.ensures.value
    (subst (TellsWrongIn c.deref.result.now) c.in-Err-Row.field-0-is c.in-Err-Row.ensures.err))
    (rw c.in-Err-Row.field-0-is at c.row_refused.ensures.refused)

pub value_files-requires-clause-few : goal.value_files-requires-clause-few
value_files-requires-clause-few g c =
    omega (
      arith,
      files_are_few c.deref.result.now c.in-Ok.policies.holdings c.in-Ok.ensures.ok,
      ap length c.deref.ensures.value,
      c.requires,
    )

pub value_files-requires-clause-texts : goal.value_files-requires-clause-texts
value_files-requires-clause-texts g c = files_are_texts c.deref.result.now c.in-Ok.policies.holdings c.in-Ok.ensures.ok

pub returns-in-Some-clause-answer : goal.returns-in-Some-clause-answer
returns-in-Some-clause-answer g c =
    let files = g.H.Shelf.files c.args.shelf.now in
    file_refused files c.args.text.items c.in-Ok.policies c.in-Some.refused.file (fault_in c.in-Some.refused.refused)
    c.policy_refused.result (subst (λ text. AreHoldingsIn text c.in-Ok.policies.holdings) c.deref.ensures.value
    c.in-Ok.ensures.ok)
    (subst (IsLast files c.in-Ok.policies c.value_files.new.policies) c.in-Some.is c.in_ok-refused.ensures.last)
    c.policy_refused.ensures.refused

pub returns-in-Ok-totals-clause-answer : goal.returns-in-Ok-totals-clause-answer
returns-in-Ok-totals-clause-answer g c =
    let files = g.H.Shelf.files c.args.shelf.now in
    summed_up files c.args.text.items c.in-Ok.policies c.value_files.new.policies c.in-Ok-totals.totals
    (subst (λ text. AreHoldingsIn text c.in-Ok.policies.holdings) c.deref.ensures.value c.in-Ok.ensures.ok)
    (subst (IsLast files c.in-Ok.policies c.value_files.new.policies) c.in_default.is c.in_ok-refused.ensures.last)
    c.in-Ok-totals.ensures.ok

pub returns-in-Err-Row-totals-clause-answer : goal.returns-in-Err-Row-totals-clause-answer
returns-in-Err-Row-totals-clause-answer g c =
    let files = g.H.Shelf.files c.args.shelf.now in
    uncovered_row files c.args.text.items c.in-Ok.policies c.value_files.new.policies c.in-Err-Row-totals.broken
    c.row_refused-in-Err-Row-totals.result
    (subst (λ text. AreHoldingsIn text c.in-Ok.policies.holdings) c.deref.ensures.value c.in-Ok.ensures.ok)
    (subst (IsLast files c.in-Ok.policies c.value_files.new.policies) c.in_default.is c.in_ok-refused.ensures.last)
    (subst (TellsUncovered c.value_files.new.policies) c.in-Err-Row-totals.field-0-is c.in-Err-Row-totals.ensures.err)
    c.row_refused-in-Err-Row-totals.ensures.refused

pub returns-in_err-refused-clause-not_fetched : goal.returns-in_err-refused-clause-not_fetched
returns-in_err-refused-clause-not_fetched g c fetch =
    let p = err_from_is_err_and c.from_residual.result c.from_residual.ensures.1 in
    let one : p.0 ≡ Fetch = cc (p.1, fetch) in
    let told = c.in_err-refused.ensures.not_fetched (ap (λ e. Err e) (sym p.2 ∙ one)) in (
      told.0,
      (
        c.in-Ok.policies.holdings,
        subst (λ text. AreHoldingsIn text c.in-Ok.policies.holdings) c.deref.ensures.value c.in-Ok.ensures.ok,
        told.1,
      ),
      told.2,
    )
