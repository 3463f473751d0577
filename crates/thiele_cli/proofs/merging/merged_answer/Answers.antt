use Rattle.std.proofs.Common.{subst}
use Rattle.total_merge.specs.Merged.{AreMergedIn}
use Rattle.total_merge.specs.Tables.{TellsWrongIn}
use Rattle.thiele_cli.proofs.Merges.{are_merged, not_merged}
use Rattle.thiele_cli.proofs.merging.merged_answer.Goals as goal

pub returns-in-Ok-clause-answer : goal.returns-in-Ok-clause-answer
returns-in-Ok-clause-answer c =
    are_merged c.args.text.items c.in-Ok.totals
    (subst (λ text. AreMergedIn text c.in-Ok.totals) c.deref.ensures.value c.in-Ok.ensures.ok)

pub returns-in-Err-Row-clause-answer : goal.returns-in-Err-Row-clause-answer
returns-in-Err-Row-clause-answer c =
    not_merged c.args.text.items c.in-Err-Row.field-0 c.in-Err-Row.broken c.row_refused.result c.in-Err-Row.field-0-is
    (subst (λ text. TellsWrongIn text c.in-Err-Row.field-0) c.deref.ensures.value c.in-Err-Row.ensures.err)
    c.row_refused.ensures.refused
