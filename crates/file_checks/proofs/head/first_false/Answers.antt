use Rattle.std.proofs.Common.{sym, ◌∙◌, true, false, arith}
use Rattle.std.proofs.lemmas.List.{get_or_default}
use Rattle.file_checks.proofs.Checks.{first_failed-at, first_failed-none}
use Rattle.file_checks.proofs.head.first_false.Goals as goal

pub returns-then-not-check : goal.returns-then-not-check
returns-then-not-check c =
    sym (first_failed-at c.args.checks.now c.loop-i.i (omega arith) c.loop-i.invariant
    (get_or_default c.args.checks.now c.loop-i.i true false (omega arith) ∙ c.if-not-check.true))

pub returns : goal.returns
returns c = sym (first_failed-none c.args.checks.now (λ k below. c.loop-i.invariant k (omega arith)))
