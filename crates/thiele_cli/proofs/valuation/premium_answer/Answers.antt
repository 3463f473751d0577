use Rattle.std.proofs.Common.{ap, ◌∙◌}
use Rattle.std.specs.Prelude.{Err}
use Rattle.thiele_cli.proofs.Premiums.{premium_of, premium_is_reported, premium_is_refused, premium_has_line}
use Rattle.thiele_cli.proofs.valuation.premium_answer.Goals as goal

pub from_premium-requires : goal.from_premium-requires
from_premium-requires g c = premium_of c.args.admitted c.in-Ok.table c.in-Ok.ensures.table

pub returns-in_ok-report-in-Ok-clause-answer : goal.returns-in_ok-report-in-Ok-clause-answer
returns-in_ok-report-in-Ok-clause-answer g c =
    premium_is_reported c.args.admitted c.in-Ok.table c.in_ok-report-in-Ok.report c.in-Ok.ensures.table
    c.in_ok-report-in-Ok.ensures.report c.in_ok-report-in-Ok.ensures.premium c.in-Ok.ensures.constant

pub returns-in_ok-refusal_of-in-Err-clause-answer : goal.returns-in_ok-refusal_of-in-Err-clause-answer
returns-in_ok-refusal_of-in-Err-clause-answer g c =
    let found = c.in_ok-refusal_of-in-Err.ensures in
    let refused = c.in-Err.is ∙ ap (λ e. Err e) found.1 in
    premium_is_refused c.args.admitted c.in_ok-refusal_of-in-Err.field-0 found.0 found.2
    (c.solve.ensures.too_small found.0 refused)
    (λ n from large. c.solve.ensures.large n from large found.0 refused)

pub returns-in_ok-refusal_of-in-Err-clause-printable : goal.returns-in_ok-refusal_of-in-Err-clause-printable
returns-in_ok-refusal_of-in-Err-clause-printable g c =
    let found = c.in_ok-refusal_of-in-Err.ensures in
    let refused = c.in-Err.is ∙ ap (λ e. Err e) found.1 in
    premium_has_line c.args.admitted c.in_ok-refusal_of-in-Err.field-0 found.0 found.2
    (c.solve.ensures.too_small found.0 refused)
