use Rattle.std.proofs.Common.{◌≡◌, ℕ, subst}
use Rattle.curve_pieces.specs.BrokenRules.{IsFirstBroken}
use Rattle.thiele_cli.specs.ChangedFiles.{ChangeAsks, changed_by}
use Rattle.thiele_cli.specs.Inquiries.{change_of}
use Rattle.thiele_cli.proofs.ChangedFiles.{is_changed, no_changed_file, not_changed}
use Rattle.thiele_cli.proofs.changing.changed_answer.Goals as goal

pub returns-in-Err-Change-clause-answer : goal.returns-in-Err-Change-clause-answer
returns-in-Err-Change-clause-answer c =
    rw c.in-Err-Change.field-0-is (not_changed (change_of c.args.change) c.args.admitted c.in-Err-Change.broken
    (subst (λ p. IsFirstBroken (ChangeAsks (change_of c.args.change) p) c.in-Err-Change.broken.part)
    c.product.ensures.product
    (c.changed.ensures.refused c.in-Err-Change.broken (cc (c.in-Err-Change.is, c.in-Err-Change.field-0-is)))))

pub returns-in-Err-Rule-clause-answer : goal.returns-in-Err-Rule-clause-answer
returns-in-Err-Rule-clause-answer c =
    rw c.in-Err-Rule.field-0-is (no_changed_file (change_of c.args.change) c.args.admitted c.in-Ok.product
    c.in-Err-Rule.found
    (subst (λ p. c.in-Ok.product ≡ changed_by (change_of c.args.change) p) c.product.ensures.product c.in-Ok.ensures.ok)
    (subst (λ p. (part : ℕ) → ChangeAsks (change_of c.args.change) p part) c.product.ensures.product
    c.in-Ok.ensures.keeps)
    (c.admit.ensures.rule c.in-Err-Rule.found (cc (c.in-Err-Rule.is, c.in-Err-Rule.field-0-is))))

pub returns-clause-answer : goal.returns-clause-answer
returns-clause-answer c =
    is_changed (change_of c.args.change) c.args.admitted c.in-Ok.product c.in-Ok-admit.new c.in_ok-text.text
    c.in-Ok-admit.ensures.ok
    (subst (λ p. c.in-Ok.product ≡ changed_by (change_of c.args.change) p) c.product.ensures.product c.in-Ok.ensures.ok)
    (subst (λ p. (part : ℕ) → ChangeAsks (change_of c.args.change) p part) c.product.ensures.product
    c.in-Ok.ensures.keeps) c.in_ok-text.ensures.verdict c.in_ok-text.ensures.format
