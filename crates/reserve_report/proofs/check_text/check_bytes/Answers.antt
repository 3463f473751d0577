use Rattle.std.proofs.Common.{◌≡◌, subst}
use Rattle.std.specs.Prelude.{IfOk}
use Rattle.reserve_report.specs.CheckText.{check_text}
use Rattle.reserve_report.proofs.check_text.check_bytes.Goals as goal

pub returns : goal.returns
returns c =
    subst (λ p. IfOk c.limits_text.result (λ text. text.items ≡ check_text p)) c.product.ensures.product
    c.limits_text.ensures
