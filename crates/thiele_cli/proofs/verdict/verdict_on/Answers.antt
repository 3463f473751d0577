use Rattle.std.proofs.Common.{refl, subst, sym}
use Rattle.product_file.specs.Verdict.{ReadsProduct}
use Rattle.thiele_cli.specs.Verdicts.{IsVerdictOn}
use Rattle.thiele_cli.proofs.Verdicts.{breaks_later}
use Rattle.thiele_cli.proofs.verdict.verdict_on.Goals as goal

pub returns-in-Err-Rule-admit : goal.returns-in-Err-Rule-admit
returns-in-Err-Rule-admit c =
    subst (IsVerdictOn c.args.bytes.items) (sym c.refused-in-Err-Rule-admit.ensures) (
      refl,
      breaks_later c.args.bytes.items c.in-Ok.product _
          (subst (λ bytes. ReadsProduct bytes c.in-Ok.product) c.deref.ensures.value c.in-Ok.ensures.ok)
          (c.admit.ensures.rule c.in-Err-Rule-admit.found
          (cc (c.in-Err-Rule-admit.is, c.in-Err-Rule-admit.field-0-is))),
    )
