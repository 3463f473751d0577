use Rattle.std.proofs.Common.{subst}
use Rattle.workload_gen.specs.Laws.{generated_product}
use Rattle.thiele_cli.specs.Verdicts.{IsVerdictOn}
use Rattle.thiele_cli.proofs.Verdicts.{one_valid, not_refused}
use Rattle.thiele_cli.proofs.loading.generated.Goals as goal

pub unreachable-requires : goal.unreachable-requires
unreachable-requires c =
    not_refused c.in_ok-text.text.items (generated_product c.args.seed) c.in-Refused.field-0
    c.in_ok-text.ensures.valid
    (subst (IsVerdictOn c.in_ok-text.text.items) c.in-Refused.is c.in_ok-admitted.ensures)

pub returns : goal.returns
returns c =
    one_valid c.in_ok-text.text.items c.in-Admitted.admitted (generated_product c.args.seed)
    (subst (IsVerdictOn c.in_ok-text.text.items) c.in-Admitted.is c.in_ok-admitted.ensures)
    c.in_ok-text.ensures.valid
