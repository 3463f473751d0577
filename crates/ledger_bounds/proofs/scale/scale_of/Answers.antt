use Rattle.std.proofs.Common.{arith}
use Rattle.std.proofs.lemmas.Grind.{common_steps}
use Rattle.frac_laws.specs.Ledger.{IsScale}
use Rattle.frac_laws.proofs.LedgerLaws.{scale_is_scale_of_bound}
use Rattle.ledger_bounds.proofs.Limits.{scale_limit}
use Rattle.ledger_bounds.proofs.scale.scale_of.Goals as goal

pub returns-then-bound1024-pow-clause-none : goal.returns-then-bound1024-pow-clause-none
returns-then-bound1024-pow-clause-none c =
    let within = scale_limit c.args.bound1024 c.loop-g.g (omega arith) (omega arith) in
    grind arith

pub returns-then-bound1024-pow-clause-value : goal.returns-then-bound1024-pow-clause-value
returns-then-bound1024-pow-clause-value c =
    let scale : IsScale c.args.bound1024 c.loop-g.g = grind (arith, common_steps) in
    scale_is_scale_of_bound c.args.bound1024 c.loop-g.g scale
