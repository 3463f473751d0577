use Rattle.std.proofs.Common.{ap, ◌∙◌, Err}
use Rattle.thiele_cli.proofs.Comparisons.{bases_refused}
use Rattle.thiele_cli.proofs.comparison.find_between.Goals as goal

pub returns-in-Err-Compare : goal.returns-in-Err-Compare
returns-in-Err-Compare c =
    rw c.in-Err-Compare.field-0-is (bases_refused c.args.old.now c.args.new.now c.in-Err-Compare.broken
    (c.hybrid.ensures.compare c.in-Err-Compare.broken
    (c.in-Err-Compare.is ∙ ap (λ e. Err e) c.in-Err-Compare.field-0-is)))
