use Rattle.std.proofs.Common.{ap, sym, ◌∙◌, get_or}
use Rattle.step_bench.proofs.Filling.{column_is_place}
use Rattle.step_bench.proofs.systems.put.Goals as goal

pub set-requires-clause-place : goal.set-requires-clause-place
set-requires-clause-place c =
    column_is_place c.args.system.now c.args.row c.args.place _ c.degree-degree.ensures.system c.requires.row
    c.requires.place
    (ap (λ cs. get_or cs c.args.place 0) c.columns.ensures) (λ q. c.if-col-dim.false (q ∙ sym c.dim-dim.ensures))
