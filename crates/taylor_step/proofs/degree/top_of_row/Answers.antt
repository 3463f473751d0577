use Rattle.std.proofs.Common.{length, ◌-◌, ap}
use mir.Syntax.{w64}
use Rattle.std.proofs.Common.{of_z}
use Rattle.taylor_step.proofs.Tops.{power_of_place}
use Rattle.taylor_step.proofs.degree.top_of_row.Goals as goal

pub returns-then-numbers-count-ne0-clause-least : goal.returns-then-numbers-count-ne0-clause-least
returns-then-numbers-count-ne0-clause-least c m zeros =
    power_of_place c.args.numbers.now c.args.columns (length c.args.numbers.now - 1 - c.loop-k.k) m
    (λ e. c.if-numbers-count-ne0.true (ap (of_z w64) e)) zeros
