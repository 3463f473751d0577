use Rattle.workload_gen.proofs.DrawSteps.{four_numbers, four_states}
use Rattle.workload_gen.proofs.curves.coefficients.Goals as goal

pub returns-clause-drawn : goal.returns-clause-drawn
returns-clause-drawn c =
    four_numbers c.args.transition c.args.year c.args.draws.now.state _ _ _ _ _ _ _ _ _ _ c.level-level.ensures
    c.spread.ensures c.draw.ensures.state c.draw-linear.ensures.state c.draw-square.ensures.state
    c.draw-cube.ensures.state c.draw.ensures.drawn c.draw-linear.ensures.drawn c.draw-square.ensures.drawn
    c.draw-cube.ensures.drawn

pub returns-clause-state : goal.returns-clause-state
returns-clause-state c = four_states c.args.draws.now.state _ _ _ _ c.draw.ensures.state c.draw-linear.ensures.state
    c.draw-square.ensures.state c.draw-cube.ensures.state
