use Rattle.std.proofs.Common.{rules}
use Rattle.moment_equations.proofs.Squares.{lies_within}
use Rattle.moment_equations.proofs.ends.within.Goals as goal

pub returns-clause-holds : goal.returns-clause-holds
returns-clause-holds c x near =
    lies_within c.args.number c.args.radius x c.around.result (search rules) (search rules) near
