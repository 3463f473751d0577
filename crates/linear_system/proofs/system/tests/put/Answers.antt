use Rattle.linear_system.proofs.Made.{made_kept}
use Rattle.linear_system.proofs.system.tests.put.Goals as goal

pub set-requires-clause-place : goal.set-requires-clause-place
set-requires-clause-place c = (c.requires.made.places c.args.row c.args.col c.requires.row c.requires.col).1
    c.requires.listed

pub returns : goal.returns
returns c = made_kept 3 1 c.args.links.now _ _ c.set.ensures.places c.requires.made
