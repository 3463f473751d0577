use Rattle.cell_laws.proofs.Decay.{weighted_right_sides_are_small}
use Rattle.cell_laws.proofs.scalar_laws.weighted_right_sides_are_small.Goals as goal

pub returns : goal.returns
returns c = weighted_right_sides_are_small
