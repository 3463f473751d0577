use Rattle.curve_laws.proofs.PartFacts.{means, signs}
use Rattle.curve_laws.proofs.part_laws.parts_keep_means.Goals as goal

pub returns-clause-between : goal.returns-clause-between
returns-clause-between c = means

pub returns-clause-signs : goal.returns-clause-signs
returns-clause-signs c = signs
