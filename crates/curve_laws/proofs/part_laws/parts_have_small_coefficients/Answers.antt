use Rattle.curve_laws.proofs.PartFacts.{small_coefficients}
use Rattle.curve_laws.proofs.part_laws.parts_have_small_coefficients.Goals as goal

pub returns : goal.returns
returns c = small_coefficients
