use Rattle.model_laws.proofs.CellEntries.{transitions_are_found}
use Rattle.model_laws.proofs.entry_laws.transitions_are_found.Goals as goal

pub returns : goal.returns
returns c = transitions_are_found
