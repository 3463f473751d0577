use Rattle.model_laws.proofs.CellEntries.{systems_have_entries}
use Rattle.model_laws.proofs.entry_laws.systems_have_entries.Goals as goal

pub returns : goal.returns
returns c = systems_have_entries
