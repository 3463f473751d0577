use Rattle.model_laws.proofs.CellEntries.{systems_keep_states, runs_keep_states}
use Rattle.model_laws.proofs.entry_laws.lists_keep_states.Goals as goal

pub returns-clause-systems : goal.returns-clause-systems
returns-clause-systems c = systems_keep_states

pub returns-clause-runs : goal.returns-clause-runs
returns-clause-runs c = runs_keep_states
