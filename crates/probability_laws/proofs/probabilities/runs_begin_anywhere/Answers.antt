use Rattle.probability_laws.proofs.ProbabilityRuns.{probabilities_go_on, totals_are_kept, sizes_stay_small}
use Rattle.probability_laws.proofs.ProbabilityRuns.{from_any_state}
use Rattle.probability_laws.proofs.probabilities.runs_begin_anywhere.Goals as goal

pub returns-clause-go_on : goal.returns-clause-go_on
returns-clause-go_on c = probabilities_go_on

pub returns-clause-totals : goal.returns-clause-totals
returns-clause-totals c = totals_are_kept

pub returns-clause-sizes : goal.returns-clause-sizes
returns-clause-sizes c = sizes_stay_small

pub returns-clause-any_state : goal.returns-clause-any_state
returns-clause-any_state c = from_any_state
