use Rattle.polynomial_runs.proofs.MonthValues.{months_are_values}
use Rattle.polynomial_runs.proofs.polynomial_laws.months_are_values.Goals as goal

pub returns : goal.returns
returns c = months_are_values
