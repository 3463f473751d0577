use Rattle.limit_laws.proofs.YearOfModuli.{reserve_moduli, second_moment_moduli, probability_moduli}
use Rattle.limit_laws.proofs.modulus.moduli_of_a_year.Goals as goal

pub returns-clause-reserves : goal.returns-clause-reserves
returns-clause-reserves c = reserve_moduli

pub returns-clause-second : goal.returns-clause-second
returns-clause-second c = second_moment_moduli

pub returns-clause-probabilities : goal.returns-clause-probabilities
returns-clause-probabilities c = probability_moduli
