use Rattle.limit_laws.proofs.RunPolynomials.{first_polynomials_follow, second_polynomials_follow}
use Rattle.limit_laws.proofs.RunPolynomials.{probability_polynomials_follow}
use Rattle.limit_laws.proofs.defect.polynomials_follow_runs.Goals as goal

pub returns-clause-first : goal.returns-clause-first
returns-clause-first c = first_polynomials_follow

pub returns-clause-second : goal.returns-clause-second
returns-clause-second c = second_polynomials_follow

pub returns-clause-probabilities : goal.returns-clause-probabilities
returns-clause-probabilities c = probability_polynomials_follow
