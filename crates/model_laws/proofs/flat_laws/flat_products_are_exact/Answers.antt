use Rattle.model_laws.proofs.FlatInstances.{flat_reserves}
use Rattle.model_laws.proofs.FlatInstances.{flat_value_holds}
use Rattle.model_laws.proofs.FlatInstances.{higher_value_does_not_hold}
use Rattle.model_laws.proofs.FlatInstances.{lump_at_the_term}
use Rattle.model_laws.proofs.FlatInstances.{lump_at_issue}
use Rattle.model_laws.proofs.MomentInstances.{lump_has_no_variance}
use Rattle.model_laws.proofs.flat_laws.flat_products_are_exact.Goals as goal

pub returns-clause-reserves : goal.returns-clause-reserves
returns-clause-reserves c = flat_reserves

pub returns-clause-holds : goal.returns-clause-holds
returns-clause-holds c = flat_value_holds

pub returns-clause-does_not_hold : goal.returns-clause-does_not_hold
returns-clause-does_not_hold c = higher_value_does_not_hold

pub returns-clause-lump_at_the_term : goal.returns-clause-lump_at_the_term
returns-clause-lump_at_the_term c = lump_at_the_term

pub returns-clause-lump_at_issue : goal.returns-clause-lump_at_issue
returns-clause-lump_at_issue c = lump_at_issue

pub returns-clause-second_moment : goal.returns-clause-second_moment
returns-clause-second_moment c = lump_has_no_variance
