use Rattle.model_laws.proofs.RuleInstances.{lump_is_admissible}
use Rattle.model_laws.proofs.rule_checks.rules_can_be_met.Goals as goal

pub returns : goal.returns
returns c = lump_is_admissible
