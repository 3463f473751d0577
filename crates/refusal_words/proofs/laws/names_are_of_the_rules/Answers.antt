use Rattle.refusal_words.proofs.NameLaws.{names_are_of_the_rules}
use Rattle.refusal_words.proofs.laws.names_are_of_the_rules.Goals as goal

pub returns : goal.returns
returns c = names_are_of_the_rules
