use Rattle.std.specs.Prelude.{refl}
use Rattle.toml.proofs.OnLiterals.{toml_on_literals}
use Rattle.file_instances.proofs.file_texts.texts_read.Goals as goal

pub returns-clause-product : goal.returns-clause-product
unfolding toml_on_literals
returns-clause-product c = refl

pub returns-clause-states : goal.returns-clause-states
unfolding toml_on_literals
returns-clause-states c = record { format_1 = refl; format_2 = refl }

pub returns-clause-amount : goal.returns-clause-amount
unfolding toml_on_literals
returns-clause-amount c = refl
