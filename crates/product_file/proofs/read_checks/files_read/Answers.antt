use Rattle.std.proofs.Common.{refl}
use Rattle.toml.proofs.OnLiterals.{toml_on_literals}
use Rattle.product_file.proofs.read_checks.files_read.Goals as goal

pub returns-clause-product : goal.returns-clause-product
unfolding toml_on_literals
returns-clause-product c = refl

pub returns-clause-keys : goal.returns-clause-keys
unfolding toml_on_literals
returns-clause-keys c = record { no_whole = refl; missing = refl; unknown = refl; other_type = refl }

pub returns-clause-states : goal.returns-clause-states
unfolding toml_on_literals
returns-clause-states c = record { twice = refl; start = refl }

pub returns-clause-curves : goal.returns-clause-curves
unfolding toml_on_literals
returns-clause-curves c = record { itself = refl; at_the_term = refl; rule_8_first = refl; too_large = refl }

pub returns-clause-payments : goal.returns-clause-payments
unfolding toml_on_literals
returns-clause-payments c = record { no_step = refl; twice = refl; too_large = refl; lump_twice = refl }

pub returns-clause-pattern : goal.returns-clause-pattern
unfolding toml_on_literals
returns-clause-pattern c = record { no_key = refl; no_payer = refl; no_state = refl; every = refl }
