use Rattle.toml.specs.View.{table_view}
use Rattle.refusal_words.proofs.Sojourns.{tests_are_good}
use Rattle.refusal_words.proofs.owners.is_good.Goals as goal

pub returns : goal.returns
returns c =
    tests_are_good (table_view c.args.tree.now) c.args.s _ _ _ _ c.sojourn_at-value.ensures c.is_sojourn.ensures
    c.names_state.ensures c.is_first_of_its_state.ensures
