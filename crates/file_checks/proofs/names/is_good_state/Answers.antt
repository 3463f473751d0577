use Rattle.std.proofs.Common.{take, ap, ◌∙◌}
use Rattle.toml.specs.View.{view, table_view}
use Rattle.product_file.specs.Members.{item_at}
use Rattle.file_checks.proofs.StateLemmas.{good_state_is}
use Rattle.file_checks.proofs.names.is_good_state.Goals as goal

pub returns : goal.returns
returns c =
    good_state_is (table_view c.args.tree.now) c.args.i (view c.item-state.result.now) c.text_in-name.result.now _ _ _ _
    (c.item-state.ensures ∙ ap (λ ds. item_at ds c.args.i) c.states-states.ensures.items) c.text_in-name.ensures
    (c.items_before.ensures.items ∙ ap (take c.args.i) c.states-states.ensures.items) c.is_str.ensures
    c.is_good_name.ensures c.has_name-is_new.ensures
