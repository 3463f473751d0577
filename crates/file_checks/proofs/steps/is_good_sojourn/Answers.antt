use Rattle.std.proofs.Common.{take, is_some, ap, ◌∙◌}
use Rattle.toml.specs.View.{view, table_view}
use Rattle.product_file.specs.Members.{item_at}
use Rattle.product_file.specs.Keys.{is_table_of}
use Rattle.file_checks.proofs.StepLemmas.{good_sojourn_is}
use Rattle.file_checks.proofs.steps.is_good_sojourn.Goals as goal

pub returns : goal.returns
returns c =
    good_sojourn_is (table_view c.args.tree.now) c.args.s (view c.item-value.result.now) c.state_index-index.result
    _ _ _ _
    (c.item-value.ensures ∙ ap (λ ds. item_at ds c.args.s) c.sojourns-values.ensures.items) c.state_index-index.ensures
    (c.items_before.ensures.items ∙ ap (take c.args.s) c.sojourns-values.ensures.items)
    (c.is_table_of.ensures ∙ ap (λ keys. is_table_of keys (view c.item-value.result.now)) c.sojourn_keys.ensures)
    (c.is_some.ensures ∙ ap is_some c.state_at.ensures) c.has_state-is_new.ensures
