use Rattle.std.proofs.Common.{map, sym, ◌∙◌}
use Rattle.toml.specs.View.{view, table_view}
use Rattle.file_checks.proofs.SizeLemmas.{bounded_step_is}
use Rattle.file_checks.proofs.held.is_bounded_step.Goals as goal

pub returns-then-is_bounded : goal.returns-then-is_bounded
returns-then-is_bounded c =
    c.has_small_amounts.ensures
    ∙ bounded_step_is (table_view c.args.tree.now) (map view c.args.steps.now) c.args.i c.months_held-months.result
    c.amount_of-c.result (view c.item.result.now) c.item.ensures c.amount_of-c.ensures
    c.months_held-months.ensures.value (sym c.is_bounded.ensures ∙ c.if-is_bounded.true)
