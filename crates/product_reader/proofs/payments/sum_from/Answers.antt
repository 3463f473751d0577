use Rattle.std.proofs.Common.{◌≤◌, ap, sym, subst, ◌∙◌}
use Rattle.std.specs.Prelude.{All}
use Rattle.toml.specs.View.{table_view}
use Rattle.named_numbers.specs.Numbers.{most_months}
use Rattle.whole_laws.specs.Whole.{natural_part}
use Rattle.product_file.specs.Members.{item_at}
use Rattle.product_file.specs.CurveRules.{start_of, months_of_term}
use Rattle.product_file.specs.PaymentRules.{sum_items}
use Rattle.product_file.specs.TransitionRule.{transition_items}
use Rattle.product_reader.proofs.Starts.{payment_starts, sum_is_payment}
use Rattle.product_reader.proofs.payments.sum_from.Goals as goal

pub steps_from-requires : goal.steps_from-requires
steps_from-requires c =
    let tree = table_view c.args.tree.now in
    let item = c.item.ensures ∙ ap (λ ds. item_at ds c.args.k) c.transitions.ensures.items in
    subst (All (λ d. natural_part (start_of d) ≤ most_months)) (sym (c.sum_of.ensures ∙ ap sum_items item))
    (payment_starts tree (months_of_term tree) (sum_items (item_at (transition_items tree) c.args.k))
    (sum_is_payment tree c.args.k c.requires.well_formed c.requires.inside)
    c.requires.well_formed.head.at_most_a_century)
