use Rattle.std.proofs.Common.{◌≤◌, ap, sym, subst, ◌∙◌}
use Rattle.std.specs.Prelude.{All}
use Rattle.toml.specs.View.{table_view}
use Rattle.named_numbers.specs.Numbers.{most_months}
use Rattle.whole_laws.specs.Whole.{natural_part}
use Rattle.product_file.specs.Members.{item_at}
use Rattle.product_file.specs.CurveRules.{start_of, months_of_term}
use Rattle.product_file.specs.PaymentRules.{steps_items, sojourn_items}
use Rattle.product_reader.proofs.Starts.{payment_starts, sojourn_is_payment}
use Rattle.product_reader.proofs.payments.sojourn_steps_from.Goals as goal

pub steps_from-requires : goal.steps_from-requires
steps_from-requires c =
    let tree = table_view c.args.tree.now in
    let item = c.item.ensures ∙ ap (λ ds. item_at ds c.args.s) c.sojourns.ensures.items in
    subst (All (λ d. natural_part (start_of d) ≤ most_months)) (sym (c.steps_of.ensures ∙ ap steps_items item))
    (payment_starts tree (months_of_term tree) (steps_items (item_at (sojourn_items tree) c.args.s))
    (λ some. sojourn_is_payment tree c.args.s c.requires.well_formed c.requires.inside)
    c.requires.well_formed.head.at_most_a_century)
