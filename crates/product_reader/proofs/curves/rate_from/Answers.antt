use Rattle.std.proofs.Common.{ap, ◌∙◌, codes}
use Rattle.toml.specs.View.{table_view}
use Rattle.product_file.specs.Members.{items_of, members_of, item_at}
use Rattle.product_reader.proofs.Starts.{rate_is_curve, rate_is_bounded}
use Rattle.product_reader.proofs.curves.rate_from.Goals as goal

pub curve_from-requires-clause-rule_8 : goal.curve_from-requires-clause-rule_8
curve_from-requires-clause-rule_8 c =
    let item = c.item.ensures ∙ ap (λ ds. item_at ds c.args.k) c.transitions.ensures.items in
    let pieces = c.items_within-pieces.ensures.items ∙ ap (λ d. items_of (codes "rate") (members_of d)) item in
    rw (pieces, c.requires.months) (rate_is_curve (table_view c.args.tree.now) c.args.k c.requires.well_formed
    c.requires.inside)

pub curve_from-requires-clause-rule_9 : goal.curve_from-requires-clause-rule_9
curve_from-requires-clause-rule_9 c =
    let item = c.item.ensures ∙ ap (λ ds. item_at ds c.args.k) c.transitions.ensures.items in
    let pieces = c.items_within-pieces.ensures.items ∙ ap (λ d. items_of (codes "rate") (members_of d)) item in
    rw (pieces, c.requires.months) (rate_is_bounded (table_view c.args.tree.now) c.args.k c.requires.well_formed
    c.requires.inside)
