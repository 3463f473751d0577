use Rattle.std.proofs.Common.{ap, ◌∙◌, codes, rules}
use Rattle.std.proofs.lemmas.Int.{to_z-of_z}
use mir.Syntax.{w64}
use mir.Val.{SFits}
use Rattle.toml.specs.View.{table_view}
use Rattle.product_file.specs.Members.{whole_of, members_of, item_at}
use Rattle.product_reader.proofs.Starts.{lump_month}
use Rattle.product_reader.proofs.payments.lump_from.Goals as goal

pub month_of-requires : goal.month_of-requires
month_of-requires c =
    let fits : SFits w64 c.whole_within.result = search rules in
    let value = c.item-value.ensures ∙ ap (λ ds. item_at ds c.args.k) c.lumps.ensures.items in
    let month = c.whole_within.ensures ∙ ap (λ d. whole_of (codes "month") (members_of d)) value in
    rw (to_z-of_z w64 c.whole_within.result fits, month)
    (lump_month (table_view c.args.tree.now) c.args.k c.requires.well_formed c.requires.inside)
