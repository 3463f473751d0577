use Rattle.std.proofs.Common.{ap, sym, subst, ◌∙◌, rules}
use Rattle.std.proofs.lemmas.Int.{to_z-of_z}
use mir.Syntax.{w64}
use mir.Val.{SFits}
use Rattle.toml.specs.View.{table_view}
use Rattle.whole_laws.specs.Whole.{natural_part}
use Rattle.product_model.specs.Parts.{FitTogether, product_of_parts}
use Rattle.product_file.specs.Reads.{product_of}
use Rattle.product_reader.proofs.Wholes.{parts_by_one, parts_fit, product_again}
use Rattle.product_reader.proofs.product.product_from.Goals as goal

pub new-requires : goal.new-requires
new-requires c =
    let fits : SFits w64 c.denominator_from-den.result = search rules in
    let den = ap natural_part (to_z-of_z w64 c.denominator_from-den.result fits) ∙ c.denominator_from-den.ensures in
    subst FitTogether (sym (parts_by_one (table_view c.args.tree.now) _ _ _ _ _ _ _ _ c.in_ok-name.ensures
    c.in_ok-graph.ensures
    c.start_from-start.ensures c.months_from-months.ensures den c.in_ok-interest.ensures c.in_ok-rates.ensures
    c.in_ok-plan.ensures))
    (parts_fit (product_of (table_view c.args.tree.now)) c.requires)

pub returns : goal.returns
returns c =
    let fits : SFits w64 c.denominator_from-den.result = search rules in
    let den = ap natural_part (to_z-of_z w64 c.denominator_from-den.result fits) ∙ c.denominator_from-den.ensures in
    c.new.ensures ∙ ap product_of_parts (parts_by_one (table_view c.args.tree.now) _ _ _ _ _ _ _ _ c.in_ok-name.ensures
    c.in_ok-graph.ensures c.start_from-start.ensures c.months_from-months.ensures den c.in_ok-interest.ensures
    c.in_ok-rates.ensures c.in_ok-plan.ensures)
    ∙ product_again (product_of (table_view c.args.tree.now))
