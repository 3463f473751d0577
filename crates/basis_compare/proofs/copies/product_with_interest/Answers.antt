use Rattle.std.proofs.Common.{ap, sym, subst, ◌∙◌, rules}
use Rattle.std.proofs.lemmas.Int.{to_z-of_z}
use mir.Syntax.{w64}
use mir.Val.{SFits}
use Rattle.product_model.specs.Parts.{FitTogether, product_of_parts}
use Rattle.basis_compare.proofs.OtherInterest.{parts_are, parts_with_fit, product_with}
use Rattle.basis_compare.proofs.copies.product_with_interest.Goals as goal

pub new-requires : goal.new-requires
new-requires c =
    let fits : SFits w64 c.den.result = search rules in
    let den = to_z-of_z w64 c.den.result fits ∙ c.den.ensures.value in
    subst FitTogether (sym (parts_are c.args.product.now c.args.interest.now _ _ _ _ _ _ _ _ c.in_ok-name.ensures
    (c.in_ok-graph.ensures ∙ c.graph.ensures.graph) c.start.ensures.value c.months.ensures.value den
    c.in_ok-interest.ensures c.in_ok-rates.ensures c.in_ok-plan.ensures))
    (parts_with_fit c.args.product.now c.args.interest.now c.graph.ensures.lawful c.requires)

pub returns : goal.returns
returns c =
    let fits : SFits w64 c.den.result = search rules in
    let den = to_z-of_z w64 c.den.result fits ∙ c.den.ensures.value in
    c.new.ensures ∙ ap product_of_parts (parts_are c.args.product.now c.args.interest.now _ _ _ _ _ _ _ _
    c.in_ok-name.ensures (c.in_ok-graph.ensures ∙ c.graph.ensures.graph) c.start.ensures.value c.months.ensures.value
    den c.in_ok-interest.ensures c.in_ok-rates.ensures c.in_ok-plan.ensures)
    ∙ product_with c.args.product.now c.args.interest.now
