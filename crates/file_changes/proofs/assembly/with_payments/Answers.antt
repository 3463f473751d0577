use Rattle.std.proofs.Common.{ap, sym, ◌∙◌, subst, rules}
use Rattle.std.proofs.lemmas.Int.{to_z-of_z}
use mir.Syntax.{w64}
use mir.Val.{SFits}
use Rattle.product_model.specs.Parts.{FitTogether, product_of_parts}
use Rattle.payment_plan.specs.Records.{lumps_of, sojourns_of}
use Rattle.product_reader.proofs.Wholes.{parts_fit, product_again}
use Rattle.joint_life.proofs.JointParts.{joint_parts_are}
use Rattle.file_changes.specs.Charges.{with_lumps, with_sojourns}
use Rattle.file_changes.proofs.assembly.with_payments.Goals as goal

pub new-requires : goal.new-requires
new-requires c =
    let changed = with_sojourns (sojourns_of c.args.sojourns.items)
    (with_lumps (lumps_of c.args.lumps.items) c.args.product.now) in
    let fits : SFits w64 c.den-den.result = search rules in
    let den = to_z-of_z w64 c.den-den.result fits ∙ c.den-den.ensures.value in
    subst FitTogether (sym (joint_parts_are changed _ _ _ _ _ _ _ _ c.in_ok-name.ensures
    (c.in_ok-graph.ensures ∙ c.graph.ensures.graph) c.start-start.ensures.value c.months-months.ensures.value den
    (c.in_ok-interest.ensures ∙ c.interest.ensures.curve) c.in_ok-rates.ensures c.in_ok-plan.ensures))
    (parts_fit changed c.requires)

pub returns : goal.returns
returns c =
    let changed = with_sojourns (sojourns_of c.args.sojourns.items)
    (with_lumps (lumps_of c.args.lumps.items) c.args.product.now) in
    let fits : SFits w64 c.den-den.result = search rules in
    let den = to_z-of_z w64 c.den-den.result fits ∙ c.den-den.ensures.value in
    c.new.ensures ∙ ap product_of_parts (joint_parts_are changed _ _ _ _ _ _ _ _ c.in_ok-name.ensures
    (c.in_ok-graph.ensures ∙ c.graph.ensures.graph) c.start-start.ensures.value c.months-months.ensures.value den
    (c.in_ok-interest.ensures ∙ c.interest.ensures.curve) c.in_ok-rates.ensures c.in_ok-plan.ensures)
    ∙ product_again changed
