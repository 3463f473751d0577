use Rattle.std.proofs.Common.{map, ap, sym, subst, ◌∙◌, rules}
use Rattle.std.proofs.lemmas.Int.{to_z-of_z}
use mir.Syntax.{w64}
use mir.Val.{SFits}
use Rattle.model_specs.specs.Product.{Transition}
use Rattle.product_model.specs.Parts.{FitTogether, product_of_parts}
use Rattle.product_model.specs.Views.{curve_of}
use Rattle.product_reader.proofs.Wholes.{parts_fit, product_again}
use Rattle.joint_life.specs.JointRecord.{joint_of, pair_of}
use Rattle.joint_life.specs.Marginals.{HasMarginals}
use Rattle.joint_life.specs.Moves.{transition_of}
use Rattle.joint_life.proofs.JointParts.{joint_parts_are}
use Rattle.joint_life.proofs.MoveLists.{by_moves}
use Rattle.joint_life.proofs.joining.joint_product.Goals as goal

pub new-requires : goal.new-requires
new-requires c =
    let a = c.args.a.now in
    let b = c.args.b.now in
    let fits : SFits w64 c.den-den.result = search rules in
    let den = to_z-of_z w64 c.den-den.result fits ∙ c.den-den.ensures.value in
    let rates = c.in_ok-rates.ensures
    ∙ ap (map (λ at. curve_of (joint_of a b) (transition_of a b at).rate))
    (c.deref-2.ensures.value ∙ c.in_ok-moves.ensures.moves)
    ∙ by_moves a b (λ (t : Transition). curve_of (joint_of a b) t.rate) in
    let start = c.with_start-start.ensures ∙ ap (λ i. pair_of b i b.start) c.start.ensures.value in
    subst FitTogether (sym (joint_parts_are (joint_of a b) _ _ _ _ _ _ _ _ c.in_ok-name.ensures c.in_ok-graph.ensures
    start c.months-months.ensures.value den c.in_ok-interest.ensures rates c.in_ok-plan.ensures))
    (parts_fit (joint_of a b) (c.joint_records_are_well_formed.ensures a b c.requires))

pub returns-clause-joint : goal.returns-clause-joint
returns-clause-joint c =
    let a = c.args.a.now in
    let b = c.args.b.now in
    let fits : SFits w64 c.den-den.result = search rules in
    let den = to_z-of_z w64 c.den-den.result fits ∙ c.den-den.ensures.value in
    let rates = c.in_ok-rates.ensures
    ∙ ap (map (λ at. curve_of (joint_of a b) (transition_of a b at).rate))
    (c.deref-2.ensures.value ∙ c.in_ok-moves.ensures.moves)
    ∙ by_moves a b (λ (t : Transition). curve_of (joint_of a b) t.rate) in
    let start = c.with_start-start.ensures ∙ ap (λ i. pair_of b i b.start) c.start.ensures.value in
    c.new.ensures ∙ ap product_of_parts (joint_parts_are (joint_of a b) _ _ _ _ _ _ _ _ c.in_ok-name.ensures
    c.in_ok-graph.ensures start c.months-months.ensures.value den c.in_ok-interest.ensures rates
    c.in_ok-plan.ensures)
    ∙ product_again (joint_of a b)

pub returns-clause-marginals : goal.returns-clause-marginals
returns-clause-marginals c =
    subst (λ joint. HasMarginals joint c.args.a.now c.args.b.now) (sym (returns-clause-joint c))
    (c.marginals_are_single_lives.ensures c.args.a.now c.args.b.now c.requires)
