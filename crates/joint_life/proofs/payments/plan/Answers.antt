use Rattle.std.proofs.Common.{◌≡◌, ◌*◌, length, map, sym, subst, ap, ◌∙◌}
use Rattle.std.specs.Prelude.{IfOk}
use Rattle.model_specs.specs.Product.{Transition}
use Rattle.payment_plan.specs.Payments.{IsAllowed}
use Rattle.product_reader.proofs.Wholes.{payments_are_good}
use Rattle.state_graph.specs.StateGraphs.{StateGraph}
use Rattle.joint_life.specs.JointRecord.{joint_of}
use Rattle.joint_life.specs.Moves.{transition_of}
use Rattle.joint_life.proofs.JointParts.{payments_are}
use Rattle.joint_life.proofs.MoveLists.{by_moves}
use Rattle.joint_life.proofs.PairIndices.{state_count}
use Rattle.joint_life.proofs.payments.plan.Goals as goal

pub new-requires : goal.new-requires
new-requires c =
    let a = c.args.a.now in
    let b = c.args.b.now in
    let firsts = c.states.ensures.count ∙ ap (λ (g : StateGraph). length g.names) c.graph.ensures.graph in
    let seconds = c.states-2.ensures.count ∙ ap (λ (g : StateGraph). length g.names) c.graph-2.ensures.graph in
    subst IsAllowed (sym (payments_are (joint_of a b) _ _ _ _ _ _
    (ap (λ n. n * c.states-2.result) firsts ∙ ap (λ n. length a.states * n) seconds
    ∙ sym (state_count a b c.requires.lives)) c.months.ensures.value
    (c.in_ok-sums.ensures ∙ ap (map (λ at. (transition_of a b at).sum)) c.requires.moves
    ∙ by_moves a b (λ (t : Transition). t.sum)) c.in_ok-sojourns.ensures c.in_ok-lumps.ensures
    c.in_ok-pattern.ensures))
    (payments_are_good (joint_of a b) (c.joint_records_are_well_formed.ensures a b c.requires.lives))

pub returns : goal.returns
returns c =
    let a = c.args.a.now in
    let b = c.args.b.now in
    let firsts = c.states.ensures.count ∙ ap (λ (g : StateGraph). length g.names) c.graph.ensures.graph in
    let seconds = c.states-2.ensures.count ∙ ap (λ (g : StateGraph). length g.names) c.graph-2.ensures.graph in
    subst (λ p. IfOk c.new.result (λ plan. plan ≡ p)) (payments_are (joint_of a b) _ _ _ _ _ _
    (ap (λ n. n * c.states-2.result) firsts ∙ ap (λ n. length a.states * n) seconds
    ∙ sym (state_count a b c.requires.lives)) c.months.ensures.value
    (c.in_ok-sums.ensures ∙ ap (map (λ at. (transition_of a b at).sum)) c.requires.moves
    ∙ by_moves a b (λ (t : Transition). t.sum)) c.in_ok-sojourns.ensures c.in_ok-lumps.ensures
    c.in_ok-pattern.ensures) c.new.ensures
