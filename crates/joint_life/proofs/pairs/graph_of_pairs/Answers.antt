use Rattle.std.proofs.Common.{◌≡◌, ◌*◌, ◌/◌, ◌%◌, length, sym, subst, ap, ◌∙◌}
use Rattle.std.specs.Prelude.{IfOk}
use Rattle.whole_laws.specs.Whole.{list_of}
use Rattle.state_graph.specs.StateGraphs.{StateGraph, IsGraph}
use Rattle.product_reader.proofs.Wholes.{graph_is_good}
use Rattle.joint_life.specs.JointRecord.{joint_of, pair_name}
use Rattle.joint_life.proofs.JointParts.{graph_is}
use Rattle.joint_life.proofs.MoveLists.{pairs_by_moves}
use Rattle.joint_life.proofs.Records.{joint_records_are_well_formed}
use Rattle.joint_life.proofs.pairs.graph_of_pairs.Goals as goal

pub new-requires : goal.new-requires
new-requires c =
    let a = c.args.a.now in
    let b = c.args.b.now in
    let seconds = c.states-seconds.ensures.count ∙ ap (λ (g : StateGraph). length g.names) c.graph.ensures.graph in
    let firsts = c.states.ensures.count ∙ ap (λ (g : StateGraph). length g.names) c.graph-2.ensures.graph in
    subst IsGraph (sym (graph_is (joint_of a b) _ _
    (c.in_ok-names.ensures
    ∙ ap (λ n. list_of (n * c.states-seconds.result)
    (λ pair. pair_name (pair / c.states-seconds.result) (pair % c.states-seconds.result))) firsts
    ∙ ap (λ n. list_of (length a.states * n) (λ pair. pair_name (pair / n) (pair % n))) seconds)
    (c.in_ok-edges.ensures ∙ pairs_by_moves a b c.args.moves.now c.requires.moves)))
    (graph_is_good (joint_of a b) (joint_records_are_well_formed a b c.requires.lives))

pub returns : goal.returns
returns c =
    let a = c.args.a.now in
    let b = c.args.b.now in
    let seconds = c.states-seconds.ensures.count ∙ ap (λ (g : StateGraph). length g.names) c.graph.ensures.graph in
    let firsts = c.states.ensures.count ∙ ap (λ (g : StateGraph). length g.names) c.graph-2.ensures.graph in
    subst (λ g. IfOk c.new.result (λ graph. graph ≡ g)) (graph_is (joint_of a b) _ _
    (c.in_ok-names.ensures
    ∙ ap (λ n. list_of (n * c.states-seconds.result)
    (λ pair. pair_name (pair / c.states-seconds.result) (pair % c.states-seconds.result))) firsts
    ∙ ap (λ n. list_of (length a.states * n) (λ pair. pair_name (pair / n) (pair % n))) seconds)
    (c.in_ok-edges.ensures ∙ pairs_by_moves a b c.args.moves.now c.requires.moves)) c.new.ensures
