use Rattle.std.proofs.Common.{◌≡◌, ap, sym, ◌∙◌, arith, length}
use Rattle.state_graph.specs.StateGraphs.{StateGraph, edge_at}
use Rattle.product_model.specs.Views.{graph_of}
use Rattle.cell_coeffs.proofs.MadePairs.{links_more, moment_links_of}
use Rattle.cell_coeffs.proofs.pair_places.moment_links.Goals as goal

pub loop-transition-preserved : goal.loop-transition-preserved
loop-transition-preserved c =
    let states : c.states-states.result ≡ length c.args.p.now.states =
    c.states-states.ensures.count ∙ ap (λ (g : StateGraph). length g.names) c.graph-graph.ensures.graph in
    let has = rw states at c.in_ok-push_pair.ensures.has in
    let keeps = rw states at c.in_ok-push_pair.ensures.keeps in
    let pair = c.pair-from.ensures
    ∙ ap (λ (g : StateGraph). edge_at g.edges c.loop-transition.transition) c.graph-graph.ensures.graph in
    record {
      has = links_more c.args.p.now (length c.args.p.now.states) c.loop-transition.transition c.pair-from.result.0
          c.pair-from.result.1 c.loop-transition.links.items c.push_pair.new.links.items (sym pair) keeps has
          c.loop-transition.invariant.has;
      one_way = keeps.one_way c.loop-transition.invariant.one_way;
    }

pub returns : goal.returns
returns c =
    let states : c.states-states.result ≡ length c.args.p.now.states =
    c.states-states.ensures.count ∙ ap (λ (g : StateGraph). length g.names) c.graph-graph.ensures.graph in
    let has = rw states at c.in_ok-push_own.ensures.has in
    let keeps = rw states at c.in_ok-push_own.ensures.keeps in
    let count : c.loop-transition.transition ≡ length (graph_of c.args.p.now).edges =
    omega (
      arith,
      c.loop-transition-test.false,
      c.loop-transition.auto.transition-end,
      c.transitions-transition-end.ensures.count ∙ ap (λ (g : StateGraph). length g.edges) c.graph-graph.ensures.graph,
    ) in
    moment_links_of c.args.p.now c.loop-transition.transition c.loop-transition.links.items c.push_own.new.links.items
    c.requires.pairs count c.loop-transition.invariant.has keeps c.loop-transition.invariant.one_way has
