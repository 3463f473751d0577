use Rattle.std.proofs.Common.{arith, ap, length}
use Rattle.std.proofs.lemmas.List.{length-map}
use Rattle.state_graph.specs.Exits.{exits_of}
use Rattle.rate_bounds.proofs.FewExits.{few_exits}
use Rattle.rate_bounds.proofs.exits.exits_of.Goals as goal

pub returns-clause-few : goal.returns-clause-few
returns-clause-few c =
    omega (
      arith,
      length-map c.exits.result.now (λ exit. exit.transition),
      ap length c.exits.ensures.transitions,
      ap (λ g. length (exits_of g.edges c.args.state)) c.graph.ensures.graph,
      ap length (c.exits_agree.ensures c.args.product.now c.args.state),
      few_exits c.args.product.now c.args.state c.graph.ensures.lawful,
      c.graph.ensures.lawful.names.at_most_twelve,
    )
