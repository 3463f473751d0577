use Rattle.std.proofs.Common.{◌≡◌, ◌^◌, ◌<◌, length, arith, ap, ◌∙◌}
use Rattle.whole_laws.specs.Whole.{list_of, greatest_natural}
use Rattle.rate_bounds.specs.MonthPay.{plan_named, paid_in_state, greatest_paid}
use Rattle.rate_bounds.proofs.PaySteps.{greatest_paid_more}
use Rattle.rate_bounds.proofs.pay.greatest_paid.Goals as goal

pub loop-state-preserved : goal.loop-state-preserved
loop-state-preserved c =
    let plan = plan_named c.args.which c.args.product.now in
    let states = ap (λ g. length g.names) c.graph.ensures.graph in
    let fits : paid_in_state c.args.product.now (plan_named c.args.which c.args.product.now) c.args.month
    c.loop-state.state < 2 ^ 117 =
    c.requires.fits c.loop-state.state (omega (arith, states)) in
    record {
      greatest = c.max-most.ensures
          ∙ greatest_paid_more c.loop-state.state (paid_in_state c.args.product.now plan c.args.month) c.loop-state.most
          c.paid_in_state.result c.loop-state.invariant.greatest c.paid_in_state.ensures;
      small = omega (arith, c.max-most.ensures, c.paid_in_state.ensures, fits, c.loop-state.invariant.small);
    }

pub returns-clause-value : goal.returns-clause-value
unfolding greatest_paid
returns-clause-value c =
    let plan = plan_named c.args.which c.args.product.now in
    let states = ap (λ g. length g.names) c.graph.ensures.graph in
    let all : c.loop-state.state ≡ length c.args.product.now.states = omega (
      arith,
      states,
      c.states-state-end.ensures.count,
    ) in
    c.loop-state.invariant.greatest
    ∙ ap (λ n. greatest_natural (list_of n (paid_in_state c.args.product.now plan c.args.month))) all
