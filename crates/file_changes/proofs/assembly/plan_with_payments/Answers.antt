use Rattle.std.proofs.Common.{length, ap, ◌∙◌}
use Rattle.state_graph.specs.StateGraphs.{StateGraph}
use Rattle.payment_plan.specs.Payments.{Payments}
use Rattle.payment_plan.specs.Records.{lumps_of, sojourns_of}
use Rattle.product_reader.proofs.Wholes.{payments_are_good}
use Rattle.file_changes.specs.Charges.{with_lumps, with_sojourns}
use Rattle.file_changes.proofs.assembly.plan_with_payments.Goals as goal

pub new-requires : goal.new-requires
new-requires c =
    let plan = c.plan-plan.ensures.payments in
    let states = c.states.ensures.count ∙ ap (λ (g : StateGraph). length g.names) c.graph.ensures.graph in
    let sums = c.in_ok-sums.ensures ∙ ap (λ (p : Payments). p.sums) plan in
    let pattern = c.in_ok-pattern.ensures ∙ ap (λ (p : Payments). p.pattern) plan in
    rw (states, c.months.ensures.value, sums, pattern)
    (payments_are_good (with_sojourns (sojourns_of c.args.sojourns.items)
    (with_lumps (lumps_of c.args.lumps.items) c.args.product.now)) c.requires)
