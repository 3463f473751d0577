use Rattle.std.proofs.Common.{length, ap, ◌∙◌}
use Rattle.state_graph.specs.StateGraphs.{StateGraph}
use Rattle.payment_plan.specs.Payments.{Payments}
use Rattle.product_reader.proofs.Wholes.{payments_are_good}
use Rattle.file_changes.proofs.assembly.plan_of.Goals as goal

pub new-requires : goal.new-requires
new-requires c =
    let plan = c.plan-plan.ensures.payments in
    let states = c.states.ensures.count ∙ ap (λ (g : StateGraph). length g.names) c.graph.ensures.graph in
    let sums = c.in_ok-sums.ensures ∙ ap (λ (p : Payments). p.sums) plan in
    let sojourns = c.in_ok-sojourns.ensures ∙ ap (λ (p : Payments). p.sojourns) plan in
    let lumps = c.in_ok-lumps.ensures ∙ ap (λ (p : Payments). p.lumps) plan in
    let pattern = c.in_ok-pattern.ensures ∙ ap (λ (p : Payments). p.pattern) plan in
    rw (states, c.months.ensures.value, sums, sojourns, lumps, pattern)
    (payments_are_good c.args.product.now c.months.ensures.lawful)
