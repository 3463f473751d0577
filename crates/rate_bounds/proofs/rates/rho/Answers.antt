use Rattle.std.proofs.Common.{FitsSigned, rules}
use Rattle.std.specs.Int.{w128}
use Rattle.std.proofs.lemmas.Int.{to_z-of_z}
use Rattle.ledger_laws.specs.MonthLaws.{exit_rates}
use Rattle.rate_bounds.proofs.LeastAndGreatest.{greatest_more_at}
use Rattle.rate_bounds.proofs.rates.rho.Goals as goal

pub loop-state-preserved : goal.loop-state-preserved
loop-state-preserved c =
    let wide : FitsSigned w128 c.max-most.result = search rules in
    let wide-rates : FitsSigned w128 c.exit_rates.result = search rules in
    let most = simp to_z-of_z at c.max-most.ensures.value in
    simp to_z-of_z
    (greatest_more_at c.loop-state.state (exit_rates c.args.product.now c.args.month) _ _ _ c.loop-state.auto.state
    c.loop-state.invariant c.exit_rates.ensures most)
