use Rattle.std.proofs.Common.{◌+◌, ◌*◌, ◌^◌, ◌≤◌, ◌+ℤ◌, ℤ, FitsSigned, arith, rules, refl, to_z}
use Rattle.std.specs.Prelude.{unsigned_abs}
use Rattle.std.specs.Int.{w128}
use Rattle.std.proofs.lemmas.Int.{to_z-of_z}
use Rattle.rate_bounds.specs.MonthRates.{rate_sum}
use Rattle.rate_bounds.proofs.RateSteps.{rate_sum_more, size_more, small_sum_fits}
use Rattle.rate_bounds.proofs.rates.rate_sum.Goals as goal

pub loop-exit-init : goal.loop-exit-init
unfolding rate_sum
loop-exit-init c = (refl, omega arith)

pub loop-exit-preserved : goal.loop-exit-preserved
loop-exit-preserved c =
    let wide : FitsSigned w128 c.greatest_rate-sum.result = search rules in
    let total : ℤ = to_z w128 c.loop-exit.sum-bits +ℤ c.greatest_rate-sum.result in
    let size : unsigned_abs total ≤ (c.loop-exit.exit-index + 1) * 2 ^ 100 =
    size_more c.loop-exit.exit-index _ c.greatest_rate-sum.result c.loop-exit.invariant.1
    c.greatest_rate-sum.ensures.size in
    let fits : FitsSigned w128 total =
    small_sum_fits (c.loop-exit.exit-index + 1) total (omega (arith, c.loop-exit-test.true, c.requires.few)) size in
    simp to_z-of_z (
      rate_sum_more c.args.product.now c.args.month c.args.exits.now c.loop-exit.exit-index _ _
          c.greatest_rate-sum.result
          c.loop-exit-test.true c.loop-exit.invariant.0 c.greatest_rate-sum.ensures.value,
      size,
    )
