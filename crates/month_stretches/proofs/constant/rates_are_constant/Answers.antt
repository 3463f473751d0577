use Rattle.std.proofs.Common.{rules, arith, ◌≡◌, length}
use Rattle.std.specs.Prelude.{false}
use Rattle.model_specs.specs.Stretches.{is_constant}
use Rattle.month_stretches.specs.Parts.{rate_in}
use Rattle.month_stretches.proofs.ListTests.{one_fails, more_pass}
use Rattle.month_stretches.proofs.InParts.{all_constant}
use Rattle.month_stretches.proofs.constant.rates_are_constant.Goals as goal

pub loop-transition-preserved : goal.loop-transition-preserved
loop-transition-preserved c =
    more_pass is_constant c.loop-transition.transition (rate_in c.args.product.now c.args.month)
    c.loop-transition.invariant (search rules)

pub returns-then-not-rate_first : goal.returns-then-not-rate_first
returns-then-not-rate_first c =
    let count : c.transitions-transition-end.result
    ≡ length c.args.product.now.transitions = c.transitions-transition-end.ensures.count in
    let fails : is_constant (rate_in c.args.product.now c.args.month c.loop-transition.transition) ≡ false =
    search rules in
    one_fails is_constant (length c.args.product.now.transitions) (rate_in c.args.product.now c.args.month)
    c.loop-transition.transition (omega (arith, c.loop-transition-test.true, count)) fails

pub returns : goal.returns
returns c =
    let count : c.transitions-transition-end.result
    ≡ length c.args.product.now.transitions = c.transitions-transition-end.ensures.count in
    all_constant (length c.args.product.now.transitions) (rate_in c.args.product.now c.args.month)
    (λ k below. c.loop-transition.invariant k (omega (arith, below, c.loop-transition-test.false, count)))
