use Rattle.std.proofs.Common.{rules, arith, ◌≡◌, suc, length}
use Rattle.std.specs.Prelude.{false}
use Rattle.month_stretches.specs.Parts.{is_same, rate_in}
use Rattle.month_stretches.proofs.ListTests.{one_fails, more_pass}
use Rattle.month_stretches.proofs.InParts.{all_same}
use Rattle.month_stretches.proofs.stretch.rates_are_same.Goals as goal

pub loop-transition-preserved : goal.loop-transition-preserved
loop-transition-preserved c =
    more_pass is_same c.loop-transition.transition
    (λ k. (rate_in c.args.product.now c.args.month k, rate_in c.args.product.now (suc c.args.month) k))
    c.loop-transition.invariant (search rules)

pub returns-then-not-is_same : goal.returns-then-not-is_same
returns-then-not-is_same c =
    let count : c.transitions-transition-end.result
    ≡ length c.args.product.now.transitions = c.transitions-transition-end.ensures.count in
    let fails : is_same (
      rate_in c.args.product.now c.args.month c.loop-transition.transition,
      rate_in c.args.product.now (suc c.args.month) c.loop-transition.transition,
    ) ≡ false = search rules in
    one_fails is_same (length c.args.product.now.transitions)
    (λ k. (rate_in c.args.product.now c.args.month k, rate_in c.args.product.now (suc c.args.month) k))
    c.loop-transition.transition (omega (arith, c.loop-transition-test.true, count)) fails

pub returns : goal.returns
returns c =
    let count : c.transitions-transition-end.result
    ≡ length c.args.product.now.transitions = c.transitions-transition-end.ensures.count in
    all_same (length c.args.product.now.transitions) (rate_in c.args.product.now c.args.month)
    (rate_in c.args.product.now (suc c.args.month))
    (λ k below. c.loop-transition.invariant k (omega (arith, below, c.loop-transition-test.false, count)))
