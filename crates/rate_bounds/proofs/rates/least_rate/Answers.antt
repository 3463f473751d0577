use Rattle.std.proofs.Common.{◌≡◌, length, FitsSigned, arith, rules, ap, sym, ◌∙◌}
use Rattle.std.specs.Int.{w128}
use Rattle.std.proofs.lemmas.Int.{to_z-of_z}
use Rattle.whole_laws.specs.Whole.{list_of, least_whole}
use Rattle.rate_bounds.specs.MonthRates.{least_of, least_rate}
use Rattle.rate_bounds.proofs.LeastAndGreatest.{least_more_at}
use Rattle.rate_bounds.proofs.rates.least_rate.Goals as goal

pub returns-then-transitions-eq0 : goal.returns-then-transitions-eq0
unfolding least_rate
returns-then-transitions-eq0 c =
    let none : length c.args.product.now.transitions ≡ 0 = omega arith in
    ap (λ n. least_whole (list_of n (least_of c.args.product.now c.args.month))) (sym none)

pub loop-transition-preserved : goal.loop-transition-preserved
loop-transition-preserved c =
    let wide : FitsSigned w128 c.min-lowest.result = search rules in
    let wide-least : FitsSigned w128 c.least_of.result = search rules in
    let least = simp to_z-of_z at c.min-lowest.ensures.value in
    simp to_z-of_z
    (least_more_at c.loop-transition.transition (least_of c.args.product.now c.args.month) _ _ _
    c.loop-transition.auto.transition
    c.loop-transition.invariant c.least_of.ensures least)

pub returns : goal.returns
unfolding least_rate
returns c =
    let all : c.loop-transition.transition ≡ length c.args.product.now.transitions =
    omega (arith, c.loop-transition.auto.transition-end (omega (arith, c.if-transitions-eq0.false))) in
    c.loop-transition.invariant
    ∙ ap (λ n. least_whole (list_of n (least_of c.args.product.now c.args.month))) all
