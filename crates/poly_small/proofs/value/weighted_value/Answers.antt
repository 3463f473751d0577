use Rattle.std.proofs.Common.{◌-◌, pos, get_or, to_z, FitsSigned, rules, refl}
use Rattle.std.specs.Int.{w128}
use Rattle.std.proofs.lemmas.Int.{to_z-of_z}
use Rattle.poly_small.proofs.Values.{IsStep, step-term, step-product, step-value, step-sum, nothing_left}
use Rattle.poly_small.proofs.value.weighted_value.Goals as goal

pub loop-i-init : goal.loop-i-init
loop-i-init c = nothing_left c.args.p.now c.args.weights.now c.args.x c.requires.lengths

pub overflow_mul-term : goal.overflow_mul-term
overflow_mul-term c =
    let step : IsStep c.args.p.now c.args.weights.now c.loop-i.i c.args.x (to_z w128 c.loop-i.sum-bits) (pos c.args.x) =
    record {
      lengths = c.requires.lengths;
      fits = c.requires.fits;
      some = c.loop-i-test.true;
      inside = c.loop-i.auto.i;
      factor_is = refl;
      sum_is = c.loop-i.invariant;
    } in
    let number_fits : FitsSigned w128 (get_or c.args.p.now (c.loop-i.i - 1) (pos 0)) = search rules in
    let weight_fits : FitsSigned w128 (get_or c.args.weights.now (c.loop-i.i - 1) (pos 0)) = search rules in
    simp to_z-of_z (step-term _ _ _ _ _ _ step)

pub overflow_mul-product : goal.overflow_mul-product
overflow_mul-product c =
    let step : IsStep c.args.p.now c.args.weights.now c.loop-i.i c.args.x (to_z w128 c.loop-i.sum-bits) c.from.result =
    record {
      lengths = c.requires.lengths;
      fits = c.requires.fits;
      some = c.loop-i-test.true;
      inside = c.loop-i.auto.i;
      factor_is = c.from.ensures;
      sum_is = c.loop-i.invariant;
    } in
    let factor_fits : FitsSigned w128 c.from.result = search rules in
    simp to_z-of_z (step-product _ _ _ _ _ _ step)

pub overflow_add-sum : goal.overflow_add-sum
overflow_add-sum c =
    let step : IsStep c.args.p.now c.args.weights.now c.loop-i.i c.args.x (to_z w128 c.loop-i.sum-bits) c.from.result =
    record {
      lengths = c.requires.lengths;
      fits = c.requires.fits;
      some = c.loop-i-test.true;
      inside = c.loop-i.auto.i;
      factor_is = c.from.ensures;
      sum_is = c.loop-i.invariant;
    } in
    let number_fits : FitsSigned w128 (get_or c.args.p.now (c.loop-i.i - 1) (pos 0)) = search rules in
    let weight_fits : FitsSigned w128 (get_or c.args.weights.now (c.loop-i.i - 1) (pos 0)) = search rules in
    let factor_fits : FitsSigned w128 c.from.result = search rules in
    let term_fits = step-term _ _ _ _ _ _ step in
    let product_fits = step-product _ _ _ _ _ _ step in
    simp to_z-of_z (step-sum _ _ _ _ _ _ step)

pub loop-i-preserved : goal.loop-i-preserved
loop-i-preserved c =
    let step : IsStep c.args.p.now c.args.weights.now c.loop-i.i c.args.x (to_z w128 c.loop-i.sum-bits) c.from.result =
    record {
      lengths = c.requires.lengths;
      fits = c.requires.fits;
      some = c.loop-i-test.true;
      inside = c.loop-i.auto.i;
      factor_is = c.from.ensures;
      sum_is = c.loop-i.invariant;
    } in
    let number_fits : FitsSigned w128 (get_or c.args.p.now (c.loop-i.i - 1) (pos 0)) = search rules in
    let weight_fits : FitsSigned w128 (get_or c.args.weights.now (c.loop-i.i - 1) (pos 0)) = search rules in
    let factor_fits : FitsSigned w128 c.from.result = search rules in
    let term_fits = step-term _ _ _ _ _ _ step in
    let product_fits = step-product _ _ _ _ _ _ step in
    let sum_fits = step-sum _ _ _ _ _ _ step in
    simp to_z-of_z (step-value _ _ _ _ _ _ step)
