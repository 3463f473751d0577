use Rattle.std.proofs.Common.{ℕ, ◌+◌, ◌^◌, pos, length, ◌<◌, ◌∙◌, arith, rules, length-set, FitsSigned}
use Rattle.std.specs.Int.{w128}
use Rattle.std.proofs.lemmas.Int.{to_z-of_z}
use Rattle.frac_laws.specs.Rounding.{floor_of}
use Rattle.cell_coeffs.specs.Products.{products_to}
use Rattle.cell_coeffs.proofs.Setting.{set_below, set_small}
use Rattle.cell_coeffs.proofs.twice.paid_twice_all.Goals as goal

pub loop-m-preserved : goal.loop-m-preserved
loop-m-preserved c =
    let fits : FitsSigned w128 c.paid_twice.result = search rules in
    let inside : c.loop-m.m < length c.loop-m.numbers = omega (arith, c.loop-m-test.true, c.loop-m.invariant.long) in
    simp to_z-of_z (record {
      long = length-set _ _ _ ∙ c.loop-m.invariant.long;
      value = set_below c.loop-m.numbers c.loop-m.m c.paid_twice.result
          (λ (m : ℕ). floor_of (products_to c.args.paid.now c.args.sum.now m (m + 1)) (pos (2 ^ 64))) inside
          c.loop-m.invariant.value c.paid_twice.ensures.value;
      size = set_small c.loop-m.numbers c.loop-m.m c.paid_twice.result (2 ^ 63) inside c.loop-m.invariant.size
          c.paid_twice.ensures.size;
    })
