use Rattle.std.proofs.Common.{arith, ◌≤◌, ◌^◌}
use Rattle.std.proofs.Math.Nat.{pow-le-pow_right}
use Rattle.taylor_step.proofs.degree.is_small_back.Goals as goal

pub overflow_mul-bound : goal.overflow_mul-bound
overflow_mul-bound c =
    let m : c.loop-m.m ≤ 11 = omega (arith, c.loop-m-test.true, c.requires.few) in
    let e : 8 ^ c.loop-m.m ≤ 8 ^ 11 = pow-le-pow_right (omega arith) m in
    omega (arith, e, c.loop-m.invariant.bound)
