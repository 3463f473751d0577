use Rattle.std.proofs.Common.{◌≡◌, ◌+ℤ◌, ◌<◌, ◌≤◌, ◌^◌, ℤ, pos, get_or, length, to_z, of_z, FitsSigned}
use Rattle.std.proofs.Common.{arith, rules, ap, refl, ◌∙◌}
use Rattle.std.specs.Prelude.{unsigned_abs}
use Rattle.std.specs.Int.{w64, w128}
use Rattle.std.proofs.lemmas.Int.{to_z-of_z, fits_signed_from_abs}
use Rattle.taylor_step.proofs.NewNumbers.{one_more_done, one_less_left}
use Rattle.whole_laws.proofs.Numbers.{size_of_sum}
use Rattle.taylor_step.proofs.run.add_all.Goals as goal

-- the sum of two numbers that were read
added : (sum number read : ℤ) → unsigned_abs sum ≤ 2 ^ 90 → unsigned_abs number ≤ 2 ^ 62 → read ≡ number
    → to_z w128 (of_z w128 (to_z w128 (of_z w128 sum) +ℤ to_z w128 (of_z w128 read))) ≡ sum +ℤ number
added sum number read small few e =
    let sum_fits = fits_signed_from_abs w128 sum (omega (arith, small)) in
    let number_fits = fits_signed_from_abs w128 number (omega (arith, few)) in
    let both_fit = fits_signed_from_abs w128 (sum +ℤ number) (omega (arith, small, few, size_of_sum sum number)) in
    rw e (simp to_z-of_z refl)

pub loop-i-preserved : goal.loop-i-preserved
loop-i-preserved c =
    let room : c.loop-i.i < length c.loop-i.sums = omega (
      arith,
      c.loop-i-test.true,
      c.loop-i.auto.sums,
      c.loop-i.auto.i-end,
    ) in
    let number_fits : FitsSigned w64 (get_or c.args.newest.now c.loop-i.i (pos 0)) = search rules in
    let left = c.loop-i.invariant.left c.loop-i.i (omega arith) in
    let new = ap (λ z. to_z w128 (of_z w128 (to_z w128 (of_z w128 z) +ℤ to_z w128 (of_z w128 c.from.result)))) left
    ∙ added (get_or c.args.sums.now c.loop-i.i (pos 0)) (get_or c.args.newest.now c.loop-i.i (pos 0)) c.from.result
    (c.requires.sums c.loop-i.i) (c.requires.newest c.loop-i.i) (simp to_z-of_z at c.from.ensures) in
    record {
      done = one_more_done c.loop-i.sums
          (λ j. get_or c.args.sums.now j (pos 0) +ℤ get_or c.args.newest.now j (pos 0)) c.loop-i.i _ room
          c.loop-i.invariant.done new;
      left = one_less_left c.loop-i.sums (λ j. get_or c.args.sums.now j (pos 0)) c.loop-i.i _
          c.loop-i.invariant.left;
    }
