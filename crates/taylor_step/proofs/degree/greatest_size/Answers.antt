use Rattle.std.proofs.Common.{◌≡◌, pos, arith, get_or, ◌∙◌}
use Rattle.std.specs.Prelude.{unsigned_abs}
use Rattle.std.proofs.Math.Nat.{max-le}
use Rattle.taylor_step.proofs.Tops.{greater_covers, size_read}
use Rattle.taylor_step.proofs.degree.greatest_size.Goals as goal

pub loop-i-preserved : goal.loop-i-preserved
loop-i-preserved c =
    let e : c.unsigned_abs.result ≡ unsigned_abs (get_or c.args.numbers.now c.loop-i.i (pos 0)) =
    c.unsigned_abs.ensures.value ∙ size_read (get_or c.args.numbers.now c.loop-i.i (pos 0)) (c.requires c.loop-i.i) in
    record {
      all = λ j b. greater_covers c.args.numbers.now c.loop-i.i c.loop-i.greatest c.unsigned_abs.result
          c.max-greatest.result c.loop-i.invariant.all (omega (arith, e)) c.max-greatest.ensures j b;
      least = λ most small. rw c.max-greatest.ensures (max-le (c.loop-i.invariant.least most small)
          (let s = small c.loop-i.i in omega (arith, e, s)));
    }
