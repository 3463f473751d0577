use Rattle.std.proofs.Common.{arith, ◌≡◌, ◌∙◌, length, ◌+◌, ◌*◌}
use Rattle.taylor_step.proofs.Rows.{no_strips, AreStrips-push}
use Rattle.taylor_step.proofs.work.Work.new.Goals as goal

pub loop-row-init : goal.loop-row-init
loop-row-init c = rw c.new-strips.ensures.items (no_strips _)

pub loop-row-preserved : goal.loop-row-preserved
loop-row-preserved c = AreStrips-push c.loop-row.strips.items _ c.in_ok-strip.strip _ _ c.loop-row.invariant
    c.in_ok-push.ensures.items c.in_ok-strip.ensures

pub invariant_of-result : goal.invariant_of-result
invariant_of-result c =
    let e : c.loop-row._row ≡ c.args.dim = omega arith in
    let n : length c.loop-row.strips.items ≡ c.args.dim = c.loop-row.invariant.count ∙ e in (
      rw n c.in_ok-start.ensures,
      (
        rw n c.in_ok-newest.ensures,
        λ i b. c.loop-row.invariant.each i (omega arith) ∙
            (let q : 36 * (c.args.dim + 1) ≡ 36 * (length c.loop-row.strips.items + 1) = omega arith in q),
      ),
    )
