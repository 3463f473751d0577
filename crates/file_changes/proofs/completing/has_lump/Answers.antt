use Rattle.std.proofs.Common.{pos, sym, ◌∙◌}
use Rattle.payment_plan.specs.declared.lump.Lump.{Lump}
use Rattle.file_changes.proofs.Completions.{lump_is_found, lump_is_passed}
use Rattle.file_changes.proofs.completing.has_lump.Goals as goal

pub returns-then-is_at : goal.returns-then-is_at
returns-then-is_at c =
    let none : Lump = record { month = 0; state = 0; amount = pos 0 } in
    sym (lump_is_found c.args.lumps.now c.args.date c.args.state c.loop-i.i none c.loop-i-test.true
    (sym c.is_at.ensures ∙ c.if-is_at.true))

pub loop-i-preserved : goal.loop-i-preserved
loop-i-preserved c =
    let none : Lump = record { month = 0; state = 0; amount = pos 0 } in
    lump_is_passed c.args.lumps.now c.args.date c.args.state c.loop-i.i none c.loop-i-test.true c.loop-i.invariant
    (sym c.is_at.ensures ∙ c.if-is_at.false)
