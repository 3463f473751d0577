use Rattle.std.proofs.Common.{◌-◌, ◌<◌, pos, length, get_or, FitsSigned, arith, rules}
use Rattle.std.specs.Int.{w64}
use Rattle.std.proofs.lemmas.Int.{to_z-of_z}
use Rattle.std.proofs.lemmas.List.{length-set, get_or_default}
use Rattle.payment_plan.specs.declared.lump.Lump.{Lump}
use Rattle.payment_plan.proofs.TableRows.{WritesLump, writes_lump}
use Rattle.payment_plan.proofs.dates.write.Goals as goal

pub loop-i-preserved : goal.loop-i-preserved
loop-i-preserved c =
    let none : Lump = record { month = 0; state = 0; amount = pos 0 } in
    let wide : FitsSigned w64 (get_or c.args.lumps.now (c.loop-i.i - 1) none).amount = search rules in
    let inside : c.loop-i.i - 1 < length c.args.lumps.now = omega arith in
    let writes : WritesLump c.loop-i.table c.args.lumps.now c.args.states c.loop-i.i c.place.result
    (get_or c.args.lumps.now (c.loop-i.i - 1) none) =
    record {
      held = c.loop-i.invariant;
      some = c.loop-i-test.true;
      upto = c.loop-i.auto.i;
      lump_is = get_or_default c.args.lumps.now (c.loop-i.i - 1) none _ inside;
      place = c.place.ensures;
      own = c.requires.states (c.loop-i.i - 1) none inside;
      inside = omega (arith, c.requires.dates (c.loop-i.i - 1) none inside, c.place.ensures, c.loop-i.auto.table);
    } in
    simp (to_z-of_z, length-set) (writes_lump _ _ _ _ _ _ writes)
