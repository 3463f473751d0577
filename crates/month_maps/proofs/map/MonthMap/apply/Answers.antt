use Rattle.std.proofs.Common.{pos, get_or, subst}
use Rattle.map_laws.specs.Applied.{IsApplied}
use Rattle.month_maps.specs.StoredMap.{StoredMap, map_of}
use Rattle.month_maps.proofs.AppliedRows.{applied_by}
use Rattle.month_maps.proofs.MadeMaps.{stays_near}
use Rattle.month_maps.proofs.map.MonthMap.apply.Goals as goal

pub returns-clause-applied : goal.returns-clause-applied
returns-clause-applied c =
    let old = c.self.inside in
    let P : StoredMap → Type 0 = λ m. IsApplied m.dim (map_of m) (λ col. get_or c.args.mid.now col (pos 0))
    (λ row. get_or c.apply_rows.new.new row (pos 0)) in
    subst P c.self.view_is
    (applied_by old.dim old.numbers.items c.deref.result.now old.free.items c.deref-2.result.now c.args.mid.now
    c.copy_from_slice.new.self c.apply_rows.new.new c.deref.ensures.value c.deref-2.ensures.value
    c.copy_from_slice.ensures.after c.apply_rows.ensures)

pub returns-clause-near : goal.returns-clause-near
returns-clause-near c s kappa40 radius n e y made cell late start =
    stays_near s kappa40 radius n e y c.args.self.now _ _ made cell late (returns-clause-applied c) start
