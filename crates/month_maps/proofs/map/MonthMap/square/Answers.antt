use Rattle.std.proofs.Common.{ap, subst, ◌∙◌}
use Rattle.std.proofs.lemmas.List.{with_items_is}
use Rattle.map_laws.specs.Maps.{IsSquareOf}
use Rattle.map_laws.proofs.Doublings.{doublings_enclose}
use Rattle.month_maps.specs.StoredMap.{StoredMap, map_of, interval_map}
use Rattle.month_maps.proofs.WrittenRows.{squared_by}
use Rattle.month_maps.proofs.map.MonthMap.square.Goals as goal

pub returns-clause-square : goal.returns-clause-square
returns-clause-square c =
    let old = c.self.inside in
    let new = ap (λ v. v.items) c.swap.ensures.x_after
    ∙ with_items_is c.self.inside.next_numbers c.write_rows.new.next (c.write_rows.auto.next ∙
    c.deref_mut.ensures.len) in
    let new_free = ap (λ v. v.items) c.swap-2.ensures.x_after
    ∙ with_items_is c.self.inside.next_free c.write_free.new.next (c.write_free.auto.next ∙ c.deref_mut-2.ensures.len)
    in
    let P : StoredMap → Type 0 = λ m.
    IsSquareOf m.dim (map_of m) (interval_map old.dim c.swap.new.x.items c.swap-2.new.x.items) in
    subst P c.self.view_is
    (squared_by old.dim old.numbers.items c.deref.result.now c.deref-2.result.now old.free.items
    c.deref-3.result.now c.write_rows.new.next c.swap.new.x.items c.write_free.new.next c.swap-2.new.x.items
    c.deref.ensures.value c.deref-2.ensures.value c.deref-3.ensures.value new new_free c.write_rows.ensures
    c.write_free.ensures)

pub returns-clause-encloses : goal.returns-clause-encloses
returns-clause-encloses c a held = doublings_enclose c.args.self.now.dim (map_of c.args.self.now) _ a
    (returns-clause-square c) held
