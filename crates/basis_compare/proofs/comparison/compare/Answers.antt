use Rattle.std.proofs.Common.{◌≡◌, ◌*◌, max, length, ap, sym, ◌∙◌}
use Rattle.whole_laws.specs.Whole.{list_of}
use Rattle.basis_compare.specs.Differences.{change_at}
use Rattle.basis_compare.proofs.Alike.{are_alike}
use Rattle.basis_compare.proofs.ChangeRows.{AreOfBases, same_lengths, changes_of_bases, changes_have_states}
use Rattle.basis_compare.proofs.comparison.compare.Goals as goal

pub rows_of-requires-clause-hybrid : goal.rows_of-requires-clause-hybrid
rows_of-requires-clause-hybrid g c =
    let are : AreOfBases c.args.a.now c.args.h.now c.args.b.now c.args.every c.in_ok-old.old c.in_ok-between.between
    c.in_ok-new.new c.in_ok-from.from.items c.in_ok-by.by.items c.in_ok-to.to.items = record {
      hybrid_is = c.requires.hybrid;
      alike = are_alike c.args.a.now c.args.b.now c.requires.comparable;
      table_a = c.in_ok-old.ensures.reserves;
      table_h = c.in_ok-between.ensures.reserves;
      table_b = c.in_ok-new.ensures.reserves;
      old_are = c.in_ok-from.ensures.values;
      between_are = c.in_ok-by.ensures.values;
      new_are = c.in_ok-to.ensures.values;
    } in
    ap length c.deref-2.ensures.value
    ∙ (same_lengths c.args.a.now c.args.h.now c.args.b.now c.args.every c.in_ok-old.old c.in_ok-between.between
    c.in_ok-new.new c.in_ok-from.from.items c.in_ok-by.by.items c.in_ok-to.to.items are).0
    ∙ sym (ap length c.deref.ensures.value)

pub rows_of-requires-clause-new : goal.rows_of-requires-clause-new
rows_of-requires-clause-new g c =
    let are : AreOfBases c.args.a.now c.args.h.now c.args.b.now c.args.every c.in_ok-old.old c.in_ok-between.between
    c.in_ok-new.new c.in_ok-from.from.items c.in_ok-by.by.items c.in_ok-to.to.items = record {
      hybrid_is = c.requires.hybrid;
      alike = are_alike c.args.a.now c.args.b.now c.requires.comparable;
      table_a = c.in_ok-old.ensures.reserves;
      table_h = c.in_ok-between.ensures.reserves;
      table_b = c.in_ok-new.ensures.reserves;
      old_are = c.in_ok-from.ensures.values;
      between_are = c.in_ok-by.ensures.values;
      new_are = c.in_ok-to.ensures.values;
    } in
    ap length c.deref-3.ensures.value
    ∙ (same_lengths c.args.a.now c.args.h.now c.args.b.now c.args.every c.in_ok-old.old c.in_ok-between.between
    c.in_ok-new.new c.in_ok-from.from.items c.in_ok-by.by.items c.in_ok-to.to.items are).1
    ∙ sym (ap length c.deref.ensures.value)

pub returns-clause-changes : goal.returns-clause-changes
returns-clause-changes g c =
    let are : AreOfBases c.args.a.now c.args.h.now c.args.b.now c.args.every c.in_ok-old.old c.in_ok-between.between
    c.in_ok-new.new c.in_ok-from.from.items c.in_ok-by.by.items c.in_ok-to.to.items = record {
      hybrid_is = c.requires.hybrid;
      alike = are_alike c.args.a.now c.args.b.now c.requires.comparable;
      table_a = c.in_ok-old.ensures.reserves;
      table_h = c.in_ok-between.ensures.reserves;
      table_b = c.in_ok-new.ensures.reserves;
      old_are = c.in_ok-from.ensures.values;
      between_are = c.in_ok-by.ensures.values;
      new_are = c.in_ok-to.ensures.values;
    } in
    let rows : c.in_ok-rows.rows.items ≡ list_of (3 * length c.in_ok-from.from.items)
    (change_at c.in_ok-from.from.items c.in_ok-by.by.items c.in_ok-to.to.items) =
    c.in_ok-rows.ensures
    ∙ ap (λ xs. list_of (3 * length xs) (change_at xs c.deref-2.result.now c.deref-3.result.now)) c.deref.ensures.value
    ∙ ap (λ xs. list_of (3 * length c.in_ok-from.from.items) (change_at c.in_ok-from.from.items xs
    c.deref-3.result.now)) c.deref-2.ensures.value
    ∙ ap (λ xs. list_of (3 * length c.in_ok-from.from.items) (change_at c.in_ok-from.from.items c.in_ok-by.by.items
    xs)) c.deref-3.ensures.value in
    changes_of_bases c.args.a.now c.args.h.now c.args.b.now c.args.every c.in_ok-old.old c.in_ok-between.between
    c.in_ok-new.new c.in_ok-from.from.items c.in_ok-by.by.items c.in_ok-to.to.items
    _ are (c.max-2.ensures ∙ ap (λ d. max d c.in_ok-new.new.degree) c.max.ensures) rows

pub returns-clause-text : goal.returns-clause-text
returns-clause-text g c =
    let are : AreOfBases c.args.a.now c.args.h.now c.args.b.now c.args.every c.in_ok-old.old c.in_ok-between.between
    c.in_ok-new.new c.in_ok-from.from.items c.in_ok-by.by.items c.in_ok-to.to.items = record {
      hybrid_is = c.requires.hybrid;
      alike = are_alike c.args.a.now c.args.b.now c.requires.comparable;
      table_a = c.in_ok-old.ensures.reserves;
      table_h = c.in_ok-between.ensures.reserves;
      table_b = c.in_ok-new.ensures.reserves;
      old_are = c.in_ok-from.ensures.values;
      between_are = c.in_ok-by.ensures.values;
      new_are = c.in_ok-to.ensures.values;
    } in
    let rows : c.in_ok-rows.rows.items ≡ list_of (3 * length c.in_ok-from.from.items)
    (change_at c.in_ok-from.from.items c.in_ok-by.by.items c.in_ok-to.to.items) =
    c.in_ok-rows.ensures
    ∙ ap (λ xs. list_of (3 * length xs) (change_at xs c.deref-2.result.now c.deref-3.result.now)) c.deref.ensures.value
    ∙ ap (λ xs. list_of (3 * length c.in_ok-from.from.items) (change_at c.in_ok-from.from.items xs
    c.deref-3.result.now)) c.deref-2.ensures.value
    ∙ ap (λ xs. list_of (3 * length c.in_ok-from.from.items) (change_at c.in_ok-from.from.items c.in_ok-by.by.items
    xs)) c.deref-3.ensures.value in
    changes_have_states c.args.a.now c.args.h.now c.args.b.now c.args.every c.in_ok-old.old c.in_ok-between.between
    c.in_ok-new.new c.in_ok-from.from.items c.in_ok-by.by.items c.in_ok-to.to.items
    c.in_ok-rows.rows.items are c.product-product.ensures.admissible.well_formed.names.some_state rows
