use Rattle.std.proofs.Common.{◌≡◌, ◌<◌, ◌+◌, ◌≤◌, ◌++◌, ◌∷◌, [], ◌∙◌, Some, ap, arith, length, slice_get, subst}
use Rattle.std.proofs.Common.{sym, take}
use Rattle.std.proofs.lemmas.List.{get_or-map, length-map, length-take, take_more}
use Rattle.std.proofs.lemmas.List.Elements.{All-take}
use Rattle.portfolio_run.specs.Names.{with_name}
use Rattle.portfolio_run.specs.Stored.{most_bytes}
use Rattle.total_merge.specs.Entries.{kept_entries, kept_entry, IsInRange}
use Rattle.total_merge.specs.Sums.{groups_of, name_of, AreSums, HasSums}
use Rattle.total_merge.proofs.GroupTotals.{entry_added, groups_more, place_within}
use Rattle.total_merge.proofs.SumLaws.{sums_have_room}
use Rattle.total_merge.proofs.summing.sum_up.Goals as goal

pub add-requires-clause-room : goal.add-requires-clause-room
add-requires-clause-room c =
    let all = kept_entries c.args.entries.now in
    let so_far = take c.loop-i.i all in
    let old = c.index_mut.result.now in
    let are = c.in_ok-place.ensures.sums so_far c.loop-i.invariant.sums in
    let within = place_within _ c.place_of.new.groups.items _ c.in_ok-place.place c.in_ok-place.ensures.named
    c.in_ok-place.ensures.place in
    let few : length so_far ≤ most_bytes =
    omega (
      arith,
      length-take c.loop-i.i all,
      length-map c.args.entries.now kept_entry,
      c.requires.few,
      c.loop-i.invariant.within,
    ) in
    sums_have_room so_far old (All-take IsInRange c.loop-i.i all c.requires.range) few
    (subst (HasSums so_far) (sym c.index_mut.ensures.value) (are.right c.in_ok-place.place old within))

pub add-requires-clause-range : goal.add-requires-clause-range
add-requires-clause-range c =
    let row = c.index-entries-i.result in
    let within : c.loop-i.i < length c.args.entries.now = omega arith in
    let inside : c.loop-i.i < length (kept_entries c.args.entries.now) =
    omega (arith, within, length-map c.args.entries.now kept_entry) in
    subst IsInRange
    (get_or-map kept_entry c.args.entries.now c.loop-i.i row (kept_entry row) within
    ∙ ap kept_entry (sym c.index-entries-i.is))
    (c.requires.range c.loop-i.i (kept_entry row) inside)

pub loop-i-preserved : goal.loop-i-preserved
loop-i-preserved c =
    let all = kept_entries c.args.entries.now in
    let so_far = take c.loop-i.i all in
    let row = c.index-entries-i.result in
    let within : c.loop-i.i < length c.args.entries.now = omega arith in
    let inside : c.loop-i.i < length all = omega (arith, within, length-map c.args.entries.now kept_entry) in
    let more : take (c.loop-i.i + 1) all ≡ so_far ++ kept_entry row ∷ [] =
    take_more all c.loop-i.i (kept_entry row) inside
    ∙ ap (λ e. so_far ++ e ∷ []) (get_or-map kept_entry c.args.entries.now c.loop-i.i row (kept_entry row) within
    ∙ ap kept_entry (sym c.index-entries-i.is)) in
    let name : c.deref.result.now ≡ name_of row = c.deref.ensures.value in
    record {
      within = omega (arith, within);
      names_are = c.in_ok-place.ensures.noted ∙ ap (with_name c.loop-i.names) name
          ∙ ap (λ names. with_name names (name_of row)) c.loop-i.invariant.names_are ∙ sym (groups_more so_far row)
          ∙ ap groups_of (sym more);
      sums = subst (AreSums c.place_of.new.names _) (sym more)
          (entry_added c.place_of.new.names c.place_of.new.groups.items so_far c.in_ok-place.place row
          c.index_mut.result.now c.add.new.total (c.in_ok-place.ensures.sums so_far c.loop-i.invariant.sums)
          (subst (λ n. slice_get c.place_of.new.names c.in_ok-place.place ≡ Some n) name
          c.in_ok-place.ensures.place) c.index_mut.ensures.value c.add.ensures);
    }
