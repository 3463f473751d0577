use Rattle.std.proofs.Common.{◌≡◌, ◌∙◌, ◌≤◌, length, map, refl, subst, sym, arith}
use Rattle.std.specs.Prelude.{All}
use Rattle.std.proofs.lemmas.List.{length-map}
use Rattle.portfolio_run.specs.Stored.{most_bytes}
use Rattle.total_merge.specs.Entries.{kept_entries, kept_entry, IsInRange}
use Rattle.total_merge.specs.Sums.{groups_of, name_of, HasSums}
use Rattle.total_merge.proofs.MergedTables.{text_in_range, text_is_few, totals_are_narrow, totals_have_text}
use Rattle.total_merge.proofs.merging.merge.Goals as goal

pub sum_up-requires-clause-range : goal.sum_up-requires-clause-range
sum_up-requires-clause-range c =
    subst (λ rows. All IsInRange (kept_entries rows)) (sym c.deref.ensures.value)
    (text_in_range c.args.text.now (kept_entries c.in-Ok.entries.items) c.in-Ok.ensures.ok)

pub sum_up-requires-clause-few : goal.sum_up-requires-clause-few
sum_up-requires-clause-few c =
    let few = text_is_few c.args.text.now (kept_entries c.in-Ok.entries.items) c.in-Ok.ensures.ok in
    let count = length-map c.in-Ok.entries.items kept_entry in
    subst (λ rows. length rows ≤ most_bytes) (sym c.deref.ensures.value)
    (omega (arith, few, count, c.requires.most))

pub returns-clause-ok : goal.returns-clause-ok
returns-clause-ok c =
    let entries = kept_entries c.in-Ok.entries.items in
    let named = subst (λ rows. map name_of c.in-Ok-sum_up.groups.items ≡ groups_of (kept_entries rows))
    c.deref.ensures.value c.in-Ok-sum_up.ensures.groups in
    let right = subst (λ rows. All (HasSums (kept_entries rows)) c.in-Ok-sum_up.groups.items) c.deref.ensures.value
    c.in-Ok-sum_up.ensures.right in (
      entries,
      c.in-Ok.ensures.ok,
      record {
        degree_is = refl;
        entries_are = c.len.ensures ∙ c.in-Ok.entries.ok.0 ∙ sym (length-map c.in-Ok.entries.items kept_entry);
        groups_are = named;
        right = right;
        narrow = totals_are_narrow c.args.text.now entries _ c.in-Ok.ensures.ok right;
      },
    )

pub returns-clause-text : goal.returns-clause-text
returns-clause-text c =
    let entries = kept_entries c.in-Ok.entries.items in
    let few = text_is_few c.args.text.now entries c.in-Ok.ensures.ok in
    let short : length entries ≤ most_bytes = omega (arith, few, c.requires.most) in
    totals_have_text entries _ (text_in_range c.args.text.now entries c.in-Ok.ensures.ok) short
    (subst (λ rows. map name_of c.in-Ok-sum_up.groups.items ≡ groups_of (kept_entries rows)) c.deref.ensures.value
    c.in-Ok-sum_up.ensures.groups)
    (subst (λ rows. All (HasSums (kept_entries rows)) c.in-Ok-sum_up.groups.items) c.deref.ensures.value
    c.in-Ok-sum_up.ensures.right)
