use Rattle.std.proofs.Common.{◌≡◌, length, true, ap, sym, ◌∙◌, arith}
use Rattle.toml.specs.View.{view, table_view}
use Rattle.product_file.specs.Members.{item_at}
use Rattle.product_file.specs.LumpRule.{lump_items, is_good_lump}
use Rattle.file_checks.specs.Slots.{is_fair_lump, slot_of}
use Rattle.file_checks.proofs.Checks.{first_of-at, first_of-none}
use Rattle.file_checks.proofs.LumpLemmas.{unfair_is_bad, seen_is_bad, seen_more, few_lumps}
use Rattle.file_checks.proofs.lump.first_bad_lump.Goals as goal

pub overflow_cast-result : goal.overflow_cast-result
overflow_cast-result c =
    omega (
      arith,
      few_lumps (table_view c.args.tree.now) c.loop-k.k c.requires.names c.requires.term
          (omega (arith, c.lumps-lumps.ensures.count)) c.loop-k.invariant.good,
    )

pub overflow_cast-result-then-seen-slot : goal.overflow_cast-result-then-seen-slot
overflow_cast-result-then-seen-slot c =
    omega (
      arith,
      few_lumps (table_view c.args.tree.now) c.loop-k.k c.requires.names c.requires.term
          (omega (arith, c.lumps-lumps.ensures.count)) c.loop-k.invariant.good,
    )

pub returns-then-not-is_fair_lump : goal.returns-then-not-is_fair_lump
returns-then-not-is_fair_lump c =
    let tree = table_view c.args.tree.now in
    let here : view c.item-value.result.now ≡ item_at (lump_items tree) c.loop-k.k =
    c.item-value.ensures ∙ ap (λ ds. item_at ds c.loop-k.k) c.lumps-lumps.ensures.items in
    first_of-at (length (lump_items tree)) c.loop-k.k (is_good_lump tree) (omega (arith, c.lumps-lumps.ensures.count))
    c.loop-k.invariant.good
    (unfair_is_bad tree c.loop-k.k
    (ap (is_fair_lump tree) (sym here) ∙ sym c.is_fair_lump.ensures ∙ c.if-not-is_fair_lump.true))

pub returns-then-seen-slot : goal.returns-then-seen-slot
returns-then-seen-slot c =
    let tree = table_view c.args.tree.now in
    let here : view c.item-value.result.now ≡ item_at (lump_items tree) c.loop-k.k =
    c.item-value.ensures ∙ ap (λ ds. item_at ds c.loop-k.k) c.lumps-lumps.ensures.items in
    first_of-at (length (lump_items tree)) c.loop-k.k (is_good_lump tree) (omega (arith, c.lumps-lumps.ensures.count))
    c.loop-k.invariant.good
    (seen_is_bad tree c.loop-k.seen c.loop-k.k c.slot_of-slot.result c.requires.names c.loop-k.invariant
    (omega (arith, c.lumps-lumps.ensures.count))
    (ap (is_fair_lump tree) (sym here) ∙ sym c.is_fair_lump.ensures ∙ c.if-not-is_fair_lump.false)
    (c.slot_of-slot.ensures.value ∙ ap (slot_of tree) here)
    (omega (arith, c.slot_of-slot.ensures.within, c.requires.count)) c.if-seen-slot.true)

pub loop-k-preserved : goal.loop-k-preserved
loop-k-preserved c =
    let tree = table_view c.args.tree.now in
    let here : view c.item-value.result.now ≡ item_at (lump_items tree) c.loop-k.k =
    c.item-value.ensures ∙ ap (λ ds. item_at ds c.loop-k.k) c.lumps-lumps.ensures.items in
    seen_more tree c.loop-k.seen c.loop-k.k c.slot_of-slot.result c.requires.names c.loop-k.invariant
    (omega (arith, c.lumps-lumps.ensures.count))
    (ap (is_fair_lump tree) (sym here) ∙ sym c.is_fair_lump.ensures ∙ c.if-not-is_fair_lump.false)
    (c.slot_of-slot.ensures.value ∙ ap (slot_of tree) here)
    (omega (arith, c.slot_of-slot.ensures.within, c.requires.count)) c.if-seen-slot.false

pub returns : goal.returns
returns c =
    let tree = table_view c.args.tree.now in
    first_of-none (length (lump_items tree)) (is_good_lump tree)
    (λ i below. c.loop-k.invariant.good i (omega (arith, c.lumps-lumps.ensures.count)))
