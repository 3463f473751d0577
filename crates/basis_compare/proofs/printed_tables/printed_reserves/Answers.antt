use Rattle.std.proofs.Common.{[], ◌∷◌, ◌++◌, ap, sym, subst, ◌∙◌}
use Rattle.std.specs.Prelude.{All}
use Rattle.std.proofs.lemmas.List.Elements.{All-push}
use Rattle.whole_laws.specs.Whole.{list_of}
use Rattle.whole_laws.proofs.ListsByPlace.{list_of-next}
use Rattle.basis_compare.specs.Differences.{IsSmall, printed_at}
use Rattle.basis_compare.proofs.printed_tables.printed_reserves.Goals as goal

pub loop-place-preserved : goal.loop-place-preserved
loop-place-preserved c =
    let at = printed_at c.args.adm.now c.args.t.now in
    let so_far = c.loop-place.invariant in
    record {
      values = c.in_ok-push.ensures.items ∙ ap (λ rs. rs ++ c.printed_at.result ∷ []) so_far.values
          ∙ ap (λ r. list_of c.loop-place.place (printed_at c.args.adm.now c.args.t.now) ++ r ∷ [])
          c.printed_at.ensures.value
          ∙ sym (list_of-next c.loop-place.place (printed_at c.args.adm.now c.args.t.now));
      small = subst (All IsSmall) (sym c.in_ok-push.ensures.items)
          (All-push IsSmall c.loop-place.reserves.items c.printed_at.result so_far.small c.printed_at.ensures.small);
    }
