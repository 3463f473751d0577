use Rattle.std.proofs.Common.{[], ◌∷◌, ◌++◌, ◌≤◌, ◌^◌, ap, sym, subst, ◌∙◌}
use Rattle.std.specs.Prelude.{All}
use Rattle.std.proofs.lemmas.List.Elements.{All-push}
use Rattle.whole_laws.specs.Whole.{list_of}
use Rattle.whole_laws.proofs.ListsByPlace.{list_of-next}
use Rattle.claim_audit.specs.Audits.{tolerance_at}
use Rattle.portfolio_run.proofs.valued.tolerances_of.Goals as goal

pub loop-month-preserved : goal.loop-month-preserved
loop-month-preserved c =
    let so_far = c.loop-month.invariant in
    record {
      values = c.in_ok-push.ensures.items ∙ ap (λ all. all ++ c.tolerance.result ∷ []) so_far.values
          ∙ ap (λ t. list_of c.loop-month.month (tolerance_at c.args.adm.now) ++ t ∷ []) c.tolerance.ensures.value
          ∙ sym (list_of-next c.loop-month.month (tolerance_at c.args.adm.now));
      small = subst (All (λ tolerance. tolerance ≤ 2 ^ 58)) (sym c.in_ok-push.ensures.items)
          (All-push (λ tolerance. tolerance ≤ 2 ^ 58) c.loop-month.all.items c.tolerance.result so_far.small
          c.tolerance.ensures.small);
    }
