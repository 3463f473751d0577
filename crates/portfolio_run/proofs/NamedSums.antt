-- Sums that are given their names one by one.
use Rattle.std.proofs.Common.{◌≡◌, ℕ, ◌+◌, ◌<◌, List, [], ◌∷◌, ◌++◌, length, take, ap, sym, subst, ◌∙◌}
use Rattle.std.proofs.lemmas.List.{map_push, take_more}
use Rattle.claim_audit.proofs.ClaimLists.{one_more_by_place}
use Rattle.portfolio_run.specs.declared.sums.Sum.{Sum}
use Rattle.portfolio_run.specs.declared.totals.Total.{Total}
use Rattle.portfolio_run.specs.Named.{AreNamed, HasNumbers}
use Rattle.portfolio_run.specs.Stored.{name_at}
use Rattle.portfolio_run.specs.Sums.{sum_at}

-- one more
pub named_more : (names : List (List ℕ)) (sums : List Sum) (totals : List Total) (i : ℕ) (total : Total)
    → length totals ≡ i → i < length names → AreNamed (take i names) sums totals
    → total.name.items ≡ name_at names i → HasNumbers (sum_at sums i) total
    → AreNamed (take (i + 1) names) sums (totals ++ total ∷ [])
named_more names sums totals i total count within so_far name numbers = record {
  names_are = map_push (λ t. t.name.items) totals total ∙ ap (λ all. all ++ total.name.items ∷ []) so_far.names_are
      ∙ ap (λ n. take i names ++ n ∷ []) name ∙ sym (take_more names i [] within);
  numbers = λ k d inside. one_more_by_place (λ j item. HasNumbers (sum_at sums j) item) totals total d
      (λ j before. so_far.numbers j d before)
      (subst (λ j. HasNumbers (sum_at sums j) total) (sym count) numbers) k inside;
}
