use Rattle.std.proofs.Common.{◌≡◌, ℕ, List, [], ◌∷◌, refl, rules, subst, sym, lit<, lit≤}
use Rattle.std.specs.Prelude.{codes, All}
use Rattle.std.proofs.lemmas.List.Elements.{All-nil, All-cons}
use Rattle.curve_pieces.specs.PiecewiseCurves.{PiecewiseCurve}
use Rattle.model_specs.specs.Names.{IsGoodName}
use Rattle.model_laws.proofs.GoodNames.{name_is_good, states_are_good}
use Rattle.answer_sheets.proofs.tests.endowment.Goals as goal

pub new-requires-7 : goal.new-requires-7
new-requires-7 c =
    let spelled : c.in_ok-name.name.items ≡ codes "endowment" = search rules in
    let on_spelled : c.in_ok-on.on.items ≡ codes "on" = search rules in
    let off_spelled : c.in_ok-off.off.items ≡ codes "off" = search rules in
    let names_are : c.in_ok-names.names.items ≡ c.in_ok-on.on ∷ c.in_ok-off.off ∷ [] = c.in_ok-names.ensures.items in
    let texts_are : c.in_ok-on.on.items ∷ c.in_ok-off.off.items ∷ [] ≡ codes "on" ∷ codes "off" ∷ [] = cc in
    let rates_are : c.in_ok-rates.rates.items ≡ c.in_ok-rate.rate ∷ [] = c.in_ok-rates.ensures.items in
    let rate_term : c.in_ok-rate.rate.months ≡ 24 = rw c.in_ok-rate.ensures.ok refl in
    let OfTerm : PiecewiseCurve → Type 0 = λ rate. rate.months ≡ 24 in
    let edges_are : c.in_ok-to_vec.field-0.items ≡ (1, 0) ∷ [] = search rules in
    record {
      name = rw spelled name_is_good;
      states = rw (c.in_ok-graph.ensures, names_are)
          (subst (λ (names : List (List ℕ)). All (IsGoodName 24) names) (sym texts_are) states_are_good);
      some_denominator = lit≤ tt;
      largest_denominator = lit≤ tt;
      start = rw (c.in_ok-graph.ensures, c.in_ok-names.ensures.items) (lit< tt);
      interest = rw c.in_ok-interest.ensures.ok refl;
      rates = rw rates_are (All-cons OfTerm c.in_ok-rate.rate [] rate_term (All-nil OfTerm));
      payments = rw c.in_ok-plan.ensures refl;
      state_count = rw (c.in_ok-plan.ensures, c.in_ok-graph.ensures, c.in_ok-names.ensures.items) refl;
      rate_count = rw (c.in_ok-graph.ensures, c.in_ok-rates.ensures.items, edges_are) refl;
      sum_count = rw (c.in_ok-plan.ensures, c.in_ok-graph.ensures, c.in_ok-sums.ensures.items, edges_are) refl;
    }
