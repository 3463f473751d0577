-- Totals of valued portfolios hold the exact values of their groups.
use Rattle.std.proofs.Common.{ℕ, ◌≤◌, List, [], ◌∷◌, max, arith}
use Rattle.std.specs.Prelude.{All, fold}
use Rattle.std.proofs.lemmas.List.Elements.{All-head, All-tail}
use Rattle.named_numbers.specs.Numbers.{highest_degree, least_degree}
use Rattle.portfolio_run.specs.Totals.{greatest_degree}
use Rattle.portfolio_run.specs.Values.{IsValued, ValuedProduct}
use Rattle.total_merge.specs.Laws.{TotalsAreHeld}

low_from : (most : ℕ) (valued : List ValuedProduct) → most ≤ highest_degree → All IsValued valued
    → fold (λ greatest v. max greatest v.degree) most valued ≤ highest_degree
low_from most [] low all = low
low_from most (v ∷ valued) low all =
    let first = All-head IsValued v valued all in
    low_from (max most v.degree) valued
    (omega (arith, low, first.degree_is, first.reserves.degree.highest)) (All-tail IsValued v valued all)

-- no table of a portfolio has a higher degree
degrees_are_low : (valued : List ValuedProduct) → All IsValued valued → greatest_degree valued ≤ highest_degree
degrees_are_low valued all = low_from least_degree valued (omega arith) all

-- so its totals hold from that one on
pub totals_are_held : TotalsAreHeld
totals_are_held portfolio total all is n late =
    is.holds n (omega (arith, degrees_are_low portfolio.valued all, late))
