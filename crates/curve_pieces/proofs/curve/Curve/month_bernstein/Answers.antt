use Rattle.std.proofs.Common.{◌≡◌, ◌+◌, ◌-◌, length, arith, rules, ap, ◌∙◌}
use Rattle.model_specs.specs.RecordRules.{IsBounded}
use Rattle.model_specs.specs.MonthNumbers.{bernstein_numerators}
use Rattle.model_laws.proofs.MonthNumerators.{numerators_are}
use Rattle.curve_pieces.proofs.Sizes.{month_fits}
use Rattle.curve_pieces.proofs.curve.Curve.month_bernstein.Goals as goal

pub month_bernstein-requires : goal.month_bernstein-requires
month_bernstein-requires c =
    let six : length c.in_years.result.c ≡ 6 = search rules in
    let bounded : IsBounded c.in_years.result.c (c.args.month - c.at-piece.result.now.from + 1) =
    rw c.in_years.ensures c.at-piece.ensures.bounded in
    let fits = month_fits c.in_years.result.c (c.args.month - c.at-piece.result.now.from) six bounded in
    omega (arith, fits)

pub returns-clause-numerators : goal.returns-clause-numerators
returns-clause-numerators c =
    let six : length c.in_years.result.c ≡ 6 = search rules in
    numerators_are c.in_years.result.c c.month_bernstein.result (c.args.month - c.at-piece.result.now.from) six
    (c.month_bernstein.ensures.polynomial 1 (omega arith))
    ∙ ap (λ p. bernstein_numerators p (c.args.month - c.at-piece.result.now.from)) c.in_years.ensures
    ∙ ap (λ piece. bernstein_numerators piece.c (c.args.month - piece.from)) c.at-piece.ensures.covers

pub returns-clause-size : goal.returns-clause-size
returns-clause-size c =
    let six : length c.in_years.result.c ≡ 6 = search rules in
    let bounded : IsBounded c.in_years.result.c (c.args.month - c.at-piece.result.now.from + 1) =
    rw c.in_years.ensures c.at-piece.ensures.bounded in
    let fits = month_fits c.in_years.result.c (c.args.month - c.at-piece.result.now.from) six bounded in
    λ j. omega (arith, fits, c.month_bernstein.ensures.size j)
