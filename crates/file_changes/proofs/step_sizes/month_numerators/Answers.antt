use Rattle.std.proofs.Common.{◌≡◌, ◌+◌, length, ap, ◌∙◌, arith, rules}
use Rattle.model_specs.specs.RecordRules.{IsBounded}
use Rattle.model_specs.specs.MonthNumbers.{bernstein_numerators}
use Rattle.model_laws.proofs.MonthNumerators.{numerators_are}
use Rattle.model_laws.proofs.FourCoefficients.{padded_bounded, padded_numerators}
use Rattle.curve_pieces.proofs.Sizes.{month_fits}
use Rattle.file_checks.proofs.SizeLemmas.{bounded_from_test}
use Rattle.file_changes.proofs.step_sizes.month_numerators.Goals as goal

pub month_bernstein-requires : goal.month_bernstein-requires
month_bernstein-requires c =
    let six : length c.in_years.result.c ≡ 6 = search rules in
    let bounded : IsBounded c.in_years.result.c (c.args.month + 1) =
    rw c.in_years.ensures
    (padded_bounded c.args.c.now (c.args.month + 1)
    (bounded_from_test c.args.c.now (c.args.month + 1) c.args.months (omega arith) c.requires.bounded)) in
    let fits = month_fits c.in_years.result.c c.args.month six bounded in
    omega (arith, fits)

pub returns : goal.returns
returns c =
    let four : length c.args.c.now ≡ 4 = search rules in
    let six : length c.in_years.result.c ≡ 6 = search rules in
    numerators_are c.in_years.result.c c.month_bernstein.result c.args.month six
    (c.month_bernstein.ensures.polynomial 1 (omega arith))
    ∙ ap (λ p. bernstein_numerators p c.args.month) c.in_years.ensures
    ∙ padded_numerators c.args.c.now c.args.month four
