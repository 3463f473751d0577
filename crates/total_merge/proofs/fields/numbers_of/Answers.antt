use Rattle.std.proofs.Common.{◌≡◌, ◌∙◌, Some, ap, inl, inr, rules, sym, arith}
use Rattle.std.proofs.lemmas.Int.{to_z-of_z, fits_signed_from_abs}
use Rattle.model_specs.specs.Names.{IsGoodName}
use Rattle.total_merge.specs.Entries.{upper_of}
use Rattle.total_merge.proofs.fields.numbers_of.Goals as goal
use mir.Syntax.{w128}

pub returns-in_default-upper-clause-err : goal.returns-in_default-upper-clause-err
returns-in_default-upper-clause-err c =
    let good : IsGoodName 24 c.args.group.now = search rules in
    let low = c.in-Some.lo in
    let same = to_z-of_z w128 low (fits_signed_from_abs w128 low (omega (arith, c.in-Some.ensures.small))) in (
      good,
      low,
      sym c.millionths.ensures.value ∙ c.in-Some.is,
      sym (c.upper.ensures.value ∙ ap (λ l. upper_of l c.args.hi_field.now) same) ∙ c.in_default-upper.is,
    )

pub returns-in_default-tolerance-clause-err : goal.returns-in_default-tolerance-clause-err
returns-in_default-tolerance-clause-err c =
    let good : IsGoodName 24 c.args.group.now = search rules in
    let low = c.in-Some.lo in
    let same = to_z-of_z w128 low (fits_signed_from_abs w128 low (omega (arith, c.in-Some.ensures.small))) in
    let high : upper_of low c.args.hi_field.now ≡ Some c.in-Some-upper.hi =
    sym (c.upper.ensures.value ∙ ap (λ l. upper_of l c.args.hi_field.now) same) ∙ c.in-Some-upper.is in (
      good,
      low,
      sym c.millionths.ensures.value ∙ c.in-Some.is,
      c.in-Some-upper.hi,
      high,
      inl (sym c.tolerance.ensures.value ∙ c.in_default-tolerance.is),
    )

pub returns-then-not-are_within-clause-err : goal.returns-then-not-are_within-clause-err
returns-then-not-are_within-clause-err c =
    let good : IsGoodName 24 c.args.group.now = search rules in
    let low = c.in-Some.lo in
    let top = c.in-Some-upper.hi in
    let same = to_z-of_z w128 low (fits_signed_from_abs w128 low (omega (arith, c.in-Some.ensures.small))) in
    let also = to_z-of_z w128 top (fits_signed_from_abs w128 top (omega (arith, c.in-Some-upper.ensures.small))) in
    let high : upper_of low c.args.hi_field.now ≡ Some top =
    sym (c.upper.ensures.value ∙ ap (λ l. upper_of l c.args.hi_field.now) same) ∙ c.in-Some-upper.is in (
      good,
      low,
      sym c.millionths.ensures.value ∙ c.in-Some.is,
      top,
      high,
      inr (
        c.in-Some-tolerance.tol,
        sym c.tolerance.ensures.value ∙ c.in-Some-tolerance.is,
        λ narrow.
            let within = c.are_within.ensures.1 (rw (same, also) narrow) in
            cc (within, c.if-not-are_within.true),
      ),
    )

pub returns-clause-ok : goal.returns-clause-ok
returns-clause-ok c =
    let good : IsGoodName 24 c.args.group.now = search rules in
    let low = c.in-Some.lo in
    let top = c.in-Some-upper.hi in
    let same = to_z-of_z w128 low (fits_signed_from_abs w128 low (omega (arith, c.in-Some.ensures.small))) in
    let also = to_z-of_z w128 top (fits_signed_from_abs w128 top (omega (arith, c.in-Some-upper.ensures.small))) in
    let high : upper_of low c.args.hi_field.now ≡ Some top =
    sym (c.upper.ensures.value ∙ ap (λ l. upper_of l c.args.hi_field.now) same) ∙ c.in-Some-upper.is in
    rw (same, also) (record {
      group_is = good;
      lo_is = sym c.millionths.ensures.value ∙ c.in-Some.is;
      hi_is = high;
      tol_is = sym c.tolerance.ensures.value ∙ c.in-Some-tolerance.is;
      narrow = rw (same, also) at (c.are_within.ensures.0 c.if-not-are_within.false);
      in_range = record {
        ordered = rw same at c.in-Some-upper.ensures.ordered;
        lo = c.in-Some.ensures.small;
        hi = c.in-Some-upper.ensures.small;
        tol = c.in-Some-tolerance.ensures.small;
      };
    })
