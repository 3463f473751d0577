use Rattle.std.proofs.Common.{◌≡◌, ◌≤◌, true, false, ℤ, pos, ◌≤ℤ◌, ◌<ℤ◌, refl, arith}
use Rattle.std.proofs.lemmas.Int.{by_lt_z}
use Rattle.std.proofs.lemmas.Result.{err_from_is_err_and}
use Rattle.model_specs.specs.Payments.{payment_plan, pattern_plan}
use Rattle.premium_solver.specs.Quotients.{least_divisor}
use Rattle.premium_solver.proofs.PremiumTables.{value_printed, premium_holds, premium_is_close}
use Rattle.premium_solver.proofs.PremiumTables.{pattern_large, too_small}
use Rattle.premium_solver.proofs.SmallPatterns.{pattern_ends}
use Rattle.premium_solver.proofs.premium.table_of.Goals as goal

not_below : (n m : ℤ) → (n <ℤ m → false ≡ true) → m ≤ℤ n
not_below n m h = by_lt_z n m (λ less. absurd (let apart = h less in cc)) (λ order. order)

pub quotient-requires-clause-divisors : goal.quotient-requires-clause-divisors
quotient-requires-clause-divisors c =
    pattern_ends c.args.adm.now c.args.pattern.now c.product-product.ensures.admissible c.requires.pattern

pub returns-in_err-premium-clause-too_small : goal.returns-in_err-premium-clause-too_small
returns-in_err-premium-clause-too_small c =
    let h = c.in_err-premium.ensures in
    let is = err_from_is_err_and c.from_residual.result c.from_residual.ensures.1 in
    let ends = pattern_ends c.args.adm.now c.args.pattern.now c.product-product.ensures.admissible c.requires.pattern in
    rw (is.1, is.2) (too_small c.args.adm.now c.args.pattern.now c.in_err-premium.field-0.0.low c.requires.pattern ends
    (h.too_small.0 refl) h.low)

pub returns-clause-table : goal.returns-clause-table
returns-clause-table c =
    let p = c.args.adm.now in
    let b = c.args.benefits.now in
    let v = c.args.pattern.now in
    let ends = c.in_ok-premium.premium in
    let large : pos least_divisor ≤ℤ c.args.pattern.now.interval.lo =
    not_below c.args.pattern.now.interval.lo (pos least_divisor) c.in_ok-premium.ensures.too_small.1 in
    let first : c.args.benefits.now.degree ≤ c.max.result = omega (arith, c.max.ensures) in
    let second : c.args.pattern.now.degree ≤ c.max.result = omega (arith, c.max.ensures) in
    record {
      degree = record {
        least = omega (arith, c.max.ensures, c.requires.benefits.degree.least);
        highest = omega (arith, c.max.ensures, c.requires.benefits.degree.highest, c.requires.pattern.degree.highest);
      };
      benefits_hold = value_printed p (payment_plan p) b c.max.result c.printed.result c.requires.benefits first
          (record {
            encloses = c.printed.ensures.encloses;
            ordered = c.printed.ensures.ordered;
            small = c.printed.ensures.small;
            narrow = c.printed.ensures.narrow;
          });
      pattern_holds = value_printed p (pattern_plan p) v c.max.result c.printed-2.result c.requires.pattern second
          (record {
            encloses = c.printed-2.ensures.encloses;
            ordered = c.printed-2.ensures.ordered;
            small = c.printed-2.ensures.small;
            narrow = c.printed-2.ensures.narrow;
          });
      premium_holds = λ n from. premium_holds p b v ends.lo ends.hi n c.requires.benefits c.requires.pattern
          c.in_ok-premium.ensures.encloses (omega (arith, first, from)) (omega (arith, second, from));
      ordered = c.in_ok-premium.ensures.ordered;
      small = c.in_ok-premium.ensures.small;
      close = λ n from. premium_is_close p b v ends n c.requires.benefits c.requires.pattern
          c.in_ok-premium.ensures.close (omega (arith, second, from));
      large = λ n from. pattern_large p v n c.requires.pattern large (omega (arith, second, from));
    }
