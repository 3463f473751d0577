use Rattle.std.proofs.Common.{◌^◌, ◌≤ℤ◌, ℤ, FitsSigned, rules, arith, refl, sym, subst}
use Rattle.std.specs.Int.{w128, int_min, int_max}
use Rattle.std.proofs.lemmas.Bool.{false≢true}
use Rattle.std.proofs.lemmas.Int.{ints, to_z-of_z}
use Rattle.frac_laws.specs.Fraction.{over, ◌≤ℚ◌}
use Rattle.fixed_interval.proofs.Enclosing.{above_both, below_both, lies_in_both, ends_meet, end_lies_in_both}
use Rattle.fixed_interval.proofs.interval.Interval.meet.Goals as goal

pub returns-then-lo-hi-clause-none : goal.returns-then-lo-hi-clause-none
returns-then-lo-hi-clause-none c =
    let a = c.args.self.now in
    let b = c.args.o.now in
    let a_lo_fits : FitsSigned w128 c.args.self.now.lo = search rules in
    let a_hi_fits : FitsSigned w128 c.args.self.now.hi = search rules in
    let b_lo_fits : FitsSigned w128 c.args.o.now.lo = search rules in
    let b_hi_fits : FitsSigned w128 c.args.o.now.hi = search rules in
    let lo_fits : FitsSigned w128 c.max-lo.result = search rules in
    let hi_fits : FitsSigned w128 c.min-hi.result = search rules in
    let lo = simp to_z-of_z at c.max-lo.ensures.value in
    let hi = simp to_z-of_z at c.min-hi.ensures.value in
    let met = simp to_z-of_z at c.if-lo-hi.true in
    let found : c.max-lo.result ≤ℤ c.min-hi.result = omega (arith, ints) in
    let order : int_max a.lo b.lo ≤ℤ int_min a.hi b.hi = rw (← lo, ← hi) found in (
      λ e. absurd (false≢true (sym e)),
      λ nothing. absurd (nothing (over (int_max a.lo b.lo) (2 ^ 64)) (end_lies_in_both a b order)),
    )

pub returns-then-lo-hi-clause-some : goal.returns-then-lo-hi-clause-some
returns-then-lo-hi-clause-some c x =
    let a = c.args.self.now in
    let b = c.args.o.now in
    let a_lo_fits : FitsSigned w128 c.args.self.now.lo = search rules in
    let a_hi_fits : FitsSigned w128 c.args.self.now.hi = search rules in
    let b_lo_fits : FitsSigned w128 c.args.o.now.lo = search rules in
    let b_hi_fits : FitsSigned w128 c.args.o.now.hi = search rules in
    let lo_fits : FitsSigned w128 c.max-lo.result = search rules in
    let hi_fits : FitsSigned w128 c.min-hi.result = search rules in
    let lo = simp to_z-of_z at c.max-lo.ensures.value in
    let hi = simp to_z-of_z at c.min-hi.ensures.value in
    let L : ℤ → Type 0 = λ z. over z (2 ^ 64) ≤ℚ x in
    let H : ℤ → Type 0 = λ z. x ≤ℚ over z (2 ^ 64) in (
      λ both. lies_in_both a b x (subst L lo (simp to_z-of_z at both.at_least))
          (subst H hi (simp to_z-of_z at both.at_most)),
      λ each. record {
        at_least = simp to_z-of_z (subst L (sym lo) (above_both a.lo b.lo x each.0.at_least each.1.at_least));
        at_most = simp to_z-of_z (subst H (sym hi) (below_both a.hi b.hi x each.0.at_most each.1.at_most));
      },
    )

pub returns-else-lo-hi-clause-none : goal.returns-else-lo-hi-clause-none
returns-else-lo-hi-clause-none c =
    let a = c.args.self.now in
    let b = c.args.o.now in
    let a_lo_fits : FitsSigned w128 c.args.self.now.lo = search rules in
    let a_hi_fits : FitsSigned w128 c.args.self.now.hi = search rules in
    let b_lo_fits : FitsSigned w128 c.args.o.now.lo = search rules in
    let b_hi_fits : FitsSigned w128 c.args.o.now.hi = search rules in
    let lo_fits : FitsSigned w128 c.max-lo.result = search rules in
    let hi_fits : FitsSigned w128 c.min-hi.result = search rules in
    let lo = simp to_z-of_z at c.max-lo.ensures.value in
    let hi = simp to_z-of_z at c.min-hi.ensures.value in
    let apart = simp to_z-of_z at c.if-lo-hi.false in (
      λ e x both.
          let order = ends_meet a b x both.0 both.1 in
          let met : c.max-lo.result ≤ℤ c.min-hi.result = rw (lo, hi) order in
          omega (arith, ints),
      λ nothing. refl,
    )
