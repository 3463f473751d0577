use Rattle.std.proofs.Common.{ℤ, ◌^◌, pos, FitsSigned, rules, sym, subst}
use Rattle.std.specs.Int.{w128}
use Rattle.std.proofs.lemmas.Int.{to_z-of_z}
use Rattle.frac_laws.specs.Fraction.{whole, ◌*ℚ◌, ◌≤ℚ◌}
use Rattle.fixed_interval.proofs.PrintedEnds.{low_printed, high_printed}
use Rattle.fixed_interval.proofs.interval.Interval.printed.Goals as goal

pub returns-clause-encloses : goal.returns-clause-encloses
returns-clause-encloses c x inside =
    let lo_fits : FitsSigned w128 c.args.self.now.lo = search rules in
    let hi_fits : FitsSigned w128 c.args.self.now.hi = search rules in
    let low_fits : FitsSigned w128 c.floor_product.result = search rules in
    let high_fits : FitsSigned w128 c.ceil_product.result = search rules in
    let low = simp to_z-of_z at c.floor_product.ensures.value in
    let high = simp to_z-of_z at c.ceil_product.ensures.value in
    let L : ℤ → Type 0 = λ z. whole z ≤ℚ whole (pos (10 ^ 6)) *ℚ x in
    let H : ℤ → Type 0 = λ z. whole (pos (10 ^ 6)) *ℚ x ≤ℚ whole z in
    record {
      at_least = simp to_z-of_z (subst L (sym low) (low_printed c.args.self.now.lo (10 ^ 6) x inside.at_least));
      at_most = simp to_z-of_z (subst H (sym high) (high_printed c.args.self.now.hi (10 ^ 6) x inside.at_most));
    }
