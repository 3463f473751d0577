use Rattle.std.proofs.Common.{ℤ, ◌^◌, pos, FitsSigned, rules, sym, subst}
use Rattle.std.specs.Int.{w128}
use Rattle.std.proofs.lemmas.Int.{to_z-of_z}
use Rattle.frac_laws.specs.Fraction.{whole, ◌*ℚ◌, ◌≤ℚ◌}
use Rattle.fixed_interval.proofs.PrintedEnds.{low_printed, high_printed}
use Rattle.fixed_interval.proofs.WholeEnds.{between_whole, whole_apart}
use Rattle.fixed_interval.proofs.interval.Interval.printed_whole.Goals as goal

pub returns-clause-encloses : goal.returns-clause-encloses
returns-clause-encloses c x inside =
    let lo_fits : FitsSigned w128 c.args.self.now.lo = search rules in
    let hi_fits : FitsSigned w128 c.args.self.now.hi = search rules in
    let low_fits : FitsSigned w128 c.whole_floor.result = search rules in
    let high_fits : FitsSigned w128 c.whole_ceil.result = search rules in
    let low = simp to_z-of_z at c.whole_floor.ensures.value in
    let high = simp to_z-of_z at c.whole_ceil.ensures.value in
    let L : ℤ → Type 0 = λ z. whole z ≤ℚ whole (pos (4 ^ c.args.g)) *ℚ x in
    let H : ℤ → Type 0 = λ z. whole (pos (4 ^ c.args.g)) *ℚ x ≤ℚ whole z in
    simp to_z-of_z (between_whole (record { lo = c.whole_floor.result; hi = c.whole_ceil.result })
    (whole (pos (4 ^ c.args.g)) *ℚ x)
    (subst L (sym low) (low_printed c.args.self.now.lo (4 ^ c.args.g) x inside.at_least))
    (subst H (sym high) (high_printed c.args.self.now.hi (4 ^ c.args.g) x inside.at_most)))

pub returns-clause-narrow : goal.returns-clause-narrow
returns-clause-narrow c width order =
    let lo_fits : FitsSigned w128 c.args.self.now.lo = search rules in
    let hi_fits : FitsSigned w128 c.args.self.now.hi = search rules in
    let low_fits : FitsSigned w128 c.whole_floor.result = search rules in
    let high_fits : FitsSigned w128 c.whole_ceil.result = search rules in
    let low = simp to_z-of_z at c.whole_floor.ensures.value in
    let high = simp to_z-of_z at c.whole_ceil.ensures.value in
    simp to_z-of_z (rw (low, high) (whole_apart c.args.self.now.lo c.args.self.now.hi width (4 ^ c.args.g) order))
