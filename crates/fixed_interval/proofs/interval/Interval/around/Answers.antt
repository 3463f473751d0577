use Rattle.std.proofs.Common.{◌-◌, ◌*◌, ◌^◌, ℤ, pos, ◌+ℤ◌, ◌-ℤ◌, FitsSigned, rules, ap, sym, subst, ◌∙◌}
use Rattle.std.specs.Int.{w128}
use Rattle.std.proofs.lemmas.Int.{to_z-of_z}
use Rattle.frac_laws.specs.Fraction.{over, whole, ◌*ℚ◌, ◌≤ℚ◌}
use Rattle.fixed_interval.proofs.Midpoints.{low_end_is, high_end_is, ends_ordered, width_of, low_of_nearer}
use Rattle.fixed_interval.proofs.Midpoints.{high_of_nearer, scaled_low, scaled_high}
use Rattle.fixed_interval.proofs.interval.Interval.around.Goals as goal

pub returns-clause-lo : goal.returns-clause-lo
returns-clause-lo c =
    let mid_fits : FitsSigned w128 c.args.mid = search rules in
    let lo_fits : FitsSigned w128 c.scaled.result = search rules in
    simp to_z-of_z (low_end_is c.scaled.result c.args.mid c.args.radius c.args.g mid_fits c.requires.mid
    c.requires.radius c.scaled.ensures.value)

pub returns-clause-hi : goal.returns-clause-hi
returns-clause-hi c =
    let mid_fits : FitsSigned w128 c.args.mid = search rules in
    let hi_fits : FitsSigned w128 c.scaled-2.result = search rules in
    simp to_z-of_z (high_end_is c.scaled-2.result c.args.mid c.args.radius c.args.g mid_fits c.requires.mid
    c.requires.radius c.scaled-2.ensures.value)

pub invariant_of-result : goal.invariant_of-result
invariant_of-result c =
    let mid_fits : FitsSigned w128 c.args.mid = search rules in
    let lo_fits : FitsSigned w128 c.scaled.result = search rules in
    let hi_fits : FitsSigned w128 c.scaled-2.result = search rules in
    let low = low_end_is c.scaled.result c.args.mid c.args.radius c.args.g mid_fits c.requires.mid
    c.requires.radius c.scaled.ensures.value in
    let high = high_end_is c.scaled-2.result c.args.mid c.args.radius c.args.g mid_fits c.requires.mid
    c.requires.radius c.scaled-2.ensures.value in
    record { ordered = simp to_z-of_z (rw (low, high) (ends_ordered c.args.mid c.args.radius (2 ^ c.args.g))) }

pub returns-clause-width : goal.returns-clause-width
returns-clause-width c =
    returns-clause-hi c ∙ width_of c.args.mid c.args.radius (2 ^ c.args.g)
    ∙ ap (λ z. z +ℤ pos (2 * c.args.radius * 2 ^ c.args.g)) (sym (returns-clause-lo c))

pub returns-clause-encloses : goal.returns-clause-encloses
returns-clause-encloses c x near =
    let value = whole (pos (2 ^ c.args.g)) *ℚ x in
    let L : ℤ → Type 0 = λ z. over z (2 ^ 64) ≤ℚ whole (pos (2 ^ c.args.g)) *ℚ x in
    let H : ℤ → Type 0 = λ z. whole (pos (2 ^ c.args.g)) *ℚ x ≤ℚ over z (2 ^ 64) in
    record {
      at_least = subst L (sym (returns-clause-lo c)) (scaled_low x c.args.mid c.args.radius (2 ^ c.args.g) near);
      at_most = subst H (sym (returns-clause-hi c)) (scaled_high x c.args.mid c.args.radius (2 ^ c.args.g) near);
    }

pub returns-clause-spares : goal.returns-clause-spares
returns-clause-spares c x nearer order near =
    let spare = pos ((c.args.radius - nearer) * 2 ^ c.args.g) in
    let low = ap (λ z. z +ℤ spare) (returns-clause-lo c)
    ∙ low_of_nearer c.args.mid c.args.radius nearer (2 ^ c.args.g) order in
    let high = ap (λ z. z -ℤ spare) (returns-clause-hi c)
    ∙ high_of_nearer c.args.mid c.args.radius nearer (2 ^ c.args.g) order in
    let L : ℤ → Type 0 = λ z. over z (2 ^ 64) ≤ℚ whole (pos (2 ^ c.args.g)) *ℚ x in
    let H : ℤ → Type 0 = λ z. whole (pos (2 ^ c.args.g)) *ℚ x ≤ℚ over z (2 ^ 64) in
    record {
      at_least = subst L (sym low) (scaled_low x c.args.mid nearer (2 ^ c.args.g) near);
      at_most = subst H (sym high) (scaled_high x c.args.mid nearer (2 ^ c.args.g) near);
    }
