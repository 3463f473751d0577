use Rattle.std.specs.Int.{w128}
use Rattle.std.specs.Ordering.{int_cmp}
use Rattle.std.proofs.Common.{rules, ◌≡◌, ◌*ℤ◌, FitsSigned}
use Rattle.std.proofs.lemmas.Int.{to_z-of_z, fits_signed_from_abs}
use Rattle.frac_laws.proofs.RatioOrder.{less_by_cross, equal_by_cross, greater_by_cross}
use Rattle.frac_laws.proofs.ratio.Ratio.cmp_exact.Goals as goal

-- the answer is the order of the two cross products, which do not wrap
of_cross : (c : goal.After-cmp)
    → c.cmp.result ≡ int_cmp (c.args.self.now.num *ℤ c.args.other.now.den)
    (c.args.other.now.num *ℤ c.args.self.now.den)
of_cross c =
    let num : FitsSigned w128 c.args.self.now.num = search rules in
    let den : FitsSigned w128 c.args.self.now.den = search rules in
    let other_num : FitsSigned w128 c.args.other.now.num = search rules in
    let other_den : FitsSigned w128 c.args.other.now.den = search rules in
    let cross : FitsSigned w128 (c.args.self.now.num *ℤ c.args.other.now.den) =
    fits_signed_from_abs w128 _ c.requires.cross in
    let other_cross : FitsSigned w128 (c.args.other.now.num *ℤ c.args.self.now.den) =
    fits_signed_from_abs w128 _ c.requires.other_cross in
    simp to_z-of_z at c.cmp.ensures

pub returns-clause-less : goal.returns-clause-less
returns-clause-less c = less_by_cross _ _ _ _ _ c.requires.den c.requires.other_den (of_cross c)

pub returns-clause-equal : goal.returns-clause-equal
returns-clause-equal c = equal_by_cross _ _ _ _ _ c.requires.den c.requires.other_den (of_cross c)

pub returns-clause-greater : goal.returns-clause-greater
returns-clause-greater c = greater_by_cross _ _ _ _ _ c.requires.den c.requires.other_den (of_cross c)
