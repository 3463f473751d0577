use Rattle.std.proofs.Common.{FitsSigned, rules}
use Rattle.std.specs.Int.{w128}
use Rattle.std.proofs.lemmas.Int.{to_z-of_z}
use Rattle.fixed_interval.proofs.Enclosing.{sum_fits, low_sum, high_sum}
use Rattle.fixed_interval.proofs.interval.Interval.add.Goals as goal

pub returns-clause-encloses : goal.returns-clause-encloses
returns-clause-encloses c x y in_self in_o =
    let a = c.args.self.now in
    let b = c.args.o.now in
    let a_lo_fits : FitsSigned w128 c.args.self.now.lo = search rules in
    let a_hi_fits : FitsSigned w128 c.args.self.now.hi = search rules in
    let b_lo_fits : FitsSigned w128 c.args.o.now.lo = search rules in
    let b_hi_fits : FitsSigned w128 c.args.o.now.hi = search rules in
    let lo_fits = sum_fits a.lo b.lo c.requires.first.lo c.requires.second.lo in
    let hi_fits = sum_fits a.hi b.hi c.requires.first.hi c.requires.second.hi in
    record {
      at_least = simp to_z-of_z (low_sum a.lo b.lo x y in_self.at_least in_o.at_least);
      at_most = simp to_z-of_z (high_sum a.hi b.hi x y in_self.at_most in_o.at_most);
    }
