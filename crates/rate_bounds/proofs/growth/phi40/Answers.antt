use Rattle.std.proofs.Common.{FitsSigned, rules}
use Rattle.std.specs.Int.{w128}
use Rattle.std.proofs.lemmas.Int.{to_z-of_z}
use Rattle.rate_bounds.proofs.SmallGrowth.{phi_is, phi_is_small}
use Rattle.rate_bounds.proofs.growth.phi40.Goals as goal

pub returns-clause-value : goal.returns-clause-value
returns-clause-value c =
    let fits : FitsSigned w128 c.args.curves.rho = search rules in
    phi_is c.args.curves c.args.unit c.iota.result c.div_ceil.result c.requires c.iota.ensures
    (simp to_z-of_z at c.div_ceil.ensures)

pub returns-clause-most : goal.returns-clause-most
returns-clause-most c =
    let fits : FitsSigned w128 c.args.curves.rho = search rules in
    phi_is_small c.args.curves c.args.unit c.div_ceil.result c.requires
    (phi_is c.args.curves c.args.unit c.iota.result c.div_ceil.result c.requires c.iota.ensures
    (simp to_z-of_z at c.div_ceil.ensures))
