use Rattle.std.proofs.Common.{◌≡◌, ℕ, ◌*◌, ◌^◌, ◌≤◌, ℤ, pos, List, length, sym, subst, get_or, FitsSigned, rules, arith}
use Rattle.std.specs.Int.{w128}
use Rattle.std.proofs.lemmas.Int.{to_z-of_z}
use Rattle.frac_laws.specs.Fraction.{over}
use Rattle.frac_laws.specs.Polynomials.{all_over, stretched}
use Rattle.poly_small.proofs.Units.{ProductsAre, units_fit, lower_power, products_are_in_units, in_units_polynomial}
use Rattle.poly_small.proofs.poly.Poly.in_units.Goals as goal

pub times_power-requires-clause-product : goal.times_power-requires-clause-product
times_power-requires-clause-product c =
    let six : length c.args.self.now.c ≡ 6 = search rules in
    let number_fits : FitsSigned w128 (get_or c.args.self.now.c 0 (pos 0)) = search rules in
    let fit = units_fit c.args.self.now.c c.args.unit six c.requires.fits in
    simp to_z-of_z fit.fits-0

pub times_power-requires-2-clause-factor : goal.times_power-requires-2-clause-factor
times_power-requires-2-clause-factor c = lower_power c.args.unit 4 (omega arith) (omega arith) c.requires.factor

pub times_power-requires-2-clause-product : goal.times_power-requires-2-clause-product
times_power-requires-2-clause-product c =
    let six : length c.args.self.now.c ≡ 6 = search rules in
    let number_fits : FitsSigned w128 (get_or c.args.self.now.c 1 (pos 0)) = search rules in
    let fit = units_fit c.args.self.now.c c.args.unit six c.requires.fits in
    simp to_z-of_z fit.fits-1

pub times_power-requires-3-clause-factor : goal.times_power-requires-3-clause-factor
times_power-requires-3-clause-factor c = lower_power c.args.unit 3 (omega arith) (omega arith) c.requires.factor

pub times_power-requires-3-clause-product : goal.times_power-requires-3-clause-product
times_power-requires-3-clause-product c =
    let six : length c.args.self.now.c ≡ 6 = search rules in
    let number_fits : FitsSigned w128 (get_or c.args.self.now.c 2 (pos 0)) = search rules in
    let fit = units_fit c.args.self.now.c c.args.unit six c.requires.fits in
    simp to_z-of_z fit.fits-2

pub times_power-requires-4-clause-factor : goal.times_power-requires-4-clause-factor
times_power-requires-4-clause-factor c = lower_power c.args.unit 2 (omega arith) (omega arith) c.requires.factor

pub times_power-requires-4-clause-product : goal.times_power-requires-4-clause-product
times_power-requires-4-clause-product c =
    let six : length c.args.self.now.c ≡ 6 = search rules in
    let number_fits : FitsSigned w128 (get_or c.args.self.now.c 3 (pos 0)) = search rules in
    let fit = units_fit c.args.self.now.c c.args.unit six c.requires.fits in
    simp to_z-of_z fit.fits-3

pub times_power-requires-5-clause-factor : goal.times_power-requires-5-clause-factor
times_power-requires-5-clause-factor c = lower_power c.args.unit 1 (omega arith) (omega arith) c.requires.factor

pub times_power-requires-5-clause-product : goal.times_power-requires-5-clause-product
times_power-requires-5-clause-product c =
    let six : length c.args.self.now.c ≡ 6 = search rules in
    let number_fits : FitsSigned w128 (get_or c.args.self.now.c 4 (pos 0)) = search rules in
    let fit = units_fit c.args.self.now.c c.args.unit six c.requires.fits in
    simp to_z-of_z fit.fits-4

pub returns-clause-coefficients : goal.returns-clause-coefficients
returns-clause-coefficients c =
    let six : length c.args.self.now.c ≡ 6 = search rules in
    let number_fits-0 : FitsSigned w128 (get_or c.args.self.now.c 0 (pos 0)) = search rules in
    let number_fits-1 : FitsSigned w128 (get_or c.args.self.now.c 1 (pos 0)) = search rules in
    let number_fits-2 : FitsSigned w128 (get_or c.args.self.now.c 2 (pos 0)) = search rules in
    let number_fits-3 : FitsSigned w128 (get_or c.args.self.now.c 3 (pos 0)) = search rules in
    let number_fits-4 : FitsSigned w128 (get_or c.args.self.now.c 4 (pos 0)) = search rules in
    let number_fits-5 : FitsSigned w128 (get_or c.args.self.now.c 5 (pos 0)) = search rules in
    let fits-0 : FitsSigned w128 c.times_power.result = search rules in
    let fits-1 : FitsSigned w128 c.times_power-2.result = search rules in
    let fits-2 : FitsSigned w128 c.times_power-3.result = search rules in
    let fits-3 : FitsSigned w128 c.times_power-4.result = search rules in
    let fits-4 : FitsSigned w128 c.times_power-5.result = search rules in
    let products : ProductsAre c.args.self.now.c c.args.unit c.times_power.result c.times_power-2.result
    c.times_power-3.result c.times_power-4.result c.times_power-5.result =
    record {
      first = simp to_z-of_z at c.times_power.ensures;
      second = simp to_z-of_z at c.times_power-2.ensures;
      third = simp to_z-of_z at c.times_power-3.ensures;
      fourth = simp to_z-of_z at c.times_power-4.ensures;
      fifth = simp to_z-of_z at c.times_power-5.ensures;
    } in
    simp to_z-of_z (products_are_in_units _ _ _ _ _ _ _ six products)

pub returns-clause-polynomial : goal.returns-clause-polynomial
returns-clause-polynomial c =
    let six : length c.args.self.now.c ≡ 6 = search rules in
    let P : List ℤ → Type 0 = λ q. (den : ℕ) → 1 ≤ den → 1 ≤ c.args.unit
    → all_over (den * c.args.unit ^ 5) q ≡ stretched (over (pos 1) c.args.unit) (all_over den c.args.self.now.c) in
    subst P (sym (returns-clause-coefficients c))
    (λ den positive unit. in_units_polynomial c.args.self.now.c den c.args.unit six positive unit)
