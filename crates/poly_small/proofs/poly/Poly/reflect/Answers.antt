use Rattle.std.proofs.Common.{◌≡◌, pos, length, get_or, FitsSigned, rules, arith}
use Rattle.std.specs.Int.{w128}
use Rattle.std.proofs.lemmas.Int.{to_z-of_z}
use Rattle.poly_small.proofs.Units.{turned_is_reflected, turned_sizes, turned_fits}
use Rattle.poly_small.proofs.poly.Poly.reflect.Goals as goal

pub returns-clause-polynomial : goal.returns-clause-polynomial
returns-clause-polynomial c =
    let six : length c.args.self.now.c ≡ 6 = search rules in
    let number_fits-0 : FitsSigned w128 (get_or c.args.self.now.c 0 (pos 0)) = search rules in
    let number_fits-1 : FitsSigned w128 (get_or c.args.self.now.c 1 (pos 0)) = search rules in
    let number_fits-2 : FitsSigned w128 (get_or c.args.self.now.c 2 (pos 0)) = search rules in
    let number_fits-3 : FitsSigned w128 (get_or c.args.self.now.c 3 (pos 0)) = search rules in
    let number_fits-4 : FitsSigned w128 (get_or c.args.self.now.c 4 (pos 0)) = search rules in
    let number_fits-5 : FitsSigned w128 (get_or c.args.self.now.c 5 (pos 0)) = search rules in
    let turned_fits-1 = turned_fits c.args.self.now.c 1 (omega (arith, six)) c.requires in
    let turned_fits-3 = turned_fits c.args.self.now.c 3 (omega (arith, six)) c.requires in
    let turned_fits-5 = turned_fits c.args.self.now.c 5 (omega (arith, six)) c.requires in
    λ den. simp to_z-of_z (turned_is_reflected c.args.self.now.c den six)

pub returns-clause-size : goal.returns-clause-size
returns-clause-size c =
    let six : length c.args.self.now.c ≡ 6 = search rules in
    let number_fits-0 : FitsSigned w128 (get_or c.args.self.now.c 0 (pos 0)) = search rules in
    let number_fits-1 : FitsSigned w128 (get_or c.args.self.now.c 1 (pos 0)) = search rules in
    let number_fits-2 : FitsSigned w128 (get_or c.args.self.now.c 2 (pos 0)) = search rules in
    let number_fits-3 : FitsSigned w128 (get_or c.args.self.now.c 3 (pos 0)) = search rules in
    let number_fits-4 : FitsSigned w128 (get_or c.args.self.now.c 4 (pos 0)) = search rules in
    let number_fits-5 : FitsSigned w128 (get_or c.args.self.now.c 5 (pos 0)) = search rules in
    let turned_fits-1 = turned_fits c.args.self.now.c 1 (omega (arith, six)) c.requires in
    let turned_fits-3 = turned_fits c.args.self.now.c 3 (omega (arith, six)) c.requires in
    let turned_fits-5 = turned_fits c.args.self.now.c 5 (omega (arith, six)) c.requires in
    λ x. simp to_z-of_z (turned_sizes c.args.self.now.c x six)
