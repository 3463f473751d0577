use Rattle.std.proofs.Common.{◌≡◌, pos, [], ◌∷◌, length, FitsSigned, to_z, of_z, rules, arith}
use Rattle.std.specs.Int.{w128}
use Rattle.std.proofs.lemmas.Int.{to_z-of_z}
use Rattle.poly_small.proofs.Shifts.{row_fits, weighted_fits}
use Rattle.poly_small.proofs.Months.{NumeratorsAre, given_numerators, given_sizes}
use Rattle.poly_small.proofs.poly.Poly.bernstein.Goals as goal

pub weighted_value-requires-clause-fits : goal.weighted_value-requires-clause-fits
weighted_value-requires-clause-fits c =
    row_fits c.args.self.now.c (pos 10 ∷ []) 0 1 1 (omega arith) c.requires

pub weighted_value-requires-2-clause-fits : goal.weighted_value-requires-2-clause-fits
weighted_value-requires-2-clause-fits c =
    row_fits c.args.self.now.c (pos 10 ∷ pos 2 ∷ []) 0 2 1 (omega arith) c.requires

pub weighted_value-requires-3-clause-fits : goal.weighted_value-requires-3-clause-fits
weighted_value-requires-3-clause-fits c =
    row_fits c.args.self.now.c (pos 10 ∷ pos 4 ∷ pos 1 ∷ []) 0 3 1 (omega arith) c.requires

pub weighted_value-requires-4-clause-fits : goal.weighted_value-requires-4-clause-fits
weighted_value-requires-4-clause-fits c =
    row_fits c.args.self.now.c (pos 10 ∷ pos 6 ∷ pos 3 ∷ pos 1 ∷ []) 0 4 1 (omega arith) c.requires

pub weighted_value-requires-5-clause-fits : goal.weighted_value-requires-5-clause-fits
weighted_value-requires-5-clause-fits c =
    row_fits c.args.self.now.c (pos 10 ∷ pos 8 ∷ pos 6 ∷ pos 4 ∷ pos 2 ∷ []) 0 5 1 (omega arith) c.requires

pub weighted_value-requires-6-clause-fits : goal.weighted_value-requires-6-clause-fits
weighted_value-requires-6-clause-fits c =
    weighted_fits c.args.self.now.c (pos 10 ∷ pos 10 ∷ pos 10 ∷ pos 10 ∷ pos 10 ∷ pos 10 ∷ []) 1
    (omega arith) c.requires

pub returns-clause-polynomial : goal.returns-clause-polynomial
returns-clause-polynomial c =
    let six : length c.args.self.now.c ≡ 6 = search rules in
    let fits-0 : FitsSigned w128 c.weighted_value.result = search rules in
    let fits-1 : FitsSigned w128 c.weighted_value-2.result = search rules in
    let fits-2 : FitsSigned w128 c.weighted_value-3.result = search rules in
    let fits-3 : FitsSigned w128 c.weighted_value-4.result = search rules in
    let fits-4 : FitsSigned w128 c.weighted_value-5.result = search rules in
    let fits-5 : FitsSigned w128 c.weighted_value-6.result = search rules in
    let numerators : NumeratorsAre c.args.self.now.c c.weighted_value.result c.weighted_value-2.result
    c.weighted_value-3.result c.weighted_value-4.result c.weighted_value-5.result c.weighted_value-6.result =
    record {
      first = c.weighted_value.ensures;
      second = c.weighted_value-2.ensures;
      third = c.weighted_value-3.ensures;
      fourth = c.weighted_value-4.ensures;
      fifth = c.weighted_value-5.ensures;
      sixth = c.weighted_value-6.ensures;
    } in
    simp to_z-of_z (given_numerators _ _ _ _ _ _ _ six numerators)

pub returns-clause-size : goal.returns-clause-size
returns-clause-size c =
    let six : length c.args.self.now.c ≡ 6 = search rules in
    let fits-0 : FitsSigned w128 c.weighted_value.result = search rules in
    let fits-1 : FitsSigned w128 c.weighted_value-2.result = search rules in
    let fits-2 : FitsSigned w128 c.weighted_value-3.result = search rules in
    let fits-3 : FitsSigned w128 c.weighted_value-4.result = search rules in
    let fits-4 : FitsSigned w128 c.weighted_value-5.result = search rules in
    let fits-5 : FitsSigned w128 c.weighted_value-6.result = search rules in
    let numerators : NumeratorsAre c.args.self.now.c
    (to_z w128 (of_z w128 c.weighted_value.result))
    (to_z w128 (of_z w128 c.weighted_value-2.result))
    (to_z w128 (of_z w128 c.weighted_value-3.result))
    (to_z w128 (of_z w128 c.weighted_value-4.result))
    (to_z w128 (of_z w128 c.weighted_value-5.result))
    (to_z w128 (of_z w128 c.weighted_value-6.result)) =
    record {
      first = simp to_z-of_z c.weighted_value.ensures;
      second = simp to_z-of_z c.weighted_value-2.ensures;
      third = simp to_z-of_z c.weighted_value-3.ensures;
      fourth = simp to_z-of_z c.weighted_value-4.ensures;
      fifth = simp to_z-of_z c.weighted_value-5.ensures;
      sixth = simp to_z-of_z c.weighted_value-6.ensures;
    } in
    given_sizes _ _ _ _ _ _ _ numerators
