use Rattle.std.proofs.Common.{◌≡◌, pos, [], ◌∷◌, length, get_or, FitsSigned, rules, arith}
use Rattle.std.specs.Int.{w128}
use Rattle.std.proofs.lemmas.Int.{to_z-of_z}
use Rattle.poly_small.proofs.Shifts.{RowsAre, row_fits, given_rows_are_shift, given_rows_within}
use Rattle.poly_small.proofs.poly.Poly.shift.Goals as goal

pub weighted_value-requires-clause-fits : goal.weighted_value-requires-clause-fits
weighted_value-requires-clause-fits c =
    row_fits c.args.self.now.c (pos 1 ∷ pos 1 ∷ pos 1 ∷ pos 1 ∷ pos 1 ∷ pos 1 ∷ []) 0 6 c.args.k (omega arith)
    c.requires

pub weighted_value-requires-2-clause-fits : goal.weighted_value-requires-2-clause-fits
weighted_value-requires-2-clause-fits c =
    row_fits c.args.self.now.c (pos 1 ∷ pos 2 ∷ pos 3 ∷ pos 4 ∷ pos 5 ∷ []) 1 5 c.args.k (omega arith) c.requires

pub weighted_value-requires-3-clause-fits : goal.weighted_value-requires-3-clause-fits
weighted_value-requires-3-clause-fits c =
    row_fits c.args.self.now.c (pos 1 ∷ pos 3 ∷ pos 6 ∷ pos 10 ∷ []) 2 4 c.args.k (omega arith) c.requires

pub weighted_value-requires-4-clause-fits : goal.weighted_value-requires-4-clause-fits
weighted_value-requires-4-clause-fits c =
    row_fits c.args.self.now.c (pos 1 ∷ pos 4 ∷ pos 10 ∷ []) 3 3 c.args.k (omega arith) c.requires

pub weighted_value-requires-5-clause-fits : goal.weighted_value-requires-5-clause-fits
weighted_value-requires-5-clause-fits c =
    row_fits c.args.self.now.c (pos 1 ∷ pos 5 ∷ []) 4 2 c.args.k (omega arith) c.requires

pub returns-clause-polynomial : goal.returns-clause-polynomial
returns-clause-polynomial c =
    let six : length c.args.self.now.c ≡ 6 = search rules in
    let last_fits : FitsSigned w128 (get_or c.args.self.now.c 5 (pos 0)) = search rules in
    let fits-0 : FitsSigned w128 c.weighted_value.result = search rules in
    let fits-1 : FitsSigned w128 c.weighted_value-2.result = search rules in
    let fits-2 : FitsSigned w128 c.weighted_value-3.result = search rules in
    let fits-3 : FitsSigned w128 c.weighted_value-4.result = search rules in
    let fits-4 : FitsSigned w128 c.weighted_value-5.result = search rules in
    let rows : RowsAre c.args.self.now.c c.args.k c.weighted_value.result c.weighted_value-2.result
    c.weighted_value-3.result c.weighted_value-4.result c.weighted_value-5.result =
    record {
      first = c.weighted_value.ensures;
      second = c.weighted_value-2.ensures;
      third = c.weighted_value-3.ensures;
      fourth = c.weighted_value-4.ensures;
      fifth = c.weighted_value-5.ensures;
    } in
    simp to_z-of_z (given_rows_are_shift _ _ _ _ _ _ _ six rows)

pub returns-clause-size : goal.returns-clause-size
returns-clause-size c =
    let six : length c.args.self.now.c ≡ 6 = search rules in
    let last_fits : FitsSigned w128 (get_or c.args.self.now.c 5 (pos 0)) = search rules in
    let fits-0 : FitsSigned w128 c.weighted_value.result = search rules in
    let fits-1 : FitsSigned w128 c.weighted_value-2.result = search rules in
    let fits-2 : FitsSigned w128 c.weighted_value-3.result = search rules in
    let fits-3 : FitsSigned w128 c.weighted_value-4.result = search rules in
    let fits-4 : FitsSigned w128 c.weighted_value-5.result = search rules in
    let rows : RowsAre c.args.self.now.c c.args.k c.weighted_value.result c.weighted_value-2.result
    c.weighted_value-3.result c.weighted_value-4.result c.weighted_value-5.result =
    record {
      first = c.weighted_value.ensures;
      second = c.weighted_value-2.ensures;
      third = c.weighted_value-3.ensures;
      fourth = c.weighted_value-4.ensures;
      fifth = c.weighted_value-5.ensures;
    } in
    simp to_z-of_z (given_rows_within _ _ _ _ _ _ _ six rows)
