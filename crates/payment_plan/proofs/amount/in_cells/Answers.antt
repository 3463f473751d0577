use Rattle.std.proofs.Common.{◌≡◌, pos, get_or, length, FitsSigned, rules}
use Rattle.std.specs.Int.{w64, w128}
use Rattle.std.proofs.lemmas.Int.{to_z-of_z}
use Rattle.payment_plan.proofs.Shifts.{products_are_in_cells}
use Rattle.payment_plan.proofs.amount.in_cells.Goals as goal

pub returns : goal.returns
returns c =
    let four : length c.args.s.now.c ≡ 4 = search rules in
    let number-0 : FitsSigned w64 (get_or c.args.s.now.c 0 (pos 0)) = search rules in
    let number-1 : FitsSigned w64 (get_or c.args.s.now.c 1 (pos 0)) = search rules in
    let number-2 : FitsSigned w64 (get_or c.args.s.now.c 2 (pos 0)) = search rules in
    let number-3 : FitsSigned w64 (get_or c.args.s.now.c 3 (pos 0)) = search rules in
    let wide-0 : FitsSigned w128 c.times.result = search rules in
    let wide-1 : FitsSigned w128 c.times-2.result = search rules in
    let wide-2 : FitsSigned w128 c.times-3.result = search rules in
    let wide-3 : FitsSigned w128 c.times-4.result = search rules in
    simp to_z-of_z
    (products_are_in_cells c.args.s.now.c _ _ _ _ four (record {
      first = simp to_z-of_z at c.times.ensures;
      second = simp to_z-of_z at c.times-2.ensures;
      third = simp to_z-of_z at c.times-3.ensures;
      fourth = simp to_z-of_z at c.times-4.ensures;
    }))
