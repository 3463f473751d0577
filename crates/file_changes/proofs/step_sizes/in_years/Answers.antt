use Rattle.std.proofs.Common.{◌≡◌, pos, get_or, length, FitsSigned, rules}
use Rattle.std.specs.Int.{w64, w128}
use Rattle.std.proofs.lemmas.Int.{to_z-of_z}
use Rattle.file_checks.proofs.SizeLemmas.{given_four}
use Rattle.file_changes.proofs.step_sizes.in_years.Goals as goal

pub returns : goal.returns
returns c =
    let four : length c.args.c.now ≡ 4 = search rules in
    let number-0 : FitsSigned w64 (get_or c.args.c.now 0 (pos 0)) = search rules in
    let number-1 : FitsSigned w64 (get_or c.args.c.now 1 (pos 0)) = search rules in
    let number-2 : FitsSigned w64 (get_or c.args.c.now 2 (pos 0)) = search rules in
    let number-3 : FitsSigned w64 (get_or c.args.c.now 3 (pos 0)) = search rules in
    let wide-0 : FitsSigned w128 c.from.result = search rules in
    let wide-1 : FitsSigned w128 c.from-2.result = search rules in
    let wide-2 : FitsSigned w128 c.from-3.result = search rules in
    let wide-3 : FitsSigned w128 c.from-4.result = search rules in
    simp to_z-of_z
    (given_four c.args.c.now _ _ _ _ four (simp to_z-of_z at c.from.ensures) (simp to_z-of_z at c.from-2.ensures)
    (simp to_z-of_z at c.from-3.ensures) (simp to_z-of_z at c.from-4.ensures))
