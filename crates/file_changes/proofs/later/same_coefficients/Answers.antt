use Rattle.std.proofs.Common.{◌≡◌, pos, get_or, length, FitsSigned, rules, sym}
use Rattle.std.specs.Int.{w64}
use Rattle.std.proofs.lemmas.Int.{to_z-of_z}
use Rattle.whole_laws.proofs.ShortLists.{four_are_all}
use Rattle.file_changes.proofs.LaterNumbers.{four_words}
use Rattle.file_changes.proofs.later.same_coefficients.Goals as goal

pub returns-clause-same : goal.returns-clause-same
returns-clause-same c =
    let four : length c.args.c.now ≡ 4 = search rules in
    let number-0 : FitsSigned w64 (get_or c.args.c.now 0 (pos 0)) = search rules in
    let number-1 : FitsSigned w64 (get_or c.args.c.now 1 (pos 0)) = search rules in
    let number-2 : FitsSigned w64 (get_or c.args.c.now 2 (pos 0)) = search rules in
    let number-3 : FitsSigned w64 (get_or c.args.c.now 3 (pos 0)) = search rules in
    simp to_z-of_z (sym (four_are_all c.args.c.now four))

pub returns-clause-words : goal.returns-clause-words
returns-clause-words c =
    let number-0 : FitsSigned w64 (get_or c.args.c.now 0 (pos 0)) = search rules in
    let number-1 : FitsSigned w64 (get_or c.args.c.now 1 (pos 0)) = search rules in
    let number-2 : FitsSigned w64 (get_or c.args.c.now 2 (pos 0)) = search rules in
    let number-3 : FitsSigned w64 (get_or c.args.c.now 3 (pos 0)) = search rules in
    four_words _ _ _ _ (simp to_z-of_z number-0) (simp to_z-of_z number-1) (simp to_z-of_z number-2)
    (simp to_z-of_z number-3)
