use Rattle.std.proofs.Common.{◌≡◌, pos, get_or, length, FitsSigned, rules}
use Rattle.std.specs.Int.{w64, w128}
use Rattle.std.proofs.lemmas.Int.{to_z-of_z}
use Rattle.whole_laws.proofs.ShortLists.{given_six}
use Rattle.curve_pieces.proofs.piece.Piece.in_years.Goals as goal

pub returns : goal.returns
returns c =
    let six : length c.args.self.now.c ≡ 6 = search rules in
    let number-0 : FitsSigned w64 (get_or c.args.self.now.c 0 (pos 0)) = search rules in
    let number-1 : FitsSigned w64 (get_or c.args.self.now.c 1 (pos 0)) = search rules in
    let number-2 : FitsSigned w64 (get_or c.args.self.now.c 2 (pos 0)) = search rules in
    let number-3 : FitsSigned w64 (get_or c.args.self.now.c 3 (pos 0)) = search rules in
    let number-4 : FitsSigned w64 (get_or c.args.self.now.c 4 (pos 0)) = search rules in
    let number-5 : FitsSigned w64 (get_or c.args.self.now.c 5 (pos 0)) = search rules in
    let wide-0 : FitsSigned w128 c.from.result = search rules in
    let wide-1 : FitsSigned w128 c.from-2.result = search rules in
    let wide-2 : FitsSigned w128 c.from-3.result = search rules in
    let wide-3 : FitsSigned w128 c.from-4.result = search rules in
    let wide-4 : FitsSigned w128 c.from-5.result = search rules in
    let wide-5 : FitsSigned w128 c.from-6.result = search rules in
    simp to_z-of_z
    (given_six c.args.self.now.c _ _ _ _ _ _ six (simp to_z-of_z at c.from.ensures)
    (simp to_z-of_z at c.from-2.ensures) (simp to_z-of_z at c.from-3.ensures) (simp to_z-of_z at c.from-4.ensures)
    (simp to_z-of_z at c.from-5.ensures) (simp to_z-of_z at c.from-6.ensures))
