use Rattle.std.proofs.Common.{◌≡◌, pos, get_or, length, FitsSigned, rules}
use Rattle.std.specs.Int.{w128}
use Rattle.std.proofs.lemmas.Int.{to_z-of_z}
use Rattle.whole_laws.proofs.ShortLists.{greatest_of_six}
use Rattle.payment_plan.proofs.load.greatest.Goals as goal

pub returns : goal.returns
returns c =
    let six : length c.args.numbers.now ≡ 6 = search rules in
    let number-0 : FitsSigned w128 (get_or c.args.numbers.now 0 (pos 0)) = search rules in
    let number-1 : FitsSigned w128 (get_or c.args.numbers.now 1 (pos 0)) = search rules in
    let number-2 : FitsSigned w128 (get_or c.args.numbers.now 2 (pos 0)) = search rules in
    let number-3 : FitsSigned w128 (get_or c.args.numbers.now 3 (pos 0)) = search rules in
    let number-4 : FitsSigned w128 (get_or c.args.numbers.now 4 (pos 0)) = search rules in
    let number-5 : FitsSigned w128 (get_or c.args.numbers.now 5 (pos 0)) = search rules in
    let answer-1 : FitsSigned w128 c.max.result = search rules in
    let answer-2 : FitsSigned w128 c.max-2.result = search rules in
    let answer-3 : FitsSigned w128 c.max-3.result = search rules in
    let answer-4 : FitsSigned w128 c.max-4.result = search rules in
    let answer-5 : FitsSigned w128 c.max-5.result = search rules in
    simp to_z-of_z
    (greatest_of_six c.args.numbers.now _ _ _ _ _ six (simp to_z-of_z at c.max.ensures.value)
    (simp to_z-of_z at c.max-2.ensures.value) (simp to_z-of_z at c.max-3.ensures.value)
    (simp to_z-of_z at c.max-4.ensures.value) (simp to_z-of_z at c.max-5.ensures.value))
