use Rattle.std.proofs.Common.{◌≡◌, pos, get_or, length, FitsSigned, rules, sym, ◌∙◌}
use Rattle.std.specs.Int.{w128}
use Rattle.std.proofs.lemmas.Int.{to_z-of_z}
use Rattle.std.proofs.lemmas.Bool.{false≢true}
use Rattle.file_changes.proofs.LaterFractions.{all_whole, first_whole, second_whole, third_whole}
use Rattle.file_changes.proofs.later.are_whole_later.Goals as goal
use Rattle.file_changes.proofs.later.are_whole_later.Goals.{then-is_whole, else-is_whole}

pub returns-then-is_whole-2-clause-whole : goal.returns-then-is_whole-2-clause-whole
returns-then-is_whole-2-clause-whole c =
    let four : length c.args.c.now ≡ 4 = search rules in
    let numerator-0 : FitsSigned w128 (get_or c.numerators_later-numerators.result 0 (pos 0)) = search rules in
    let numerator-1 : FitsSigned w128 (get_or c.numerators_later-numerators.result 1 (pos 0)) = search rules in
    let numerator-2 : FitsSigned w128 (get_or c.numerators_later-numerators.result 2 (pos 0)) = search rules in
    let first = rw c.numerators_later-numerators.ensures at (simp to_z-of_z at c.is_whole.ensures.whole) in
    let third = rw c.numerators_later-numerators.ensures at
    (simp to_z-of_z at c.is_whole-then-is_whole-2.ensures.whole) in
    elim c.if-is_whole.branch [
      | then-is_whole w ↦
          let second = rw c.numerators_later-numerators.ensures at
          (simp to_z-of_z at w.is_whole-then-is_whole.ensures.whole) in
          λ passed. all_whole c.args.months c.args.c.now four (first w.if-is_whole.true)
          (second (rw w.value-is at c.if-is_whole-2.true)) (third passed)
      | else-is_whole w ↦ absurd (false≢true (sym w.if-is_whole.false ∙ sym w.value-is ∙ c.if-is_whole-2.true))
    ]

pub returns-then-is_whole-2-clause-not_whole : goal.returns-then-is_whole-2-clause-not_whole
returns-then-is_whole-2-clause-not_whole c =
    let four : length c.args.c.now ≡ 4 = search rules in
    let numerator-2 : FitsSigned w128 (get_or c.numerators_later-numerators.result 2 (pos 0)) = search rules in
    let third = rw c.numerators_later-numerators.ensures at
    (simp to_z-of_z at c.is_whole-then-is_whole-2.ensures.not_whole) in
    λ failed all. third failed (third_whole c.args.months c.args.c.now four all)

pub returns-else-is_whole-2-clause-not_whole : goal.returns-else-is_whole-2-clause-not_whole
returns-else-is_whole-2-clause-not_whole c =
    let four : length c.args.c.now ≡ 4 = search rules in
    let numerator-0 : FitsSigned w128 (get_or c.numerators_later-numerators.result 0 (pos 0)) = search rules in
    let numerator-1 : FitsSigned w128 (get_or c.numerators_later-numerators.result 1 (pos 0)) = search rules in
    let first = rw c.numerators_later-numerators.ensures at (simp to_z-of_z at c.is_whole.ensures.not_whole) in
    elim c.if-is_whole.branch [
      | then-is_whole w ↦
          let second = rw c.numerators_later-numerators.ensures at
          (simp to_z-of_z at w.is_whole-then-is_whole.ensures.not_whole) in
          λ failed all. second (rw w.value-is at failed) (second_whole c.args.months c.args.c.now four all)
      | else-is_whole w ↦ λ failed all. first w.if-is_whole.false (first_whole c.args.months c.args.c.now four all)
    ]
