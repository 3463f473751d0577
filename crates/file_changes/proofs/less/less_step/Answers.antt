use Rattle.std.proofs.Common.{◌≡◌, ℤ, pos, List, get_or, length, ap, sym, ◌∙◌, rules, FitsSigned, ◌∷◌, []}
use Rattle.std.specs.Int.{w64}
use Rattle.std.proofs.lemmas.Int.{to_z-of_z}
use Rattle.file_changes.proofs.LessSteps.{less_of_four, first_is_word}
use Rattle.file_changes.proofs.less.less_step.Goals as goal

pub returns-in_err-checked_sub-clause-too_large : goal.returns-in_err-checked_sub-clause-too_large
returns-in_err-checked_sub-clause-too_large c =
    let amount : FitsSigned w64 c.args.amount = c.ranges.amount in
    let four : length c.args.step.now.c ≡ 4 = search rules in
    let number-0 : FitsSigned w64 (get_or c.args.step.now.c 0 (pos 0)) = search rules in
    let wide = simp to_z-of_z at c.in_err-checked_sub.ensures in
    rw c.from_residual.ensures (λ all. wide (first_is_word c.args.amount c.args.step.now.c four all))

pub returns-clause-changed : goal.returns-clause-changed
returns-clause-changed c =
    let amount : FitsSigned w64 c.args.amount = c.ranges.amount in
    let four : length c.args.step.now.c ≡ 4 = search rules in
    let number-0 : FitsSigned w64 (get_or c.args.step.now.c 0 (pos 0)) = search rules in
    let number-1 : FitsSigned w64 (get_or c.args.step.now.c 1 (pos 0)) = search rules in
    let number-2 : FitsSigned w64 (get_or c.args.step.now.c 2 (pos 0)) = search rules in
    let number-3 : FitsSigned w64 (get_or c.args.step.now.c 3 (pos 0)) = search rules in
    let word-0 : FitsSigned w64 c.in_ok-checked_sub.field-0 = search rules in
    let is-0 = simp to_z-of_z at c.in_ok-checked_sub.ensures.1 in
    simp to_z-of_z (ap (λ (p : List ℤ). record { from = c.args.step.now.from; c = p })
    (ap (λ (x : ℤ). x ∷ get_or c.args.step.now.c 1 (pos 0) ∷ get_or c.args.step.now.c 2 (pos 0)
    ∷ get_or c.args.step.now.c 3 (pos 0) ∷ []) is-0
    ∙ sym (less_of_four c.args.amount c.args.step.now.c four)))
