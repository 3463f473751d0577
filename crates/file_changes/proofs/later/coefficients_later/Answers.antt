use Rattle.std.proofs.Common.{pos, get_or, FitsSigned, rules, refl}
use Rattle.std.specs.Int.{w64, w128}
use Rattle.std.proofs.lemmas.Int.{to_z-of_z}
use Rattle.file_changes.proofs.LaterNumbers.{given_coefficients, four_words, first_is_word, second_is_word}
use Rattle.file_changes.proofs.LaterNumbers.{third_is_word}
use Rattle.file_changes.proofs.later.coefficients_later.Goals as goal

pub returns-in_err-rounded_down-clause-too_large : goal.returns-in_err-rounded_down-clause-too_large
returns-in_err-rounded_down-clause-too_large c =
    let numerator : FitsSigned w128 (get_or c.numerators_later-numerators.result 0 (pos 0)) = search rules in
    let wide = simp to_z-of_z at c.in_err-rounded_down.ensures in
    rw c.from_residual.ensures
    (λ all. wide (first_is_word c.args.months c.args.c.now _ c.numerators_later-numerators.ensures all))

pub returns-in_err-rounded_down-2-clause-too_large : goal.returns-in_err-rounded_down-2-clause-too_large
returns-in_err-rounded_down-2-clause-too_large c =
    let numerator : FitsSigned w128 (get_or c.numerators_later-numerators.result 1 (pos 0)) = search rules in
    let wide = simp to_z-of_z at c.in_err-rounded_down-2.ensures in
    rw c.from_residual-in_err-rounded_down-2.ensures
    (λ all. wide (second_is_word c.args.months c.args.c.now _ c.numerators_later-numerators.ensures all))

pub returns-in_err-rounded_down-3-clause-too_large : goal.returns-in_err-rounded_down-3-clause-too_large
returns-in_err-rounded_down-3-clause-too_large c =
    let numerator : FitsSigned w128 (get_or c.numerators_later-numerators.result 2 (pos 0)) = search rules in
    let wide = simp to_z-of_z at c.in_err-rounded_down-3.ensures in
    rw c.from_residual-in_err-rounded_down-3.ensures
    (λ all. wide (third_is_word c.args.months c.args.c.now _ c.numerators_later-numerators.ensures all))

pub returns-clause-later : goal.returns-clause-later
returns-clause-later c =
    let numerator-0 : FitsSigned w128 (get_or c.numerators_later-numerators.result 0 (pos 0)) = search rules in
    let numerator-1 : FitsSigned w128 (get_or c.numerators_later-numerators.result 1 (pos 0)) = search rules in
    let numerator-2 : FitsSigned w128 (get_or c.numerators_later-numerators.result 2 (pos 0)) = search rules in
    let last : FitsSigned w64 (get_or c.args.c.now 3 (pos 0)) = search rules in
    let number-0 : FitsSigned w64 c.in_ok-rounded_down.field-0 = search rules in
    let number-1 : FitsSigned w64 c.in_ok-rounded_down-2.field-0 = search rules in
    let number-2 : FitsSigned w64 c.in_ok-rounded_down-3.field-0 = search rules in
    simp to_z-of_z
    (given_coefficients c.args.months c.args.c.now c.numerators_later-numerators.result _ _ _ _
    c.numerators_later-numerators.ensures
    (simp to_z-of_z at c.in_ok-rounded_down.ensures.1)
    (simp to_z-of_z at c.in_ok-rounded_down-2.ensures.1)
    (simp to_z-of_z at c.in_ok-rounded_down-3.ensures.1)
    refl)

pub returns-clause-words : goal.returns-clause-words
returns-clause-words c =
    let last : FitsSigned w64 (get_or c.args.c.now 3 (pos 0)) = search rules in
    let number-0 : FitsSigned w64 c.in_ok-rounded_down.field-0 = search rules in
    let number-1 : FitsSigned w64 c.in_ok-rounded_down-2.field-0 = search rules in
    let number-2 : FitsSigned w64 c.in_ok-rounded_down-3.field-0 = search rules in
    four_words _ _ _ _ (simp to_z-of_z number-0) (simp to_z-of_z number-1) (simp to_z-of_z number-2)
    (simp to_z-of_z last)
