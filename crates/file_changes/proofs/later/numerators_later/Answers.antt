use Rattle.std.proofs.Common.{pos, get_or, ◌+ℤ◌, FitsSigned, rules}
use Rattle.std.specs.Int.{w64, w128}
use Rattle.std.proofs.lemmas.Int.{to_z-of_z}
use Rattle.file_changes.proofs.LaterNumbers.{given_numerators}
use Rattle.file_changes.proofs.SmallSums.{one_fits, two_fit, three_fit, four_fit}
use Rattle.file_changes.proofs.later.numerators_later.Goals as goal

pub overflow_add-result-2 : goal.overflow_add-result-2
overflow_add-result-2 c =
    let first : FitsSigned w128 c.term.result = one_fits c.term.result c.term.ensures.size in
    let second : FitsSigned w128 c.term-2.result = one_fits c.term-2.result c.term-2.ensures.size in
    let third : FitsSigned w128 c.term-3.result = one_fits c.term-3.result c.term-3.ensures.size in
    let two : FitsSigned w128 (c.term.result +ℤ c.term-2.result) =
    two_fit c.term.result c.term-2.result c.term.ensures.size c.term-2.ensures.size in
    simp to_z-of_z (three_fit c.term.result c.term-2.result c.term-3.result
    c.term.ensures.size c.term-2.ensures.size c.term-3.ensures.size)

pub overflow_add-result-3 : goal.overflow_add-result-3
overflow_add-result-3 c =
    let first : FitsSigned w128 c.term.result = one_fits c.term.result c.term.ensures.size in
    let second : FitsSigned w128 c.term-2.result = one_fits c.term-2.result c.term-2.ensures.size in
    let third : FitsSigned w128 c.term-3.result = one_fits c.term-3.result c.term-3.ensures.size in
    let fourth : FitsSigned w128 c.term-4.result = one_fits c.term-4.result c.term-4.ensures.size in
    let two : FitsSigned w128 (c.term.result +ℤ c.term-2.result) =
    two_fit c.term.result c.term-2.result c.term.ensures.size c.term-2.ensures.size in
    let three : FitsSigned w128 (c.term.result +ℤ c.term-2.result +ℤ c.term-3.result) =
    three_fit c.term.result c.term-2.result c.term-3.result
    c.term.ensures.size c.term-2.ensures.size c.term-3.ensures.size in
    simp to_z-of_z (four_fit c.term.result c.term-2.result c.term-3.result c.term-4.result
    c.term.ensures.size c.term-2.ensures.size c.term-3.ensures.size c.term-4.ensures.size)

pub overflow_add-result-5 : goal.overflow_add-result-5
overflow_add-result-5 c =
    let first : FitsSigned w128 c.term-5.result = one_fits c.term-5.result c.term-5.ensures.size in
    let second : FitsSigned w128 c.term-6.result = one_fits c.term-6.result c.term-6.ensures.size in
    let third : FitsSigned w128 c.term-7.result = one_fits c.term-7.result c.term-7.ensures.size in
    let two : FitsSigned w128 (c.term-5.result +ℤ c.term-6.result) =
    two_fit c.term-5.result c.term-6.result c.term-5.ensures.size c.term-6.ensures.size in
    simp to_z-of_z (three_fit c.term-5.result c.term-6.result c.term-7.result
    c.term-5.ensures.size c.term-6.ensures.size c.term-7.ensures.size)

pub overflow_add-result-6 : goal.overflow_add-result-6
overflow_add-result-6 c =
    let first : FitsSigned w128 c.term-8.result = one_fits c.term-8.result c.term-8.ensures.size in
    let second : FitsSigned w128 c.term-9.result = one_fits c.term-9.result c.term-9.ensures.size in
    simp to_z-of_z (two_fit c.term-8.result c.term-9.result c.term-8.ensures.size c.term-9.ensures.size)

pub returns : goal.returns
returns c =
    let number-0 : FitsSigned w64 (get_or c.args.c.now 0 (pos 0)) = search rules in
    let number-1 : FitsSigned w64 (get_or c.args.c.now 1 (pos 0)) = search rules in
    let number-2 : FitsSigned w64 (get_or c.args.c.now 2 (pos 0)) = search rules in
    let number-3 : FitsSigned w64 (get_or c.args.c.now 3 (pos 0)) = search rules in
    let term-1 : FitsSigned w128 c.term.result = one_fits c.term.result c.term.ensures.size in
    let term-2 : FitsSigned w128 c.term-2.result = one_fits c.term-2.result c.term-2.ensures.size in
    let term-3 : FitsSigned w128 c.term-3.result = one_fits c.term-3.result c.term-3.ensures.size in
    let term-4 : FitsSigned w128 c.term-4.result = one_fits c.term-4.result c.term-4.ensures.size in
    let term-5 : FitsSigned w128 c.term-5.result = one_fits c.term-5.result c.term-5.ensures.size in
    let term-6 : FitsSigned w128 c.term-6.result = one_fits c.term-6.result c.term-6.ensures.size in
    let term-7 : FitsSigned w128 c.term-7.result = one_fits c.term-7.result c.term-7.ensures.size in
    let term-8 : FitsSigned w128 c.term-8.result = one_fits c.term-8.result c.term-8.ensures.size in
    let term-9 : FitsSigned w128 c.term-9.result = one_fits c.term-9.result c.term-9.ensures.size in
    let two : FitsSigned w128 (c.term.result +ℤ c.term-2.result) =
    two_fit c.term.result c.term-2.result c.term.ensures.size c.term-2.ensures.size in
    let three : FitsSigned w128 (c.term.result +ℤ c.term-2.result +ℤ c.term-3.result) =
    three_fit c.term.result c.term-2.result c.term-3.result
    c.term.ensures.size c.term-2.ensures.size c.term-3.ensures.size in
    let four : FitsSigned w128 (c.term.result +ℤ c.term-2.result +ℤ c.term-3.result +ℤ c.term-4.result) =
    four_fit c.term.result c.term-2.result c.term-3.result c.term-4.result
    c.term.ensures.size c.term-2.ensures.size c.term-3.ensures.size c.term-4.ensures.size in
    let two_of_second : FitsSigned w128 (c.term-5.result +ℤ c.term-6.result) =
    two_fit c.term-5.result c.term-6.result c.term-5.ensures.size c.term-6.ensures.size in
    let second : FitsSigned w128 (c.term-5.result +ℤ c.term-6.result +ℤ c.term-7.result) =
    three_fit c.term-5.result c.term-6.result c.term-7.result
    c.term-5.ensures.size c.term-6.ensures.size c.term-7.ensures.size in
    let third : FitsSigned w128 (c.term-8.result +ℤ c.term-9.result) =
    two_fit c.term-8.result c.term-9.result c.term-8.ensures.size c.term-9.ensures.size in
    simp to_z-of_z
    (given_numerators c.args.months c.args.c.now c.term.result c.term-2.result c.term-3.result c.term-4.result
    c.term-5.result
    c.term-6.result c.term-7.result c.term-8.result c.term-9.result
    (simp to_z-of_z at c.term.ensures.value)
    (simp to_z-of_z at c.term-2.ensures.value)
    (simp to_z-of_z at c.term-3.ensures.value)
    (simp to_z-of_z at c.term-4.ensures.value)
    (simp to_z-of_z at c.term-5.ensures.value)
    (simp to_z-of_z at c.term-6.ensures.value)
    (simp to_z-of_z at c.term-7.ensures.value)
    (simp to_z-of_z at c.term-8.ensures.value)
    (simp to_z-of_z at c.term-9.ensures.value))
