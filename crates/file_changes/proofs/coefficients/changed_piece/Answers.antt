use Rattle.std.proofs.Common.{◌≡◌, pos, get_or, length, ap, arith, rules, subst, FitsSigned, List, ℤ}
use Rattle.std.specs.Int.{w64, w128}
use Rattle.std.proofs.lemmas.Int.{to_z-of_z}
use Rattle.file_changes.specs.ContinuousAsks.{AreWords}
use Rattle.file_changes.proofs.Words.{first_word, later_word, given_changed, six_words}
use Rattle.file_changes.proofs.coefficients.changed_piece.Goals as goal

pub returns-in_err-times_and_more-clause-too_large : goal.returns-in_err-times_and_more-clause-too_large
returns-in_err-times_and_more-clause-too_large c =
    let factor : FitsSigned w128 c.args.factor = c.ranges.factor in
    let units : FitsSigned w128 c.args.units = c.ranges.units in
    let den : FitsSigned w64 c.args.den = c.ranges.den in
    let six : length c.args.piece.now.c ≡ 6 = search rules in
    let number-0 : FitsSigned w64 (get_or c.args.piece.now.c 0 (pos 0)) = search rules in
    let wide = simp to_z-of_z at c.in_err-times_and_more.ensures in
    rw c.from_residual.ensures (λ all. wide (first_word _ _ c.args.piece.now.c six all))

pub returns-in_err-times-clause-too_large : goal.returns-in_err-times-clause-too_large
returns-in_err-times-clause-too_large c =
    let factor : FitsSigned w128 c.args.factor = c.ranges.factor in
    let units : FitsSigned w128 c.args.units = c.ranges.units in
    let den : FitsSigned w64 c.args.den = c.ranges.den in
    let six : length c.args.piece.now.c ≡ 6 = search rules in
    let number-1 : FitsSigned w64 (get_or c.args.piece.now.c 1 (pos 0)) = search rules in
    let wide = simp to_z-of_z at c.in_err-times.ensures in
    rw c.from_residual-in_err-times.ensures (λ all. wide (later_word _ _ c.args.piece.now.c 0 six (omega arith) all))

pub returns-in_err-times-2-clause-too_large : goal.returns-in_err-times-2-clause-too_large
returns-in_err-times-2-clause-too_large c =
    let factor : FitsSigned w128 c.args.factor = c.ranges.factor in
    let units : FitsSigned w128 c.args.units = c.ranges.units in
    let den : FitsSigned w64 c.args.den = c.ranges.den in
    let six : length c.args.piece.now.c ≡ 6 = search rules in
    let number-2 : FitsSigned w64 (get_or c.args.piece.now.c 2 (pos 0)) = search rules in
    let wide = simp to_z-of_z at c.in_err-times-2.ensures in
    rw c.from_residual-in_err-times-2.ensures (λ all. wide (later_word _ _ c.args.piece.now.c 1 six (omega arith) all))

pub returns-in_err-times-3-clause-too_large : goal.returns-in_err-times-3-clause-too_large
returns-in_err-times-3-clause-too_large c =
    let factor : FitsSigned w128 c.args.factor = c.ranges.factor in
    let units : FitsSigned w128 c.args.units = c.ranges.units in
    let den : FitsSigned w64 c.args.den = c.ranges.den in
    let six : length c.args.piece.now.c ≡ 6 = search rules in
    let number-3 : FitsSigned w64 (get_or c.args.piece.now.c 3 (pos 0)) = search rules in
    let wide = simp to_z-of_z at c.in_err-times-3.ensures in
    rw c.from_residual-in_err-times-3.ensures (λ all. wide (later_word _ _ c.args.piece.now.c 2 six (omega arith) all))

pub returns-in_err-times-4-clause-too_large : goal.returns-in_err-times-4-clause-too_large
returns-in_err-times-4-clause-too_large c =
    let factor : FitsSigned w128 c.args.factor = c.ranges.factor in
    let units : FitsSigned w128 c.args.units = c.ranges.units in
    let den : FitsSigned w64 c.args.den = c.ranges.den in
    let six : length c.args.piece.now.c ≡ 6 = search rules in
    let number-4 : FitsSigned w64 (get_or c.args.piece.now.c 4 (pos 0)) = search rules in
    let wide = simp to_z-of_z at c.in_err-times-4.ensures in
    rw c.from_residual-in_err-times-4.ensures (λ all. wide (later_word _ _ c.args.piece.now.c 3 six (omega arith) all))

pub returns-in_err-times-5-clause-too_large : goal.returns-in_err-times-5-clause-too_large
returns-in_err-times-5-clause-too_large c =
    let factor : FitsSigned w128 c.args.factor = c.ranges.factor in
    let units : FitsSigned w128 c.args.units = c.ranges.units in
    let den : FitsSigned w64 c.args.den = c.ranges.den in
    let six : length c.args.piece.now.c ≡ 6 = search rules in
    let number-5 : FitsSigned w64 (get_or c.args.piece.now.c 5 (pos 0)) = search rules in
    let wide = simp to_z-of_z at c.in_err-times-5.ensures in
    rw c.from_residual-in_err-times-5.ensures (λ all. wide (later_word _ _ c.args.piece.now.c 4 six (omega arith) all))

pub returns-clause-changed : goal.returns-clause-changed
returns-clause-changed c =
    let factor : FitsSigned w128 c.args.factor = c.ranges.factor in
    let units : FitsSigned w128 c.args.units = c.ranges.units in
    let den : FitsSigned w64 c.args.den = c.ranges.den in
    let six : length c.args.piece.now.c ≡ 6 = search rules in
    let number-0 : FitsSigned w64 (get_or c.args.piece.now.c 0 (pos 0)) = search rules in
    let number-1 : FitsSigned w64 (get_or c.args.piece.now.c 1 (pos 0)) = search rules in
    let number-2 : FitsSigned w64 (get_or c.args.piece.now.c 2 (pos 0)) = search rules in
    let number-3 : FitsSigned w64 (get_or c.args.piece.now.c 3 (pos 0)) = search rules in
    let number-4 : FitsSigned w64 (get_or c.args.piece.now.c 4 (pos 0)) = search rules in
    let number-5 : FitsSigned w64 (get_or c.args.piece.now.c 5 (pos 0)) = search rules in
    let word-0 : FitsSigned w64 c.in_ok-times_and_more.field-0 = search rules in
    let word-1 : FitsSigned w64 c.in_ok-times.field-0 = search rules in
    let word-2 : FitsSigned w64 c.in_ok-times-2.field-0 = search rules in
    let word-3 : FitsSigned w64 c.in_ok-times-3.field-0 = search rules in
    let word-4 : FitsSigned w64 c.in_ok-times-4.field-0 = search rules in
    let word-5 : FitsSigned w64 c.in_ok-times-5.field-0 = search rules in
    let is-0 = simp to_z-of_z at c.in_ok-times_and_more.ensures.1 in
    let is-1 = simp to_z-of_z at c.in_ok-times.ensures.1 in
    let is-2 = simp to_z-of_z at c.in_ok-times-2.ensures.1 in
    let is-3 = simp to_z-of_z at c.in_ok-times-3.ensures.1 in
    let is-4 = simp to_z-of_z at c.in_ok-times-4.ensures.1 in
    let is-5 = simp to_z-of_z at c.in_ok-times-5.ensures.1 in
    let same = given_changed c.args.factor _ c.args.piece.now.c _ _ _ _ _ _ six is-0 is-1 is-2 is-3 is-4 is-5 in
    simp to_z-of_z (ap (λ (p : List ℤ). record { from = c.args.piece.now.from; c = p }) same)

pub returns-clause-words : goal.returns-clause-words
returns-clause-words c =
    let factor : FitsSigned w128 c.args.factor = c.ranges.factor in
    let units : FitsSigned w128 c.args.units = c.ranges.units in
    let den : FitsSigned w64 c.args.den = c.ranges.den in
    let six : length c.args.piece.now.c ≡ 6 = search rules in
    let number-0 : FitsSigned w64 (get_or c.args.piece.now.c 0 (pos 0)) = search rules in
    let number-1 : FitsSigned w64 (get_or c.args.piece.now.c 1 (pos 0)) = search rules in
    let number-2 : FitsSigned w64 (get_or c.args.piece.now.c 2 (pos 0)) = search rules in
    let number-3 : FitsSigned w64 (get_or c.args.piece.now.c 3 (pos 0)) = search rules in
    let number-4 : FitsSigned w64 (get_or c.args.piece.now.c 4 (pos 0)) = search rules in
    let number-5 : FitsSigned w64 (get_or c.args.piece.now.c 5 (pos 0)) = search rules in
    let word-0 : FitsSigned w64 c.in_ok-times_and_more.field-0 = search rules in
    let word-1 : FitsSigned w64 c.in_ok-times.field-0 = search rules in
    let word-2 : FitsSigned w64 c.in_ok-times-2.field-0 = search rules in
    let word-3 : FitsSigned w64 c.in_ok-times-3.field-0 = search rules in
    let word-4 : FitsSigned w64 c.in_ok-times-4.field-0 = search rules in
    let word-5 : FitsSigned w64 c.in_ok-times-5.field-0 = search rules in
    let is-0 = simp to_z-of_z at c.in_ok-times_and_more.ensures.1 in
    let is-1 = simp to_z-of_z at c.in_ok-times.ensures.1 in
    let is-2 = simp to_z-of_z at c.in_ok-times-2.ensures.1 in
    let is-3 = simp to_z-of_z at c.in_ok-times-3.ensures.1 in
    let is-4 = simp to_z-of_z at c.in_ok-times-4.ensures.1 in
    let is-5 = simp to_z-of_z at c.in_ok-times-5.ensures.1 in
    let same = given_changed c.args.factor _ c.args.piece.now.c _ _ _ _ _ _ six is-0 is-1 is-2 is-3 is-4 is-5 in
    subst AreWords same (six_words _ _ _ _ _ _ word-0 word-1 word-2 word-3 word-4 word-5)
