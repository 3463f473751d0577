use Rattle.std.proofs.Common.{◌≡◌, pos, ap, sym, ◌∙◌, FitsSigned, rules}
use Rattle.std.specs.Int.{w128, int_rem_euclid}
use Rattle.std.proofs.lemmas.Int.{to_z-of_z}
use Rattle.std.proofs.lemmas.Bool.{true≢false}
use Rattle.file_changes.proofs.LaterFractions.{quotient_is_whole, no_remainder}
use Rattle.file_changes.proofs.later.is_whole.Goals as goal

pub returns-clause-whole : goal.returns-clause-whole
returns-clause-whole c =
    let divisor : FitsSigned w128 c.from.result = search rules in
    let numerator : FitsSigned w128 c.args.numerator = c.ranges.numerator in
    let value = (simp to_z-of_z at c.rem_euclid.ensures.value) ∙ ap (int_rem_euclid c.args.numerator) c.from.ensures in
    λ zero.
    let none : c.rem_euclid.result ≡ pos 0 = search (zero, rules) in
    quotient_is_whole c.args.numerator c.args.divisor c.requires (sym value ∙ none)

pub returns-clause-not_whole : goal.returns-clause-not_whole
returns-clause-not_whole c =
    let divisor : FitsSigned w128 c.from.result = search rules in
    let numerator : FitsSigned w128 c.args.numerator = c.ranges.numerator in
    let value = (simp to_z-of_z at c.rem_euclid.ensures.value) ∙ ap (int_rem_euclid c.args.numerator) c.from.ensures in
    λ rest is.
    let none : c.rem_euclid.result ≡ pos 0 = value ∙ no_remainder c.args.numerator c.args.divisor c.requires is in
    absurd (true≢false (rw none at rest))
