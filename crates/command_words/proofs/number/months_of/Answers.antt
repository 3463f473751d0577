use Rattle.std.proofs.Common.{◌≡◌, sym, ◌∙◌, arith}
use Rattle.std.proofs.lemmas.Fmt.{decimal_injective}
use Rattle.command_words.proofs.number.months_of.Goals as goal

pub returns-in_default-clause-none : goal.returns-in_default-clause-none
returns-in_default-clause-none c every least most same =
    let one : c.in-Some.every ≡ every =
    decimal_injective c.in-Some.every every c.in-Some.ensures.fits (omega (arith, most))
    (sym c.in-Some.ensures.some ∙ same) in
    omega (arith, one, most, c.if-every-le-MOST_EVERY.false)

pub returns-in_default-2-clause-none : goal.returns-in_default-2-clause-none
returns-in_default-2-clause-none c every least most same =
    let one : c.in-Some.every ≡ every =
    decimal_injective c.in-Some.every every c.in-Some.ensures.fits (omega (arith, most))
    (sym c.in-Some.ensures.some ∙ same) in
    omega (arith, one, least, c.if-every-ge1.false)
