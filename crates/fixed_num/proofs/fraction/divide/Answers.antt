use Rattle.std.proofs.Common.{arith}
use Rattle.std.proofs.lemmas.Int.{to_z-of_z}
use Rattle.frac_laws.proofs.RoundingLaws.{quotient_and_remainder}
use Rattle.fixed_num.proofs.fraction.divide.Goals as goal

pub returns-clause-whole : goal.returns-clause-whole
returns-clause-whole c =
    let whole = quotient_and_remainder c.args.num c.args.den c.requires in
    grind (arith, to_z-of_z, whole, c.div_euclid.ensures, c.rem_euclid.ensures.value)
