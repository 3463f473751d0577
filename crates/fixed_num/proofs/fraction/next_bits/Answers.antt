use Rattle.std.proofs.Common.{rules, ◌≡◌, ◌+ℤ◌, ◌*ℤ◌, pos, ◌^◌, FitsSigned}
use Rattle.std.specs.Int.{w128}
use Rattle.std.proofs.lemmas.Int.{to_z-of_z}
use Rattle.fixed_num.proofs.Division.{quotient_size}
use Rattle.fixed_num.proofs.fraction.next_bits.Goals as goal

pub returns-clause-size : goal.returns-clause-size
returns-clause-size c =
    let den_fits : FitsSigned w128 c.args.den = search rules in
    let divided = c.divide.result in
    let whole : c.args.num *ℤ pos (2 ^ 32) ≡ (divided.quotient *ℤ c.args.den) +ℤ divided.left = search rules in
    let below = simp to_z-of_z at c.divide.ensures.high in
    quotient_size c.args.num divided.quotient divided.left c.args.den (2 ^ 32)
    c.requires.positive c.requires.within whole c.divide.ensures.low below
