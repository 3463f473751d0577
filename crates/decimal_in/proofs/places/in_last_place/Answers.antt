use Rattle.std.proofs.Common.{◌≡◌, ◌^◌, length, arith}
use Rattle.decimal_in.proofs.PlacesLaws.{joined_is_small}
use Rattle.decimal_in.proofs.places.in_last_place.Goals as goal

pub returns-clause-small : goal.returns-clause-small
returns-clause-small c =
    let below =
    joined_is_small c.args.number c.value.result (length c.args.behind.now) c.requires.number c.value.ensures.small
    c.requires.count in
    let power : c.pow.result ≡ 10 ^ length c.args.behind.now = grind (arith, c.pow.ensures) in
    rw (power, c.from.ensures, c.from-2.ensures) below
