use Rattle.std.proofs.Common.{◌≡◌, ℤ, ◌-ℤ◌, to_z, of_z, arith}
use Rattle.std.specs.Int.{w128}
use Rattle.std.proofs.lemmas.Int.{ints}
use Rattle.basis_compare.proofs.RightChanges.{row_of_parts}
use Rattle.basis_compare.proofs.differences.change_between.Goals as goal

-- a number in 128 bits
abbrev stored : ℤ → ℤ
stored x = to_z w128 (of_z w128 x)

pub returns : goal.returns
returns c =
    let from = c.args.from in
    let to = c.args.to in
    let lo : stored (stored c.args.to.lo -ℤ stored c.args.from.hi) ≡ c.args.to.lo -ℤ c.args.from.hi =
    omega (arith, ints) in
    let hi : stored (stored c.args.to.hi -ℤ stored c.args.from.lo) ≡ c.args.to.hi -ℤ c.args.from.lo =
    omega (arith, ints) in
    row_of_parts c.args.part c.args.from c.args.to (stored (stored to.lo -ℤ stored from.hi))
    (stored (stored to.hi -ℤ stored from.lo)) (stored (stored to.lo -ℤ stored from.hi))
    (stored (stored to.hi -ℤ stored from.lo)) c.turn_of.result lo hi lo hi c.turn_of.ensures
