use Rattle.std.proofs.Common.{◌^◌, ◌≤◌, arith}
use Rattle.file_changes.proofs.Bases.{times_at_least}
use Rattle.file_changes.proofs.finer.finer.Goals as goal

pub returns-in_err-power-clause-too_large : goal.returns-in_err-power-clause-too_large
returns-in_err-power-clause-too_large c =
    let p = c.args.product.now in
    let some : 1 ≤ p.den = c.den-den.ensures.lawful.head.some_denominator in
    let large = c.in_err-power.ensures in
    rw c.from_residual.ensures (omega (arith, times_at_least p.den (10 ^ c.args.places) some, large))
