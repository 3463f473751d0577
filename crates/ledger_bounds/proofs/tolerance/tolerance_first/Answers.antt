use Rattle.std.proofs.Common.{arith}
use Rattle.ledger_bounds.proofs.Limits.{double_at_scale}
use Rattle.ledger_bounds.proofs.tolerance.tolerance_first.Goals as goal

pub overflow_mul-w-3 : goal.overflow_mul-w-3
overflow_mul-w-3 c =
    let product = double_at_scale c.args.w c.args.g c.requires.ledger c.requires.scale in
    rw c.pow.ensures (omega arith)

pub returns-clause-size : goal.returns-clause-size
returns-clause-size c =
    let product = double_at_scale c.args.w c.args.g c.requires.ledger c.requires.scale in
    let quotient = rw c.pow.ensures at c.div_ceil.ensures in
    omega arith
