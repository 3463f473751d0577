use Rattle.std.proofs.Common.{arith, ◌-◌}
use Rattle.ledger_bounds.proofs.Limits.{fourth_power, squared_product, whole_quotient}
use Rattle.ledger_bounds.proofs.tolerance.in_squared_units.Goals as goal

pub pow-requires : goal.pow-requires
pow-requires c = omega (arith, fourth_power c.args.g 31 (omega arith))

pub overflow_mul-units : goal.overflow_mul-units
overflow_mul-units c =
    let product = squared_product c.args.units c.args.g 31 c.requires.number (omega arith) in
    rw c.pow.ensures (omega arith)

pub pow-requires-else-g-lt32 : goal.pow-requires-else-g-lt32
pow-requires-else-g-lt32 c = omega (arith, fourth_power (c.args.g - 32) 24 (omega arith))

pub overflow_mul-result : goal.overflow_mul-result
overflow_mul-result c =
    let product = squared_product c.args.units (c.args.g - 32) 24 c.requires.number (omega arith) in
    rw c.pow-else-g-lt32.ensures (omega arith)

pub returns-then-g-lt32-clause-size : goal.returns-then-g-lt32-clause-size
returns-then-g-lt32-clause-size c =
    let product = squared_product c.args.units c.args.g 31 c.requires.number (omega arith) in
    let quotient = rw c.pow.ensures at c.div_ceil.ensures in
    omega arith

pub returns-else-g-lt32-clause-value : goal.returns-else-g-lt32-clause-value
returns-else-g-lt32-clause-value c =
    rw c.pow-else-g-lt32.ensures (whole_quotient c.args.units c.args.g c.if-g-lt32.false)

pub returns-else-g-lt32-clause-size : goal.returns-else-g-lt32-clause-size
returns-else-g-lt32-clause-size c =
    let product = squared_product c.args.units (c.args.g - 32) 24 c.requires.number (omega arith) in
    rw c.pow-else-g-lt32.ensures product
