use Rattle.std.proofs.Common.{arith}
use Rattle.payment_plan.proofs.Extremes.{parts_within, load_within}
use Rattle.payment_plan.proofs.load.load_of.Goals as goal

pub overflow_mul-weight : goal.overflow_mul-weight
overflow_mul-weight c = omega (arith, (parts_within c.args.numbers.now c.requires).1, c.spread.ensures)

pub overflow_add-weight : goal.overflow_add-weight
overflow_add-weight c =
    omega (
      arith,
      (parts_within c.args.numbers.now c.requires).0,
      (parts_within c.args.numbers.now c.requires).1,
      c.spread.ensures,
      c.greatest_size.ensures,
    )

pub returns-clause-most : goal.returns-clause-most
returns-clause-most c = load_within c.args.numbers.now c.requires
