use Rattle.std.proofs.Common.{arith}
use Rattle.rate_bounds.proofs.SmallGrowth.{kappa_by_parts}
use Rattle.rate_bounds.proofs.growth.kappa40.Goals as goal

pub overflow_cast-result : goal.overflow_cast-result
overflow_cast-result c =
    omega (
      arith,
      kappa_by_parts c.args.curves c.args.unit c.phi40-phi40.result c.nu.result c.div_ceil-by_rates.result
          c.div_ceil-by_interest.result c.phi40-phi40.ensures.value c.nu.ensures c.div_ceil-by_rates.ensures
          c.div_ceil-by_interest.ensures,
      c.requires.growth,
    )

pub returns-clause-value : goal.returns-clause-value
returns-clause-value c =
    kappa_by_parts c.args.curves c.args.unit c.phi40-phi40.result c.nu.result c.div_ceil-by_rates.result
    c.div_ceil-by_interest.result c.phi40-phi40.ensures.value c.nu.ensures c.div_ceil-by_rates.ensures
    c.div_ceil-by_interest.ensures

pub returns-clause-most : goal.returns-clause-most
returns-clause-most c =
    omega (
      arith,
      kappa_by_parts c.args.curves c.args.unit c.phi40-phi40.result c.nu.result c.div_ceil-by_rates.result
          c.div_ceil-by_interest.result c.phi40-phi40.ensures.value c.nu.ensures c.div_ceil-by_rates.ensures
          c.div_ceil-by_interest.ensures,
      c.requires.growth,
    )
