use Rattle.std.proofs.Common.{◌≡◌, arith}
use Rattle.named_numbers.specs.Numbers.{least_degree}
use Rattle.premium_solver.proofs.PremiumTables.{large_is_not_small}
use Rattle.premium_solver.proofs.SmallPatterns.{pattern_constant}
use Rattle.premium_solver.proofs.premium.solve.Goals as goal

pub returns-in_err-table_of-clause-large : goal.returns-in_err-table_of-clause-large
returns-in_err-table_of-clause-large g c n from large low is =
    large_is_not_small c.args.adm.now n c.in_err-table_of.field-0.0.low from large c.in_err-table_of.ensures.too_small

pub returns-clause-constant : goal.returns-clause-constant
returns-clause-constant g c all =
    let first : c.in_ok-benefits.benefits.degree ≡ least_degree = c.in_ok-benefits.ensures.constant all in
    let second : c.in_ok-pattern.pattern.degree ≡ least_degree =
    c.in_ok-pattern.ensures.constant (pattern_constant c.args.adm.now all) in
    omega (arith, c.in_ok-table_of.ensures.degree, first, second)
