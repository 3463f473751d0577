use Rattle.std.proofs.Common.{arith, ◌∙◌, ap, pos, FitsSigned, rules}
use Rattle.std.specs.Int.{w128}
use Rattle.std.proofs.lemmas.Int.{to_z_pos, to_z-of_z}
use Rattle.rate_bounds.proofs.SmallGrowth.{iota_is, nu_is, kappa_of_month, month_grows_little}
use Rattle.rate_bounds.proofs.bounds.bounds_by.Goals as goal

pub kappa40-requires : goal.kappa40-requires
kappa40-requires c =
    let small = c.month_numbers_are_small.ensures c.args.product.now c.args.month c.month_unit-unit.ensures.lawful
    c.requires.rules in
    month_grows_little c.args.product.now c.args.month c.month_unit-unit.result c.args.curves c.requires.numbers small
    c.month_unit-unit.ensures.value c.month_unit-unit.ensures.most

pub overflow_cast-result : goal.overflow_cast-result
overflow_cast-result c =
    let small = c.month_numbers_are_small.ensures c.args.product.now c.args.month c.month_unit-unit.ensures.lawful
    c.requires.rules in
    omega (
      arith,
      c.iota.ensures,
      iota_is c.args.product.now c.args.month c.args.curves c.requires.numbers,
      small.iota_most,
      small.unit_most,
    )

pub overflow_cast-result-2 : goal.overflow_cast-result-2
overflow_cast-result-2 c =
    let small = c.month_numbers_are_small.ensures c.args.product.now c.args.month c.month_unit-unit.ensures.lawful
    c.requires.rules in
    omega (
      arith,
      c.nu.ensures,
      nu_is c.args.product.now c.args.month c.args.curves c.requires.numbers,
      small.nu_most,
      small.unit_most,
    )

pub returns : goal.returns
returns c =
    let small = c.month_numbers_are_small.ensures c.args.product.now c.args.month c.month_unit-unit.ensures.lawful
    c.requires.rules in
    let iota = c.iota.ensures ∙ iota_is c.args.product.now c.args.month c.args.curves c.requires.numbers in
    let nu = c.nu.ensures ∙ nu_is c.args.product.now c.args.month c.args.curves c.requires.numbers in
    let fits_rho : FitsSigned w128 c.args.curves.rho = search rules in
    record {
      rho = simp to_z-of_z c.requires.numbers.rho;
      iota = to_z_pos w128 c.iota.result (omega (arith, iota, small.iota_most, small.unit_most)) ∙ ap pos iota;
      nu = to_z_pos w128 c.nu.result (omega (arith, nu, small.nu_most, small.unit_most)) ∙ ap pos nu;
      kappa40 = c.kappa40.ensures.value
          ∙ kappa_of_month c.args.product.now c.args.month c.month_unit-unit.result c.args.curves c.requires.numbers
          c.month_unit-unit.ensures.value;
      pay = c.pay1024.ensures;
      pattern = c.pay1024-2.ensures;
    }
