use Rattle.std.proofs.Common.{◌≡◌, pos, FitsSigned, rules}
use Rattle.std.specs.Prelude.{◌+ℤ◌, ◌*ℤ◌}
use Rattle.std.specs.Int.{w64, w128}
use Rattle.std.proofs.lemmas.Int.{to_z-of_z}
use Rattle.cell_coeffs.proofs.SecondLumps.{unit_fits, twice_fits, inner_fits, product_fits, shifted_fits}
use Rattle.cell_coeffs.proofs.SecondLumps.{shifted_value, shifted_size}
use Rattle.cell_coeffs.proofs.second_lumps.lumped.Goals as goal

pub overflow_mul-result-2 : goal.overflow_mul-result-2
overflow_mul-result-2 c =
    let lump_fits : FitsSigned w64 c.args.lump = search rules in
    let from_fits : FitsSigned w128 c.from-amount.result = search rules in
    let pow_fits : FitsSigned w128 c.pow-unit.result = search rules in
    let is : c.from-amount.result ≡ c.args.lump = simp to_z-of_z at c.from-amount.ensures in
    simp to_z-of_z (rw (is, c.pow-unit.ensures)
    (unit_fits c.args.lump c.args.first c.args.g c.requires.scale c.requires.amount c.requires.first))

pub overflow_add-result : goal.overflow_add-result
overflow_add-result c =
    let lump_fits : FitsSigned w64 c.args.lump = search rules in
    let first_fits : FitsSigned w128 c.args.first = search rules in
    let from_fits : FitsSigned w128 c.from-amount.result = search rules in
    let pow_fits : FitsSigned w128 c.pow-unit.result = search rules in
    let is : c.from-amount.result ≡ c.args.lump = simp to_z-of_z at c.from-amount.ensures in
    let twice = twice_fits c.args.lump c.args.first c.args.g c.requires.scale c.requires.amount c.requires.first in
    let unit : FitsSigned w128 (c.from-amount.result *ℤ c.pow-unit.result) = rw (is, c.pow-unit.ensures)
    (unit_fits c.args.lump c.args.first c.args.g c.requires.scale c.requires.amount c.requires.first) in
    simp to_z-of_z (rw (is, c.pow-unit.ensures)
    (inner_fits c.args.lump c.args.first c.args.g c.requires.scale c.requires.amount c.requires.first))

pub overflow_mul-result-3 : goal.overflow_mul-result-3
overflow_mul-result-3 c =
    let lump_fits : FitsSigned w64 c.args.lump = search rules in
    let first_fits : FitsSigned w128 c.args.first = search rules in
    let from_fits : FitsSigned w128 c.from-amount.result = search rules in
    let pow_fits : FitsSigned w128 c.pow-unit.result = search rules in
    let is : c.from-amount.result ≡ c.args.lump = simp to_z-of_z at c.from-amount.ensures in
    let twice = twice_fits c.args.lump c.args.first c.args.g c.requires.scale c.requires.amount c.requires.first in
    let unit : FitsSigned w128 (c.from-amount.result *ℤ c.pow-unit.result) = rw (is, c.pow-unit.ensures)
    (unit_fits c.args.lump c.args.first c.args.g c.requires.scale c.requires.amount c.requires.first) in
    let inner : FitsSigned w128 ((pos 2 *ℤ c.args.first) +ℤ (c.from-amount.result *ℤ c.pow-unit.result)) =
    rw (is, c.pow-unit.ensures)
    (inner_fits c.args.lump c.args.first c.args.g c.requires.scale c.requires.amount c.requires.first) in
    simp to_z-of_z (rw (is, c.pow-unit.ensures)
    (product_fits c.args.lump c.args.first c.args.g c.requires.scale c.requires.amount c.requires.first))

pub returns-clause-value : goal.returns-clause-value
returns-clause-value c =
    let lump_fits : FitsSigned w64 c.args.lump = search rules in
    let first_fits : FitsSigned w128 c.args.first = search rules in
    let from_fits : FitsSigned w128 c.from-amount.result = search rules in
    let pow_fits : FitsSigned w128 c.pow-unit.result = search rules in
    let is : c.from-amount.result ≡ c.args.lump = simp to_z-of_z at c.from-amount.ensures in
    let twice = twice_fits c.args.lump c.args.first c.args.g c.requires.scale c.requires.amount c.requires.first in
    let unit = unit_fits c.args.lump c.args.first c.args.g c.requires.scale c.requires.amount c.requires.first in
    let inner = inner_fits c.args.lump c.args.first c.args.g c.requires.scale c.requires.amount c.requires.first in
    let product = product_fits c.args.lump c.args.first c.args.g c.requires.scale c.requires.amount c.requires.first in
    let shifted = shifted_fits c.args.lump c.args.first c.args.g c.requires.scale c.requires.amount c.requires.first in
    simp to_z-of_z (rw (is, c.pow-unit.ensures) (simp to_z-of_z
    (shifted_value c.args.lump c.args.first c.args.g c.requires.scale c.requires.amount c.requires.first)))

pub returns-clause-size : goal.returns-clause-size
returns-clause-size c =
    let lump_fits : FitsSigned w64 c.args.lump = search rules in
    let first_fits : FitsSigned w128 c.args.first = search rules in
    let from_fits : FitsSigned w128 c.from-amount.result = search rules in
    let pow_fits : FitsSigned w128 c.pow-unit.result = search rules in
    let is : c.from-amount.result ≡ c.args.lump = simp to_z-of_z at c.from-amount.ensures in
    let twice = twice_fits c.args.lump c.args.first c.args.g c.requires.scale c.requires.amount c.requires.first in
    let unit = unit_fits c.args.lump c.args.first c.args.g c.requires.scale c.requires.amount c.requires.first in
    let inner = inner_fits c.args.lump c.args.first c.args.g c.requires.scale c.requires.amount c.requires.first in
    let product = product_fits c.args.lump c.args.first c.args.g c.requires.scale c.requires.amount c.requires.first in
    let shifted = shifted_fits c.args.lump c.args.first c.args.g c.requires.scale c.requires.amount c.requires.first in
    simp to_z-of_z (rw (is, c.pow-unit.ensures) (simp to_z-of_z
    (shifted_size c.args.lump c.args.first c.args.g c.requires.scale c.requires.amount c.requires.first)))
