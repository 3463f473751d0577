-- The probabilities of the product, computed cell by cell.
use Rattle.std.specs.Prelude.{◌≡◌, ℕ, refl}
use Rattle.std.proofs.Common.{ap, ◌∙◌}
use mathlib.Core.Quot.{sound}
use Rattle.frac_laws.specs.Fraction.{opposite, ◌+ℚ◌, ◌*ℚ◌}
use Rattle.cell_laws.specs.Systems.{System, taylor_value}
use Rattle.model_specs.specs.Systems.{kolmogorov_system}
use Rattle.product_instances.specs.Further.{cell_forward}
use Rattle.product_instances.specs.Further.{FurtherProbabilitiesAt1, FurtherProbabilitiesAt2}
use Rattle.product_instances.proofs.FurtherNumbers.{chance_0, halfway_0, chance_1, halfway_1, chance_2}
use Rattle.product_instances.proofs.FurtherReserves.{three}

-- the system of a cell
abbrev chance_cell : ℕ → ℕ → System
chance_cell month cell = kolmogorov_system (cell_forward month cell)

forward_0_0 : taylor_value (chance_cell 0 0) chance_0 2 ≡ halfway_0
unfolding ◌+ℚ◌ ◌*ℚ◌ opposite
forward_0_0 = three (sound refl) (sound refl) (sound refl)

forward_0_1 : taylor_value (chance_cell 0 1) halfway_0 2 ≡ chance_1
unfolding ◌+ℚ◌ ◌*ℚ◌ opposite
forward_0_1 = three (sound refl) (sound refl) (sound refl)

forward_1_0 : taylor_value (chance_cell 1 0) chance_1 2 ≡ halfway_1
unfolding ◌+ℚ◌ ◌*ℚ◌ opposite
forward_1_0 = three (sound refl) (sound refl) (sound refl)

forward_1_1 : taylor_value (chance_cell 1 1) halfway_1 2 ≡ chance_2
unfolding ◌+ℚ◌ ◌*ℚ◌ opposite
forward_1_1 = three (sound refl) (sound refl) (sound refl)

pub probabilities_at_1 : FurtherProbabilitiesAt1
probabilities_at_1 = ap (λ v. taylor_value (chance_cell 0 1) v 2) forward_0_0 ∙ forward_0_1

pub probabilities_at_2 : FurtherProbabilitiesAt2
probabilities_at_2 = ap (λ v. taylor_value (chance_cell 1 1) (taylor_value (chance_cell 1 0) v 2) 2) probabilities_at_1
    ∙ ap (λ v. taylor_value (chance_cell 1 1) v 2) forward_1_0 ∙ forward_1_1
