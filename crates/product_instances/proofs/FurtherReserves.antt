-- The reserves of the product, computed cell by cell: each cell begins with numbers in lowest terms.
use Rattle.std.specs.Prelude.{◌≡◌, ℕ, List, [], ◌∷◌, refl}
use Rattle.std.proofs.Common.{ap, ◌∙◌}
use mathlib.Core.Path.{ap₂}
use mathlib.Core.Quot.{sound}
use Rattle.frac_laws.specs.Fraction.{Fraction, opposite, ◌+ℚ◌, ◌*ℚ◌}
use Rattle.frac_laws.specs.Lists.{add_lists}
use Rattle.cell_laws.specs.Systems.{System, taylor_value}
use Rattle.model_specs.specs.Systems.{thiele_system}
use Rattle.model_specs.specs.Runs.{lump_vector}
use Rattle.product_instances.specs.Further.{further, further_plan, cell_back, reserves_before}
use Rattle.product_instances.specs.Further.{FurtherReservesAt2, FurtherReservesAt1, FurtherReservesAt0}
use Rattle.product_instances.proofs.FurtherNumbers.{start_2, middle_2, end_2}
use Rattle.product_instances.proofs.FurtherNumbers.{start_1, middle_1, end_1}
use Rattle.product_instances.proofs.FurtherNumbers.{start_0, middle_0, end_0}

-- two lists of three numbers are one where the numbers are
pub three : {a b c x y z : Fraction} → a ≡ x → b ≡ y → c ≡ z
    → ◌≡◌ {A = List Fraction} (a ∷ b ∷ c ∷ []) (x ∷ y ∷ z ∷ [])
three p q r = ap₂ (λ x l. x ∷ l) p (ap₂ (λ x y. x ∷ y ∷ []) q r)

-- the system of a cell
abbrev first_cell : ℕ → ℕ → System
first_cell month cell = thiele_system (cell_back month cell)

-- each date and each cell of the reserves
pub lumps_2 : add_lists (reserves_before 0) (lump_vector further further_plan 3) ≡ start_2
unfolding ◌+ℚ◌
lumps_2 = three (sound refl) (sound refl) (sound refl)

pub lumps_1 : add_lists end_2 (lump_vector further further_plan 2) ≡ start_1
unfolding ◌+ℚ◌
lumps_1 = three (sound refl) (sound refl) (sound refl)

pub lumps_0 : add_lists end_1 (lump_vector further further_plan 1) ≡ start_0
unfolding ◌+ℚ◌
lumps_0 = three (sound refl) (sound refl) (sound refl)

pub back_2_1 : taylor_value (first_cell 2 1) start_2 2 ≡ middle_2
unfolding ◌+ℚ◌ ◌*ℚ◌ opposite
back_2_1 = three (sound refl) (sound refl) (sound refl)

pub back_2_0 : taylor_value (first_cell 2 0) middle_2 2 ≡ end_2
unfolding ◌+ℚ◌ ◌*ℚ◌ opposite
back_2_0 = three (sound refl) (sound refl) (sound refl)

pub back_1_1 : taylor_value (first_cell 1 1) start_1 2 ≡ middle_1
unfolding ◌+ℚ◌ ◌*ℚ◌ opposite
back_1_1 = three (sound refl) (sound refl) (sound refl)

pub back_1_0 : taylor_value (first_cell 1 0) middle_1 2 ≡ end_1
unfolding ◌+ℚ◌ ◌*ℚ◌ opposite
back_1_0 = three (sound refl) (sound refl) (sound refl)

pub back_0_1 : taylor_value (first_cell 0 1) start_0 2 ≡ middle_0
unfolding ◌+ℚ◌ ◌*ℚ◌ opposite
back_0_1 = three (sound refl) (sound refl) (sound refl)

pub back_0_0 : taylor_value (first_cell 0 0) middle_0 2 ≡ end_0
unfolding ◌+ℚ◌ ◌*ℚ◌ opposite
back_0_0 = three (sound refl) (sound refl) (sound refl)

pub reserves_at_2 : FurtherReservesAt2
reserves_at_2 = ap (λ v. taylor_value (first_cell 2 0) (taylor_value (first_cell 2 1) v 2) 2) lumps_2
    ∙ ap (λ v. taylor_value (first_cell 2 0) v 2) back_2_1 ∙ back_2_0

pub reserves_at_1 : FurtherReservesAt1
reserves_at_1 = ap (λ v. taylor_value (first_cell 1 0) (taylor_value (first_cell 1 1)
    (add_lists v (lump_vector further further_plan 2)) 2) 2) reserves_at_2
    ∙ ap (λ v. taylor_value (first_cell 1 0) (taylor_value (first_cell 1 1) v 2) 2) lumps_1
    ∙ ap (λ v. taylor_value (first_cell 1 0) v 2) back_1_1 ∙ back_1_0

pub reserves_at_0 : FurtherReservesAt0
reserves_at_0 = ap (λ v. taylor_value (first_cell 0 0) (taylor_value (first_cell 0 1)
    (add_lists v (lump_vector further further_plan 1)) 2) 2) reserves_at_1
    ∙ ap (λ v. taylor_value (first_cell 0 0) (taylor_value (first_cell 0 1) v 2) 2) lumps_0
    ∙ ap (λ v. taylor_value (first_cell 0 0) v 2) back_0_1 ∙ back_0_0
