-- A month's run cell by cell, and what a scale does to a run.
use Rattle.std.specs.Prelude.{◌≡◌, ℕ, zero, suc, ◌-◌}
use Rattle.frac_laws.specs.Fraction.{Fraction, ◌*ℚ◌}
use Rattle.frac_laws.specs.Lists.{Vector, scale_list, add_lists}
use Rattle.cell_laws.specs.Systems.{System, taylor_value}
use Rattle.cell_laws.specs.Pairs.{CoupledPair, second_taylor_value}
use Rattle.model_specs.specs.Product.{Product}
use Rattle.model_specs.specs.Payments.{Plan}
use Rattle.model_specs.specs.Systems.{thiele_system}
use Rattle.model_specs.specs.Runs.{month_back, first_before_term, lump_vector}
use Rattle.model_specs.specs.Cells.{Backward, cells_of_32}
use Rattle.cell_bounds.specs.ScaledSystems.{scaled_system, scaled_pair}
use Rattle.product_cells.specs.EachCell.{backward_cell}

-- after some cells of a month backward, the last cell first
abbrev pub cells_back : (ℕ → System) → (n cells : ℕ) → Vector → ℕ → Vector
cells_back system n cells v zero = v
cells_back system n cells v (suc done) =
    taylor_value (system (cells - suc done)) (cells_back system n cells v done) n

-- after all cells it is the month's run
abbrev pub MonthsGoByCells : Type 0
MonthsGoByCells = (system : ℕ → System) (n cells : ℕ) (v : Vector)
    → month_back system n cells v ≡ cells_back system n cells v cells

-- the Taylor value of the scaled system from the scaled start is the scaled Taylor value
abbrev pub TaylorValuesScale : Type 0
TaylorValuesScale = (c : Fraction) (s : System) (y : Vector) (n : ℕ)
    → taylor_value (scaled_system c s) (scale_list c y) n ≡ scale_list c (taylor_value s y n)

-- and so for the second half of a pair
abbrev pub SecondTaylorValuesScale : Type 0
SecondTaylorValuesScale = (c : Fraction) (p : CoupledPair) (w z : Vector) (n : ℕ)
    → second_taylor_value (scaled_pair c p) (scale_list c w) (scale_list (c *ℚ c) z) n
    ≡ scale_list (c *ℚ c) (second_taylor_value p w z n)

-- the first moments after some cells of the month that ends some months before the term, with that date's lumps
abbrev pub first_after_cells : Product → Plan → (n months done : ℕ) → Vector
first_after_cells product plan n months done =
    cells_back (λ cell. thiele_system (backward_cell product plan (product.months - suc months) cell)) n 32
    (add_lists (first_before_term (cells_of_32 Backward) product plan n months)
    (lump_vector product plan (suc (product.months - suc months)))) done
