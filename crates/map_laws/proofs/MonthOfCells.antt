-- The map of a month, made from the map of a constant cell.
use Rattle.std.proofs.Common.{ℕ, pos, ◌^◌, ◌<◌, ◌≤◌, [], ◌∷◌, refl, subst, arith}
use Rattle.std.proofs.lemmas.Int.{ints}
use Rattle.frac_laws.specs.Fraction.{over, whole, size, ◌+ℚ◌, ◌-ℚ◌, ◌≤ℚ◌}
use Rattle.frac_laws.specs.Lists.{number_at}
use Rattle.frac_laws.specs.Norms.{Sup}
use Rattle.frac_laws.proofs.Linear.{linear, claims, natural}
use Rattle.frac_laws.proofs.Norms.{number_below_norm}
use Rattle.frac_laws.proofs.Order.{le_trans}
use Rattle.frac_laws.proofs.Quotients.{over_le_of_cross}
use Rattle.frac_laws.proofs.Sizes.{size_natural}
use Rattle.frac_laws.proofs.Sums.{term_le_sum_to}
use Rattle.frac_laws.proofs.WholeProducts.{product_le}
use Rattle.cell_laws.specs.GrowthLaws.{later_powers}
use Rattle.cell_laws.specs.Systems.{System}
use Rattle.cell_laws.specs.Tame.{growth_of}
use Rattle.linear_system.specs.StandsFor.{units}
use Rattle.linear_system.specs.StoredSystem.{StoredSystem, IsSystem}
use Rattle.map_laws.specs.Applied.{grow_turns}
use Rattle.map_laws.specs.CellMaps.{RowsWithin, doubled}
use Rattle.map_laws.specs.CellOfSystem.{cell_map}
use Rattle.map_laws.specs.MonthOfCells.{IsConstantCell, ConstantCellsAreNarrow, ConstantCellsGrow}
use Rattle.map_laws.specs.MonthOfCells.{MonthsStayWithinTheirRadius}
use Rattle.map_laws.proofs.CellGrowth.{cell_maps_grow}
use Rattle.map_laws.proofs.CellMaps.{cell_maps_are_narrow, doubled_maps_grow}
use Rattle.map_laws.proofs.ConstantCells.{constant_cells_have_small_numbers}
use Rattle.map_laws.proofs.FreeSizes.{free_numbers_stay_small}
use Rattle.map_laws.proofs.Radii.{month_maps_stay_within_their_radius}
use Rattle.map_laws.proofs.Turns.{month_value_is}

rows_grow : (s : StoredSystem) (kappa40 n : ℕ) (e : System) → IsSystem s → IsConstantCell s kappa40 e → 1 ≤ n
    → RowsWithin e.dimension (whole (pos 1) +ℚ growth_of kappa40) (cell_map e n)
rows_grow s kappa40 n e sys cell some row b = le_trans (cell_maps_grow kappa40 e n cell.tame row b)
    (linear (growth_of kappa40 ∷ later_powers Sup e.matrices n ∷ [])
    ((constant_cells_have_small_numbers s kappa40 e sys cell).no_later n some) (hlevel claims) refl)

growth_is_small : (kappa40 : ℕ) → kappa40 ≤ 2 ^ 30 → whole (pos 1) +ℚ growth_of kappa40 ≤ℚ over (pos 1025) (2 ^ 10)
growth_is_small kappa40 h =
    let small : growth_of kappa40 ≤ℚ over (pos (2 ^ 30)) (2 ^ 40) =
    over_le_of_cross (pos kappa40) (pos (2 ^ 30)) (2 ^ 40) (2 ^ 40) (omega arith) (omega arith)
    (product_le (pos kappa40) (pos (2 ^ 30)) (2 ^ 40) (omega (arith, ints))) in
    linear (growth_of kappa40 ∷ []) small (hlevel claims) refl

growth_natural : (kappa40 : ℕ) → whole (pos 0) ≤ℚ whole (pos 1) +ℚ growth_of kappa40
growth_natural kappa40 = linear (growth_of kappa40 ∷ []) (natural kappa40 (2 ^ 40)) (hlevel claims) refl

pub constant_cells_grow : ConstantCellsGrow
constant_cells_grow s kappa40 n e sys cell some =
    doubled_maps_grow e.dimension (whole (pos 1) +ℚ growth_of kappa40) (cell_map e n) (growth_natural kappa40)
    (rows_grow s kappa40 n e sys cell some)

-- each number of the map of a constant cell is at most 9/8, and each free number 1/16
pub cell_numbers_are_small : (s : StoredSystem) (kappa40 n : ℕ) (e : System) → IsSystem s → IsConstantCell s kappa40 e
    → 1 ≤ n → (row : ℕ) → row < e.dimension → (size ((cell_map e n).free row) ≤ℚ over (pos 1) 16)
    × ((col : ℕ) → col < e.dimension → size ((cell_map e n).at row col) ≤ℚ over (pos 9) 8)
cell_numbers_are_small s kappa40 n e sys cell some row b =
    let numbers = constant_cells_have_small_numbers s kappa40 e sys cell in (
      le_trans (free_numbers_stay_small kappa40 e n row _ cell.tame numbers.free_alone numbers.free_small)
          (linear [] (natural 0 1) (hlevel claims) refl),
      λ col c. le_trans (term_le_sum_to e.dimension col {f = λ j. size ((cell_map e n).at row j)}
          (λ j d. size_natural ((cell_map e n).at row j)) c)
          (le_trans (rows_grow s kappa40 n e sys cell some row b)
          (le_trans (growth_is_small kappa40 cell.growth) (linear [] (natural 0 1) (hlevel claims) refl))),
    )

pub constant_cells_are_narrow : ConstantCellsAreNarrow
constant_cells_are_narrow s kappa40 n e m sys some made =
    let numbers = constant_cells_have_small_numbers s kappa40 e sys made.cell in
    let rows = rows_grow s kappa40 n e sys made.cell some in
    cell_maps_are_narrow e.dimension m (cell_map e n) made.cell.few (record {
      holds = made.holds;
      narrow = made.narrow;
      free_narrow = made.free_narrow;
      rows = λ row b. le_trans (rows row b) (growth_is_small kappa40 made.cell.growth);
      free_small = λ row b. free_numbers_stay_small kappa40 e n row _ made.cell.tame numbers.free_alone
          numbers.free_small;
    })

pub months_stay_within_their_radius : MonthsStayWithinTheirRadius
months_stay_within_their_radius s kappa40 radius n e m y mid new sys cell some narrow held applied start row b =
    let keeps = (constant_cells_have_small_numbers s kappa40 e sys cell).keeps in
    subst (λ t. size (t -ℚ units (new row)) ≤ℚ units (pos (grow_turns 32 radius kappa40)))
    (month_value_is e y n row keeps start.fits b)
    (month_maps_stay_within_their_radius e.dimension kappa40 radius m (doubled e.dimension 5 (cell_map e n))
    (number_at y) mid new cell.few narrow held (constant_cells_grow s kappa40 n e sys cell some) applied
    (record {
      small = λ col c. le_trans (number_below_norm Sup y col) start.small;
      near = start.near;
      at_most = start.at_most;
    }) row b)
