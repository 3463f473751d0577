-- A month backward, cell by cell.
use Rattle.std.specs.Prelude.{◌≡◌, ℕ, zero, suc, ◌-◌, ◌≤◌}
use Rattle.std.proofs.Common.{refl, ap, ◌∙◌, arith}
use Rattle.frac_laws.specs.Lists.{Vector}
use Rattle.cell_laws.specs.Systems.{System, taylor_value}
use Rattle.model_specs.specs.Runs.{month_back}
use Rattle.moment_laws.specs.CellRuns.{cells_back, MonthsGoByCells}

module _ (system : ℕ → System) (n cells : ℕ) (v : Vector) where
  rest : (left : ℕ) → left ≤ cells
      → month_back system n left (cells_back system n cells v (cells - left)) ≡ cells_back system n cells v cells
  rest zero within = let e : cells - 0 ≡ cells = omega arith in rw e refl
  rest (suc left) within =
      ap (month_back system n left)
      (let e : left ≡ cells - suc (cells - suc left) = omega (arith, within) in
      ap (λ c. taylor_value (system c) (cells_back system n cells v (cells - suc left)) n) e)
      ∙ (let e : suc (cells - suc left) ≡ cells - left = omega (arith, within) in
      ap (λ d. month_back system n left (cells_back system n cells v d)) e)
      ∙ rest left (omega (arith, within))

  pub months_go : month_back system n cells v ≡ cells_back system n cells v cells
  months_go =
      (let e : 0 ≡ cells - cells = omega arith in
      ap (λ d. month_back system n cells (cells_back system n cells v d)) e)
      ∙ rest cells (omega arith)

pub months_go_by_cells : MonthsGoByCells
months_go_by_cells system n cells v = months_go system n cells v
