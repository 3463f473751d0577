-- A month of constant cells by turns of one system, and the ledgers beside each other.
use Rattle.std.specs.Prelude.{zero, suc, ◌+◌, ◌-◌, ◌*◌, ◌^◌, ◌≤◌}
use Rattle.std.proofs.Common.{refl, ap, sym, ◌∙◌, arith}
use Rattle.std.proofs.lemmas.Nat.{mul-le}
use Rattle.frac_laws.specs.Lists.{Vector, scale_list}
use Rattle.cell_laws.specs.Systems.{System, taylor_value}
use Rattle.named_numbers.specs.Numbers.{cells_of_month, cell_rounding}
use Rattle.model_specs.specs.Ledgers.{grow_cells}
use Rattle.model_specs.specs.Systems.{thiele_system}
use Rattle.ledger_laws.proofs.Rounding.{div_ceil_mono}
use Rattle.product_cells.specs.EachCell.{backward_cell, plan_scaling}
use Rattle.moment_laws.specs.CellRuns.{cells_back}
use Rattle.moment_laws.proofs.ScaledRuns.{taylor_values_scale}
use Rattle.map_laws.specs.Applied.{grow_turns}
use Rattle.constant_months.specs.MonthSystems.{month_system}
use Rattle.constant_months.specs.MonthTurns.{MonthsAreTurns, LedgersLeaveSpare}
use Rattle.constant_months.proofs.MonthSystems.{cells_are_alike}

pub months_are_turns : MonthsAreTurns
months_are_turns product plan n month zero v constant = refl
months_are_turns product plan n month (suc done) v constant =
    let h = plan_scaling product plan in
    let first = thiele_system (backward_cell product plan month 0) in
    let before = cells_back (λ cell. thiele_system (backward_cell product plan month cell)) n cells_of_month v done in
    ap (λ (s : System). scale_list h (taylor_value s before n))
    (cells_are_alike product plan month (cells_of_month - suc done) constant)
    ∙ sym (taylor_values_scale h first before n)
    ∙ ap (λ (y : Vector). taylor_value (month_system product plan month) y n)
    (months_are_turns product plan n month done v constant)

pub ledgers_leave_spare : LedgersLeaveSpare
unfolding grow_turns
ledgers_leave_spare zero radius kappa40 = omega arith
ledgers_leave_spare (suc cells) radius kappa40 =
    let w = grow_turns cells radius kappa40 in
    let v = grow_cells kappa40 cell_rounding radius cells in
    let below : w + cells ≤ v = ledgers_leave_spare cells radius kappa40 in
    let order : w ≤ v = omega (arith, below) in
    let products : w * kappa40 ≤ v * kappa40 = mul-le w kappa40 v kappa40 order (omega arith) in
    omega (arith, below, div_ceil_mono (w * kappa40) (v * kappa40) (2 ^ 40) (omega arith) products)
