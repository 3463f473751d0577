-- The rows of a table that holds the reserves by whole months hold them.
use Rattle.std.proofs.Common.{◌≡◌, ℕ, zero, suc, ◌+◌, ◌*◌, ◌/◌, ◌%◌, ◌<◌, ◌≤◌, length, sym, subst, arith, pos}
use Rattle.std.specs.Prelude.{All, slice_index_or}
use Rattle.std.proofs.Math.Nat.{div-add-mod, div-lt_iff_lt-mul, mod-lt}
use Rattle.fixed_interval.specs.declared.printed.Printed.{Printed}
use Rattle.fixed_interval.specs.declared.tables.Table.{Table}
use Rattle.fixed_interval.specs.Printing.{LiesBetween}
use Rattle.model_specs.specs.Product.{Product}
use Rattle.model_specs.specs.Payments.{payment_plan}
use Rattle.model_specs.specs.Runs.{month_grid_reserve}
use Rattle.named_numbers.specs.Numbers.{least_degree}
use Rattle.thiele_backward.specs.Results.{AreReserves, AreConstantMonths}
use Rattle.grid_law.specs.MonthReserves.{HoldMonthGrid}
use Rattle.report_columns.specs.declared.note.What.TheVariants as what
use Rattle.reserve_report.specs.declared.report.Kind.TheVariants as kind
use Rattle.reserve_report.specs.declared.report.Report.{Report}
use Rattle.reserve_report.specs.Reports.{IsReport}
use Rattle.reserve_report.specs.TableRows.{TellsTable, row_at}
use Rattle.thiele_cli.specs.MonthGrids.{HoldsByMonths, IsReserveReport}
use Rattle.ledger_laws.proofs.Rounding.{le_when_same}
use Rattle.thiele_cli.proofs.Reported.{valuation_of}
use Rattle.whole_laws.proofs.ListsByPlace.{All-list_of}

-- a place of a table is a date and a state
date_is_asked : (place dates states : ℕ) → 0 < states → place < (dates + 1) * states → place / states ≤ dates
date_is_asked place dates states some inside =
    let within : place / states < dates + 1 = (div-lt_iff_lt-mul some).1 inside in omega (arith, within)

some_states : (place dates states : ℕ) → place < (dates + 1) * states → 0 < states
some_states place dates zero inside = absurd (omega (arith, inside))
some_states place dates (suc states) inside = omega arith

-- a row holds what the ends of its date and state hold
row_holds : (product : Product) (every : ℕ) (t : Table) → AreReserves product every t
    → HoldMonthGrid product every t → (place : ℕ) → place < length t.cells.items
    → HoldsByMonths product (row_at what.Reserve t place)
row_holds product every t reserves months place inside n from =
    let states = t.states in
    let reserve_at : ℕ → ℕ → _ = λ dates state.
    month_grid_reserve product (payment_plan product) n (place / states * dates) state in
    let count : place < (product.months / every + 1) * states =
    subst (λ s. place < (product.months / every + 1) * s) (sym reserves.states_is)
    (subst (λ cells. place < cells) reserves.count inside) in
    let some : 0 < states = some_states place (product.months / every) states count in
    let in_states : place % states < length product.states =
    subst (λ s. place % states < s) reserves.states_is (mod-lt place some) in
    let at_ends = months (place / states) (place % states) n
    (date_is_asked place (product.months / every) states some count) in_states from in
    let none : Printed = record { lo = pos 0; hi = pos 0 } in
    let at_place = subst (λ i. LiesBetween (slice_index_or t.cells.items i none)
    (reserve_at every (place % states))) (same_place place states) at_ends in
    subst (λ dates. LiesBetween (slice_index_or t.cells.items place none)
    (reserve_at dates (place % states))) (sym reserves.every_is) at_place
  where
    same_place : (place states : ℕ) → place / states * states + place % states ≡ place
    same_place place states = omega (arith, div-add-mod place states)

-- the report of such a table is one of reserves
pub reserves_are_reported : (product : Product) (report : Report) (t : Table) (every : ℕ)
    → AreReserves product every t → HoldMonthGrid product every t → IsReport product kind.Reserves t.every report
    → TellsTable kind.Reserves t report → report.degree ≡ t.degree
    → (AreConstantMonths product (payment_plan product) → t.degree ≡ least_degree)
    → IsReserveReport product every report
reserves_are_reported product report t every reserves months right tells is constant = record {
  valuation = valuation_of product kind.Reserves report t.every every t.degree reserves.every_is right is
      (λ all. le_when_same t.degree least_degree (constant all));
  by_months = subst (All (HoldsByMonths product)) (sym tells)
      (All-list_of (HoldsByMonths product) (length t.cells.items) (row_at what.Reserve t)
      (λ place inside. row_holds product every t reserves months place inside));
}
