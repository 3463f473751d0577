-- Reserves in the tables that are kept.
use Rattle.std.proofs.Common.{◌≡◌, ℕ, ◌+◌, ◌*◌, ◌/◌, ◌^◌, ◌<◌, ◌≤◌, List, length, get_or, Vec, sym, ap, subst, ◌∙◌}
use Rattle.std.proofs.Common.{arith}
use Rattle.std.specs.declared.alloc.Global.{Global}
use Rattle.std.proofs.Math.Nat.{mul-le-mul_right}
use Rattle.std.proofs.lemmas.List.{get_or_default, length-map}
use Rattle.std.proofs.lemmas.List.Elements.{All-get_or}
use Rattle.fixed_interval.specs.declared.printed.Printed.{Printed}
use Rattle.fixed_interval.specs.declared.tables.Table.{Table}
use Rattle.fixed_interval.specs.Tables.{AreEndsFor, ends_at}
use Rattle.model_specs.specs.Product.{Product}
use Rattle.whole_laws.proofs.ListsByPlace.{at-list_of, length-list_of}
use Rattle.state_graph.specs.StateGraphs.{texts_of}
use Rattle.claim_audit.specs.Audits.{reserve_at, tolerance_at}
use Rattle.portfolio_run.specs.Names.{place_in}
use Rattle.portfolio_run.specs.Tables.{KeepsReserves}
use Rattle.portfolio_run.specs.Values.{IsReserve}

-- the place of a date and a state is one of the table
pub cell_is_there : (product : Product) (months : ℕ) (states : List (Vec ℕ Global)) (table : Table)
    (tolerances : List ℕ) (month place : ℕ) → KeepsReserves product months states table tolerances
    → month ≤ months → place < length states → month * table.states + place < length table.cells.items
cell_is_there product months states table tolerances month place keeps early there =
    let count : length states ≡ table.states =
    sym (length-map states (λ name. name.items)) ∙ ap length keeps.states_are ∙ sym keeps.reserves.states_is in
    let dates : product.months / 1 ≡ product.months = omega arith in
    let cells : length table.cells.items ≡ (months + 1) * table.states =
    keeps.reserves.count ∙ ap (λ m. (m + 1) * length product.states) (dates ∙ sym keeps.months_are)
    ∙ ap (λ s. (months + 1) * s) (sym keeps.reserves.states_is) in
    let rows : (month + 1) * table.states ≤ (months + 1) * table.states =
    mul-le-mul_right table.states (omega (arith, early)) in
    rw cells (omega (arith, rows, there, count))

-- a date has a tolerance
pub tolerance_is_there : (product : Product) (months : ℕ) (states : List (Vec ℕ Global)) (table : Table)
    (tolerances : List ℕ) (month : ℕ) → KeepsReserves product months states table tolerances → month ≤ months
    → month < length tolerances
tolerance_is_there product months states table tolerances month keeps early =
    let count : length tolerances ≡ months + 1 =
    ap length keeps.tolerances_are ∙ length-list_of (months + 1) (tolerance_at product) in
    omega (arith, count, early)

-- the ends and the tolerance that stand there are those of the reserve
pub kept_reserve : (product : Product) (months : ℕ) (states : List (Vec ℕ Global)) (table : Table)
    (tolerances : List ℕ) (month place : ℕ) (state : List ℕ) (ends : Printed) (tol : ℕ)
    → KeepsReserves product months states table tolerances
    → month ≤ months → place ≡ place_in (texts_of states) state → place < length states
    → ends ≡ get_or table.cells.items (month * table.states + place) ends → tol ≡ get_or tolerances month tol
    → IsReserve (record { product = product; degree = table.degree }) month state
    (record { lo = ends.lo; hi = ends.hi; tol = tol })
kept_reserve product months states table tolerances month place state ends tol keeps early place_is there cell tol_at =
    let inside = cell_is_there product months states table tolerances month place keeps early there in
    let room = tolerance_is_there product months states table tolerances month keeps early in
    let same : ends_at table month place ≡ ends =
    get_or_default table.cells.items (month * table.states + place) _ ends inside ∙ sym cell in
    let named : place ≡ place_in product.states state =
    place_is ∙ ap (λ names. place_in names state) keeps.states_are in
    let date : month * 1 ≡ month = omega arith in
    let known : place < length product.states =
    subst (λ n. place < n) (sym (length-map states (λ name. name.items)) ∙ ap length keeps.states_are) there in
    let tol_is : tol ≡ tolerance_at product month =
    tol_at ∙ ap (λ all. get_or all month tol) keeps.tolerances_are
    ∙ at-list_of (months + 1) (tolerance_at product) month tol (omega (arith, early)) in
    let right = keeps.reserves.ends month place (omega (arith, early, keeps.months_are)) known in
    let at_date = subst (λ m. AreEndsFor table.degree (λ n. reserve_at product n m place) (tolerance_at product m)
    (ends_at table month place)) date right in
    let at_state = subst (λ s. AreEndsFor table.degree (λ n. reserve_at product n month s) (tolerance_at product month)
    (ends_at table month place)) named at_date in
    let with_ends = subst (AreEndsFor table.degree (λ n. reserve_at product n month (place_in product.states state))
    (tolerance_at product month)) same at_state in
    record {
      ends = subst (λ t. AreEndsFor table.degree
          (λ n. reserve_at product n month (place_in product.states state)) t ends) (sym tol_is) with_ends;
      has = record {
        in_term = omega (arith, early, keeps.months_are);
        known = subst (λ p. p < length product.states) named known;
      };
      tolerance_is = tol_is;
      small = subst (λ t. t ≤ 2 ^ 58) (sym tol_at)
          (All-get_or (λ tolerance. tolerance ≤ 2 ^ 58) tolerances month tol room keeps.small);
    }
