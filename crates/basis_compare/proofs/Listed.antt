-- The printed reserves of a table, by their places.
use Rattle.std.proofs.Common.{◌≡◌, ℕ, zero, suc, ◌+◌, ◌*◌, ◌/◌, ◌%◌, ◌<◌, ◌≤◌, List, length}
use Rattle.std.proofs.Common.{refl, ap, sym, subst, ◌∙◌, arith}
use Rattle.std.specs.Prelude.{pos}
use Rattle.std.proofs.Math.Nat.{mod-lt, div-add-mod, div-lt_iff_lt-mul, mul-le-mul}
use Rattle.fixed_interval.specs.declared.tables.Table.{Table}
use Rattle.fixed_interval.specs.declared.printed.Printed.{Printed}
use Rattle.fixed_interval.specs.Tables.{AreEndsFor, ends_at}
use Rattle.whole_laws.specs.Whole.{list_of}
use Rattle.model_specs.specs.Product.{Product}
use Rattle.whole_laws.proofs.ListsByPlace.{at-list_of, length-list_of}
use Rattle.thiele_backward.specs.Results.{AreReserves}
use Rattle.basis_compare.specs.declared.differences.PrintedReserve.{PrintedReserve}
use Rattle.basis_compare.specs.Changes.{reserve_of, reserve_tolerance}
use Rattle.basis_compare.specs.Differences.{ends_in, printed_at, reserve_at}
use Rattle.basis_compare.proofs.RightChanges.{IsPrintedAt}

-- ---- places of a table

some_states : (dates states place : ℕ) → place < dates * states → 0 < states
some_states dates zero place inside = absurd (omega arith)
some_states dates (suc states) place inside = omega arith

-- the place is one of a date and a state
pub record IsPlace (product : Product) (every : ℕ) (t : Table) (place : ℕ) : Type 0 where
  pub some : 0 < t.states
  pub date : place / t.states ≤ product.months / every
  pub state : place % t.states < t.states

pub is_place : (product : Product) (every : ℕ) (t : Table) (place : ℕ) → AreReserves product every t
    → place < length t.cells.items → IsPlace product every t place
is_place product every t place table inside =
    let counted : place < (product.months / every + 1) * t.states =
    subst (λ n. place < n) (table.count ∙ ap (λ s. (product.months / every + 1) * s) (sym table.states_is)) inside in
    let some : 0 < t.states = some_states (product.months / every + 1) t.states place counted in
    let before : place / t.states < product.months / every + 1 = (div-lt_iff_lt-mul some).1 counted in
    record { some = some; date = omega (arith, before); state = mod-lt place some }

-- its date is at most the term, and there are no more dates than months
pub month_in_term : (product : Product) (every : ℕ) (t : Table) (place : ℕ) → IsPlace product every t place
    → place / t.states * every ≤ product.months
month_in_term product every t place at =
    let all : place / t.states * every ≤ product.months / every * every = mul-le-mul at.date (omega arith) in
    omega (arith, div-add-mod product.months every, all)

pub date_in_months : (product : Product) (every : ℕ) (t : Table) (place : ℕ) → 0 < every
    → IsPlace product every t place → place / t.states ≤ product.months
date_in_months product every t place some at =
    let least : place / t.states * 1 ≤ place / t.states * every =
    mul-le-mul {n₁ = place / t.states} {n₂ = place / t.states} (omega arith) some in
    omega (arith, month_in_term product every t place at, least)

-- the ends at a place are those of its date and state
ends_at_place : (t : Table) (place : ℕ) → ends_at t (place / t.states) (place % t.states) ≡ ends_in t place
ends_at_place t place =
    let again : place / t.states * t.states + place % t.states ≡ place = omega (arith, div-add-mod place t.states) in
    ap (λ at. ends_in t at) again

-- and hold its reserve
pub ends_are_right : (product : Product) (every : ℕ) (t : Table) (place : ℕ) → AreReserves product every t
    → place < length t.cells.items
    → AreEndsFor t.degree (λ n. reserve_of product n (place / t.states * every) (place % t.states))
    (reserve_tolerance product (place / t.states * every)) (ends_in t place)
ends_are_right product every t place table inside =
    let at = is_place product every t place table inside in
    subst (λ ends. AreEndsFor t.degree (λ n. reserve_of product n (place / t.states * every) (place % t.states))
    (reserve_tolerance product (place / t.states * every)) ends) (ends_at_place t place)
    (table.ends (place / t.states) (place % t.states) at.date
    (subst (λ n. place % t.states < n) table.states_is at.state))

-- ---- all places

-- the reserves of a basis at each place of its table, right from a degree on
pub record AreListed (product : Product) (degree states every count : ℕ) (reserves : List PrintedReserve) : Type 0 where
  pub count_is : length reserves ≡ count
  pub each : (place : ℕ) → place < count
      → IsPrintedAt product degree states every place (reserve_at reserves place)

-- ends that hold from one degree on hold from each greater one on
later : (product : Product) (degree from date state width : ℕ) (ends : Printed) → from ≤ degree
    → AreEndsFor from (λ n. reserve_of product n date state) width ends
    → AreEndsFor degree (λ n. reserve_of product n date state) width ends
later product degree from date state width ends order at = record {
  holds = λ n reached. at.holds n (omega (arith, order, reached));
  ordered = at.ordered;
  narrow = at.narrow;
  small = at.small;
}

printed_is_right : (product : Product) (degree every : ℕ) (t : Table) (place : ℕ) → AreReserves product every t
    → t.degree ≤ degree → place < length t.cells.items
    → IsPrintedAt product degree t.states every place (printed_at product t place)
printed_is_right product degree every t place table order inside = record {
  month = ap (λ e. place / t.states * e) table.every_is;
  state = refl;
  ends = subst (λ e. AreEndsFor degree (λ n. reserve_of product n (place / t.states * e) (place % t.states))
      (reserve_tolerance product (place / t.states * e)) (ends_in t place)) (sym table.every_is)
      (later product degree t.degree (place / t.states * every) (place % t.states)
      (reserve_tolerance product (place / t.states * every)) (ends_in t place) order
      (ends_are_right product every t place table inside));
  tolerance_is = refl;
}

pub reserves_are_listed : (product : Product) (degree every : ℕ) (t : Table) (reserves : List PrintedReserve)
    → AreReserves product every t → t.degree ≤ degree
    → reserves ≡ list_of (length t.cells.items) (printed_at product t)
    → AreListed product degree (length product.states) every ((product.months / every + 1) * length product.states)
    reserves
reserves_are_listed product degree every t reserves table order is = record {
  count_is = ap length is ∙ length-list_of (length t.cells.items) (printed_at product t) ∙ table.count;
  each = λ place inside.
      let within : place < length t.cells.items = subst (λ n. place < n) (sym table.count) inside in
      let found : printed_at product t place ≡ reserve_at reserves place =
      sym (ap (λ rs. reserve_at rs place) is
      ∙ at-list_of (length t.cells.items) (printed_at product t) place
      (record { month = 0; state = 0; lo = pos 0; hi = pos 0; tol = 0 }) within) in
      subst (λ s. IsPrintedAt product degree s every place (reserve_at reserves place)) table.states_is
      (subst (IsPrintedAt product degree t.states every place) found
      (printed_is_right product degree every t place table order within));
}
