-- The rows of a table of probabilities, as a sweep goes on over its dates.
use Rattle.std.proofs.Common.{◌≡◌, ℕ, ◌+◌, ◌*◌, ◌/◌, ◌%◌, ◌<◌, ◌≤◌, pos, List, length}
use Rattle.std.proofs.Common.{ap, sym, subst, ◌∙◌, inl, inr, arith, set, below_more, get_or-set_same, get_or-set_other}
use Rattle.std.proofs.lemmas.Bool.{cases_lt}
use Rattle.std.proofs.lemmas.Bool.Decides.{eqb_tells}
use Rattle.std.proofs.Math.Nat.{div-add-mod, mul-le-mul}
use Rattle.fixed_interval.specs.declared.printed.Printed.{Printed}
use Rattle.fixed_interval.specs.declared.tables.Table.{Table}
use Rattle.fixed_interval.specs.Tables.{IsAnsweredDegree, ends_at}
use Rattle.model_specs.specs.Product.{Product}
use Rattle.thiele_backward.specs.Dates.{ends_of}
use Rattle.thiele_backward.proofs.WrittenDates.{ends_from}
use Rattle.kolmogorov_forward.specs.Dates.{IsProbabilityAt, HasDate, KeepsRowsBelow}
use Rattle.kolmogorov_forward.specs.Results.{AreOccupancies, ends_at_issue}
use Rattle.kolmogorov_forward.specs.Sweeps.{ForwardSweep}

-- ---- one state more of a row

pub state_written : (product : Product) (degree date row states state : ℕ) (old new : List Printed) (ends : Printed)
    → new ≡ set old (row * states + state) ends → row * states + state < length old
    → IsProbabilityAt product degree date state ends
    → ((j : ℕ) → j < state → IsProbabilityAt product degree date j (ends_of old (row * states + j)))
    → (j : ℕ) → j < state + 1 → IsProbabilityAt product degree date j (ends_of new (row * states + j))
state_written product degree date row states state old new ends is inside right so_far =
    below_more _ _
    (λ j below. subst (λ found. IsProbabilityAt product degree date j found)
    (sym (ap (λ cells. ends_of cells (row * states + j)) is
    ∙ get_or-set_other old (row * states + state) (row * states + j) ends (record { lo = pos 0; hi = pos 0 })
    (λ e. omega (arith, e, below))))
    (so_far j below))
    (subst (λ found. IsProbabilityAt product degree date state found)
    (sym (ap (λ cells. ends_of cells (row * states + state)) is
    ∙ get_or-set_same old (row * states + state) ends (record { lo = pos 0; hi = pos 0 }) inside)) right)

pub row_kept : (row states state : ℕ) (first old new : List Printed) (ends : Printed)
    → new ≡ set old (row * states + state) ends → KeepsRowsBelow row states first old
    → KeepsRowsBelow row states first new
row_kept row states state first old new ends is kept place below =
    ap (λ cells. ends_of cells place) is
    ∙ get_or-set_other old (row * states + state) place ends (record { lo = pos 0; hi = pos 0 })
    (λ e. omega (arith, e, below)) ∙ kept place below

-- ---- the row of a date

-- a date that is a table's is above the rows before it
pub rows_before : (row every date : ℕ) → 0 < every → date % every ≡ 0 → row * every < date → row + 1 ≤ date / every
rows_before row every date some none earlier = elim (cases_lt row (date / every)) [
  | inl less ↦ omega arith
  | inr past ↦
      let whole : date / every * every ≤ row * every = mul-le-mul past (omega arith) in
      absurd (omega (arith, div-add-mod date every, whole, none, earlier))
]

-- a place in a row below is below
below_row : (row later states place : ℕ) → row + 1 ≤ later → place < (row + 1) * states → place < later * states
below_row row later states place above inside =
    let whole : (row + 1) * states ≤ later * states = mul-le-mul above (omega arith) in
    omega (arith, whole, inside)

pub rows_kept : (row later states : ℕ) (old new : List Printed) → row + 1 ≤ later
    → KeepsRowsBelow later states old new → KeepsRowsBelow (row + 1) states old new
rows_kept row later states old new above kept place inside = kept place (below_row row later states place above inside)

-- ---- the dates that a sweep has gone over

-- ends that hold from one degree on hold from a greater one on
later_ends : (product : Product) (degree later date state : ℕ) (ends : Printed) → degree ≤ later
    → IsProbabilityAt product degree date state ends → IsProbabilityAt product later date state ends
later_ends product degree later date state ends order h = record {
  holds = ends_from degree later _ _ ends order h.holds;
  issue = h.issue;
}

-- a table has room for all dates, and the dates up to one are written
pub record HasDatesTo (product : Product) (every date degree : ℕ) (cells : List Printed) : Type 0 where
  pub room : length cells ≡ (product.months / every + 1) * length product.states
  pub written : (row : ℕ) → row * every ≤ date → HasDate product degree (row * every) row cells

-- what a sweep wrote, as the table's row of this date
row_written : (product : Product) (every degree row : ℕ) (s : ForwardSweep) (cells : List Printed)
    → s.product ≡ product → s.degree ≡ degree → row * every ≡ s.date
    → HasDate s.product s.degree s.date row cells → HasDate product degree (row * every) row cells
row_written product every degree row s cells same_product same_degree same_date has =
    subst (λ p. HasDate p degree (row * every) row cells) same_product
    (subst (λ d. HasDate s.product d (row * every) row cells) same_degree
    (subst (λ date. HasDate s.product s.degree date row cells) (sym same_date) has))

-- at issue
pub dates_at_issue : (product : Product) (every degree : ℕ) (s : ForwardSweep) (cells : List Printed)
    → s.product ≡ product → s.degree ≡ degree → s.date ≡ 0
    → length cells ≡ (product.months / every + 1) * length product.states
    → ((row : ℕ) → row * every ≡ s.date → HasDate s.product s.degree s.date row cells)
    → HasDatesTo product every 0 degree cells
dates_at_issue product every degree s cells same_product same_degree issue room now = record {
  room = room;
  written = λ row within.
      let date : row * every ≡ s.date = omega (arith, issue, within) in
      row_written product every degree row s cells same_product same_degree date (now row date);
}

-- a month later
pub dates_more : (product : Product) (every date degree later : ℕ) (s : ForwardSweep) (old new : List Printed)
    → degree ≤ later → s.product ≡ product → s.degree ≡ later → s.date ≡ date + 1 → length new ≡ length old
    → HasDatesTo product every date degree old
    → ((row : ℕ) → row * every < s.date → KeepsRowsBelow (row + 1) (length product.states) old new)
    → ((row : ℕ) → row * every ≡ s.date → HasDate s.product s.degree s.date row new)
    → HasDatesTo product every (date + 1) later new
dates_more product every date degree later s old new order same_product same_degree next long h kept now = record {
  room = long ∙ h.room;
  written = λ row within. elim (eqb_tells (row * every) s.date) [
    | inl same ↦ row_written product every later row s new same_product same_degree same.1 (now row same.1)
    | inr other ↦ λ state inside.
        let before : row * every < s.date = omega (arith, other.1, within, next) in
        let place : row * length product.states + state < (row + 1) * length product.states = omega (arith, inside) in
        subst (IsProbabilityAt product later (row * every) state) (sym (kept row before _ place))
        (later_ends product degree later (row * every) state _ order
        (h.written row (omega (arith, before, next)) state inside))
  ];
}

-- at the term all dates are written
pub table_for : (product : Product) (every date degree : ℕ) (t : Table) → IsAnsweredDegree degree → t.degree ≡ degree
    → t.every ≡ every → t.states ≡ length product.states → date ≡ product.months
    → HasDatesTo product every date degree t.cells.items → AreOccupancies product every t
table_for product every date degree t answered is_degree is_every is_states term h = record {
  degree = subst IsAnsweredDegree (sym is_degree) answered;
  every_is = is_every;
  states_is = is_states;
  count = h.room;
  ends = λ row state last inside.
      (subst (λ d. IsProbabilityAt product d (row * every) state (ends_at t row state)) (sym is_degree)
      (subst (λ n. IsProbabilityAt product degree (row * every) state (ends_of t.cells.items (row * n + state)))
      (sym is_states) (h.written row (rw term (date_in_term row every product.months last)) state inside))).holds;
}
  where
    date_in_term : (k step term : ℕ) → k ≤ term / step → k * step ≤ term
    date_in_term k step term few =
        let whole : k * step ≤ term / step * step = mul-le-mul few (omega arith) in
        omega (arith, div-add-mod term step, whole)

-- the ends at issue are exact
pub begins_in_start : (product : Product) (every date degree states : ℕ) (cells : List Printed)
    → states ≡ length product.states → HasDatesTo product every date degree cells → (state : ℕ)
    → state < length product.states → ends_of cells (0 * states + state) ≡ ends_at_issue product state
begins_in_start product every date degree states cells is_states h state inside =
    let first : 0 * every ≡ 0 = omega arith in
    ap (λ n. ends_of cells (0 * n + state)) is_states ∙ (h.written 0 (omega arith) state inside).issue first
