-- The rows of a table of one kind, as the sweep goes back over its dates.
use Rattle.std.proofs.Common.{◌≡◌, ℕ, ◌+◌, ◌*◌, ◌/◌, ◌<◌, ◌≤◌, pos, List, length, set}
use Rattle.std.proofs.Common.{ap, sym, subst, ◌∙◌, inl, inr, arith, below_more, get_or-set_same, get_or-set_other}
use Rattle.std.proofs.lemmas.Bool.Decides.{eqb_tells}
use Rattle.std.proofs.Math.Nat.{div-add-mod, mul-le-mul}
use Rattle.frac_laws.specs.Fraction.{Fraction}
use Rattle.fixed_interval.specs.declared.printed.Printed.{Printed}
use Rattle.fixed_interval.specs.declared.tables.Table.{Table}
use Rattle.fixed_interval.specs.Tables.{Form, AreEndsIn, IsAnsweredDegree, IsTableIn, ends_at}
use Rattle.model_specs.specs.Product.{Product}
use Rattle.thiele_backward.specs.Dates.{KeepsRowsFrom, ends_of}
use Rattle.thiele_backward.proofs.WrittenDates.{row_above}
use Rattle.moment_equations.specs.declared.ends.Moment.{Moment}
use Rattle.moment_equations.specs.Dates.{HoldsAt, HasDate, HasDatesFrom}
use Rattle.moment_equations.specs.Kinds.{exact_of, form_of, width_of}

-- ends that hold from one degree on hold from a greater one on
ends_from : (form : Form) (degree later width : ℕ) (exact : ℕ → Fraction) (ends : Printed) → degree ≤ later
    → AreEndsIn form degree exact width ends → AreEndsIn form later exact width ends
ends_from form degree later width exact ends order h = record {
  holds = λ n from. h.holds n (omega (arith, order, from));
  ordered = h.ordered;
  narrow = h.narrow;
  small = h.small;
}

-- a row that was written, with the row of an earlier date
date_kept : (kind : Moment) (product : Product) (degree later date row written : ℕ) (old new : List Printed)
    → degree ≤ later → written + 1 ≤ row → KeepsRowsFrom (written + 1) (length product.states) old new
    → HasDate kind product degree date row old → HasDate kind product later date row new
date_kept kind product degree later date row written old new order above kept has state inside =
    let place = row * length product.states + state in
    let whole : (written + 1) * length product.states ≤ row * length product.states =
    mul-le-mul above (omega arith) in
    let same = kept place (omega (arith, whole)) in
    subst (AreEndsIn (form_of kind) later _ _) (sym same)
    (ends_from (form_of kind) degree later _ _ (ends_of old place) order (has state inside))

-- one state more of a row
pub state_written : (kind : Moment) (product : Product) (degree date row states state : ℕ) (old new : List Printed)
    (ends : Printed) → new ≡ set old (row * states + state) ends → row * states + state < length old
    → HoldsAt kind product degree date state ends
    → ((j : ℕ) → j < state → HoldsAt kind product degree date j (ends_of old (row * states + j)))
    → (j : ℕ) → j < state + 1 → HoldsAt kind product degree date j (ends_of new (row * states + j))
state_written kind product degree date row states state old new ends is inside right so_far =
    below_more _ _
    (λ j below. subst (λ found. HoldsAt kind product degree date j found)
    (sym (ap (λ cells. ends_of cells (row * states + j)) is
    ∙ get_or-set_other old (row * states + state) (row * states + j) ends (record { lo = pos 0; hi = pos 0 })
    (λ e. omega (arith, e, below))))
    (so_far j below))
    (subst (λ found. HoldsAt kind product degree date state found)
    (sym (ap (λ cells. ends_of cells (row * states + state)) is
    ∙ get_or-set_same old (row * states + state) ends (record { lo = pos 0; hi = pos 0 }) inside)) right)

-- all states of a row
pub all_written : (kind : Moment) (product : Product) (degree date row states done : ℕ) (cells : List Printed)
    → states ≡ length product.states → done ≡ states
    → ((j : ℕ) → j < done → HoldsAt kind product degree date j (ends_of cells (row * states + j)))
    → HasDate kind product degree date row cells
all_written kind product degree date row states done cells is all so_far state inside =
    subst (λ n. HoldsAt kind product degree date state (ends_of cells (row * n + state))) is
    (so_far state (omega (arith, is, all, inside)))

-- at the term
pub dates_at_term : (kind : Moment) (product : Product) (every degree : ℕ) (cells : List Printed)
    → length cells ≡ (product.months / every + 1) * length product.states
    → ((row : ℕ) → row * every ≡ product.months → HasDate kind product degree product.months row cells)
    → HasDatesFrom kind product every product.months degree cells
dates_at_term kind product every degree cells room now = record {
  room = room;
  written = λ row within above.
      let date : row * every ≡ product.months = omega (arith, within, above) in
      subst (λ d. HasDate kind product degree d row cells) (sym date) (now row date);
}

-- a month earlier
pub dates_more : (kind : Moment) (product : Product) (every degree later date : ℕ) (old new : List Printed)
    → 0 < every → degree ≤ later → length new ≡ length old → HasDatesFrom kind product every (date + 1) degree old
    → KeepsRowsFrom (date / every + 1) (length product.states) old new
    → ((row : ℕ) → row * every ≡ date → HasDate kind product later date row new)
    → HasDatesFrom kind product every date later new
dates_more kind product every degree later date old new some order long h kept now = record {
  room = long ∙ h.room;
  written = λ row within above. elim (eqb_tells (row * every) date) [
    | inl same ↦ subst (λ d. HasDate kind product later d row new) (sym same.1) (now row same.1)
    | inr other ↦
        let after : date < row * every = omega (arith, other.1, above) in
        date_kept kind product degree later (row * every) row (date / every) old new order
        (row_above row every date some after) kept (h.written row within (omega (arith, after)))
  ];
}

-- at issue all dates are written
pub table_for : (kind : Moment) (product : Product) (every degree : ℕ) (t : Table) → IsAnsweredDegree degree
    → t.degree ≡ degree → t.every ≡ every → t.states ≡ length product.states
    → HasDatesFrom kind product every 0 degree t.cells.items
    → IsTableIn (form_of kind) product.months (length product.states) every (exact_of kind product)
    (width_of kind product) t
table_for kind product every degree t answered is_degree is_every is_states h = record {
  degree = subst IsAnsweredDegree (sym is_degree) answered;
  every_is = is_every;
  states_is = is_states;
  count = h.room;
  ends = λ row state last inside.
      subst (λ d. HoldsAt kind product d (row * every) state (ends_at t row state)) (sym is_degree)
      (subst (λ n. HoldsAt kind product degree (row * every) state (ends_of t.cells.items (row * n + state)))
      (sym is_states) (h.written row (date_in_term row every product.months last) (omega arith) state inside));
}
  where
    date_in_term : (k step term : ℕ) → k ≤ term / step → k * step ≤ term
    date_in_term k step term few =
        let whole : k * step ≤ term / step * step = mul-le-mul few (omega arith) in
        omega (arith, div-add-mod term step, whole)
