-- The rows of a table of reserves, as a sweep goes back over its dates.
use Rattle.std.proofs.Common.{◌≡◌, ℕ, ◌+◌, ◌*◌, ◌/◌, ◌%◌, ◌^◌, ◌<◌, ◌≤◌, ℤ, pos, ◌+ℤ◌, ◌≤ℤ◌, List, length}
use Rattle.std.proofs.Common.{[], ◌∷◌, refl, ap, sym, subst, ◌∙◌, inl, inr, arith, set, below_more}
use Rattle.std.proofs.Common.{get_or-set_same, get_or-set_other}
use Rattle.std.proofs.lemmas.Int.{ints}
use Rattle.std.proofs.lemmas.Bool.Decides.{eqb_tells}
use Rattle.std.proofs.lemmas.Nat.{div-mul-add, mod-mul-add}
use Rattle.std.proofs.Math.Nat.{div-add-mod, div-lt_iff_lt-mul, mul-le-mul}
use Rattle.frac_laws.specs.Fraction.{Fraction, over, size, ◌+ℚ◌, ◌-ℚ◌, ◌≤ℚ◌}
use Rattle.frac_laws.specs.Ledger.{tolerance_first}
use Rattle.frac_laws.proofs.Linear.{linear, claims, ◌⊞◌}
use Rattle.frac_laws.proofs.Quotients.{over_add, over_sub}
use Rattle.frac_laws.proofs.Sizes.{le_size, opposite_le_size}
use Rattle.fixed_interval.specs.declared.interval.Interval.{Interval}
use Rattle.fixed_interval.specs.declared.printed.Printed.{Printed}
use Rattle.fixed_interval.specs.Intervals.{LiesIn, LiesInside}
use Rattle.fixed_interval.specs.Printing.{LiesBetween, AreSmallEnds, printed_width}
use Rattle.fixed_interval.specs.declared.tables.Table.{Table}
use Rattle.fixed_interval.specs.Tables.{AreEndsFor, IsAnsweredDegree, ends_at}
use Rattle.fixed_interval.proofs.Enclosing.{inside_lies_in}
use Rattle.model_specs.specs.Product.{Product}
use Rattle.thiele_backward.specs.Dates.{IsReserveAt, HasDate, KeepsRowsFrom, ends_of}
use Rattle.thiele_backward.specs.Results.{AreReserves, HoldAround}
use Rattle.thiele_backward.specs.Sweeps.{BackwardSweep}

-- the printed ends of an interval that holds numbers and is no wider than twice a radius
pub ends_for : (degree spare radius g : ℕ) (exact : ℕ → Fraction) (i : Interval) (ends : Printed)
    → ((n : ℕ) → degree ≤ n → LiesInside spare (exact n) i) → i.hi ≡ i.lo +ℤ pos (2 * radius * 2 ^ g)
    → ends.lo ≤ℤ ends.hi → AreSmallEnds ends → ((x : Fraction) → LiesIn x i → LiesBetween ends x)
    → ((width : ℕ) → i.hi ≤ℤ (i.lo +ℤ pos width) → ends.hi ≤ℤ (ends.lo +ℤ pos (printed_width width)))
    → AreEndsFor degree exact (tolerance_first radius g) ends
ends_for degree spare radius g exact i ends held width ordered small encloses narrow = record {
  holds = λ n from. encloses (exact n) (inside_lies_in spare (exact n) i (held n from));
  ordered = ordered;
  narrow = one_more ends.lo ends.hi _ (narrow (2 * radius * 2 ^ g) (le_of_equal i.hi _ width));
  small = small;
}
  where
    le_of_equal : (a b : ℤ) → a ≡ b → a ≤ℤ b
    le_of_equal a b e = omega (arith, ints)

    one_more : (lo hi : ℤ) (n : ℕ) → hi ≤ℤ (lo +ℤ pos (n + 1)) → hi ≤ℤ (lo +ℤ pos (n + 2))
    one_more lo hi n h = omega (arith, ints)

-- what is within some units of a number that lies as many units inside an interval
pub around_for : (degree spare : ℕ) (exact : ℕ → Fraction) (i : Interval) (ends : Printed)
    → ((n : ℕ) → degree ≤ n → LiesInside spare (exact n) i) → ((x : Fraction) → LiesIn x i → LiesBetween ends x)
    → HoldAround degree exact (over (pos spare) (2 ^ 64)) ends
around_for degree spare exact i ends held encloses n x from near = encloses x (record {
  at_least = below (over i.lo (2 ^ 64)) (over (pos spare) (2 ^ 64)) (exact n) x
      (rw (over_add i.lo (pos spare) (2 ^ 64)) at (held n from).at_least) near;
  at_most = above (over i.hi (2 ^ 64)) (over (pos spare) (2 ^ 64)) (exact n) x
      (rw (over_sub i.hi (pos spare) (2 ^ 64)) at (held n from).at_most) near;
})
  where
    below : (lo s v x : Fraction) → lo +ℚ s ≤ℚ v → size (x -ℚ v) ≤ℚ s → lo ≤ℚ x
    below lo s v x inside near = linear (lo ∷ s ∷ v ∷ x ∷ size (x -ℚ v) ∷ [])
        (inside ⊞ near ⊞ opposite_le_size (x -ℚ v)) (hlevel claims) refl

    above : (hi s v x : Fraction) → v ≤ℚ hi -ℚ s → size (x -ℚ v) ≤ℚ s → x ≤ℚ hi
    above hi s v x inside near = linear (hi ∷ s ∷ v ∷ x ∷ size (x -ℚ v) ∷ [])
        (inside ⊞ near ⊞ le_size (x -ℚ v)) (hlevel claims) refl

-- ends that hold from one degree on hold from a greater one on
pub ends_from : (degree later width : ℕ) (exact : ℕ → Fraction) (ends : Printed) → degree ≤ later
    → AreEndsFor degree exact width ends → AreEndsFor later exact width ends
ends_from degree later width exact ends order h = record {
  holds = λ n from. h.holds n (omega (arith, order, from));
  ordered = h.ordered;
  narrow = h.narrow;
  small = h.small;
}

reserve_from : (product : Product) (degree later date state : ℕ) (ends : Printed) → degree ≤ later
    → IsReserveAt product degree date state ends → IsReserveAt product later date state ends
reserve_from product degree later date state ends order h = record {
  holds = ends_from degree later _ _ ends order h.holds;
  around = λ n x from near. h.around n x (omega (arith, order, from)) near;
}

-- a row that was written, with the row of an earlier date
pub date_kept : (product : Product) (degree later date row written : ℕ) (old new : List Printed) → degree ≤ later
    → written + 1 ≤ row → KeepsRowsFrom (written + 1) (length product.states) old new
    → HasDate product degree date row old → HasDate product later date row new
date_kept product degree later date row written old new order above kept has state inside =
    let place = row * length product.states + state in
    let whole : (written + 1) * length product.states ≤ row * length product.states =
    mul-le-mul above (omega arith) in
    let same = kept place (omega (arith, whole)) in
    subst (λ found. IsReserveAt product later date state found) (sym same)
    (reserve_from product degree later date state (ends_of old place) order (has state inside))

-- ---- one state more of a row

pub state_written : (product : Product) (degree date row states state : ℕ) (old new : List Printed) (ends : Printed)
    → new ≡ set old (row * states + state) ends → row * states + state < length old
    → IsReserveAt product degree date state ends
    → ((j : ℕ) → j < state → IsReserveAt product degree date j (ends_of old (row * states + j)))
    → (j : ℕ) → j < state + 1 → IsReserveAt product degree date j (ends_of new (row * states + j))
state_written product degree date row states state old new ends is inside right so_far =
    below_more _ _
    (λ j below. subst (λ found. IsReserveAt product degree date j found)
    (sym (ap (λ cells. ends_of cells (row * states + j)) is
    ∙ get_or-set_other old (row * states + state) (row * states + j) ends (record { lo = pos 0; hi = pos 0 })
    (λ e. omega (arith, e, below))))
    (so_far j below))
    (subst (λ found. IsReserveAt product degree date state found)
    (sym (ap (λ cells. ends_of cells (row * states + state)) is
    ∙ get_or-set_same old (row * states + state) ends (record { lo = pos 0; hi = pos 0 }) inside)) right)

pub row_kept : (row states state : ℕ) (first old new : List Printed) (ends : Printed)
    → new ≡ set old (row * states + state) ends → state < states → KeepsRowsFrom (row + 1) states first old
    → KeepsRowsFrom (row + 1) states first new
row_kept row states state first old new ends is few kept place above =
    ap (λ cells. ends_of cells place) is
    ∙ get_or-set_other old (row * states + state) place ends (record { lo = pos 0; hi = pos 0 })
    (λ e. omega (arith, e, above, few)) ∙ kept place above

-- ---- the row of a date

-- the row whose date it is
pub row_of_date : (row every date : ℕ) → 0 < every → row * every ≡ date → date / every ≡ row
row_of_date row every date some is =
    ap (λ n. n / every) (sym is ∙ sym (plus_none (row * every))) ∙ div-mul-add row every 0 some
  where
    plus_none : (n : ℕ) → n + 0 ≡ n
    plus_none n = omega arith

pub no_rest : (row every date : ℕ) → 0 < every → row * every ≡ date → date % every ≡ 0
no_rest row every date some is =
    ap (λ n. n % every) (sym is ∙ sym (plus_none (row * every))) ∙ mod-mul-add row every 0 some
  where
    plus_none : (n : ℕ) → n + 0 ≡ n
    plus_none n = omega arith

-- a later date has a later row
pub row_above : (row every date : ℕ) → 0 < every → date < row * every → date / every + 1 ≤ row
row_above row every date some later =
    let below : date / every < row = (div-lt_iff_lt-mul some).1 later in
    omega arith

-- ---- the dates that a sweep has gone back over

-- a table has room for all dates, and the dates from one on are written
pub record HasDatesFrom (product : Product) (every left degree : ℕ) (cells : List Printed) : Type 0 where
  pub room : length cells ≡ (product.months / every + 1) * length product.states
  pub written : (row : ℕ) → row * every ≤ product.months → left ≤ row * every
      → HasDate product degree (row * every) row cells

-- what a sweep wrote, as the table's row of this date
row_written : (product : Product) (every degree row : ℕ) (s : BackwardSweep) (cells : List Printed)
    → s.product ≡ product → s.degree ≡ degree → row * every ≡ s.months_left
    → HasDate s.product s.degree s.months_left row cells → HasDate product degree (row * every) row cells
row_written product every degree row s cells same_product same_degree same_date has =
    subst (λ p. HasDate p degree (row * every) row cells) same_product
    (subst (λ d. HasDate s.product d (row * every) row cells) same_degree
    (subst (λ date. HasDate s.product s.degree date row cells) (sym same_date) has))

-- at the term
pub dates_at_term : (product : Product) (every degree : ℕ) (s : BackwardSweep) (cells : List Printed)
    → s.product ≡ product → s.degree ≡ degree → s.months_left ≡ product.months
    → length cells ≡ (product.months / every + 1) * length product.states
    → ((row : ℕ) → row * every ≡ s.months_left → HasDate s.product s.degree s.months_left row cells)
    → HasDatesFrom product every s.months_left degree cells
dates_at_term product every degree s cells same_product same_degree term room now = record {
  room = room;
  written = λ row within above.
      let date : row * every ≡ s.months_left = omega (arith, term, within, above) in
      row_written product every degree row s cells same_product same_degree date (now row date);
}

-- a month earlier
pub dates_more : (product : Product) (every degree later : ℕ) (s : BackwardSweep) (old new : List Printed)
    → 0 < every → degree ≤ later → s.product ≡ product → s.degree ≡ later → length new ≡ length old
    → HasDatesFrom product every (s.months_left + 1) degree old
    → KeepsRowsFrom (s.months_left / every + 1) (length product.states) old new
    → ((row : ℕ) → row * every ≡ s.months_left → HasDate s.product s.degree s.months_left row new)
    → HasDatesFrom product every s.months_left later new
dates_more product every degree later s old new some order same_product same_degree long h kept now = record {
  room = long ∙ h.room;
  written = λ row within above. elim (eqb_tells (row * every) s.months_left) [
    | inl same ↦ row_written product every later row s new same_product same_degree same.1 (now row same.1)
    | inr other ↦
        let after : s.months_left < row * every = omega (arith, other.1, above) in
        date_kept product degree later (row * every) row (s.months_left / every) old new order
        (row_above row every s.months_left some after) kept (h.written row within (omega (arith, after)))
  ];
}

-- at issue all dates are written
pub entry_for : (product : Product) (every degree : ℕ) (t : Table) (row state : ℕ) → t.degree ≡ degree
    → t.states ≡ length product.states → HasDatesFrom product every 0 degree t.cells.items
    → row ≤ product.months / every → state < length product.states
    → IsReserveAt product t.degree (row * every) state (ends_at t row state)
entry_for product every degree t row state is_degree is_states h last inside =
    subst (λ d. IsReserveAt product d (row * every) state (ends_at t row state)) (sym is_degree)
    (subst (λ n. IsReserveAt product degree (row * every) state (ends_of t.cells.items (row * n + state)))
    (sym is_states) (h.written row (date_in_term row every product.months last) (omega arith) state inside))
  where
    date_in_term : (k step term : ℕ) → k ≤ term / step → k * step ≤ term
    date_in_term k step term few =
        let whole : k * step ≤ term / step * step = mul-le-mul few (omega arith) in
        omega (arith, div-add-mod term step, whole)

pub table_for : (product : Product) (every degree : ℕ) (t : Table) → 0 < every → IsAnsweredDegree degree
    → t.degree ≡ degree → t.every ≡ every → t.states ≡ length product.states
    → HasDatesFrom product every 0 degree t.cells.items → AreReserves product every t
table_for product every degree t some answered is_degree is_every is_states h = record {
  degree = subst IsAnsweredDegree (sym is_degree) answered;
  every_is = is_every;
  states_is = is_states;
  count = h.room;
  ends = λ row state last inside.
      (entry_for product every degree t row state is_degree is_states h last inside).holds;
}

-- there is room for the row of a date
pub room_for : (date term every states count long : ℕ) → 0 < every → states ≡ count → date ≤ term
    → long ≡ (term / every + 1) * count → (date / every + 1) * states ≤ long
room_for date term every states count long some same order is =
    let last : term < (term / every + 1) * every = (div-lt_iff_lt-mul some).0 (omega arith) in
    let before : date / every < term / every + 1 = (div-lt_iff_lt-mul some).1 (omega (arith, last, order)) in
    let rows : date / every + 1 ≤ term / every + 1 = omega (arith, before) in
    let whole : (date / every + 1) * count ≤ (term / every + 1) * count = mul-le-mul rows (omega arith) in
    rw (same, is) whole
