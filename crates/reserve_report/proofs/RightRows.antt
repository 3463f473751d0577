-- Rows are right where their ends hold the numbers that they are about.
use Rattle.std.proofs.Common.{◌≡◌, ℕ, ◌+◌, ◌*◌, ◌/◌, ◌%◌, ◌^◌, ◌<◌, ◌≤◌, pos, length, refl, subst, sym}
use Rattle.std.proofs.Common.{arith, lit≤}
use Rattle.std.specs.Prelude.{slice_index_or, unsigned_abs, ⊤}
use Rattle.std.proofs.Math.Nat.{mod-lt}
use Rattle.frac_laws.specs.Fraction.{Fraction}
use Rattle.fixed_interval.specs.declared.printed.Printed.{Printed}
use Rattle.fixed_interval.specs.declared.tables.Table.{Table}
use Rattle.fixed_interval.specs.Printing.{LiesBetweenIn}
use Rattle.fixed_interval.specs.Tables.{Form, millionths, whole_units, AreEndsIn, IsTableIn, ends_at}
use Rattle.model_specs.specs.Product.{Product}
use Rattle.model_specs.specs.Payments.{payment_plan}
use Rattle.model_specs.specs.Rows.{IsBetween, tolerance, variance}
use Rattle.model_specs.specs.Runs.{reserve, value_before_issue, second_moment, probability, benefits, pattern_value}
use Rattle.report_columns.specs.declared.note.Note.{Note}
use Rattle.report_columns.specs.declared.note.What.{What}
use Rattle.report_columns.specs.declared.note.What.TheVariants as what
use Rattle.report_columns.specs.Notes.{HasEnds}
use Rattle.reserve_report.specs.Reports.{IsRight, row_of}
use Rattle.reserve_report.specs.TableRows.{row_at}
use Rattle.reserve_report.proofs.TablePlaces.{date_of_place, place_again}

-- how the ends of a row are printed
abbrev pub form_of : What → Form
form_of what.Value = millionths
form_of what.Reserve = millionths
form_of what.Occupancy = millionths
form_of what.First = millionths
form_of what.Second = whole_units
form_of what.Variance = whole_units
form_of what.Benefits = millionths
form_of what.Pattern = millionths
form_of what.Premium = millionths
form_of what.Total = millionths

-- the exact number that a row is about; of a premium, which is a quotient, this says nothing
abbrev pub exact_of : Product → What → (degree month state : ℕ) → Fraction
exact_of p what.Value = λ n month state. value_before_issue p (payment_plan p) n
exact_of p what.Reserve = reserve p (payment_plan p)
exact_of p what.Occupancy = probability p
exact_of p what.First = reserve p (payment_plan p)
exact_of p what.Second = second_moment p
exact_of p what.Variance = variance p
exact_of p what.Benefits = λ n month state. benefits p n
exact_of p what.Pattern = λ n month state. pattern_value p n
exact_of p what.Premium = λ n month state. value_before_issue p (payment_plan p) n
exact_of p what.Total = reserve p (payment_plan p)

-- a row about something else than a premium or a total
abbrev pub IsOfNumber : What → Type 0
IsOfNumber what.Value = ⊤
IsOfNumber what.Reserve = ⊤
IsOfNumber what.Occupancy = ⊤
IsOfNumber what.First = ⊤
IsOfNumber what.Second = ⊤
IsOfNumber what.Variance = ⊤
IsOfNumber what.Benefits = ⊤
IsOfNumber what.Pattern = ⊤
IsOfNumber what.Premium = ⊥
IsOfNumber what.Total = ⊥

-- a row with these ends
abbrev pub row_with : What → (month state : ℕ) → Printed → Note
row_with about month state ends =
    record { month = month; state = state; what = about; lo = ends.lo; hi = ends.hi }

between : (unit : ℕ) (ends : Printed) (x : Fraction) → LiesBetweenIn unit ends x → IsBetween ends.lo ends.hi unit x
between unit ends x lies = record { at_least = lies.at_least; at_most = lies.at_most }

-- ends that hold the exact numbers, and are no wider than the tolerance, make a right row
pub row_is_right : (p : Product) (about : What) (degree month state : ℕ) (ends : Printed) → IsOfNumber about
    → AreEndsIn (form_of about) degree (λ n. exact_of p about n month state)
    (tolerance p (row_of (row_with about month state ends))) ends → IsRight p degree (row_with about month state ends)
row_is_right p what.Value degree month state ends number are =
    record { holds = λ n from. between (10 ^ 6) ends _ (are.holds n from); narrow = are.narrow }
row_is_right p what.Reserve degree month state ends number are =
    record { holds = λ n from. between (10 ^ 6) ends _ (are.holds n from); narrow = are.narrow }
row_is_right p what.Occupancy degree month state ends number are =
    record { holds = λ n from. between (10 ^ 6) ends _ (are.holds n from); narrow = are.narrow }
row_is_right p what.First degree month state ends number are =
    record { holds = λ n from. between (10 ^ 6) ends _ (are.holds n from); narrow = are.narrow }
row_is_right p what.Second degree month state ends number are =
    record { holds = λ n from. between 1 ends _ (are.holds n from); narrow = are.narrow }
row_is_right p what.Variance degree month state ends number are =
    record { holds = λ n from. between 1 ends _ (are.holds n from); narrow = are.narrow }
row_is_right p what.Benefits degree month state ends number are =
    record { holds = λ n from. between (10 ^ 6) ends _ (are.holds n from); narrow = are.narrow }
row_is_right p what.Pattern degree month state ends number are =
    record { holds = λ n from. between (10 ^ 6) ends _ (are.holds n from); narrow = are.narrow }
row_is_right p what.Premium degree month state ends number are = absurd number
row_is_right p what.Total degree month state ends number are = absurd number

-- ends of either form can be printed by a column
pub row_has_ends : (about : What) (degree month state : ℕ) (exact : ℕ → Fraction) (width : ℕ) (ends : Printed)
    → AreEndsIn (form_of about) degree exact width ends → HasEnds (row_with about month state ends)
row_has_ends about degree month state exact width ends are = record {
  ordered = are.ordered;
  lo = below (unsigned_abs ends.lo) (form_of about).most are.small.lo (most_is about);
  hi = below (unsigned_abs ends.hi) (form_of about).most are.small.hi (most_is about);
}
  where
    most_is : (about : What) → (form_of about).most ≤ 2 ^ 120
    most_is what.Value = lit≤ tt
    most_is what.Reserve = lit≤ tt
    most_is what.Occupancy = lit≤ tt
    most_is what.First = lit≤ tt
    most_is what.Second = lit≤ tt
    most_is what.Variance = lit≤ tt
    most_is what.Benefits = lit≤ tt
    most_is what.Pattern = lit≤ tt
    most_is what.Premium = lit≤ tt
    most_is what.Total = lit≤ tt

    below : (size most : ℕ) → size ≤ most → most ≤ 2 ^ 120 → size < 2 ^ 126
    below size most small few = omega (arith, small, few)

-- ---- tables

-- the tolerance of a row of a table, by its date
abbrev pub width_at : Product → What → ℕ → ℕ
width_at p about date =
    tolerance p (row_of (record { month = date; state = 0; what = about; lo = pos 0; hi = pos 0 }))

-- a table that is about this
abbrev pub IsTableAbout : Product → What → (every degree : ℕ) → Table → Type 0
IsTableAbout p about every degree t =
    IsTableIn (form_of about) p.months (length p.states) every (exact_of p about) (width_at p about) t
    × (t.degree ≡ degree)

-- the ends at a place of a table hold the numbers of its date and state
pub ends_of_place : (p : Product) (about : What) (every degree : ℕ) (t : Table) (place : ℕ)
    → IsTableAbout p about every degree t → 0 < t.states → place < length t.cells.items
    → AreEndsIn (form_of about) degree
    (λ n. exact_of p about n (place / t.states * t.every) (place % t.states))
    (width_at p about (place / t.states * t.every))
    (slice_index_or t.cells.items place (record { lo = pos 0; hi = pos 0 }))
ends_of_place p about every degree t place table some inside =
    let k = place / t.states in
    let state = place % t.states in
    let below : place < (p.months / every + 1) * t.states = subst (λ n. place < (p.months / every + 1) * n)
    (sym table.0.states_is) (subst (λ n. place < n) table.0.count inside) in
    let date = date_of_place place (p.months / every + 1) t.states some below in
    let in_states : state < length p.states = subst (λ n. state < n) table.0.states_is (mod-lt place some) in
    let Holds : ℕ → ℕ → Printed → Type 0 = λ gap least ends.
    AreEndsIn (form_of about) least (λ n. exact_of p about n (k * gap) state) (width_at p about (k * gap)) ends in
    subst (λ at. Holds t.every degree (slice_index_or t.cells.items at (record { lo = pos 0; hi = pos 0 })))
    (place_again place t.states)
    (subst (λ least. Holds t.every least (ends_at t k state)) table.1
    (subst (λ gap. Holds gap t.degree (ends_at t k state)) (sym table.0.every_is)
    (table.0.ends k state (omega (arith, date)) in_states)))

width_is : (p : Product) (about : What) (month state : ℕ) (ends : Printed) → IsOfNumber about
    → width_at p about month ≡ tolerance p (row_of (row_with about month state ends))
width_is p what.Value month state ends number = refl
width_is p what.Reserve month state ends number = refl
width_is p what.Occupancy month state ends number = refl
width_is p what.First month state ends number = refl
width_is p what.Second month state ends number = refl
width_is p what.Variance month state ends number = refl
width_is p what.Benefits month state ends number = refl
width_is p what.Pattern month state ends number = refl
width_is p what.Premium month state ends number = absurd number
width_is p what.Total month state ends number = absurd number

-- the row at a place of a table is right
pub place_is_right : (p : Product) (about : What) (every degree : ℕ) (t : Table) (place : ℕ) → IsOfNumber about
    → IsTableAbout p about every degree t → 0 < t.states → place < length t.cells.items
    → IsRight p degree (row_at about t place)
place_is_right p about every degree t place number table some inside =
    let month = place / t.states * t.every in
    let state = place % t.states in
    let ends : Printed = slice_index_or t.cells.items place (record { lo = pos 0; hi = pos 0 }) in
    row_is_right p about degree month state ends number
    (subst (λ width. AreEndsIn (form_of about) degree (λ n. exact_of p about n month state) width ends)
    (width_is p about month state ends number) (ends_of_place p about every degree t place table some inside))

pub place_has_ends : (p : Product) (about : What) (every degree : ℕ) (t : Table) (place : ℕ)
    → IsTableAbout p about every degree t → 0 < t.states → place < length t.cells.items
    → HasEnds (row_at about t place)
place_has_ends p about every degree t place table some inside =
    row_has_ends about degree (place / t.states * t.every) (place % t.states) _ _ _
    (ends_of_place p about every degree t place table some inside)
