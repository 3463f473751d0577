-- How tables are laid out, and what all of their rows have.
use Rattle.std.proofs.Common.{◌≡◌, ℕ, zero, suc, ◌+◌, ◌*◌, ◌/◌, ◌%◌, ◌<◌, length, refl, subst, sym, ap, ◌∙◌, arith}
use Rattle.std.specs.Prelude.{All}
use Rattle.std.proofs.Math.Nat.{mod-lt}
use Rattle.fixed_interval.specs.declared.tables.Table.{Table}
use Rattle.fixed_interval.specs.declared.tables.MomentTable.{MomentTable}
use Rattle.model_specs.specs.Product.{Product}
use Rattle.model_specs.specs.RecordRules.{IsWellFormed}
use Rattle.whole_laws.specs.Whole.{list_of}
use Rattle.whole_laws.proofs.ListsByPlace.{All-list_of}
use Rattle.report_columns.specs.declared.note.Note.{Note}
use Rattle.report_columns.specs.declared.note.What.{What}
use Rattle.report_columns.specs.Notes.{HasEnds}
use Rattle.reserve_report.specs.declared.report.Kind.{Kind}
use Rattle.reserve_report.specs.declared.report.Kind.TheVariants as kind
use Rattle.reserve_report.specs.Reports.{IsRight, what_in, moment_of}
use Rattle.reserve_report.specs.Results.{IsTableOf, AreMomentsOf}
use Rattle.reserve_report.specs.TableRows.{IsInTerm, row_at, table_of, moment_row_at}
use Rattle.reserve_report.proofs.RightRows.{IsOfNumber, IsTableAbout, place_is_right, place_has_ends}
use Rattle.reserve_report.proofs.TablePlaces.{date_of_place, date_in_term}

-- a table of some months of a product's states, about this
pub record HasRows (p : Product) (about : What) (every degree : ℕ) (t : Table) : Type 0 where
  pub number : IsOfNumber about
  pub table : IsTableAbout p about every degree t
  pub some : 0 < t.states

-- of a kind of report that has one table
pub rows_of_kind : (p : Product) (of : Kind) (t : Table) → IsWellFormed p → IsTableOf p of t
    → HasRows p (what_in of) t.every t.degree t
rows_of_kind p kind.Value t formed table = absurd table
rows_of_kind p kind.Reserves t formed table = record {
  number = tt;
  table = (table, refl);
  some = omega (arith, table.states_is, formed.names.some_state);
}
rows_of_kind p kind.Occupancy t formed table = record {
  number = tt;
  table = (table, refl);
  some = omega (arith, table.states_is, formed.names.some_state);
}
rows_of_kind p kind.Moments t formed table = absurd table
rows_of_kind p kind.Premium t formed table = absurd table

-- how many places there are
pub count_of : (p : Product) (about : What) (every degree : ℕ) (t : Table) → HasRows p about every degree t
    → length t.cells.items ≡ (p.months / t.every + 1) * t.states
count_of p about every degree t rows =
    rows.table.0.count ∙ ap (λ n. (p.months / every + 1) * n) (sym rows.table.0.states_is)
    ∙ ap (λ gap. (p.months / gap + 1) * t.states) (sym rows.table.0.every_is)

pub row_in_term : (p : Product) (about : What) (every degree : ℕ) (t : Table) (place : ℕ)
    → HasRows p about every degree t → place < length t.cells.items → IsInTerm p (row_at about t place)
row_in_term p about every degree t place rows inside =
    date_in_term (place / t.states) t.every p.months
    (date_of_place place (p.months / t.every + 1) t.states rows.some
    (subst (λ n. place < n) (count_of p about every degree t rows) inside))

pub row_in_states : (p : Product) (about : What) (every degree : ℕ) (t : Table) (place : ℕ)
    → HasRows p about every degree t → (row_at about t place).state < length p.states
row_in_states p about every degree t place rows =
    subst (λ n. place % t.states < n) rows.table.0.states_is (mod-lt place rows.some)

-- what a report needs of each row
pub record IsSound (p : Product) (degree : ℕ) (row : Note) : Type 0 where
  pub right : IsRight p degree row
  pub in_term : IsInTerm p row
  pub in_states : row.state < length p.states
  pub ends : HasEnds row

pub row_is_sound : (p : Product) (about : What) (every degree : ℕ) (t : Table) (place : ℕ)
    → HasRows p about every degree t → place < length t.cells.items → IsSound p degree (row_at about t place)
row_is_sound p about every degree t place rows inside = record {
  right = place_is_right p about every degree t place rows.number rows.table rows.some inside;
  in_term = row_in_term p about every degree t place rows inside;
  in_states = row_in_states p about every degree t place rows;
  ends = place_has_ends p about every degree t place rows.table rows.some inside;
}

pub rows_are_sound : (p : Product) (about : What) (every degree : ℕ) (t : Table) → HasRows p about every degree t
    → All (IsSound p degree) (list_of (length t.cells.items) (row_at about t))
rows_are_sound p about every degree t rows =
    All-list_of (IsSound p degree) (length t.cells.items) (row_at about t)
    (λ place inside. row_is_sound p about every degree t place rows inside)

-- ---- moments

-- the three tables of moments
pub record HaveMomentRows (p : Product) (t : MomentTable) : Type 0 where
  pub tables : (k : ℕ) → HasRows p (moment_of k) t.first.every t.first.degree (table_of t k)
  pub counts : (k : ℕ) → length (table_of t k).cells.items ≡ length t.first.cells.items

pub moment_rows_of : (p : Product) (t : MomentTable) → IsWellFormed p → AreMomentsOf p t → HaveMomentRows p t
moment_rows_of p t formed moments = record { tables = tables; counts = counts }
  where
    tables : (k : ℕ) → HasRows p (moment_of k) t.first.every t.first.degree (table_of t k)
    tables zero = record {
      number = tt;
      table = (moments.first, refl);
      some = omega (arith, moments.first.states_is, formed.names.some_state);
    }
    tables (suc zero) = record {
      number = tt;
      table = (moments.second, moments.second_degree);
      some = omega (arith, moments.second.states_is, formed.names.some_state);
    }
    tables (suc (suc k)) = record {
      number = tt;
      table = (moments.variance, moments.variance_degree);
      some = omega (arith, moments.variance.states_is, formed.names.some_state);
    }

    counts : (k : ℕ) → length (table_of t k).cells.items ≡ length t.first.cells.items
    counts zero = refl
    counts (suc zero) = moments.second.count ∙ sym moments.first.count
    counts (suc (suc k)) = moments.variance.count ∙ sym moments.first.count

-- a place among three rows a place is within the places
third_inside : (place count : ℕ) → place < 3 * count → place / 3 < count
third_inside place count inside = omega (arith, inside)

pub moment_rows_are_sound : (p : Product) (t : MomentTable) → HaveMomentRows p t
    → All (IsSound p t.first.degree) (list_of (3 * length t.first.cells.items) (moment_row_at t))
moment_rows_are_sound p t rows =
    All-list_of (IsSound p t.first.degree) (3 * length t.first.cells.items) (moment_row_at t)
    (λ place inside. row_is_sound p (moment_of (place % 3)) t.first.every t.first.degree (table_of t (place % 3))
    (place / 3)
    (rows.tables (place % 3))
    (subst (λ n. place / 3 < n) (sym (rows.counts (place % 3)))
    (third_inside place (length t.first.cells.items) inside)))
