-- The reports of results have the rows that are asked for, and these are right.
use Rattle.std.proofs.Common.{◌≡◌, ℕ, ◌+◌, ◌*◌, ◌/◌, ◌%◌, ◌^◌, ◌<◌, ◌≤◌, ℤ, pos, ◌+ℤ◌, ◌-ℤ◌, ◌≤ℤ◌, List, [], ◌∷◌}
use Rattle.std.proofs.Common.{length, map, ap, sym, subst, ◌∙◌, arith}
use mathlib.Core.Path.{fun_ext}
use Rattle.std.proofs.lemmas.List.{length-map}
use Rattle.std.specs.Prelude.{All, slice_index_or}
use Rattle.std.proofs.lemmas.Int.{ints}
use Rattle.std.proofs.lemmas.List.Elements.{All-nil, All-cons}
use Rattle.frac_laws.specs.Fraction.{Fraction}
use Rattle.fixed_interval.specs.declared.printed.Printed.{Printed}
use Rattle.fixed_interval.specs.declared.tables.Table.{Table}
use Rattle.fixed_interval.specs.declared.tables.Valued.{Valued}
use Rattle.fixed_interval.specs.declared.tables.MomentTable.{MomentTable}
use Rattle.fixed_interval.specs.declared.tables.PremiumTable.{PremiumTable}
use Rattle.fixed_interval.specs.Intervals.{LiesIn}
use Rattle.fixed_interval.specs.Printing.{LiesBetween, AreSmallEnds, printed_width}
use Rattle.fixed_interval.specs.Tables.{AreEndsFor, AreEndsIn, IsAnsweredDegree}
use Rattle.frac_laws.specs.Ledger.{tolerance_first}
use Rattle.model_specs.specs.Product.{Product}
use Rattle.model_specs.specs.Payments.{payment_plan}
use Rattle.model_specs.specs.Ledgers.{radius, scale}
use Rattle.model_specs.specs.Rows.{tolerance}
use Rattle.model_specs.specs.Runs.{value_before_issue}
use Rattle.model_specs.specs.RecordRules.{IsWellFormed}
use Rattle.whole_laws.specs.Whole.{list_of, natural_part}
use Rattle.whole_laws.proofs.ListsByPlace.{map-list_of}
use Rattle.report_columns.specs.declared.note.Note.{Note}
use Rattle.report_columns.specs.declared.note.What.{What}
use Rattle.report_columns.specs.declared.note.What.TheVariants as what
use Rattle.report_columns.specs.Notes.{HasEnds}
use Rattle.reserve_report.specs.declared.report.Kind.{Kind}
use Rattle.reserve_report.specs.declared.report.Kind.TheVariants as kind
use Rattle.reserve_report.specs.declared.report.Report.{Report}
use Rattle.reserve_report.specs.Reports.{IsRight, IsReport, HasText, row_of, subject_of, subject_at, moment_at}
use Rattle.reserve_report.specs.Reports.{moment_of}
use Rattle.reserve_report.specs.Reports.{asked, scale_in, what_in, places_of}
use Rattle.reserve_report.specs.Results.{IsValueOf, IsTableOf, AreMomentsOf, IsPremiumOf, TellsPremium}
use Rattle.reserve_report.specs.TableRows.{IsInTerm, issue_row_of, row_at, table_of, moment_row_at}
use Rattle.reserve_report.proofs.RightRows.{IsOfNumber, form_of, exact_of, row_is_right, row_has_ends}
use Rattle.reserve_report.proofs.Shapes.{IsSound, HaveMomentRows}

-- ---- parts of what all rows have

pub all_right : (p : Product) (degree : ℕ) (rows : List Note) → All (IsSound p degree) rows
    → All (IsRight p degree) rows
all_right p degree rows sound = λ k d inside. (sound k d inside).right

pub all_in_term : (p : Product) (degree : ℕ) (rows : List Note) → All (IsSound p degree) rows → All (IsInTerm p) rows
all_in_term p degree rows sound = λ k d inside. (sound k d inside).in_term

pub all_in_states : (p : Product) (degree : ℕ) (rows : List Note) → All (IsSound p degree) rows
    → All (λ row. row.state < length p.states) rows
all_in_states p degree rows sound = λ k d inside. (sound k d inside).in_states

pub all_have_ends : (p : Product) (degree : ℕ) (rows : List Note) → All (IsSound p degree) rows → All HasEnds rows
all_have_ends p degree rows sound = λ k d inside. (sound k d inside).ends

-- a report whose rows are all sound has a text
pub has_text : (p : Product) (degree : ℕ) (r : Report) → All (IsSound p degree) r.rows.items
    → r.tolerance.items ≡ map (λ row. tolerance p (row_of row)) r.rows.items → HasText p r
has_text p degree r sound tolerances = record {
  same = sym (ap length tolerances ∙ length-map r.rows.items (λ row. tolerance p (row_of row)));
  states = all_in_states p degree r.rows.items sound;
  ends = all_have_ends p degree r.rows.items sound;
}

-- ---- tables

rows_are_asked : (p : Product) (of : Kind) (t : Table) → IsTableOf p of t
    → list_of (length t.cells.items) (subject_at t.states t.every (what_in of)) ≡ asked p t.every of
rows_are_asked p kind.Value t table = absurd table
rows_are_asked p kind.Reserves t table =
    ap (λ n. list_of n (subject_at t.states t.every what.Reserve)) table.count
    ∙ ap (λ states. list_of (places_of p t.every) (subject_at states t.every what.Reserve)) table.states_is
rows_are_asked p kind.Occupancy t table =
    ap (λ n. list_of n (subject_at t.states t.every what.Occupancy)) table.count
    ∙ ap (λ states. list_of (places_of p t.every) (subject_at states t.every what.Occupancy)) table.states_is
rows_are_asked p kind.Moments t table = absurd table
rows_are_asked p kind.Premium t table = absurd table

degree_of : (p : Product) (of : Kind) (t : Table) → IsTableOf p of t → IsAnsweredDegree t.degree
degree_of p kind.Value t table = absurd table
degree_of p kind.Reserves t table = table.degree
degree_of p kind.Occupancy t table = table.degree
degree_of p kind.Moments t table = absurd table
degree_of p kind.Premium t table = absurd table

pub report_of_table : (p : Product) (r : Report) (of : Kind) (t : Table) → IsTableOf p of t
    → r.kind ≡ of → r.degree ≡ t.degree → r.scale ≡ scale_in p of
    → r.rows.items ≡ list_of (length t.cells.items) (row_at (what_in of) t)
    → r.tolerance.items ≡ map (λ each. tolerance p (row_of each)) r.rows.items
    → All (IsSound p t.degree) (list_of (length t.cells.items) (row_at (what_in of) t)) → IsReport p of t.every r
report_of_table p r of t table kind_is degree scale_is rows tolerances sound = record {
  kind_is = kind_is;
  degree = subst IsAnsweredDegree (sym degree) (degree_of p of t table);
  scale = scale_is;
  rows = ap (map subject_of) rows ∙ map-list_of subject_of (length t.cells.items) (row_at (what_in of) t)
      ∙ rows_are_asked p of t table;
  tolerances = tolerances;
  right = subst (λ n. All (IsRight p n) r.rows.items) (sym degree)
      (subst (All (IsRight p t.degree)) (sym rows) (all_right p t.degree _ sound));
}

-- ---- moments

moment_subject : (p : Product) (t : MomentTable) → HaveMomentRows p t → (k : ℕ)
    → subject_of (moment_row_at t k) ≡ moment_at (length p.states) t.first.every k
moment_subject p t have k =
    let rows = have.tables (k % 3) in
    ap (λ states. subject_at states (table_of t (k % 3)).every (moment_of (k % 3)) (k / 3)) rows.table.0.states_is
    ∙ ap (λ every. subject_at (length p.states) every (moment_of (k % 3)) (k / 3)) rows.table.0.every_is

pub report_of_moments : (p : Product) (r : Report) (t : MomentTable) → AreMomentsOf p t → HaveMomentRows p t
    → r.kind ≡ kind.Moments → r.degree ≡ t.first.degree → r.scale ≡ scale_in p kind.Moments
    → r.rows.items ≡ list_of (3 * length t.first.cells.items) (moment_row_at t)
    → r.tolerance.items ≡ map (λ each. tolerance p (row_of each)) r.rows.items
    → All (IsSound p t.first.degree) (list_of (3 * length t.first.cells.items) (moment_row_at t))
    → IsReport p kind.Moments t.first.every r
report_of_moments p r t moments have kind_is degree scale_is rows tolerances sound = record {
  kind_is = kind_is;
  degree = subst IsAnsweredDegree (sym degree) moments.first.degree;
  scale = scale_is;
  rows = ap (map subject_of) rows ∙ map-list_of subject_of (3 * length t.first.cells.items) (moment_row_at t)
      ∙ ap (λ f. list_of (3 * length t.first.cells.items) f) (fun_ext (moment_subject p t have))
      ∙ ap (λ n. list_of (3 * n) (moment_at (length p.states) t.first.every)) moments.first.count;
  tolerances = tolerances;
  right = subst (λ n. All (IsRight p n) r.rows.items) (sym degree)
      (subst (All (IsRight p t.first.degree)) (sym rows) (all_right p t.first.degree _ sound));
}

-- ---- rows at issue

pub issue_row_is_sound : (p : Product) (about : What) (degree : ℕ) (ends : Printed) → IsWellFormed p
    → IsOfNumber about → AreEndsIn (form_of about) degree (λ n. exact_of p about n 0 p.start)
    (tolerance p (row_of (issue_row_of p about ends))) ends → IsSound p degree (issue_row_of p about ends)
issue_row_is_sound p about degree ends formed number are = record {
  right = row_is_right p about degree 0 p.start ends number are;
  in_term = omega arith;
  in_states = formed.head.start;
  ends = row_has_ends about degree 0 p.start _ _ ends are;
}

-- the printed ends of a value hold it, and lie no further apart than its tolerance
pub ends_of_value : (p : Product) (v : Valued) (ends : Printed) → IsValueOf p v
    → ((x : Fraction) → LiesIn x v.interval → LiesBetween ends x)
    → ((width : ℕ) → v.interval.hi ≤ℤ (v.interval.lo +ℤ pos width) → ends.hi ≤ℤ (ends.lo +ℤ pos (printed_width width)))
    → ends.lo ≤ℤ ends.hi → AreSmallEnds ends
    → AreEndsFor v.degree (value_before_issue p (payment_plan p))
    (tolerance_first (radius p 0) (scale p (payment_plan p))) ends
ends_of_value p v ends value encloses narrow ordered small = record {
  holds = λ n from. encloses (value_before_issue p (payment_plan p) n) (value.holds n from);
  ordered = ordered;
  narrow = one_more ends.lo ends.hi _ (narrow (2 * radius p 0 * 2 ^ scale p (payment_plan p)) value.narrow);
  small = small;
}
  where
    one_more : (lo hi : ℤ) (n : ℕ) → hi ≤ℤ (lo +ℤ pos (n + 1)) → hi ≤ℤ (lo +ℤ pos (n + 2))
    one_more lo hi n h = omega (arith, ints)

-- the row of a premium is as wide as its tolerance
pub premium_row_is_sound : (p : Product) (t : PremiumTable) → IsWellFormed p → IsPremiumOf p t
    → IsSound p t.degree (issue_row_of p what.Premium t.premium)
premium_row_is_sound p t formed premium = record {
  right = record {
    holds = premium.premium.holds;
    narrow = own_width t.premium.lo t.premium.hi
        premium.premium.ordered;
  };
  in_term = omega arith;
  in_states = formed.head.start;
  ends = record {
    ordered = premium.premium.ordered;
    lo = below _ premium.premium.small.lo;
    hi = below _ premium.premium.small.hi;
  };
}
  where
    own_width : (lo hi : ℤ) → lo ≤ℤ hi → hi ≤ℤ (lo +ℤ pos (natural_part (hi -ℤ lo)))
    own_width lo hi ordered = omega (arith, ints)

    below : (size : ℕ) → size ≤ 2 ^ 100 → size < 2 ^ 126
    below size few = omega (arith, few)

-- one row, and its report
pub report_of_value : (p : Product) (r : Report) (v : Valued) (ends : Printed) → r.kind ≡ kind.Value
    → r.degree ≡ v.degree → r.scale ≡ scale_in p kind.Value → r.rows.items ≡ issue_row_of p what.Value ends ∷ []
    → r.tolerance.items ≡ map (λ each. tolerance p (row_of each)) r.rows.items → IsValueOf p v
    → All (IsSound p v.degree) r.rows.items → IsReport p kind.Value 1 r
report_of_value p r v ends kind_is degree scale_is rows tolerances value sound = record {
  kind_is = kind_is;
  degree = subst IsAnsweredDegree (sym degree) value.degree;
  scale = scale_is;
  rows = ap (map subject_of) rows;
  tolerances = tolerances;
  right = subst (λ n. All (IsRight p n) r.rows.items) (sym degree) (all_right p v.degree _ sound);
}

-- the three rows of a premium
abbrev pub three_issue_rows : Product → PremiumTable → List Note
three_issue_rows p t = issue_row_of p what.Benefits t.benefits ∷ issue_row_of p what.Pattern t.pattern
    ∷ issue_row_of p what.Premium t.premium ∷ []

pub premium_rows_are_sound : (p : Product) (t : PremiumTable) → IsWellFormed p → IsPremiumOf p t
    → All (IsSound p t.degree) (three_issue_rows p t)
premium_rows_are_sound p t formed premium =
    let benefits = issue_row_of p what.Benefits t.benefits in
    let pattern = issue_row_of p what.Pattern t.pattern in
    let own = issue_row_of p what.Premium t.premium in
    All-cons (IsSound p t.degree) benefits (pattern ∷ own ∷ [])
    (issue_row_is_sound p what.Benefits t.degree t.benefits formed tt premium.benefits)
    (All-cons (IsSound p t.degree) pattern (own ∷ [])
    (issue_row_is_sound p what.Pattern t.degree t.pattern formed tt premium.pattern)
    (All-cons (IsSound p t.degree) own [] (premium_row_is_sound p t formed premium) (All-nil (IsSound p t.degree))))

pub report_of_premium : (p : Product) (r : Report) (t : PremiumTable) → r.kind ≡ kind.Premium
    → r.degree ≡ t.degree → r.scale ≡ scale_in p kind.Premium → r.rows.items ≡ three_issue_rows p t
    → r.tolerance.items ≡ map (λ each. tolerance p (row_of each)) r.rows.items → IsPremiumOf p t
    → All (IsSound p t.degree) r.rows.items → IsReport p kind.Premium 1 r
report_of_premium p r t kind_is degree scale_is rows tolerances premium sound = record {
  kind_is = kind_is;
  degree = subst IsAnsweredDegree (sym degree) premium.degree;
  scale = scale_is;
  rows = ap (map subject_of) rows;
  tolerances = tolerances;
  right = subst (λ n. All (IsRight p n) r.rows.items) (sym degree) (all_right p t.degree _ sound);
}

pub tells_premium : (p : Product) (t : PremiumTable) (r : Report) → r.degree ≡ t.degree
    → r.rows.items ≡ three_issue_rows p t → TellsPremium t r
tells_premium p t r degree rows = record {
  degree = degree;
  lo = ap (λ found. (slice_index_or found 2 none).lo) rows;
  hi = ap (λ found. (slice_index_or found 2 none).hi) rows;
}
  where
    none : Note
    none = record { month = 0; state = 0; what = what.Premium; lo = pos 0; hi = pos 0 }
