-- What a report about a product says, and that it is right.
use Rattle.std.specs.Prelude.{◌≡◌, ℕ, zero, suc, ◌+◌, ◌*◌, ◌/◌, ◌%◌, ◌<◌, pos, ◌+ℤ◌, ◌≤ℤ◌, List, [], ◌∷◌, length}
use Rattle.std.specs.Prelude.{map, All}
use Rattle.fixed_interval.specs.Tables.{IsAnsweredDegree}
use Rattle.whole_laws.specs.Whole.{list_of}
use Rattle.model_specs.specs.Product.{Product}
use Rattle.model_specs.specs.Payments.{payment_plan}
use Rattle.model_specs.specs.Ledgers.{scale}
use Rattle.model_specs.specs.Rows as model
use Rattle.model_specs.specs.Rows.{Holds, tolerance}
use Rattle.report_columns.specs.declared.note.Note.{Note}
use Rattle.report_columns.specs.declared.note.What.{What}
use Rattle.report_columns.specs.declared.note.What.TheVariants as what
use Rattle.report_columns.specs.Notes.{HasEnds}
use Rattle.reserve_report.specs.declared.report.Kind.{Kind}
use Rattle.reserve_report.specs.declared.report.Kind.TheVariants as kind
use Rattle.reserve_report.specs.declared.report.Report.{Report}

-- what a row is about, in the model. No report about one product has a total of many; its kind is that of a reserve
abbrev pub kind_of : What → model.RowKind
kind_of what.Value = model.Value
kind_of what.Reserve = model.Reserve
kind_of what.Occupancy = model.Occupancy
kind_of what.First = model.First
kind_of what.Second = model.Second
kind_of what.Variance = model.Variance
kind_of what.Benefits = model.Benefits
kind_of what.Pattern = model.Pattern
kind_of what.Premium = model.Premium
kind_of what.Total = model.Reserve

-- a row as the model's
abbrev pub row_of : Note → model.Row
row_of row = record { kind = kind_of row.what; month = row.month; state = row.state; lo = row.lo; hi = row.hi }

-- the row holds for the product from a degree on, and is no wider than its tolerance
pub record IsRight (p : Product) (degree : ℕ) (row : Note) : Type 0 where
  pub holds : Holds (row_of row) p degree
  pub narrow : row.hi ≤ℤ (row.lo +ℤ pos (tolerance p (row_of row)))

-- what a row is about
pub record Subject : Type 0 where
  pub month : ℕ
  pub state : ℕ
  pub what : What

-- what this row is about
abbrev pub subject_of : Note → Subject
subject_of row = record { month = row.month; state = row.state; what = row.what }

-- a row of a table by its place: all states of a date before those of the next, the dates `every` months apart
abbrev pub subject_at : (states every : ℕ) → What → (place : ℕ) → Subject
subject_at states every what place =
    record { month = place / states * every; state = place % states; what = what }

-- what the table of a kind of report is about, where it has one table
abbrev pub what_in : Kind → What
what_in kind.Value = what.Reserve
what_in kind.Reserves = what.Reserve
what_in kind.Occupancy = what.Occupancy
what_in kind.Moments = what.Reserve
what_in kind.Premium = what.Reserve

-- the first, the second and the third row of a date and state
abbrev pub moment_of : ℕ → What
moment_of zero = what.First
moment_of (suc zero) = what.Second
moment_of (suc (suc k)) = what.Variance

-- a row of moments by its place: the three of a date and state before those of the next
abbrev pub moment_at : (states every place : ℕ) → Subject
moment_at states every place = subject_at states every (moment_of (place % 3)) (place / 3)

-- how many dates a table has, each with all states
abbrev pub places_of : Product → ℕ → ℕ
places_of p every = (p.months / every + 1) * length p.states

-- a row at issue, about the start state
abbrev pub at_issue : Product → What → Subject
at_issue p what = record { month = 0; state = p.start; what = what }

-- the rows that a kind of report has, in their order: of the value one; of reserves, probabilities and moments those of
-- each state at each of the dates 0, every, 2 every .. up to the term; of a premium three
abbrev pub asked : Product → ℕ → Kind → List Subject
asked p every kind.Value = at_issue p what.Value ∷ []
asked p every kind.Reserves = list_of (places_of p every) (subject_at (length p.states) every what.Reserve)
asked p every kind.Occupancy = list_of (places_of p every) (subject_at (length p.states) every what.Occupancy)
asked p every kind.Moments = list_of (3 * places_of p every) (moment_at (length p.states) every)
asked p every kind.Premium =
    at_issue p what.Benefits ∷ at_issue p what.Pattern ∷ at_issue p what.Premium ∷ []

-- the scale that a kind of report prints: that of the payment plan, and 0 for probabilities
abbrev pub scale_in : Product → Kind → ℕ
scale_in p kind.Value = scale p (payment_plan p)
scale_in p kind.Reserves = scale p (payment_plan p)
scale_in p kind.Occupancy = 0
scale_in p kind.Moments = scale p (payment_plan p)
scale_in p kind.Premium = scale p (payment_plan p)

-- a report of a kind has the rows that are asked for, a degree that steps answer, and the scale and the tolerances of
-- the ledgers; each row is right from that degree on
pub record IsReport (p : Product) (kind : Kind) (every : ℕ) (r : Report) : Type 0 where
  pub kind_is : r.kind ≡ kind
  pub degree : IsAnsweredDegree r.degree
  pub scale : r.scale ≡ scale_in p kind
  pub rows : map subject_of r.rows.items ≡ asked p every kind
  pub tolerances : r.tolerance.items ≡ map (λ row. tolerance p (row_of row)) r.rows.items
  pub right : All (IsRight p r.degree) r.rows.items

-- a report has a text: each row has a tolerance, is about a state of the product, and has ends that a column can print
pub record HasText (p : Product) (r : Report) : Type 0 where
  pub same : length r.rows.items ≡ length r.tolerance.items
  pub states : All (λ row. row.state < length p.states) r.rows.items
  pub ends : All HasEnds r.rows.items
