-- The text of the totals of a portfolio, this product's own. Each line ends with a line feed, and fields are parted by
-- one space.
use Rattle.std.specs.Prelude.{ℕ, ◌+◌, ◌<◌, ◌^◌, ◌≤ℤ◌, List, [], ◌∷◌, ◌++◌, All, codes, decimal, length, unsigned_abs}
use Rattle.decimal_out.specs.Millionths.{millionths, millionths_of_size}
use Rattle.report_columns.specs.declared.note.Note.{Note}
use Rattle.report_columns.specs.declared.note.What.TheVariants as what
use Rattle.report_columns.specs.Columns.{ColumnText, all_told, column_sections}
use Rattle.portfolio_run.specs.declared.totals.Total.{Total}
use Rattle.portfolio_run.specs.declared.totals.Totals.{Totals}

-- the ends of a total stand in their order, and are small enough for a column
pub record HasTotalEnds (total : Total) : Type 0 where
  pub ordered : total.lo ≤ℤ total.hi
  pub lo : unsigned_abs total.lo < 2 ^ 126
  pub hi : unsigned_abs total.hi < 2 ^ 126

-- totals have a text: the groups are few enough for a number each, and each has such ends
pub record HaveText (totals : Totals) : Type 0 where
  pub few : length totals.groups.items < 2 ^ 32
  pub ends : All HasTotalEnds totals.groups.items

-- a group as columns are told of it: its number in place of a state
abbrev pub note_of : (group : ℕ) → Total → Note
note_of group total = record { month = 0; state = group; what = what.Total; lo = total.lo; hi = total.hi }

-- groups as columns are told of them, numbered from this one on
abbrev pub notes_from : ℕ → List Total → List Note
notes_from group [] = []
notes_from group (total ∷ totals) = note_of group total ∷ notes_from (group + 1) totals

-- the notes of all groups, in their order
abbrev pub notes_of : Totals → List Note
notes_of totals = notes_from 0 totals.groups.items

-- LO HI, and a space
abbrev pub total_ends : Total → List ℕ
total_ends total = millionths total.lo ++ codes " " ++ millionths total.hi ++ codes " "

-- GROUP LO HI TOL
abbrev pub group_line : Total → List ℕ
group_line total =
    total.name.items ++ codes " " ++ total_ends total ++ millionths_of_size total.tol ++ codes "\n"

-- a line for each group, in their order
abbrev pub group_lines : List Total → List ℕ
group_lines [] = []
group_lines (total ∷ totals) = group_line total ++ group_lines totals

-- some words, and a number behind them
abbrev pub counted : List ℕ → ℕ → List ℕ
counted words number = words ++ decimal number

-- portfolio, and degree N policies R groups Q
abbrev pub head_lines : Totals → List ℕ
head_lines totals =
    counted (codes "portfolio\ndegree ") totals.degree ++ counted (codes " policies ") totals.policies
    ++ counted (codes " groups ") (length totals.groups.items) ++ codes "\n"

-- the text up to the columns: the first two lines, the groups, and their number
abbrev pub groups_text : Totals → List ℕ
groups_text totals =
    head_lines totals ++ group_lines totals.groups.items ++ counted (codes "end ") (length totals.groups.items)
    ++ codes "\n"

-- the whole text, of columns as they were handed in: each is told of the groups, and they stand below them
abbrev pub totals_text : Totals → List ColumnText → List ℕ
totals_text totals columns = groups_text totals ++ column_sections (all_told (notes_of totals) columns)
