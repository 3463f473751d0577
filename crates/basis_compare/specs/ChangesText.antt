-- The text of a comparison, this product's own. Each line ends with a line feed, and fields are parted by one space.
use Rattle.std.specs.Prelude.{ℕ, ◌<◌, List, [], ◌∷◌, ◌++◌, All, codes, decimal, length, slice_index_or}
use Rattle.model_specs.specs.Product.{Product}
use Rattle.decimal_out.specs.Millionths.{millionths, millionths_of_size}
use Rattle.basis_compare.specs.declared.change_rows.Part.{Part}
use Rattle.basis_compare.specs.declared.change_rows.Part.TheVariants.{Interest, Rest, Total}
use Rattle.basis_compare.specs.declared.change_rows.Turn.{Turn}
use Rattle.basis_compare.specs.declared.change_rows.Turn.TheVariants.{Above, Below, Open}
use Rattle.basis_compare.specs.declared.change_rows.Change.{Change}
use Rattle.basis_compare.specs.declared.change_rows.Changes.{Changes}

-- changes have a text: each row is about a state of the product
abbrev pub HaveText : Product → Changes → Type 0
HaveText a c = All (λ row. row.state < length a.states) c.rows.items

-- the word of a part
abbrev pub part_word : Part → List ℕ
part_word Interest = codes "interest"
part_word Rest = codes "rest"
part_word Total = codes "total"

-- the word of a turn
abbrev pub turn_word : Turn → List ℕ
turn_word Above = codes "above"
turn_word Below = codes "below"
turn_word Open = codes "open"

-- MONTH STATE PART, and a space
abbrev pub change_subject : Product → Change → List ℕ
change_subject a row =
    decimal row.month ++ codes " " ++ slice_index_or a.states row.state [] ++ codes " " ++ part_word row.part
    ++ codes " "

-- LO HI, and a space
abbrev pub change_ends : Change → List ℕ
change_ends row = millionths row.lo ++ codes " " ++ millionths row.hi ++ codes " "

-- TOL TURN, and the line's end
abbrev pub change_turn : Change → List ℕ
change_turn row = millionths_of_size row.tol ++ codes " " ++ turn_word row.turn ++ codes "\n"

-- MONTH STATE PART LO HI TOL TURN
abbrev pub change_line : Product → Change → List ℕ
change_line a row = change_subject a row ++ change_ends row ++ change_turn row

-- the lines of the rows, in their order
abbrev pub change_lines : Product → List Change → List ℕ
change_lines a [] = []
change_lines a (row ∷ rows) = change_line a row ++ change_lines a rows

-- compare NAMEA NAMEB, and degree N
abbrev pub head_lines : (a b : Product) → (degree : ℕ) → List ℕ
head_lines a b degree =
    codes "compare " ++ a.name ++ codes " " ++ b.name ++ codes "\ndegree " ++ decimal degree ++ codes "\n"

-- end ROWS
abbrev pub end_line : (rows : ℕ) → List ℕ
end_line rows = codes "end " ++ decimal rows ++ codes "\n"

-- the whole text
abbrev pub changes_text : (a b : Product) → Changes → List ℕ
changes_text a b c =
    head_lines a b c.degree ++ change_lines a c.rows.items ++ end_line (length c.rows.items)
