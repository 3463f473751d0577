-- What a `CellSystem` of the program is as a stored system.
use Rattle.std.specs.Prelude.{ℕ, List, map, slice_index_or}
use Rattle.linear_system.specs.StoredSystem.{StoredRow, StoredSystem, IsSystem, no_row}
use Rattle.linear_system.specs.declared.system.CellSystem.TheInside.{Inside}
use Rattle.linear_system.specs.declared.row.Row.{Row}

-- a row of the program, with its columns and their numbers
abbrev pub stored_row : Row → StoredRow
stored_row r = record { columns = r.columns.items; numbers = r.numbers.items }

-- a system of the program, with its degree and its rows
abbrev pub stored_system : Inside → StoredSystem
stored_system a = record { degree = a.degree; rows = map stored_row a.rows.items }

-- what each `CellSystem` keeps
abbrev pub KeepsSystem : Inside → Type 0
KeepsSystem a = IsSystem (stored_system a)

-- the row at a place
abbrev pub row_at : List Row → ℕ → StoredRow
row_at rows i = slice_index_or (map stored_row rows) i no_row
