-- Printed reserves, and the rows that they make.
use Rattle.std.specs.Prelude.{ℕ, ◌+◌, ◌*◌, ◌/◌, ◌%◌, ◌^◌, ◌≤◌, pos, ◌-ℤ◌, unsigned_abs, List, slice_index_or}
use Rattle.fixed_interval.specs.declared.tables.Table.{Table}
use Rattle.fixed_interval.specs.declared.printed.Printed.{Printed}
use Rattle.model_specs.specs.Product.{Product}
use Rattle.basis_compare.specs.declared.change_rows.Part.{Part}
use Rattle.basis_compare.specs.declared.change_rows.Change.{Change}
use Rattle.basis_compare.specs.declared.differences.PrintedReserve.{PrintedReserve}
use Rattle.basis_compare.specs.Changes.{before, after, part_of, turn_of, reserve_tolerance}

-- the ends at a place of a table
abbrev pub ends_in : Table → (place : ℕ) → Printed
ends_in t place = slice_index_or t.cells.items place (record { lo = pos 0; hi = pos 0 })

-- the reserve at a place of a table of a basis: of a date and a state, with the tolerance of the date
abbrev pub printed_at : Product → Table → (place : ℕ) → PrintedReserve
printed_at product t place = record {
  month = place / t.states * t.every;
  state = place % t.states;
  lo = (ends_in t place).lo;
  hi = (ends_in t place).hi;
  tol = reserve_tolerance product (place / t.states * t.every);
}

-- small enough for sums and differences
pub record IsSmall (r : PrintedReserve) : Type 0 where
  pub lo : unsigned_abs r.lo ≤ 2 ^ 79
  pub hi : unsigned_abs r.hi ≤ 2 ^ 79
  pub tol : r.tol ≤ 2 ^ 58

-- the change from one reserve to another: the least difference and the greatest, with both tolerances
abbrev pub change_between : Part → (from to : PrintedReserve) → Change
change_between part from to = record {
  month = from.month;
  state = from.state;
  part = part;
  lo = to.lo -ℤ from.hi;
  hi = to.hi -ℤ from.lo;
  tol = from.tol + to.tol;
  turn = turn_of (to.lo -ℤ from.hi) (to.hi -ℤ from.lo);
}

-- the reserve at a place of a list
abbrev pub reserve_at : List PrintedReserve → (place : ℕ) → PrintedReserve
reserve_at reserves place =
    slice_index_or reserves place (record { month = 0; state = 0; lo = pos 0; hi = pos 0; tol = 0 })

-- a part of the change at a place of the lists of the three bases
abbrev pub change_in : Part → (a h b : List PrintedReserve) → (place : ℕ) → Change
change_in part a h b place =
    change_between part (reserve_at (before part a h b) place) (reserve_at (after part a h b) place)

-- the row at a place: the parts of a date and state stand side by side
abbrev pub change_at : (a h b : List PrintedReserve) → (place : ℕ) → Change
change_at a h b place = change_in (part_of (place % 3)) a h b (place / 3)
