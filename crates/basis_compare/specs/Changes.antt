-- What a comparison of two bases answers: the change of each reserve, by date, state and part.
use Rattle.std.specs.Prelude.{◌≡◌, ℕ, zero, suc, ◌+◌, ◌*◌, ◌/◌, ◌%◌, ◌^◌, ◌≤◌, ℤ, pos, ◌+ℤ◌, ◌≤ℤ◌, int_lt}
use Rattle.std.specs.Prelude.{List, All, map, length, if◌then◌else◌}
use Rattle.frac_laws.specs.Fraction.{Fraction, whole, size, ◌*ℚ◌, ◌-ℚ◌, ◌≤ℚ◌, ◌<ℚ◌}
use Rattle.frac_laws.specs.Ledger.{tolerance_first}
use Rattle.fixed_interval.specs.Printing.{LiesBetween}
use Rattle.fixed_interval.specs.Tables.{IsAnsweredDegree}
use Rattle.whole_laws.specs.Whole.{list_of}
use Rattle.model_specs.specs.Product.{Product}
use Rattle.model_specs.specs.Payments.{payment_plan}
use Rattle.model_specs.specs.Ledgers.{radius, scale}
use Rattle.model_specs.specs.Runs.{reserve}
use Rattle.basis_compare.specs.declared.change_rows.Part.{Part}
use Rattle.basis_compare.specs.declared.change_rows.Part.TheVariants.{Interest, Rest, Total}
use Rattle.basis_compare.specs.declared.change_rows.Turn.{Turn}
use Rattle.basis_compare.specs.declared.change_rows.Turn.TheVariants.{Above, Below, Open}
use Rattle.basis_compare.specs.declared.change_rows.Change.{Change}
use Rattle.basis_compare.specs.declared.change_rows.Changes.{Changes}
use Rattle.basis_compare.specs.Bases.{hybrid_of}

-- of what belongs to basis a, to the hybrid h and to basis b, that from which a part of the change leads
abbrev pub before : {A : Type 0} → Part → (a h b : A) → A
before Interest a h b = a
before Rest a h b = h
before Total a h b = a

-- and that to which it leads
abbrev pub after : {A : Type 0} → Part → (a h b : A) → A
after Interest a h b = h
after Rest a h b = b
after Total a h b = b

-- the reserve of a basis in a degree, in minor units
abbrev pub reserve_of : Product → (n date state : ℕ) → Fraction
reserve_of product = reserve product (payment_plan product)

-- how far its printed ends may lie apart, in millionths
abbrev pub reserve_tolerance : Product → (date : ℕ) → ℕ
reserve_tolerance product date = tolerance_first (radius product date) (scale product (payment_plan product))

-- the exact change of a reserve in a degree, in minor units
abbrev pub exact_change : (a b : Product) → Part → (n date state : ℕ) → Fraction
exact_change a b part n date state =
    reserve_of (after part a (hybrid_of a b) b) n date state
    -ℚ reserve_of (before part a (hybrid_of a b) b) n date state

-- the tolerance of a change: those of both reserves
abbrev pub change_tolerance : (a b : Product) → Part → (date : ℕ) → ℕ
change_tolerance a b part date =
    reserve_tolerance (before part a (hybrid_of a b) b) date + reserve_tolerance (after part a (hybrid_of a b) b) date

-- what a row is about
pub record Subject : Type 0 where
  pub month : ℕ
  pub state : ℕ
  pub part : Part

-- what this row is about
abbrev pub subject_of : Change → Subject
subject_of row = record { month = row.month; state = row.state; part = row.part }

-- the parts in their order
abbrev pub part_of : ℕ → Part
part_of zero = Interest
part_of (suc zero) = Rest
part_of (suc (suc k)) = Total

-- what the row at a place is about: by date, then by state, then by part
abbrev pub subject_at : (states every place : ℕ) → Subject
subject_at states every place = record {
  month = place / 3 / states * every;
  state = place / 3 % states;
  part = part_of (place % 3);
}

-- what the rows are to be about: each date up to the term, `every` months apart, each state and each part
abbrev pub asked : Product → (every : ℕ) → List Subject
asked a every = list_of (3 * ((a.months / every + 1) * length a.states)) (subject_at (length a.states) every)

-- where all numbers between two ends stand
abbrev pub turn_of : (lo hi : ℤ) → Turn
turn_of lo hi = if int_lt (pos 0) lo then Above else if int_lt hi (pos 0) then Below else Open

-- what a turn says of a change: it is above 0, below 0, or at most the tolerance in size, which is in millionths
abbrev pub Says : Turn → (tolerance : ℕ) → Fraction → Type 0
Says Above tolerance change = whole (pos 0) <ℚ change
Says Below tolerance change = change <ℚ whole (pos 0)
Says Open tolerance change = whole (pos (10 ^ 6)) *ℚ size change ≤ℚ whole (pos tolerance)

-- a row holds the exact change of each degree from one on between ends that are no further apart than the tolerance,
-- and its turn says in which order the two reserves stand
pub record IsChange (a b : Product) (degree : ℕ) (row : Change) : Type 0 where
  pub holds : (n : ℕ) → degree ≤ n
      → LiesBetween (record { lo = row.lo; hi = row.hi }) (exact_change a b row.part n row.month row.state)
  pub narrow : row.hi ≤ℤ (row.lo +ℤ pos row.tol)
  pub tolerance_is : row.tol ≡ change_tolerance a b row.part row.month
  pub turn_is : row.turn ≡ turn_of row.lo row.hi
  pub order : (n : ℕ) → degree ≤ n → Says row.turn row.tol (exact_change a b row.part n row.month row.state)

-- the changes from basis a to basis b: the rows that are asked for, each right from the answered degree on
pub record AreChanges (a b : Product) (every : ℕ) (c : Changes) : Type 0 where
  pub degree : IsAnsweredDegree c.degree
  pub rows : map subject_of c.rows.items ≡ asked a every
  pub right : All (IsChange a b c.degree) c.rows.items
