-- What results hold: exact numbers of each degree from the answered one on, between ends that lie close together.
use Rattle.std.specs.Prelude.{◌≡◌, ℕ, ◌+◌, ◌*◌, ◌/◌, ◌^◌, ◌<◌, ◌≤◌, pos, ◌+ℤ◌, ◌≤ℤ◌, length, slice_index_or}
use Rattle.frac_laws.specs.Fraction.{Fraction}
use Rattle.named_numbers.specs.Numbers.{least_degree, highest_degree}
use Rattle.fixed_interval.specs.declared.printed.Printed.{Printed}
use Rattle.fixed_interval.specs.declared.tables.Table.{Table}
use Rattle.fixed_interval.specs.declared.tables.Valued.{Valued}
use Rattle.fixed_interval.specs.Intervals.{LiesIn, HasEndsUpTo}
use Rattle.fixed_interval.specs.Printing.{LiesBetweenIn, AreEndsUpTo, most_end}

-- a degree that a sweep may answer
pub record IsAnsweredDegree (degree : ℕ) : Type 0 where
  pub least : least_degree ≤ degree
  pub highest : degree ≤ highest_degree

-- an interval holds the exact number of each degree from the answered one on, and is at most so wide, in units of 2^-64
pub record IsValuedFor (exact : ℕ → Fraction) (width : ℕ) (valued : Valued) : Type 0 where
  pub degree : IsAnsweredDegree valued.degree
  pub holds : (n : ℕ) → valued.degree ≤ n → LiesIn (exact n) valued.interval
  pub narrow : valued.interval.hi ≤ℤ (valued.interval.lo +ℤ pos width)
  pub small : HasEndsUpTo most_end valued.interval

-- how ends are printed: in units of 1 / unit, and at most how large in size
pub record Form : Type 0 where
  pub unit : ℕ
  pub most : ℕ

-- in millionths of a minor unit, or of a probability of 1
abbrev pub millionths : Form
millionths = record { unit = 10 ^ 6; most = 2 ^ 79 }

-- in whole squared minor units
abbrev pub whole_units : Form
whole_units = record { unit = 1; most = 2 ^ 120 }

-- printed ends hold the exact number of each degree from one on, and lie at most so many units apart
pub record AreEndsIn (form : Form) (degree : ℕ) (exact : ℕ → Fraction) (width : ℕ) (ends : Printed) : Type 0 where
  pub holds : (n : ℕ) → degree ≤ n → LiesBetweenIn form.unit ends (exact n)
  pub ordered : ends.lo ≤ℤ ends.hi
  pub narrow : ends.hi ≤ℤ (ends.lo +ℤ pos width)
  pub small : AreEndsUpTo form.most ends

-- they are in millionths
abbrev pub AreEndsFor : ℕ → (ℕ → Fraction) → ℕ → Printed → Type 0
AreEndsFor = AreEndsIn millionths

-- the ends of a state at a table's k-th date, counted from 0
abbrev pub ends_at : Table → (k state : ℕ) → Printed
ends_at t k state = slice_index_or t.cells.items (k * t.states + state) (record { lo = pos 0; hi = pos 0 })

-- a table has each date up to a term, `every` months apart, and its ends hold the exact numbers of these dates, by
-- degree, date and state; how wide they are depends on the date
pub record IsTableIn (form : Form) (term states every : ℕ) (exact : (degree date state : ℕ) → Fraction)
    (width : ℕ → ℕ) (t : Table) : Type 0 where
  pub degree : IsAnsweredDegree t.degree
  pub every_is : t.every ≡ every
  pub states_is : t.states ≡ states
  pub count : length t.cells.items ≡ (term / every + 1) * states
  pub ends : (k state : ℕ) → k ≤ term / every → state < states
      → AreEndsIn form t.degree (λ n. exact n (k * every) state) (width (k * every)) (ends_at t k state)

-- its ends are in millionths
abbrev pub IsTableFor : (term states every : ℕ) → ((degree date state : ℕ) → Fraction) → (ℕ → ℕ) → Table → Type 0
IsTableFor = IsTableIn millionths
