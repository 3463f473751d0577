-- The rows of a table of one kind, date by date.
use Rattle.std.specs.Prelude.{◌≡◌, ℕ, ◌+◌, ◌-◌, ◌*◌, ◌/◌, ◌<◌, ◌≤◌, ℤ, List, length}
use Rattle.fixed_interval.specs.declared.printed.Printed.{Printed}
use Rattle.fixed_interval.specs.Tables.{AreEndsIn}
use Rattle.model_specs.specs.Product.{Product}
use Rattle.thiele_backward.specs.Dates.{ends_of}
use Rattle.moment_equations.specs.declared.ends.Moment.{Moment}
use Rattle.moment_equations.specs.declared.ends.Moment.TheVariants.{First, Second, Variance}
use Rattle.moment_equations.specs.NearMoments.{AreNear}
use Rattle.moment_equations.specs.Kinds.{exact_of, form_of, width_of}

-- ends hold the number of a kind at a date in a state, of each degree from one on
abbrev pub HoldsAt : Moment → Product → (degree date state : ℕ) → Printed → Type 0
HoldsAt kind product degree date state ends =
    AreEndsIn (form_of kind) degree (λ n. exact_of kind product n date state) (width_of kind product date) ends

-- the ends of a row hold the numbers of a date in all states
abbrev pub HasDate : Moment → Product → (degree date row : ℕ) → List Printed → Type 0
HasDate kind product degree date row cells =
    (state : ℕ) → state < length product.states
    → HoldsAt kind product degree date state (ends_of cells (row * length product.states + state))

-- both moments of each run from a degree on are near the numbers at a date
abbrev pub AreNearFrom : Product → (degree date : ℕ) → List ℤ → Type 0
AreNearFrom product degree date mid = (n : ℕ) → degree ≤ n → AreNear product n (product.months - date) mid

-- a table of a kind has room for all dates, and the dates from one on are written
pub record HasDatesFrom (kind : Moment) (product : Product) (every left degree : ℕ) (cells : List Printed) : Type 0
  where
    pub room : length cells ≡ (product.months / every + 1) * length product.states
    pub written : (row : ℕ) → row * every ≤ product.months → left ≤ row * every
        → HasDate kind product degree (row * every) row cells

-- and so the three tables
pub record HaveDatesFrom (product : Product) (every left degree : ℕ) (first second variance : List Printed) : Type 0
  where
    pub firsts : HasDatesFrom First product every left degree first
    pub seconds : HasDatesFrom Second product every left degree second
    pub variances : HasDatesFrom Variance product every left degree variance
