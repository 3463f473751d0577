-- The plain record of a product: what a product file says, whatever its format. This product's own.
use Rattle.std.specs.Prelude.{ℕ, ℤ, List, [], slice_index_or}
use Rattle.model_specs.specs.Curve.{Piece}

-- a step of a payment, from a month on: c_0 + c_1 t + c_2 t^2 + c_3 t^3 minor units (a year, for a sojourn),
-- where t is the time in years since the step's start
pub record Step : Type 0 where
  pub from : ℕ
  pub c : List ℤ

-- a transition between two states, by their indices: its intensity by pieces, and the steps of the sum
-- that is paid when it happens (none: nothing is paid)
pub record Transition : Type 0 where
  pub from : ℕ
  pub to : ℕ
  pub rate : List Piece
  pub sum : List Step

-- what is paid continuously while the life is in a state, as a rate a year
pub record Sojourn : Type 0 where
  pub state : ℕ
  pub steps : List Step

-- what is paid at a date, counted in months from issue, if the life is then in a state: minor units
pub record Lump : Type 0 where
  pub month : ℕ
  pub state : ℕ
  pub amount : ℤ

-- the premium pattern: 1 a year in the payer states in months 0 to until - 1 where every is 0, and else 1 in
-- the payer states at the dates 0, every, 2 every, .. below until
pub record PremiumPattern : Type 0 where
  pub payers : List ℕ
  pub until : ℕ
  pub every : ℕ

-- a product: its name and its states' names as bytes, the start state's index, the term in months, the common
-- denominator of all curves, the force of interest by pieces, and its transitions and payments
pub record Product : Type 0 where
  pub name : List ℕ
  pub states : List (List ℕ)
  pub start : ℕ
  pub months : ℕ
  pub den : ℕ
  pub interest : List Piece
  pub transitions : List Transition
  pub sojourns : List Sojourn
  pub lumps : List Lump
  pub pattern : PremiumPattern

-- the pattern of a product that has none: it never pays
abbrev pub no_pattern : PremiumPattern
no_pattern = record { payers = []; until = 0; every = 0 }

-- stands for a transition that there is not
abbrev pub no_transition : Transition
no_transition = record { from = 0; to = 0; rate = []; sum = [] }

-- transition e of a product
abbrev pub transition_at : Product → ℕ → Transition
transition_at product e = slice_index_or product.transitions e no_transition
