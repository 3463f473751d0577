-- Products of states without interest and transitions: what is paid in a state adds up, in every degree from 1 on.
-- Their values and rows, as counted by hand.
use Rattle.std.specs.Prelude.{◌≡◌, ℕ, suc, ℤ, pos, codes, List, [], ◌∷◌}
use Rattle.frac_laws.specs.Fraction.{whole}
use Rattle.model_specs.specs.Product.{Product, Sojourn, Lump, PremiumPattern, no_pattern}
use Rattle.model_specs.specs.Payments.{payment_plan}
use Rattle.model_specs.specs.Runs.{value_before_issue}
use Rattle.model_specs.specs.Rows.{Row, RowKind, Reserve, First, Second, Variance, Premium, Holds}
use Rattle.model_laws.specs.Examples.{constant_curve, steady, lump_on}
use Rattle.model_laws.specs.FlatLaws.{steady_product}

-- two states that are never left, and no interest
abbrev pub two_rooms : (start months : ℕ) → List Sojourn → List Lump → PremiumPattern → Product
two_rooms start months sojourns lumps pattern = record {
  name = codes "rooms";
  states = codes "a" ∷ codes "b" ∷ [];
  start = start;
  months = months;
  den = 1;
  interest = constant_curve (pos 0);
  transitions = [];
  sojourns = sojourns;
  lumps = lumps;
  pattern = pattern;
}

-- one month from the second state, with 12 a year in the first and 24 in the second, and 7 and 9 at issue
abbrev pub from_second : Product
from_second = two_rooms 1 1 (steady 0 (pos 12) ∷ steady 1 (pos 24) ∷ [])
    (record { month = 0; state = 0; amount = pos 7 } ∷ record { month = 0; state = 1; amount = pos 9 } ∷ []) no_pattern

-- its value is that of the start state, 2 and 9
abbrev pub ValueOfTheStart : Type 0
ValueOfTheStart = (n : ℕ) → value_before_issue from_second (payment_plan from_second) (suc n) ≡ whole (pos 11)

-- a year with 384 a year in the first state, and a premium of 1 a year in a payer
abbrev pub paid_by : ℕ → Product
paid_by payer = two_rooms 0 12 (steady 0 (pos 384) ∷ []) [] (record { payers = payer ∷ []; until = 12; every = 0 })

-- a row of the first state at issue
abbrev pub first_row : RowKind → (lo hi : ℤ) → Row
first_row kind lo hi = record { kind = kind; month = 0; state = 0; lo = lo; hi = hi }

-- the premium is 384: a row says so in millionths
abbrev pub PremiumHolds : Type 0
PremiumHolds = Holds (first_row Premium (pos 384000000) (pos 384000000)) (paid_by 0) 1

-- a row that says more holds from no degree on
abbrev pub HigherPremiumDoesNotHold : Type 0
HigherPremiumDoesNotHold = (least : ℕ) → ¬ Holds (first_row Premium (pos 384000001) (pos 385000000)) (paid_by 0) least

-- where the payer is never reached the pattern is worth 0, and no row of a premium holds
abbrev pub NoPremiumHolds : Type 0
NoPremiumHolds = (lo hi : ℤ) (least : ℕ) → ¬ Holds (first_row Premium lo hi) (paid_by 1) least

-- 100 at the end of a month
abbrev pub certain_lump : Product
certain_lump = steady_product 1 (pos 0) (lump_on 1 (pos 100))

-- its second moment is 100^2 in squared minor units, its variance 0, and its first moments are in millionths
abbrev pub CertainRowsHold : Type 0
CertainRowsHold = Holds (first_row Second (pos 10000) (pos 10000)) certain_lump 1
    × Holds (first_row Variance (pos 0) (pos 0)) certain_lump 1
    × Holds (first_row First (pos 100000000) (pos 100000000)) certain_lump 1
    × Holds (first_row Reserve (pos 100000000) (pos 100000000)) certain_lump 1
