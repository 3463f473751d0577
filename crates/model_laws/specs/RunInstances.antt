-- Small runs, beside numbers that were computed by hand or by another program's exact fractions.
use Rattle.std.specs.Prelude.{◌≡◌, ℕ, ℤ, pos, negsuc, codes, map, [], ◌∷◌}
use Rattle.frac_laws.specs.Fraction.{Fraction, over, whole}
use Rattle.frac_laws.specs.Lists.{Vector, number_at}
use Rattle.cell_laws.specs.Systems.{taylor_value}
use Rattle.cell_laws.specs.Pairs.{second_taylor_value}
use Rattle.model_specs.specs.Product.{Product, no_pattern}
use Rattle.model_specs.specs.Payments.{payment_plan, pattern_plan, sojourn_at}
use Rattle.model_specs.specs.Cells.{CellCurves, Forward, Backward, cells_of_32, cell_curves}
use Rattle.model_specs.specs.Systems.{thiele_system, norberg_pair, kolmogorov_system}
use Rattle.model_specs.specs.Runs.{month_grid_reserve, pattern_value}
use Rattle.model_specs.specs.Rows.{Row, RowKind, Reserve, Occupancy, Holds}
use Rattle.model_laws.specs.Examples.{one_state, constant_curve, discounted_lump}
use Rattle.model_laws.specs.Examples.{linear_decrement}

-- one month of two states: a force of interest of 1/20, an intensity of (2 - 12 t) / 20 from the first
-- to the second with a sum of 1000 - 48 t, and 120 + 24 t a year in the first
abbrev pub small_policy : Product
small_policy = record {
  name = codes "small";
  states = codes "alive" ∷ codes "dead" ∷ [];
  start = 0;
  months = 1;
  den = 20;
  interest = constant_curve (pos 1);
  transitions = record {
    from = 0;
    to = 1;
    rate = record { from = 0; c = pos 2 ∷ negsuc 11 ∷ pos 0 ∷ pos 0 ∷ pos 0 ∷ pos 0 ∷ [] } ∷ [];
    sum = record { from = 0; c = pos 1000 ∷ negsuc 47 ∷ pos 0 ∷ pos 0 ∷ [] } ∷ [];
  } ∷ [];
  sojourns = record {
    state = 0;
    steps = record { from = 0; c = pos 120 ∷ pos 24 ∷ pos 0 ∷ pos 0 ∷ [] } ∷ [];
  } ∷ [];
  lumps = [];
  pattern = no_pattern;
}

-- its last cell, backward
abbrev pub last_cell : CellCurves
last_cell = cell_curves (cells_of_32 Backward) small_policy (payment_plan small_policy) 0 31

-- its first cell, forward
abbrev pub first_cell : CellCurves
first_cell = cell_curves (cells_of_32 Forward) small_policy (payment_plan small_policy) 0 0

-- at the month's end the intensity is 1/20, and falls with the time; at its start it is 1/10
abbrev pub IntensityInCells : Type 0
IntensityInCells = let zero = over (pos 0) 1 in
    (last_cell.intensity 0 1 ≡ over (pos 1) 7680 ∷ over (pos 1) 245760 ∷ zero ∷ zero ∷ zero ∷ zero ∷ [])
    × (first_cell.intensity 0 1 ≡
    over (pos 1) 3840 ∷ over (negsuc 0) 245760 ∷ zero ∷ zero ∷ zero ∷ zero ∷ [])

-- two numbers of a vector
abbrev pub HasTwo : Vector → Fraction → Fraction → Type 0
HasTwo v x y = (number_at v 0 ≡ x) × (number_at v 1 ≡ y)

-- the vector (0, 0)
abbrev pub two_zeros : Vector
two_zeros = whole (pos 0) ∷ whole (pos 0) ∷ []

-- the reserves at the start of the last cell, by degree 2
abbrev pub ReserveOfLastCell : Type 0
ReserveOfLastCell =
    HasTwo (taylor_value (thiele_system last_cell) two_zeros 2) (over (pos 6625061) 14745600) (whole (pos 0))

-- the second moments at the start of the last cell, by degree 2
abbrev pub MomentOfLastCell : Type 0
MomentOfLastCell = HasTwo (second_taylor_value (norberg_pair last_cell) two_zeros two_zeros 2)
    (over (pos 968197097) 7372800) (whole (pos 0))

-- the reserve at issue with the whole month as one cell, by degree 2
abbrev pub ReserveByWholeMonth : Type 0
ReserveByWholeMonth =
    month_grid_reserve small_policy (payment_plan small_policy) 2 0 0 ≡ over (pos 234101) 14400

-- the probabilities at the end of the first cell, by degree 3
abbrev pub OccupancyOfFirstCell : Type 0
OccupancyOfFirstCell =
    HasTwo (taylor_value (kolmogorov_system first_cell) (whole (pos 1) ∷ whole (pos 0) ∷ []) 3)
    (over (pos 339650852939) 339738624000) (over (pos 87771061) 339738624000)

-- a product with a premium pattern in its one state, and no payments
abbrev pub pattern_of : ℕ → ℕ → Product
pattern_of until every = record (one_state 2 1 (pos 0) [] []) {
  pattern = record { payers = 0 ∷ []; until = until; every = every };
}

-- dates: 0 and 1, and not 2, which is `until`; every third month below 12 is four dates
abbrev pub PatternPaysAtDates : Type 0
PatternPaysAtDates = (pattern_value (pattern_of 2 1) 0 ≡ whole (pos 2))
    × (map (λ l. l.month) (pattern_plan (pattern_of 12 3)).lumps ≡ 0 ∷ 3 ∷ 6 ∷ 9 ∷ [])
    × (map (λ l. l.month) (pattern_plan (pattern_of 13 3)).lumps ≡ 0 ∷ 3 ∷ 6 ∷ 9 ∷ 12 ∷ [])

-- a rate of 1 a year in the months below `until` and no more
abbrev pub PatternPaysRate : Type 0
PatternPaysRate = let plan = pattern_plan (pattern_of 2 0) in
    ((sojourn_at plan 0 0).c ≡ pos 1 ∷ pos 0 ∷ pos 0 ∷ pos 0 ∷ [])
    × ((sojourn_at plan 0 1).c ≡ pos 1 ∷ pos 0 ∷ pos 0 ∷ pos 0 ∷ [])
    × ((sojourn_at plan 0 2).c ≡ pos 0 ∷ pos 0 ∷ pos 0 ∷ pos 0 ∷ [])

-- a row of the first state
abbrev pub row_between : RowKind → ℕ → ℤ → ℤ → Row
row_between kind month lo hi = record { kind = kind; month = month; state = 0; lo = lo; hi = hi }

-- in every degree the reserve at the term is 0, and the start state has the probability 1 at issue
abbrev pub EndRowsHold : Type 0
EndRowsHold = Holds (row_between Reserve 12 (pos 0) (pos 0)) discounted_lump 0
    × Holds (row_between Occupancy 0 (pos 1000000) (pos 1000000)) (linear_decrement 12 1 (pos 1) (negsuc 0)) 0

-- a row that says less of this probability holds from no degree on
abbrev pub LowerOccupancyDoesNotHold : Type 0
LowerOccupancyDoesNotHold = (least : ℕ) →
    ¬ Holds (row_between Occupancy 0 (pos 0) (pos 999999)) (linear_decrement 12 1 (pos 1) (negsuc 0)) least
