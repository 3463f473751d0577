-- One product for the three runs: three states, curves and sums that vary, and lumps. Its runs on two cells a month, by
-- degree 2, beside exact fractions that were computed outside.
use Rattle.std.specs.Prelude.{◌≡◌, ℕ, zero, suc, ◌-◌, pos, negsuc, codes, ◌==◌, if◌then◌else◌, ℤ, [], ◌∷◌}
use Rattle.frac_laws.specs.Fraction.{over, whole}
use Rattle.frac_laws.specs.Lists.{Vector}
use Rattle.model_specs.specs.Curve.{Piece}
use Rattle.model_specs.specs.Product.{Product, Step, no_pattern}
use Rattle.model_specs.specs.Payments.{Plan, payment_plan}
use Rattle.model_specs.specs.Cells.{CellCurves, Direction, Forward, Backward, Grid, cell_curves}
use Rattle.model_specs.specs.Systems.{vector_of, norberg_pair, kolmogorov_system}
use Rattle.model_specs.specs.Runs.{Moments, first_before_term, before_lumps, moments_month_back, month_forward}

-- a piece c_0 + c_1 t of a curve, from a month on
abbrev pub linear_piece : ℕ → ℤ → ℤ → Piece
linear_piece from c0 c1 = record { from = from; c = c0 ∷ c1 ∷ pos 0 ∷ pos 0 ∷ pos 0 ∷ pos 0 ∷ [] }

-- a step c_0 + c_1 t of a payment, from a month on
abbrev pub linear_step : ℕ → ℤ → ℤ → Step
linear_step from c0 c1 = record { from = from; c = c0 ∷ c1 ∷ pos 0 ∷ pos 0 ∷ [] }

-- three months of three states, 0 dead, 1 well and 2 ill, from well on; curves are over 20
abbrev pub further : Product
further = record {
  name = codes "further";
  states = codes "dead" ∷ codes "well" ∷ codes "ill" ∷ [];
  start = 1;
  months = 3;
  den = 20;
  interest = linear_piece 0 (pos 1) (pos 0) ∷ linear_piece 2 (pos 2) (negsuc 11) ∷ [];
  transitions = record {
    from = 1;
    to = 0;
    rate = linear_piece 0 (pos 2) (negsuc 11) ∷ linear_piece 2 (pos 1) (pos 12) ∷ [];
    sum = linear_step 0 (pos 100) (negsuc 47) ∷ [];
  } ∷ record {
    from = 1;
    to = 2;
    rate = linear_piece 0 (pos 3) (pos 0) ∷ linear_piece 1 (pos 1) (pos 12) ∷ [];
    sum = linear_step 0 (pos 50) (pos 0) ∷ linear_step 2 (pos 20) (pos 24) ∷ [];
  } ∷ [];
  sojourns = record {
    state = 1;
    steps = linear_step 0 (pos 120) (pos 24) ∷ linear_step 1 (pos 60) (negsuc 11) ∷ [];
  } ∷ record { state = 2; steps = linear_step 0 (pos 36) (pos 0) ∷ [] } ∷ [];
  lumps = record { month = 3; state = 1; amount = pos 100 }
      ∷ record { month = 2; state = 0; amount = pos 70 }
      ∷ record { month = 2; state = 1; amount = negsuc 49 }
      ∷ record { month = 1; state = 2; amount = pos 40 }
      ∷ record { month = 0; state = 1; amount = pos 5 }
      ∷ record { month = 0; state = 0; amount = pos 9 } ∷ [];
  pattern = no_pattern;
}

-- its payment plan
abbrev pub further_plan : Plan
further_plan = payment_plan further

-- two cells a month
abbrev pub two_cells : Direction → Grid
two_cells direction = record { cells = 2; direction = direction }

-- a cell of its payment plan, where x counts backward
abbrev pub cell_back : ℕ → ℕ → CellCurves
cell_back month cell = cell_curves (two_cells Backward) further further_plan month cell

-- a cell of its payment plan, where x counts forward
abbrev pub cell_forward : ℕ → ℕ → CellCurves
cell_forward month cell = cell_curves (two_cells Forward) further further_plan month cell

-- the reserves some months before the term
abbrev pub reserves_before : ℕ → Vector
reserves_before months = first_before_term (two_cells Backward) further further_plan 2 months

-- both moments some months before the term
abbrev pub moments_before : ℕ → Moments
moments_before zero = let zeros = vector_of 3 (λ i. whole (pos 0)) in record { first = zeros; second = zeros }
moments_before (suc months) =
    let month = 3 - suc months in
    moments_month_back (λ cell. norberg_pair (cell_back month cell)) 2 2
    (before_lumps further further_plan (suc month) (moments_before months))

-- the probabilities at a date
abbrev pub probabilities_at : ℕ → Vector
probabilities_at zero = vector_of 3 (λ j. if j == further.start then whole (pos 1) else whole (pos 0))
probabilities_at (suc month) =
    month_forward (λ cell. kolmogorov_system (cell_forward month cell)) 2 2 (probabilities_at month)

-- the reserves of dead, well and ill at date 2
abbrev pub FurtherReservesAt2 : Type 0
FurtherReservesAt2 = reserves_before 1 ≡
    whole (pos 0) ∷ over (pos 2438141143873) 23592960000 ∷ over (pos 1175966717) 393216000 ∷ []

-- at date 1
abbrev pub FurtherReservesAt1 : Type 0
FurtherReservesAt1 = reserves_before 2 ≡
    over (pos 1480176216967) 21233664000 ∷ over (pos 3604797179266430695193) 61847529062400000000
    ∷ over (pos 498623764110390692477) 83494164234240000000 ∷ []

-- at date 0
abbrev pub FurtherReservesAt0 : Type 0
FurtherReservesAt0 = reserves_before 3 ≡
    over (pos 312988804753534208382727) 4508684868648960000000
    ∷ over (pos 6540562241245970604680679588784973) 94553974896569037619200000000000
    ∷ over (pos 864717932666935604181845560951037) 17728870293106694553600000000000 ∷ []

-- the second moments at date 2
abbrev pub FurtherMomentsAt2 : Type 0
FurtherMomentsAt2 = (moments_before 1).second ≡
    whole (pos 0) ∷ over (pos 114074180912803) 10616832000 ∷ over (pos 3669147) 409600 ∷ []

-- at date 1
abbrev pub FurtherMomentsAt1 : Type 0
FurtherMomentsAt1 = (moments_before 2).second ≡
    over (pos 644884484209) 132710400 ∷ over (pos 7856008836771647131480507) 2254342434324480000000
    ∷ over (pos 229914326619208357) 6442450944000000 ∷ []

-- the probabilities at date 1
abbrev pub FurtherProbabilitiesAt1 : Type 0
FurtherProbabilitiesAt1 = probabilities_at 1 ≡
    over (pos 350393123) 56623104000 ∷ over (pos 55571890711) 56623104000 ∷ over (pos 116803361) 9437184000 ∷ []

-- at date 2
abbrev pub FurtherProbabilitiesAt2 : Type 0
FurtherProbabilitiesAt2 = probabilities_at 2 ≡
    over (pos 24720563570692384409) 3005789912432640000000 ∷ over (pos 731376532197594964951) 751447478108160000000
    ∷ over (pos 18521073357189251929) 1001929970810880000000 ∷ []
