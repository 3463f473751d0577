-- Tolerances inside the term, the forward radius, and the cost of a product by stretches.
use Rattle.std.specs.Prelude.{◌≡◌, ℕ, pos, codes, [], ◌∷◌}
use Rattle.model_specs.specs.Product.{Product, no_pattern}
use Rattle.model_specs.specs.Payments.{payment_plan, constant_step}
use Rattle.model_specs.specs.Ledgers.{bound1024, radius_forward}
use Rattle.model_specs.specs.Rows.{Reserve, First, Second, Variance, Occupancy, tolerance}
use Rattle.model_specs.specs.Stretches.{cost}
use Rattle.model_laws.specs.Examples.{at_the_limits, constant_curve}
use Rattle.model_laws.specs.LedgerInstances.{row_of}
use Rattle.product_instances.specs.Further.{linear_piece, linear_step}

-- the tolerances of a product's rows at a month
pub record RowsCheckAs (product : Product) (month reserve second variance occupancy : ℕ) : Type 0 where
  pub reserve_is : tolerance product (row_of Reserve month) ≡ reserve
  pub first_is : tolerance product (row_of First month) ≡ reserve
  pub second_is : tolerance product (row_of Second month) ≡ second
  pub variance_is : tolerance product (row_of Variance month) ≡ variance
  pub occupancy_is : tolerance product (row_of Occupancy month) ≡ occupancy

-- each by its own month: in the middle of the term
abbrev pub RowsInTheMiddle : Type 0
RowsInTheMiddle = RowsCheckAs at_the_limits 12 768788 16622899167234 43689313304578 3

-- and at issue
abbrev pub RowsAtIssue : Type 0
RowsAtIssue = RowsCheckAs at_the_limits 0 1580102 36978494013442 92590468759554 2

-- the forward radius takes the months from issue on
abbrev pub ForwardRadius : Type 0
ForwardRadius = radius_forward at_the_limits 12 ≡ 405599

-- six months of two states: interest varies in month 2, a sum is 3 and from month 1 on 4, and a sojourn rate varies in
-- month 5; a lump of 8 at issue
abbrev pub stretches : Product
stretches = record {
  name = codes "stretches";
  states = codes "a" ∷ codes "b" ∷ [];
  start = 0;
  months = 6;
  den = 1;
  interest = linear_piece 0 (pos 0) (pos 0) ∷ linear_piece 2 (pos 0) (pos 1) ∷ linear_piece 3 (pos 0) (pos 0) ∷ [];
  transitions = record {
    from = 0;
    to = 1;
    rate = constant_curve (pos 1);
    sum = constant_step 0 (pos 3) ∷ constant_step 1 (pos 4) ∷ [];
  } ∷ [];
  sojourns = record {
    state = 0;
    steps = constant_step 0 (pos 3) ∷ linear_step 5 (pos 3) (pos 1) ∷ [];
  } ∷ [];
  lumps = record { month = 0; state = 0; amount = pos 8 } ∷ [];
  pattern = no_pattern;
}

-- three stretches of 2 + 1 steps, since months 3 and 4 are one, and two months of 32 steps
abbrev pub CostOfStretches : Type 0
CostOfStretches = (cost stretches (payment_plan stretches) ≡ 73)
    × (bound1024 stretches (payment_plan stretches) ≡ 19744)
