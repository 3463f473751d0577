-- An intensity that begins in month 1: each month has its own curves, so at date 1 nobody has left, in every degree.
use Rattle.std.specs.Prelude.{◌≡◌, ℕ, pos, codes, [], ◌∷◌}
use Rattle.frac_laws.specs.Fraction.{whole}
use Rattle.model_specs.specs.Product.{Product, no_pattern}
use Rattle.model_specs.specs.Runs.{probability}
use Rattle.model_laws.specs.Examples.{constant_curve}
use Rattle.product_instances.specs.Further.{linear_piece}

-- two months of two states, the first left for the second at the rate 0 and then 1
abbrev pub late_start : Product
late_start = record {
  name = codes "late";
  states = codes "a" ∷ codes "b" ∷ [];
  start = 0;
  months = 2;
  den = 1;
  interest = constant_curve (pos 0);
  transitions = record {
    from = 0;
    to = 1;
    rate = linear_piece 0 (pos 0) (pos 0) ∷ linear_piece 1 (pos 1) (pos 0) ∷ [];
    sum = [];
  } ∷ [];
  sojourns = [];
  lumps = [];
  pattern = no_pattern;
}

-- at date 1 the probability of the first state is still 1, in every degree
abbrev pub NobodyHasLeft : Type 0
NobodyHasLeft = (n : ℕ) → probability late_start n 1 0 ≡ whole (pos 1)
