-- Small products, by which the definitions are checked.
use Rattle.std.specs.Prelude.{ℕ, suc, ◌%◌, ℤ, pos, negsuc, codes, List, [], ◌∷◌}
use Rattle.whole_laws.specs.Whole.{list_of}
use Rattle.model_specs.specs.Curve.{Piece}
use Rattle.model_specs.specs.Payments.{constant_step}
use Rattle.model_specs.specs.Product.{Product, Transition, Sojourn, Lump, no_pattern}

-- a curve of one piece with one constant
abbrev pub constant_curve : ℤ → List Piece
constant_curve c = record { from = 0; c = c ∷ pos 0 ∷ pos 0 ∷ pos 0 ∷ pos 0 ∷ pos 0 ∷ [] } ∷ []

-- a payment of a constant rate in a state for the whole term
abbrev pub steady : ℕ → ℤ → Sojourn
steady state amount = record { state = state; steps = constant_step 0 amount ∷ [] }

-- a product of one state and no transition
abbrev pub one_state : ℕ → ℕ → ℤ → List Sojourn → List Lump → Product
one_state months den force sojourns lumps = record {
  name = codes "example";
  states = codes "on" ∷ [];
  start = 0;
  months = months;
  den = den;
  interest = constant_curve force;
  transitions = [];
  sojourns = sojourns;
  lumps = lumps;
  pattern = no_pattern;
}

-- a lump in the one state
abbrev pub lump_on : ℕ → ℤ → List Lump
lump_on month amount = record { month = month; state = 0; amount = amount } ∷ []

-- 384 a year for a year, without interest
abbrev pub flat_annuity : Product
flat_annuity = one_state 12 1 (pos 0) (steady 0 (pos 384) ∷ []) []

-- 10000 after a year, at a twentieth a year
abbrev pub discounted_lump : Product
discounted_lump = one_state 12 20 (pos 1) [] (lump_on 12 (pos 10000))

-- 1000 after a century, at minus a fiftieth a year
abbrev pub century_lump : Product
century_lump = one_state 1200 50 (negsuc 0) [] (lump_on 1200 (pos 1000))

-- 10^12 a year for a century, without interest
abbrev pub largest_annuity : Product
largest_annuity = one_state 1200 1 (pos 0) (steady 0 (pos 1000000000000) ∷ []) []

-- a ring of eight states for a number of months, each left for the next one at the rate of 2, the first
-- at its own rate in millionths, with 1000 a year in each
abbrev pub ring_of_eight : ℕ → ℤ → Product
ring_of_eight months first = record {
  name = codes "ring";
  states = list_of 8 (λ i. codes "s");
  start = 0;
  months = months;
  den = 1000000;
  interest = constant_curve (pos 0);
  transitions = link 0 first ∷ list_of 7 (λ i. link (suc i) (pos 2000000));
  sojourns = list_of 8 (λ i. steady i (pos 1000));
  lumps = [];
  pattern = no_pattern;
}
  where
    link : ℕ → ℤ → Transition
    link i rate = record { from = i; to = suc i % 8; rate = constant_curve rate; sum = [] }

-- two states, each left at the rate 2 for the other with a sum, and the same amount a year in each, for
-- a century at minus a fiftieth a year
abbrev pub exchange : ℤ → Product
exchange amount = record {
  name = codes "exchange";
  states = codes "a" ∷ codes "b" ∷ [];
  start = 0;
  months = 1200;
  den = 50;
  interest = constant_curve (negsuc 0);
  transitions = list_of 2 (λ i. record {
    from = i;
    to = suc i % 2;
    rate = constant_curve (pos 100);
    sum = constant_step 0 amount ∷ [];
  });
  sojourns = list_of 2 (λ i. steady i amount);
  lumps = [];
  pattern = no_pattern;
}

-- two states, the first of which is left for the second at the rate c_0 + c_1 t over a denominator; no
-- payments
abbrev pub linear_decrement : ℕ → ℕ → ℤ → ℤ → Product
linear_decrement months den c0 c1 = record {
  name = codes "decrement";
  states = codes "active" ∷ codes "dead" ∷ [];
  start = 0;
  months = months;
  den = den;
  interest = constant_curve (pos 0);
  transitions = record {
    from = 0;
    to = 1;
    sum = [];
    rate = record { from = 0; c = c0 ∷ c1 ∷ pos 0 ∷ pos 0 ∷ pos 0 ∷ pos 0 ∷ [] } ∷ [];
  } ∷ [];
  sojourns = [];
  lumps = [];
  pattern = no_pattern;
}

-- a product at several limits at once: both ends of the interest, a rate that grows from 0 to 2 and then
-- stays, sums of both signs, and three dates with lumps, two of them of amount 0
abbrev pub at_the_limits : Product
at_the_limits = record {
  name = codes "limits";
  states = codes "a" ∷ codes "b" ∷ [];
  start = 1;
  months = 24;
  den = 1000000000000;
  interest = part 0 (negsuc 19999999999) (pos 0) ∷ part 12 (pos 250000000000) (pos 0) ∷ [];
  transitions = record {
    from = 0;
    to = 1;
    rate = part 0 (pos 0) (pos 2000000000000) ∷ part 12 (pos 2000000000000) (pos 0) ∷ [];
    sum = constant_step 0 (negsuc 999999999999) ∷ constant_step 23 (pos 1000000000000) ∷ [];
  } ∷ [];
  sojourns = steady 1 (negsuc 999999999999) ∷ [];
  lumps = record { month = 24; state = 0; amount = pos 1000000000000 }
      ∷ record { month = 0; state = 1; amount = pos 0 }
      ∷ record { month = 12; state = 0; amount = pos 0 } ∷ [];
  pattern = record { payers = 1 ∷ 0 ∷ []; until = 24; every = 1200 };
}
  where
    part : ℕ → ℤ → ℤ → Piece
    part from c0 c1 = record { from = from; c = c0 ∷ c1 ∷ pos 0 ∷ pos 0 ∷ pos 0 ∷ pos 0 ∷ [] }
