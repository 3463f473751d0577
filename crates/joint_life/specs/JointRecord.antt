-- The joint record of two independent lives: the chain of pairs of their states, with the contract of the first life in
-- force while the second one is in its start state. This product's own.
use Rattle.std.specs.Prelude.{ℕ, ◌+◌, ◌*◌, ◌/◌, ◌%◌, ◌==◌, nat_lt, codes, decimal, if◌then◌else◌}
use Rattle.std.specs.Prelude.{List, [], ◌++◌, length, map, filter, flat_map}
use Rattle.whole_laws.specs.Whole.{list_of, places}
use Rattle.model_specs.specs.Curve.{Piece}
use Rattle.model_specs.specs.Product.{Product, Transition, transition_at}
use Rattle.model_specs.specs.MonthNumbers.{exits}

-- how many pairs of states there are
abbrev pub pair_count : (a b : Product) → ℕ
pair_count a b = length a.states * length b.states

-- the state of a pair of states, i of the first life and j of the second
abbrev pub pair_of : (b : Product) → (i j : ℕ) → ℕ
pair_of b i j = i * length b.states + j

-- the first life's state of a pair
abbrev pub first_of : (b : Product) → (pair : ℕ) → ℕ
first_of b pair = pair / length b.states

-- the second life's
abbrev pub second_of : (b : Product) → (pair : ℕ) → ℕ
second_of b pair = pair % length b.states

-- its name: both indices, with a point between them
abbrev pub pair_name : (i j : ℕ) → List ℕ
pair_name i j = decimal i ++ codes "." ++ decimal j

-- the pieces that start below a term
abbrev pub pieces_within : (months : ℕ) → List Piece → List Piece
pieces_within months pieces = filter (λ piece. nat_lt piece.from months) pieces

-- transition e of the first life, out of a pair: it pays its sum where the second life is in its start state
abbrev pub first_transition : (a b : Product) → (pair e : ℕ) → Transition
first_transition a b pair e = record {
  from = pair;
  to = pair_of b (transition_at a e).to (second_of b pair);
  rate = (transition_at a e).rate;
  sum = if second_of b pair == b.start then (transition_at a e).sum else [];
}

-- transition e of the second life, out of a pair: it pays nothing
abbrev pub second_transition : (a b : Product) → (pair e : ℕ) → Transition
second_transition a b pair e = record {
  from = pair;
  to = pair_of b (first_of b pair) (transition_at b e).to;
  rate = pieces_within a.months (transition_at b e).rate;
  sum = [];
}

-- the transitions out of a pair: the first life's, and then the second life's
abbrev pub transitions_from : (a b : Product) → (pair : ℕ) → List Transition
transitions_from a b pair = map (first_transition a b pair) (exits a (first_of b pair))
    ++ map (second_transition a b pair) (exits b (second_of b pair))

-- the joint record
abbrev pub joint_of : (a b : Product) → Product
joint_of a b = record {
  name = a.name;
  states = list_of (pair_count a b) (λ pair. pair_name (first_of b pair) (second_of b pair));
  start = pair_of b a.start b.start;
  months = a.months;
  den = a.den;
  interest = a.interest;
  transitions = flat_map (transitions_from a b) (places (pair_count a b));
  sojourns = map (λ s. record { state = pair_of b s.state b.start; steps = s.steps }) a.sojourns;
  lumps = map (λ l. record { month = l.month; state = pair_of b l.state b.start; amount = l.amount }) a.lumps;
  pattern = record {
    payers = map (λ i. pair_of b i b.start) a.pattern.payers;
    until = a.pattern.until;
    every = a.pattern.every;
  };
}
