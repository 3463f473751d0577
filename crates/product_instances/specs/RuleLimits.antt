-- What rules 15, 16 and 17 still take and what they first refuse, each by its place: two months over a million.
use Rattle.std.specs.Prelude.{◌≡◌, ℕ, pos, negsuc, codes, Some, None, List, [], ◌∷◌}
use Rattle.model_specs.specs.Curve.{Piece}
use Rattle.model_specs.specs.Product.{Product, Transition, no_pattern}
use Rattle.model_specs.specs.ValuationRules.{first_broken}
use Rattle.model_laws.specs.Examples.{constant_curve}

-- three states and no payments, with a force of interest and transitions
abbrev pub two_months : List Piece → List Transition → Product
two_months interest transitions = record {
  name = codes "limits";
  states = codes "a" ∷ codes "b" ∷ codes "c" ∷ [];
  start = 0;
  months = 2;
  den = 1000000;
  interest = interest;
  transitions = transitions;
  sojourns = [];
  lumps = [];
  pattern = no_pattern;
}

-- a transition between two states
abbrev pub link : ℕ → ℕ → List Piece → Transition
link from to rate = record { from = from; to = to; rate = rate; sum = [] }

-- rule 17 adds up the exits of a state: two exits of 3/2 a year are refused
abbrev pub TwoExits : Type 0
TwoExits = first_broken (two_months (constant_curve (pos 0))
    (link 0 1 (constant_curve (pos 1500000)) ∷ link 0 2 (constant_curve (pos 1500000)) ∷ []))
    ≡ Some (record { rule = 17; place = 0 })

-- it does not add up entries: two entries of 3/2 a year are taken
abbrev pub TwoEntries : Type 0
TwoEntries = first_broken (two_months (constant_curve (pos 0))
    (link 1 0 (constant_curve (pos 1500000)) ∷ link 2 0 (constant_curve (pos 1500000)) ∷ [])) ≡ None

-- rule 15 takes a fiftieth below 0, and refuses a millionth less
abbrev pub LeastInterest : Type 0
LeastInterest = (first_broken (two_months (constant_curve (negsuc 19999)) []) ≡ None)
    × (first_broken (two_months (constant_curve (negsuc 20000)) []) ≡ Some (record { rule = 15; place = 0 }))

-- rule 16 looks at Bernstein coefficients: (1 - 24 t)^2 is nowhere below 0 in its month, and refused
abbrev pub TouchingRate : Type 0
TouchingRate =
    let touching : Piece = record { from = 0; c = pos 1 ∷ negsuc 47 ∷ pos 576 ∷ pos 0 ∷ pos 0 ∷ pos 0 ∷ [] } in
    let one : Piece = record { from = 1; c = pos 1 ∷ pos 0 ∷ pos 0 ∷ pos 0 ∷ pos 0 ∷ pos 0 ∷ [] } in
    first_broken (two_months (constant_curve (pos 0)) (link 0 1 (touching ∷ one ∷ []) ∷ []))
    ≡ Some (record { rule = 16; place = 0 })

-- rule 15 is looked at over the whole term before rule 16: it is broken in month 1, and rule 16 in month 0 too
abbrev pub FirstRuleFirst : Type 0
FirstRuleFirst =
    let none : Piece = record { from = 0; c = pos 0 ∷ pos 0 ∷ pos 0 ∷ pos 0 ∷ pos 0 ∷ pos 0 ∷ [] } in
    let all : Piece = record { from = 1; c = pos 1000000 ∷ pos 0 ∷ pos 0 ∷ pos 0 ∷ pos 0 ∷ pos 0 ∷ [] } in
    first_broken (two_months (none ∷ all ∷ []) (link 0 1 (constant_curve (negsuc 999999)) ∷ []))
    ≡ Some (record { rule = 15; place = 1 })
