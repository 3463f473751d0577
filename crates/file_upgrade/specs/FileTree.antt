-- The tree of a product as a file of format 2. The keys of each table stand in their order. This product's own.
use Rattle.std.specs.Prelude.{ℕ, ℤ, codes, List, [], ◌∷◌, map, slice_index_or}
use Rattle.toml.specs.Data.{Data, string, integer, table, Members, no_members, member}
use Rattle.model_specs.specs.Curve.{Piece}
use Rattle.model_specs.specs.Product.{Product, Step, Transition, Sojourn, Lump}
use Rattle.workload_gen.specs.Tree.{array_of, whole, pair_table, triple_table, with_member}

-- a table of the coefficients that hold from a month on: a piece of a curve, or a step of a payment
abbrev pub part_data : (from : ℕ) → (c : List ℤ) → Data
part_data from c = pair_table (codes "c") (array_of (map integer c)) (codes "from") (whole from)

-- the pieces of a curve
abbrev pub pieces_data : List Piece → Data
pieces_data pieces = array_of (map (λ piece. part_data piece.from piece.c) pieces)

-- the steps of a payment
abbrev pub steps_data : List Step → Data
steps_data steps = array_of (map (λ step. part_data step.from step.c) steps)

-- the name of a state
abbrev pub state_name : Product → ℕ → List ℕ
state_name product state = slice_index_or product.states state []

-- the name of a state as a string
abbrev pub state_data : Product → ℕ → Data
state_data product state = string (state_name product state)

-- the members of a transition, with its sum where it has one
abbrev pub with_sum : List Step → Members → Members
with_sum [] members = members
with_sum (step ∷ steps) members = with_member (codes "sum") (steps_data (step ∷ steps)) members

-- a transition
abbrev pub transition_data : Product → Transition → Data
transition_data product t = table (with_sum t.sum (member (codes "from") (state_data product t.from)
    (member (codes "rate") (pieces_data t.rate) (member (codes "to") (state_data product t.to) no_members))))

-- a sojourn
abbrev pub sojourn_data : Product → Sojourn → Data
sojourn_data product s =
    pair_table (codes "state") (state_data product s.state) (codes "steps") (steps_data s.steps)

-- a lump
abbrev pub lump_data : Product → Lump → Data
lump_data product l = triple_table (codes "amount") (integer l.amount) (codes "month") (whole l.month)
    (codes "state") (state_data product l.state)

-- the premium pattern
abbrev pub premium_data : Product → Data
premium_data product = triple_table (codes "every") (whole product.pattern.every)
    (codes "payers") (array_of (map (state_data product) product.pattern.payers))
    (codes "until") (whole product.pattern.until)

-- the members of a file, with the premium where there are payers
abbrev pub with_premium : Product → (payers : List ℕ) → Members → Members
with_premium product [] members = members
with_premium product (payer ∷ payers) members = with_member (codes "premium") (premium_data product) members

-- all members of the file but the premium
abbrev pub members_but_premium : Product → Members
members_but_premium product = member (codes "den") (whole product.den) (member (codes "format") (whole 2)
    (member (codes "interest") (pieces_data product.interest)
    (member (codes "lump") (array_of (map (lump_data product) product.lumps))
    (member (codes "months") (whole product.months) (member (codes "name") (string product.name)
    (member (codes "sojourn") (array_of (map (sojourn_data product) product.sojourns))
    (member (codes "start") (state_data product product.start)
    (member (codes "states") (array_of (map string product.states))
    (member (codes "transition") (array_of (map (transition_data product) product.transitions)) no_members)))))))))

-- the tree of a product as a file of format 2
abbrev pub file_tree : Product → Members
file_tree product = with_premium product product.pattern.payers (members_but_premium product)
