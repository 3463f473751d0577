-- The tree of a generated product file, by its seed: a disability annuity of 65 years with death sums and a monthly
-- premium. The keys of each table stand in their order. This product's own.
use Rattle.std.specs.Prelude.{ℕ, suc, ◌+◌, ◌*◌, pos, List, [], ◌∷◌, ◌++◌, codes, decimal, if◌then◌else◌}
use Rattle.std.specs.Ordering.{nat_cmp, match_ordering}
use Rattle.std.specs.Cmp.Lexicographic.{slice_cmp}
use Rattle.toml.specs.Data.{Data, string, integer, array, table, Members, no_members, member}
use Rattle.toml.specs.View.{items_of}
use Rattle.whole_laws.specs.Whole.{list_of}
use Rattle.workload_gen.specs.declared.transition.Transition.{Transition}
use Rattle.workload_gen.specs.declared.transition.Transition.TheVariants as variant
use Rattle.workload_gen.specs.Draws.{state_after, draw_at}
use Rattle.workload_gen.specs.Transitions.{from_of, to_of, level_of, spread_of, place_of, is_death}

-- a whole number that is not negative
abbrev pub whole : ℕ → Data
whole n = integer (pos n)

-- an array of these items
abbrev pub array_of : List Data → Data
array_of items = array (items_of items)

-- a table of two members
abbrev pub pair_table : List ℕ → Data → List ℕ → Data → Data
pair_table k a l b = table (member k a (member l b no_members))

-- a table of three members
abbrev pub triple_table : List ℕ → Data → List ℕ → Data → List ℕ → Data → Data
triple_table k a l b m c = table (member k a (member l b (member m c no_members)))

-- a piece of a curve from a month on
abbrev pub piece : (from : ℕ) → (c : List Data) → Data
piece from c = pair_table (codes "c") (array_of c) (codes "from") (whole from)

-- the years that curves have a piece for
abbrev pub years : ℕ
years = 65

-- how many numbers a piece draws
abbrev pub draws_of_piece : ℕ
draws_of_piece = 4

-- the four coefficients of a transition's piece for a year, drawn from a state on
abbrev pub coefficients : Transition → (year x : ℕ) → List Data
coefficients t year x = whole (level_of t year + draw_at x 0 (spread_of t)) ∷ whole (draw_at x 1 1000000)
    ∷ whole (draw_at x 2 500000) ∷ whole (draw_at x 3 100000) ∷ []

-- its piece for a year, where x is the state before the first piece's draws
abbrev pub year_piece : Transition → (x year : ℕ) → Data
year_piece t x year = piece (12 * year) (coefficients t year (state_after x (draws_of_piece * year)))

-- its pieces, one for each year
unfoldable pub rate : Transition → (x : ℕ) → List Data
rate t x = list_of years (year_piece t x)

-- the sum that both deaths pay
abbrev pub death_sum : Data
death_sum = array_of (pair_table (codes "amount") (whole 10000000) (codes "from") (whole 0) ∷ [])

-- a transition, where x is the state before its draws
abbrev pub transition_of : Transition → (x : ℕ) → Data
transition_of t x =
    let to = member (codes "to") (string (to_of t)) no_members in
    table (member (codes "from") (string (from_of t)) (member (codes "rate") (array_of (rate t x))
    (if is_death t then member (codes "sum") death_sum to else to)))

-- the state before a transition's draws, from the state before the first transition's on
abbrev pub state_before : (x : ℕ) → Transition → ℕ
state_before x t = state_after x (years * draws_of_piece * place_of t)

-- the four transitions, where x is the state before the draws of the first
abbrev pub transitions : (x : ℕ) → List Data
transitions x = transition_of variant.Disability (state_before x variant.Disability)
    ∷ transition_of variant.Recovery (state_before x variant.Recovery)
    ∷ transition_of variant.DeathOfActive (state_before x variant.DeathOfActive)
    ∷ transition_of variant.DeathOfDisabled (state_before x variant.DeathOfDisabled) ∷ []

-- what a disabled life is paid at the end of each month
abbrev pub annuity : (seed : ℕ) → ℕ
annuity seed = 100000 + draw_at seed 0 50001

-- its lump at the end of a month
abbrev pub lump : (amount month : ℕ) → Data
lump amount month = triple_table (codes "amount") (whole amount) (codes "month") (whole (suc month))
    (codes "state") (string (codes "disabled"))

-- the months of the term
abbrev pub term : ℕ
term = 780

-- its lumps, one for each month
unfoldable pub lumps : (amount : ℕ) → List Data
lumps amount = list_of term (lump amount)

-- the force of interest: 0.03 a year for 20 years, and then 0.025
abbrev pub interest : List Data
interest = piece 0 (whole 30000000 ∷ []) ∷ piece 240 (whole 25000000 ∷ []) ∷ []

-- the premium is paid by active lives at the beginning of each month, for 40 years
abbrev pub premium : Data
premium = triple_table (codes "every") (whole 1) (codes "payers") (array_of (string (codes "active") ∷ []))
    (codes "until") (whole 480)

-- the names of the states
abbrev pub states : List Data
states = string (codes "active") ∷ string (codes "disabled") ∷ string (codes "dead") ∷ []

-- the product's name
abbrev pub name : (seed : ℕ) → List ℕ
name seed = codes "generated-" ++ decimal seed

-- the members with one more, at its place in the order of their keys
abbrev pub with_member : List ℕ → Data → Members → Members
with_member k d no_members = member k d no_members
with_member k d (member l e more) = match_ordering (slice_cmp nat_cmp k l) (member k d (member l e more))
    (member l d more) (member l e (with_member k d more))

-- the whole tree: one draw is made before those of the transitions
abbrev pub generated : (seed : ℕ) → Members
generated seed = member (codes "den") (whole 1000000000) (member (codes "format") (whole 1)
    (member (codes "interest") (array_of interest) (member (codes "lump") (array_of (lumps (annuity seed)))
    (member (codes "months") (whole term) (member (codes "name") (string (name seed))
    (member (codes "premium") premium (member (codes "start") (string (codes "active"))
    (member (codes "states") (array_of states)
    (member (codes "transition") (array_of (transitions (state_after seed 1))) no_members)))))))))
