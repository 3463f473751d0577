-- The exits among one transition more, and a table of one state more.
use Rattle.std.specs.Prelude.{◌≡◌, ◌≢◌, ℕ, ◌+◌, Bool, true, false, cond, ◌==◌, filter}
use Rattle.std.specs.Prelude.{map, List, [], ◌∷◌, ◌++◌}
use Rattle.std.proofs.Common.{ap, ◌∙◌, eq-eqb, append-nil}
use Rattle.std.proofs.lemmas.Bool.{ne_eqb}
use Rattle.std.proofs.lemmas.List.{map-append}
use Rattle.std.proofs.lemmas.List.Elements.{filter-append}
use Rattle.whole_laws.specs.Whole.{list_of, places}
use Rattle.whole_laws.proofs.ListsByPlace.{list_of-next}
use Rattle.state_graph.specs.StateGraphs.{edge_at}
use Rattle.state_graph.specs.Exits.{exits_among, exit_by}
use Rattle.state_graph.specs.declared.exits.Edge.{Edge}

-- whether one transition more is an exit
more_exits : (n : ℕ) (edges : List (ℕ × ℕ)) (state : ℕ) (b : Bool) → ((edge_at edges n).0 == state) ≡ b
    → exits_among (n + 1) edges state ≡ exits_among n edges state ++ cond b (n ∷ []) []
more_exits n edges state b is =
    let passes : ℕ → Bool = λ e. (edge_at edges e).0 == state in
    ap (filter passes) (list_of-next n (λ i. i)) ∙ filter-append passes (places n) (n ∷ [])
    ∙ ap (λ test. exits_among n edges state ++ cond test (n ∷ []) []) is

pub exit_is_taken : (n : ℕ) (edges : List (ℕ × ℕ)) (state : ℕ) → (edge_at edges n).0 ≡ state
    → map (exit_by edges) (exits_among (n + 1) edges state)
    ≡ map (exit_by edges) (exits_among n edges state) ++ exit_by edges n ∷ []
exit_is_taken n edges state from =
    ap (map (exit_by edges)) (more_exits n edges state true (eq-eqb _ _ from))
    ∙ map-append (exit_by edges) (exits_among n edges state) (n ∷ [])

pub exit_is_passed : (n : ℕ) (edges : List (ℕ × ℕ)) (state : ℕ) → (edge_at edges n).0 ≢ state
    → map (exit_by edges) (exits_among (n + 1) edges state) ≡ map (exit_by edges) (exits_among n edges state)
exit_is_passed n edges state from =
    ap (map (exit_by edges))
    (more_exits n edges state false (ne_eqb _ _ from) ∙ append-nil (exits_among n edges state))

-- the table of one state more
pub table_of_more : (n : ℕ) (exits : ℕ → List Edge) → list_of (n + 1) exits ≡ list_of n exits ++ exits n ∷ []
table_of_more n exits = list_of-next n exits
