-- What a row of a table of exits holds.
use Rattle.std.specs.Prelude.{◌≡◌, ℕ, ◌<◌, All, map, List, [], ◌∷◌, length, slice_index_or, refl, Vec}
use Rattle.std.specs.declared.alloc.Global.{Global}
use Rattle.std.proofs.Common.{ap, sym, ◌∙◌, arith}
use Rattle.std.proofs.lemmas.List.{get_or-map, length-map}
use Rattle.std.proofs.lemmas.List.Elements.{All-same, All-map, All-filter, All-from_get_or}
use Rattle.whole_laws.specs.Whole.{places}
use Rattle.whole_laws.proofs.ListsByPlace.{at-list_of, length-list_of}
use Rattle.state_graph.specs.StateGraphs.{StateGraph, IsGraph, edge_at}
use Rattle.state_graph.specs.Exits.{exits_of, exit_by, IsExitTable}
use Rattle.state_graph.specs.declared.exits.Edge.{Edge}

pub table_has_states : (graph : StateGraph) (table : List (Vec Edge Global)) → IsExitTable graph table
    → length table ≡ length graph.names
table_has_states graph table is =
    sym (length-map table (λ exits. exits.items)) ∙ ap length is ∙ length-list_of (length graph.names) _

-- the row of a state
pub record IsRow (graph : StateGraph) (state : ℕ) (row : List Edge) : Type 0 where
  pub is : row ≡ map (exit_by graph.edges) (exits_of graph.edges state)

pub row_of_table : (graph : StateGraph) (table : List (Vec Edge Global)) (state : ℕ) (row : Vec Edge Global)
    → IsExitTable graph table → state < length graph.names → row ≡ slice_index_or table state row
    → IsRow graph state row.items
row_of_table graph table state row is inside read = record {
  is =
      let within : state < length table = omega (arith, table_has_states graph table is) in
      ap (λ exits. exits.items) read
      ∙ sym (get_or-map (λ exits. exits.items) table state row [] within)
      ∙ ap (λ rows. slice_index_or rows state []) is
      ∙ at-list_of (length graph.names) _ state [] inside;
}

map_undone : (edges : List (ℕ × ℕ)) (xs : List ℕ) → map (λ exit. exit.transition) (map (exit_by edges) xs) ≡ xs
map_undone edges [] = refl
map_undone edges (x ∷ xs) = ap (λ ys. x ∷ ys) (map_undone edges xs)

pub row_has_transitions : (graph : StateGraph) (state : ℕ) (row : List Edge) → IsRow graph state row
    → map (λ exit. exit.transition) row ≡ exits_of graph.edges state
row_has_transitions graph state row row_is =
    ap (map (λ exit. exit.transition)) row_is.is ∙ map_undone graph.edges (exits_of graph.edges state)

pub row_leads_to : (graph : StateGraph) (state : ℕ) (row : List Edge) → IsRow graph state row
    → All (λ exit. exit.to ≡ (edge_at graph.edges exit.transition).1) row
row_leads_to graph state row row_is =
    let Leads : Edge → Type 0 = λ exit. exit.to ≡ (edge_at graph.edges exit.transition).1 in
    All-same Leads row _ row_is.is
    (All-map Leads (exit_by graph.edges) (exits_of graph.edges state) (λ k d b. refl))

places_are_below : (n : ℕ) → All (λ e. e < n) (places n)
places_are_below n =
    All-from_get_or (λ e. e < n) (places n) 0
    (λ i b.
    let below : i < n = omega (arith, length-list_of n (λ k. k)) in
    let here : slice_index_or (places n) i 0 ≡ i = at-list_of n (λ k. k) i 0 below in omega arith)

exits_are_below : (edges : List (ℕ × ℕ)) (state : ℕ) → All (λ e. e < length edges) (exits_of edges state)
exits_are_below edges state =
    All-filter _ (λ e. e < length edges) (places (length edges)) (places_are_below (length edges))

pub row_is_within : (graph : StateGraph) (state : ℕ) (row : List Edge) → IsRow graph state row
    → All (λ exit. exit.transition < length graph.edges) row
row_is_within graph state row row_is =
    let Within : Edge → Type 0 = λ exit. exit.transition < length graph.edges in
    All-same Within row _ row_is.is
    (All-map Within (exit_by graph.edges) (exits_of graph.edges state) (exits_are_below graph.edges state))

pub row_leads_to_states : (graph : StateGraph) (state : ℕ) (row : List Edge) → IsGraph graph → IsRow graph state row
    → All (λ exit. exit.to < length graph.names) row
row_leads_to_states graph state row is_graph row_is =
    let Within : Edge → Type 0 = λ exit. exit.to < length graph.names in
    All-same Within row _ row_is.is
    (All-map Within (exit_by graph.edges) (exits_of graph.edges state)
    (λ k d b. is_graph.to _ (0, 0) (exits_are_below graph.edges state k d b)))
