-- What contracts see of the states and transitions of a product.
use Rattle.std.specs.Prelude.{◌≢◌, ℕ, ◌<◌, All, List, [], length, slice_index_or, map, Vec}
use Rattle.std.specs.declared.alloc.Global.{Global}
use Rattle.model_specs.specs.RecordRules.{AreDistinct}

-- the states' names as bytes, and for each transition the states that it leads from and to, by their indices
pub record StateGraph : Type 0 where
  pub names : List (List ℕ)
  pub edges : List (ℕ × ℕ)

-- no two states have the same name; each transition leads from a state to another one, and no two have the same pair
pub record IsGraph (graph : StateGraph) : Type 0 where
  pub names : AreDistinct [] graph.names
  pub from : All (λ edge. edge.0 < length graph.names) graph.edges
  pub to : All (λ edge. edge.1 < length graph.names) graph.edges
  pub different : All (λ edge. edge.0 ≢ edge.1) graph.edges
  pub edges : AreDistinct {A = ℕ × ℕ} (0, 0) graph.edges

-- the name of a state
abbrev pub name_at : StateGraph → ℕ → List ℕ
name_at graph state = slice_index_or graph.names state []

-- the states that a transition leads from and to
abbrev pub edge_at : List (ℕ × ℕ) → ℕ → ℕ × ℕ
edge_at edges transition = slice_index_or edges transition (0, 0)

-- names as a program stores them
abbrev pub texts_of : List (Vec ℕ Global) → List (List ℕ)
texts_of names = map (λ name. name.items) names
