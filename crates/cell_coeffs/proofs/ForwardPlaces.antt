-- A system with a place for each transition turned round has the places of Kolmogorov's equations.
use Rattle.std.specs.Prelude.{◌≡◌, ℕ, ◌+◌, ◌<◌, ◌&&◌, ◌||◌, Bool, true, false, nat_eq, map, List, [], ◌∷◌, ◌++◌, length}
use Rattle.std.proofs.Common.{refl, ap, sym, ◌∙◌, arith, add-one, take, get_or}
use Rattle.std.proofs.Math.ListN.{get_or-map}
use Rattle.std.proofs.Math.Seq.{take-suc}
use Rattle.std.proofs.lemmas.List.{length-map}
use mathlib.Core.Path.{ap₂}
use Rattle.model_specs.specs.Product.{Product}
use Rattle.linear_system.specs.StoredSystem.{StoredSystem}
use Rattle.linear_system.specs.Setting.{IsMadeFor, is_link}
use Rattle.state_graph.specs.StateGraphs.{edge_at}
use Rattle.product_model.specs.PartLaws.{PairsAgree}
use Rattle.product_model.specs.Views.{graph_of}
use Rattle.cell_coeffs.specs.ForwardColumns.{IsMadeForward}
use Rattle.cell_coeffs.proofs.MadeSystems.{linked}
use Rattle.whole_laws.proofs.Tests.{same_is}

-- a pair turned round
abbrev turned : ℕ × ℕ → ℕ × ℕ
turned edge = (edge.1, edge.0)

-- one pair more
pub turned_more : (edges : List (ℕ × ℕ)) (k : ℕ) (old new : List (ℕ × ℕ)) (edge : ℕ × ℕ) → k < length edges
    → old ≡ take k (map turned edges) → edge ≡ edge_at edges k → new ≡ old ++ turned edge ∷ []
    → new ≡ take (k + 1) (map turned edges)
turned_more edges k old new edge inside so_far at is =
    let next : get_or (map turned edges) k (0, 0) ≡ turned edge =
    get_or-map turned edges k (0, 0) ∙ ap turned (sym at) in
    rw (add-one k, take-suc (map turned edges) k (0, 0) (rw (length-map edges turned) inside), next, is, so_far) refl

-- pairs turned round link the other way
turned_link : (edges : List (ℕ × ℕ)) (i j : ℕ)
    → is_link (map turned edges) j i ≡ is_link edges i j
turned_link [] i j = refl
turned_link (edge ∷ edges) i j =
    ap₂ ◌||◌ (turned_test (nat_eq edge.1 j) (nat_eq edge.0 i)) (turned_link edges i j)
  where
    turned_test : (a b : Bool) → (a && b) ≡ (b && a)
    turned_test true true = refl
    turned_test true false = refl
    turned_test false true = refl
    turned_test false false = refl

either_true : (a b : Bool) → b ≡ true → (a || b) ≡ true
either_true a b is = rw is (grind arith)

pub made_forward : (product : Product) (links : List (ℕ × ℕ)) (s : StoredSystem) → PairsAgree
    → links ≡ map turned (graph_of product).edges
    → IsMadeFor (length product.states) 5 links s → IsMadeForward product s
made_forward product links s pairs are made = record {
  dim_is = made.dim_is;
  degree_is = made.degree_is;
  diagonal = λ i b. (made.places i i b b).1 (ap (λ t. t || is_link links i i) (same_is i));
  links = λ i j e b c is. (made.places j i c b).1
      (either_true (nat_eq i j) (is_link links j i)
      (rw are (turned_link (graph_of product).edges i j ∙ linked product i j e pairs is)));
}
