-- The transition that is found among the exits of a state is the one that is found among all.
use Rattle.std.specs.Prelude.{◌≡◌, ℕ, ◌==◌, ◌&&◌, Bool, true, false, cond, Some, find, filter, map}
use Rattle.std.specs.Prelude.{option_map}
use Rattle.std.specs.Prelude.{All, List, [], ◌∷◌}
use Rattle.std.proofs.Common.{refl, ap, ◌∙◌}
use Rattle.std.proofs.lemmas.List.Elements.{All-head, All-tail}
use Rattle.std.specs.Prelude.{length}
use Rattle.std.proofs.lemmas.List.{length-map}
use Rattle.whole_laws.specs.Whole.{places}
use Rattle.model_specs.specs.Product.{Product, Transition, transition_at}
use Rattle.model_specs.specs.Cells.{transition_between}
use Rattle.state_graph.specs.declared.exits.Edge.{Edge}
use Rattle.state_graph.specs.StateGraphs.{edge_at}
use Rattle.state_graph.specs.Exits.{exits_of}
use Rattle.product_model.specs.PartLaws.{PairsAgree}
use Rattle.product_model.specs.Views.{graph_of}

-- among those that pass a first test
find-filter : (a b : ℕ → Bool) (xs : List ℕ) → find b (filter a xs) ≡ find (λ x. a x && b x) xs
find-filter a b [] = refl
find-filter a b (x ∷ xs) = choose (a x) (find-filter a b xs)
  where
    choose : (t : Bool) → find b (filter a xs) ≡ find (λ y. a y && b y) xs
        → find b (cond t (x ∷ filter a xs) (filter a xs)) ≡ cond (t && b x) (Some x) (find (λ y. a y && b y) xs)
    choose true later = ap (λ rest. cond (b x) (Some x) rest) later
    choose false later = later

-- exits by their transitions
find-exits : (to : ℕ → ℕ) (j : ℕ) (exits : List Edge) → All (λ exit. exit.to ≡ to exit.transition) exits
    → option_map (λ (exit : Edge). exit.transition) (find (λ exit. exit.to == j) exits)
    ≡ find (λ e. to e == j) (map (λ exit. exit.transition) exits)
find-exits to j [] agree = refl
find-exits to j (x ∷ exits) agree =
    rw (← All-head (λ (exit : Edge). exit.to ≡ to exit.transition) x exits agree)
    (choose (x.to == j) (find-exits to j exits (All-tail (λ (exit : Edge). exit.to ≡ to exit.transition) x exits
    agree)))
  where
    choose : (t : Bool) → option_map (λ (exit : Edge). exit.transition) (find (λ exit. exit.to == j) exits)
        ≡ find (λ e. to e == j) (map (λ exit. exit.transition) exits)
        → option_map (λ (exit : Edge). exit.transition) (cond t (Some x) (find (λ exit. exit.to == j) exits))
        ≡ cond t (Some x.transition) (find (λ e. to e == j) (map (λ exit. exit.transition) exits))
    choose true later = refl
    choose false later = later

pub found : (from to : ℕ → ℕ) (i j : ℕ) (exits : List Edge) (xs : List ℕ)
    → All (λ exit. exit.to ≡ to exit.transition) exits
    → map (λ exit. exit.transition) exits ≡ filter (λ e. from e == i) xs
    → option_map (λ (exit : Edge). exit.transition) (find (λ exit. exit.to == j) exits)
    ≡ find (λ e. (from e == i) && (to e == j)) xs
found from to i j exits xs agree are =
    find-exits to j exits agree ∙ ap (find (λ e. to e == j)) are
    ∙ find-filter (λ e. from e == i) (λ e. to e == j) xs

find-ext : (a b : ℕ → Bool) (xs : List ℕ) → ((x : ℕ) → a x ≡ b x) → find a xs ≡ find b xs
find-ext a b [] same = refl
find-ext a b (x ∷ xs) same = rw (same x) (ap (λ rest. cond (b x) (Some x) rest) (find-ext a b xs same))

-- the exit of a state to another is the transition between them
pub between : (product : Product) (i j : ℕ) (exits : List Edge) → PairsAgree
    → All (λ exit. exit.to ≡ (edge_at (graph_of product).edges exit.transition).1) exits
    → map (λ exit. exit.transition) exits ≡ exits_of (graph_of product).edges i
    → option_map (λ (exit : Edge). exit.transition) (find (λ exit. exit.to == j) exits) ≡ transition_between product i j
between product i j exits pairs agree are =
    let edges = (graph_of product).edges in
    found (λ e. (edge_at edges e).0) (λ e. (edge_at edges e).1) i j exits (places (length edges)) agree are
    ∙ find-ext (λ e. ((edge_at edges e).0 == i) && ((edge_at edges e).1 == j))
    (λ e. ((transition_at product e).from == i) && ((transition_at product e).to == j)) (places (length edges))
    (λ e. ap (λ (p : ℕ × ℕ). (p.0 == i) && (p.1 == j)) (pairs product e))
    ∙ ap (λ n. find (λ e. ((transition_at product e).from == i) && ((transition_at product e).to == j)) (places n))
    (length-map product.transitions (λ (t : Transition). (t.from, t.to)))
