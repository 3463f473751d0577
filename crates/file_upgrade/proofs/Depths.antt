-- How deep the tree is: far less than a reader goes.
use Rattle.std.proofs.Common.{◌≡◌, ℕ, ◌≤◌, List, [], ◌∷◌, map, arith, refl}
use Rattle.std.specs.Prelude.{ℤ}
use Rattle.toml.specs.Data.{Data, string, integer, depth, items_depth, members_depth}
use Rattle.toml.specs.View.{items_of}
use Rattle.model_specs.specs.Curve.{Piece}
use Rattle.model_specs.specs.Product.{Product, Step, Transition, Sojourn}
use Rattle.file_upgrade.specs.FileTree.{part_data, pieces_data, steps_data, state_data, transition_data, sojourn_data}
use Rattle.file_upgrade.specs.FileTree.{lump_data, premium_data, with_premium, members_but_premium, file_tree}

items_depth-map : {A : Type 0} (f : A → Data) (most : ℕ) → ((x : A) → depth (f x) ≤ most) → (xs : List A)
    → items_depth (items_of (map f xs)) ≤ most
items_depth-map f most h [] = omega arith
items_depth-map f most h (x ∷ xs) = omega (arith, h x, items_depth-map f most h xs)

part_depth : (from : ℕ) (c : List ℤ) → depth (part_data from c) ≤ 2
part_depth from c = omega (arith, items_depth-map integer 0 (λ z. omega arith) c)

pieces_depth : (pieces : List Piece) → depth (pieces_data pieces) ≤ 3
pieces_depth pieces = omega (
  arith,
  items_depth-map (λ (piece : Piece). part_data piece.from piece.c) 2
      (λ piece. part_depth piece.from piece.c) pieces,
)

steps_depth : (steps : List Step) → depth (steps_data steps) ≤ 3
steps_depth steps = omega (
  arith,
  items_depth-map (λ (step : Step). part_data step.from step.c) 2
      (λ step. part_depth step.from step.c) steps,
)

transition_depth : (p : Product) (t : Transition) → depth (transition_data p t) ≤ 4
transition_depth p t = by-steps t.sum refl
  where
    by-steps : (steps : List Step) → t.sum ≡ steps → depth (transition_data p t) ≤ 4
    by-steps [] is = rw is (omega (arith, pieces_depth t.rate))
    by-steps (step ∷ steps) is = rw is (omega (arith, pieces_depth t.rate, steps_depth (step ∷ steps)))

sojourn_depth : (p : Product) (s : Sojourn) → depth (sojourn_data p s) ≤ 4
sojourn_depth p s = omega (arith, steps_depth s.steps)

premium_depth : (p : Product) → depth (premium_data p) ≤ 2
premium_depth p = omega (arith, items_depth-map (state_data p) 0 (λ i. omega arith) p.pattern.payers)

depth_with : (p : Product) (payers : List ℕ) → members_depth (with_premium p payers (members_but_premium p)) ≤ 80
depth_with p [] = omega (
  arith,
  pieces_depth p.interest,
  items_depth-map (lump_data p) 1 (λ l. omega arith) p.lumps,
  items_depth-map (sojourn_data p) 4 (sojourn_depth p) p.sojourns,
  items_depth-map string 0 (λ name. omega arith) p.states,
  items_depth-map (transition_data p) 4 (transition_depth p) p.transitions,
)
depth_with p (payer ∷ payers) = omega (
  arith,
  pieces_depth p.interest,
  items_depth-map (lump_data p) 1 (λ l. omega arith) p.lumps,
  premium_depth p,
  items_depth-map (sojourn_data p) 4 (sojourn_depth p) p.sojourns,
  items_depth-map string 0 (λ name. omega arith) p.states,
  items_depth-map (transition_data p) 4 (transition_depth p) p.transitions,
)

pub file_tree_depth : (p : Product) → members_depth (file_tree p) ≤ 80
file_tree_depth p = depth_with p p.pattern.payers
