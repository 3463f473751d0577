-- A system with a place for the pair of states of each transition has the places of a job.
use Rattle.std.specs.Prelude.{◌≡◌, ℕ, ◌==◌, ◌&&◌, ◌||◌, Bool, true, Option, Some, find, nat_eq}
use Rattle.std.specs.Prelude.{All, List, length, slice_index_or}
use Rattle.std.proofs.Common.{ap, ◌∙◌, arith}
use Rattle.std.proofs.lemmas.List.{length-map}
use Rattle.std.proofs.lemmas.List.Folds.{list_any_at}
use Rattle.model_specs.specs.Product.{Product, Transition, transition_at}
use Rattle.whole_laws.specs.Whole.{places}
use Rattle.whole_laws.proofs.Tests.{same_is}
use Rattle.whole_laws.proofs.Found.{found_by}
use Rattle.model_specs.specs.Cells.{transition_between}
use Rattle.linear_system.specs.StoredSystem.{StoredSystem}
use Rattle.linear_system.specs.Setting.{IsMadeFor, is_link}
use Rattle.product_model.specs.PartLaws.{PairsAgree}
use Rattle.product_model.specs.Views.{graph_of}
use Rattle.cell_coeffs.specs.Rows.{IsMadeForFirst}
use Rattle.cell_coeffs.proofs.Links.{found_inside}

pub either_true : (a b : Bool) → b ≡ true → (a || b) ≡ true
either_true a b is = rw is (grind arith)

-- what is found passes the test
pub found_passes : (test : ℕ → Bool) (xs : List ℕ) (e : ℕ) → find test xs ≡ Some e → test e ≡ true
found_passes test xs e is =
    let P : Option ℕ → Type 0 = λ found. (k : ℕ) → found ≡ Some k → test k ≡ true in
    found_by P test xs (λ k h. cc) (each test xs) e is
  where
    each : (test : ℕ → Bool) (xs : List ℕ)
        → All (λ e. test e ≡ true → (k : ℕ) → ◌≡◌ {A = Option ℕ} (Some e) (Some k) → test k ≡ true) xs
    each test xs k d b passes j same =
        let e : slice_index_or xs k d ≡ j = cc in
        rw (← e) passes

-- a transition's pair of states is among the links
pub linked : (product : Product) (i j e : ℕ) → PairsAgree → transition_between product i j ≡ Some e
    → is_link (graph_of product).edges i j ≡ true
linked product i j e pairs is =
    let edges = (graph_of product).edges in
    let long : length edges ≡ length product.transitions =
    length-map product.transitions (λ (t : Transition). (t.from, t.to)) in
    let passes = found_passes (λ k. ((transition_at product k).from == i) && ((transition_at product k).to == j))
    (places (length product.transitions)) e is in
    list_any_at (λ (link : ℕ × ℕ). nat_eq link.0 i && nat_eq link.1 j) edges e (0, 0)
    (omega (arith, found_inside product i j e is, long))
    (ap (λ (p : ℕ × ℕ). nat_eq p.0 i && nat_eq p.1 j) (pairs product e) ∙ passes)

pub made_for_first : (product : Product) (links : List (ℕ × ℕ)) (s : StoredSystem) → PairsAgree
    → links ≡ (graph_of product).edges → IsMadeFor (length product.states) 8 links s → IsMadeForFirst product s
made_for_first product links s pairs are made = record {
  dim_is = made.dim_is;
  powers = omega (arith, made.degree_is);
  diagonal = λ i b. (made.places i i b b).1 (ap (λ t. t || is_link links i i) (same_is i));
  links = λ i j e b c is. (made.places i j b c).1
      (either_true (nat_eq j i) (is_link links i j) (rw are (linked product i j e pairs is)));
}
