-- Links that are added one after another, and the system that has them.
use Rattle.std.specs.Prelude.{◌≡◌, ◌≢◌, ℕ, ◌+◌, ◌*◌, ◌<◌, ◌≤◌, ◌==◌, ◌&&◌, ◌||◌, IsTrue, Bool, true, false}
use Rattle.std.specs.Prelude.{Some, nat_eq, List, [], ◌∷◌, ◌++◌, length}
use Rattle.std.specs.List.{list_any}
use Rattle.std.proofs.Common.{refl, ap, sym, ◌∙◌, arith, inl, inr, ◌⊎◌}
use Rattle.std.proofs.lemmas.Bool.{false≢true}
use Rattle.std.proofs.lemmas.Bool.Decides.{eqb_tells}
use Rattle.std.proofs.lemmas.List.{length-map}
use Rattle.model_specs.specs.Product.{Product, Transition, transition_at}
use Rattle.whole_laws.specs.Whole.{places}
use Rattle.whole_laws.proofs.Tests.{same_is, same_numbers, both_pass}
use Rattle.model_specs.specs.Cells.{transition_between}
use Rattle.linear_system.specs.StoredSystem.{StoredSystem}
use Rattle.linear_system.specs.Setting.{IsMadeFor, HasPlace, is_link, may_hold}
use Rattle.product_model.specs.PartLaws.{PairsAgree}
use Rattle.product_model.specs.Views.{graph_of}
use Rattle.state_graph.specs.StateGraphs.{edge_at}
use Rattle.cell_coeffs.specs.PairPlaces.{IsOneWay, KeepsLinks, HasPairLinks, HasOwnLinks, HasMomentLinks}
use Rattle.cell_coeffs.specs.PairRows.{IsMadeForMoments}
use Rattle.cell_coeffs.proofs.Links.{found_inside}
use Rattle.cell_coeffs.proofs.MadeSystems.{found_passes, either_true}

-- ---- one link more

any-append : {A : Type 0} (test : A → Bool) (xs ys : List A)
    → list_any test (xs ++ ys) ≡ (list_any test xs || list_any test ys)
any-append test [] ys = refl
any-append test (x ∷ xs) ys =
    ap (λ b. test x || b) (any-append test xs ys) ∙ joined (test x) (list_any test xs) (list_any test ys)
  where
    joined : (a b c : Bool) → (a || (b || c)) ≡ ((a || b) || c)
    joined true b c = refl
    joined false b c = refl

or_left : (a b : Bool) → a ≡ true → (a || b) ≡ true
or_left a b is = rw is refl

or_right : (a b : Bool) → b ≡ true → (a || b) ≡ true
or_right a b is = either_true a b is

or_none : (a b : Bool) → a ≡ false → b ≡ false → (a || b) ≡ false
or_none a b first second = rw (first, second) refl

-- a list with one link more
abbrev more : List (ℕ × ℕ) → ℕ → ℕ → List (ℕ × ℕ)
more links i j = links ++ (i, j) ∷ []

more-is : (links : List (ℕ × ℕ)) (i j row col : ℕ)
    → is_link (more links i j) row col ≡ (is_link links row col || ((nat_eq i row && nat_eq j col) || false))
more-is links i j row col = any-append (λ link. nat_eq link.0 row && nat_eq link.1 col) links ((i, j) ∷ [])

pub link_kept : (links : List (ℕ × ℕ)) (i j row col : ℕ) → IsTrue (is_link links row col)
    → IsTrue (is_link (more links i j) row col)
link_kept links i j row col is = more-is links i j row col ∙ or_left (is_link links row col) _ is

pub link_here : (links : List (ℕ × ℕ)) (i j : ℕ) → IsTrue (is_link (more links i j) i j)
link_here links i j =
    more-is links i j i j ∙ or_right (is_link links i j) _ (rw (same_is i, same_is j) refl)

apart_is : (a b : ℕ) → a ≢ b → nat_eq a b ≡ false
apart_is a b apart = elim (eqb_tells a b) [
  | inl same ↦ absurd (apart same.1)
  | inr other ↦ other.0
]

and_false : (a : Bool) → (a && false) ≡ false
and_false true = refl
and_false false = refl

pub one_way_more : (states : ℕ) (links : List (ℕ × ℕ)) (i j : ℕ) → (states ≤ i) ⊎ (j < states) → IsOneWay states links
    → IsOneWay states (more links i j)
one_way_more states links i j way only row col small large =
    more-is links i j row col ∙ or_none (is_link links row col) _ (only row col small large) (none way)
  where
    none : (states ≤ i) ⊎ (j < states) → ((nat_eq i row && nat_eq j col) || false) ≡ false
    none (inl past) = rw (apart_is i row (λ e. absurd (omega (arith, past, e, small)))) refl
    none (inr few) = rw (apart_is j col (λ e. absurd (omega (arith, few, e, large))), and_false (nat_eq i row)) refl

-- ---- the links of a transition, and each state's own

pub pair_links : (states i j : ℕ) (links : List (ℕ × ℕ))
    → HasPairLinks states i j (more (more (more links i j) (states + i) (states + j)) (states + i) j)
pair_links states i j links =
    let one = more links i j in
    let two = more one (states + i) (states + j) in
    record {
      first = link_kept two (states + i) j i j (link_kept one (states + i) (states + j) i j (link_here links i j));
      second = link_kept two (states + i) j (states + i) (states + j) (link_here one (states + i) (states + j));
      coupling = link_here two (states + i) j;
    }

pub pair_kept : (states i j : ℕ) (links : List (ℕ × ℕ)) → j < states
    → KeepsLinks states links (more (more (more links i j) (states + i) (states + j)) (states + i) j)
pair_kept states i j links few =
    let one = more links i j in
    let two = more one (states + i) (states + j) in
    record {
      kept = λ row col is. link_kept two (states + i) j row col
          (link_kept one (states + i) (states + j) row col (link_kept links i j row col is));
      one_way = λ only. one_way_more states two (states + i) j (inl (omega arith))
          (one_way_more states one (states + i) (states + j) (inl (omega arith))
          (one_way_more states links i j (inr few) only));
    }

pub has_pair_kept : (states i j : ℕ) (old new : List (ℕ × ℕ)) → KeepsLinks states old new
    → HasPairLinks states i j old → HasPairLinks states i j new
has_pair_kept states i j old new keeps has = record {
  first = keeps.kept i j has.first;
  second = keeps.kept (states + i) (states + j) has.second;
  coupling = keeps.kept (states + i) j has.coupling;
}

pub own_more : (states k : ℕ) (links : List (ℕ × ℕ)) → HasOwnLinks states k links
    → HasOwnLinks states (k + 1) (more links (states + k) k)
own_more states k links has i few = elim (eqb_tells i k) [
  | inl same ↦ rw same.1 (link_here links (states + k) k)
  | inr apart ↦ link_kept links (states + k) k (states + i) i (has i (grind (arith, few, apart.1)))
]

pub own_kept : (states k : ℕ) (first links : List (ℕ × ℕ)) → KeepsLinks states first links
    → KeepsLinks states first (more links (states + k) k)
own_kept states k first links keeps = record {
  kept = λ row col is. link_kept links (states + k) k row col (keeps.kept row col is);
  one_way = λ only. one_way_more states links (states + k) k (inl (omega arith)) (keeps.one_way only);
}

pub keeps_all : (states : ℕ) (links : List (ℕ × ℕ)) → KeepsLinks states links links
keeps_all states links = record { kept = λ row col is. is; one_way = λ only. only }

-- ---- the transitions of a product

-- the links of the first transitions
abbrev pub HasLinksOf : Product → (states count : ℕ) → List (ℕ × ℕ) → Type 0
HasLinksOf product states count links = (e : ℕ) → e < count
    → HasPairLinks states (edge_at (graph_of product).edges e).0 (edge_at (graph_of product).edges e).1 links

pub links_more : (product : Product) (states k i j : ℕ) (old new : List (ℕ × ℕ))
    → edge_at (graph_of product).edges k ≡ (i, j) → KeepsLinks states old new → HasPairLinks states i j new
    → HasLinksOf product states k old → HasLinksOf product states (k + 1) new
links_more product states k i j old new is keeps here has e few = elim (eqb_tells e k) [
  | inl same ↦ rw (same.1, is) here
  | inr apart ↦ has_pair_kept states _ _ old new keeps (has e (grind (arith, few, apart.1)))
]

pub moment_links_of : (product : Product) (count : ℕ) (old new : List (ℕ × ℕ)) → PairsAgree
    → count ≡ length (graph_of product).edges → HasLinksOf product (length product.states) count old
    → KeepsLinks (length product.states) old new → IsOneWay (length product.states) old
    → HasOwnLinks (length product.states) (length product.states) new → HasMomentLinks product new
moment_links_of product count old new pairs all has keeps only own = record {
  transitions = of_transition;
  own = own;
  one_way = keeps.one_way only;
}
  where
    of_transition : (i j e : ℕ) → transition_between product i j ≡ Some e → HasPairLinks (length product.states) i j new
    of_transition i j e is =
        let long : length (graph_of product).edges ≡ length product.transitions =
        length-map product.transitions (λ (t : Transition). (t.from, t.to)) in
        let passes = found_passes (λ k. ((transition_at product k).from == i) && ((transition_at product k).to == j))
        (places (length product.transitions)) e is in
        let both = both_pass _ _ passes in
        let from = same_numbers (transition_at product e).from i both.0 in
        let to = same_numbers (transition_at product e).to j both.1 in
        let few : e < count = omega (arith, all, long, found_inside product i j e is) in
        let there = rw (pairs product e) at (has e few) in
        has_pair_kept (length product.states) i j old new keeps (rw (← from, ← to) there)

-- ---- the system

pub made_for_moments : (product : Product) (links : List (ℕ × ℕ)) (s : StoredSystem) → HasMomentLinks product links
    → IsMadeFor (2 * length product.states) 11 links s → IsMadeForMoments product s
made_for_moments product links s has made = record {
  dim_is = omega (arith, made.dim_is);
  powers = omega (arith, made.degree_is);
  diagonal = λ i b. on_diagonal i (omega (arith, b));
  links = λ i j e b c is. linked i j (omega (arith, b)) (omega (arith, c)) (has.transitions i j e is).first;
  second_diagonal = λ i b. on_diagonal (length product.states + i) (omega (arith, b));
  second_links = λ i j e b c is. linked (length product.states + i) (length product.states + j) (omega (arith, b))
      (omega (arith, c)) (has.transitions i j e is).second;
  own_coupling = λ i b. linked (length product.states + i) i (omega (arith, b)) (omega (arith, b)) (has.own i b);
  coupling = λ i j e b c is. linked (length product.states + i) j (omega (arith, b)) (omega (arith, c))
      (has.transitions i j e is).coupling;
  one_way = no_way;
}
  where
    on_diagonal : (i : ℕ) → i < 2 * length product.states → HasPlace s i i
    on_diagonal i b = (made.places i i b b).1 (or_left (nat_eq i i) (is_link links i i) (same_is i))

    linked : (i j : ℕ) → i < 2 * length product.states → j < 2 * length product.states → IsTrue (is_link links i j)
        → HasPlace s i j
    linked i j b c is = (made.places i j b c).1 (or_right (nat_eq j i) (is_link links i j) is)

    no_way : (i c : ℕ) → i < length product.states → length product.states ≤ c → HasPlace s i c → ⊥
    no_way i c b past place =
        let inside : c < 2 * length product.states = omega (arith, made.dim_is, place.col_in) in
        let held : may_hold links i c ≡ true = (made.places i c (omega (arith, b)) inside).0 place in
        let not : may_hold links i c ≡ false =
        or_none (nat_eq c i) (is_link links i c) (apart_is c i (λ e. absurd (omega (arith, e, b, past))))
        (has.one_way i c b past) in
        false≢true (sym not ∙ held)
