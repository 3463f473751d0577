-- The transitions of the joint record obey rules 7 to 11.
use Rattle.std.proofs.Common.{◌≡◌, ◌≢◌, ℕ, zero, suc, ◌<◌, List, ◌++◌, length, map, get_or}
use Rattle.std.proofs.Common.{arith, refl, ap, sym, ◌∙◌, subst, inl, inr}
use Rattle.std.specs.Prelude.{All, ◌==◌, flat_map}
use Rattle.std.proofs.lemmas.Bool.{eqb-true, cases_lt}
use Rattle.std.proofs.lemmas.List.{get_or-map, length-map, map-append}
use Rattle.std.proofs.lemmas.List.Elements.{All-append, All-map, All-filter, filter_passes}
use Rattle.std.proofs.lemmas.List.Concat.{flat_map-cons}
use Rattle.std.proofs.lemmas.Simd.{map-map}
use Rattle.model_specs.specs.Product.{Product, Transition, transition_at, no_transition}
use Rattle.model_specs.specs.MonthNumbers.{exits}
use Rattle.model_specs.specs.RecordRules.{AreDistinct}
use Rattle.model_specs.specs.RecordRules.{HasGoodTransitions}
use Rattle.whole_laws.specs.Whole.{list_of, places}
use Rattle.whole_laws.proofs.ListsByPlace.{All-list_of}
use Rattle.joint_life.specs.Joining.{CanJoin}
use Rattle.joint_life.specs.JointRecord.{pair_count, first_of, second_of, joint_of}
use Rattle.joint_life.specs.JointRecord.{first_transition, second_transition, transitions_from}
use Rattle.joint_life.proofs.DistinctLists.{all_blocks, distinct_append, distinct_blocks, distinct_filter}
use Rattle.joint_life.proofs.DistinctLists.{distinct_map, distinct_places}
use Rattle.joint_life.proofs.PairIndices.{first_inside, second_inside, first_again, second_again}
use Rattle.joint_life.proofs.PairIndices.{pair_inside, state_count}

-- an exit of a state is a transition that leads from it
pub record IsExit (p : Product) (state e : ℕ) : Type 0 where
  pub inside : e < length p.transitions
  pub from : (transition_at p e).from ≡ state

pub exits_are : (p : Product) (state : ℕ) → All (IsExit p state) (exits p state)
exits_are p state i d below = record {
  inside = All-filter (λ e. (transition_at p e).from == state) (λ e. e < length p.transitions)
      (places (length p.transitions))
      (All-list_of (λ e. e < length p.transitions) (length p.transitions) (λ e. e) (λ e inside. inside)) i d below;
  from = eqb-true (transition_at p (get_or (exits p state) i d)).from state
      (filter_passes (λ e. (transition_at p e).from == state) (places (length p.transitions)) i d below);
}

exits_differ : (p : Product) (state : ℕ) → AreDistinct 0 (exits p state)
exits_differ p state = distinct_filter 0 (λ e. (transition_at p e).from == state) (places (length p.transitions))
    (distinct_places (length p.transitions) (λ e. e) (λ i j low below same. omega (arith, low, same)))

-- the states that a transition leads from and to
abbrev pub ends_of : Transition → ℕ × ℕ
ends_of t = (t.from, t.to)

-- transitions with the same pair of states are one
same_pair : (p : Product) → AreDistinct (0, 0) (map ends_of p.transitions) → (e f : ℕ)
    → e < length p.transitions → f < length p.transitions
    → (transition_at p e).from ≡ (transition_at p f).from → (transition_at p e).to ≡ (transition_at p f).to → e ≡ f
same_pair p distinct e f inside_e inside_f from to = elim (cases_lt e f) [
  | inl below ↦ absurd (distinct e f below (subst (λ n. f < n) (sym as_many) inside_f) (pair-at e inside_e ∙ both
      ∙ sym (pair-at f inside_f)))
  | inr not_below ↦ elim (cases_lt f e) [
    | inl below ↦ absurd (distinct f e below (subst (λ n. e < n) (sym as_many) inside_e) (pair-at f inside_f ∙ sym both
        ∙ sym (pair-at e inside_e)))
    | inr not_above ↦ omega arith
  ]
]
  where
    as_many : length (map ends_of p.transitions) ≡ length p.transitions
    as_many = length-map p.transitions ends_of

    pair-at : (k : ℕ) → k < length p.transitions
        → get_or (map ends_of p.transitions) k (0, 0) ≡ ((transition_at p k).from, (transition_at p k).to)
    pair-at k inside = get_or-map ends_of p.transitions k no_transition (0, 0) inside

    both : ◌≡◌ {A = ℕ × ℕ} ((transition_at p e).from, (transition_at p e).to)
        ((transition_at p f).from, (transition_at p f).to)
    both = ap (λ x. (x, (transition_at p e).to)) from ∙ ap (λ y. ((transition_at p f).from, y)) to

-- values of the members of blocks, block by block
pub map_of_blocks : {A B : Type 0} (f : A → B) (g : ℕ → List A) (k : ℕ → List B) → ((i : ℕ) → map f (g i) ≡ k i)
    → (n : ℕ) (at : ℕ → ℕ) → map f (flat_map g (list_of n at)) ≡ flat_map k (list_of n at)
map_of_blocks f g k same zero at = refl
map_of_blocks f g k same (suc n) at =
    ap (map f) (flat_map-cons g (at 0) (list_of n (λ i. at (suc i))))
    ∙ map-append f (g (at 0)) (flat_map g (list_of n (λ i. at (suc i))))
    ∙ ap (λ xs. xs ++ map f (flat_map g (list_of n (λ i. at (suc i))))) (same (at 0))
    ∙ ap (λ ys. k (at 0) ++ ys) (map_of_blocks f g k same n (λ i. at (suc i)))
    ∙ sym (flat_map-cons k (at 0) (list_of n (λ i. at (suc i))))

module _ (a b : Product) (h : CanJoin a b) where
  -- what holds of all ways out of each pair holds of all transitions
  pub each_transition : (P : Transition → Type 0)
      → ((pair e : ℕ) → pair < pair_count a b → IsExit a (first_of b pair) e → P (first_transition a b pair e))
      → ((pair e : ℕ) → pair < pair_count a b → IsExit b (second_of b pair) e → P (second_transition a b pair e))
      → All P (joint_of a b).transitions
  each_transition P first second =
      all_blocks P (transitions_from a b) (pair_count a b) (λ k. k)
      (λ pair inside. All-append P (map (first_transition a b pair) (exits a (first_of b pair)))
      (map (second_transition a b pair) (exits b (second_of b pair)))
      (All-map P (first_transition a b pair) (exits a (first_of b pair))
      (λ i d below. first pair _ inside (exits_are a (first_of b pair) i d below)))
      (All-map P (second_transition a b pair) (exits b (second_of b pair))
      (λ i d below. second pair _ inside (exits_are b (second_of b pair) i d below))))

  first_target : (pair e : ℕ) → IsExit a (first_of b pair) e
      → (first_transition a b pair e).to < pair_count a b
  first_target pair e exit = pair_inside a b h (transition_at a e).to (second_of b pair)
      (h.first.transitions.to e no_transition exit.inside) (second_inside a b h pair)

  second_target : (pair e : ℕ) → pair < pair_count a b → IsExit b (second_of b pair) e
      → (second_transition a b pair e).to < pair_count a b
  second_target pair e inside exit = pair_inside a b h (first_of b pair) (transition_at b e).to
      (first_inside a b h pair inside) (h.second.transitions.to e no_transition exit.inside)

  first_leads_on : (pair e : ℕ) → IsExit a (first_of b pair) e → pair ≢ (first_transition a b pair e).to
  first_leads_on pair e exit same =
      h.first.transitions.different e no_transition exit.inside
      (exit.from ∙ ap (first_of b) same ∙ first_again a b h (transition_at a e).to (second_of b pair)
      (second_inside a b h pair))

  second_leads_on : (pair e : ℕ) → IsExit b (second_of b pair) e → pair ≢ (second_transition a b pair e).to
  second_leads_on pair e exit same =
      h.second.transitions.different e no_transition exit.inside
      (exit.from ∙ ap (second_of b) same ∙ second_again a b h (first_of b pair) (transition_at b e).to
      (h.second.transitions.to e no_transition exit.inside))

  -- ---- no two lead from one pair to the same pair

  abbrev exits_of_first : ℕ → List ℕ
  exits_of_first pair = exits a (first_of b pair)

  abbrev exits_of_second : ℕ → List ℕ
  exits_of_second pair = exits b (second_of b pair)

  first_differ : (pair : ℕ) → AreDistinct {A = ℕ × ℕ} (0, 0)
      (map (λ e. ends_of (first_transition a b pair e)) (exits_of_first pair))
  first_differ pair = distinct_map {B = ℕ × ℕ} 0 (0, 0) (λ e. ends_of (first_transition a b pair e))
      (exits_of_first pair)
      (exits_differ a (first_of b pair))
      (λ i j below_i below_j same.
      let one = exits_are a (first_of b pair) i 0 below_i in
      let other = exits_are a (first_of b pair) j 0 below_j in
      let inside = second_inside a b h pair in
      same_pair a h.first.transitions.distinct _ _ one.inside other.inside (one.from ∙ sym other.from)
      (sym (first_again a b h _ (second_of b pair) inside) ∙ ap (λ (ends : ℕ × ℕ). first_of b ends.1) same
      ∙ first_again a b h _ (second_of b pair) inside))

  second_differ : (pair : ℕ) → AreDistinct {A = ℕ × ℕ} (0, 0)
      (map (λ e. ends_of (second_transition a b pair e)) (exits_of_second pair))
  second_differ pair = distinct_map {B = ℕ × ℕ} 0 (0, 0) (λ e. ends_of (second_transition a b pair e))
      (exits_of_second pair) (exits_differ b (second_of b pair))
      (λ i j below_i below_j same.
      let one = exits_are b (second_of b pair) i 0 below_i in
      let other = exits_are b (second_of b pair) j 0 below_j in
      same_pair b h.second.transitions.distinct _ _ one.inside other.inside (one.from ∙ sym other.from)
      (sym (second_again a b h (first_of b pair) _ (h.second.transitions.to _ no_transition one.inside))
      ∙ ap (λ (ends : ℕ × ℕ). second_of b ends.1) same
      ∙ second_again a b h (first_of b pair) _ (h.second.transitions.to _ no_transition other.inside)))

  lives_differ : (pair e f : ℕ) → IsExit a (first_of b pair) e → IsExit b (second_of b pair) f
      → ends_of (first_transition a b pair e) ≢ ends_of (second_transition a b pair f)
  lives_differ pair e f first second same =
      h.first.transitions.different e no_transition first.inside
      (first.from
      ∙ sym (first_again a b h (first_of b pair) _ (h.second.transitions.to f no_transition second.inside))
      ∙ sym (ap (λ (ends : ℕ × ℕ). first_of b ends.1) same)
      ∙ first_again a b h _ (second_of b pair) (second_inside a b h pair))

  block : ℕ → List (ℕ × ℕ)
  block pair = map (λ e. ends_of (first_transition a b pair e)) (exits_of_first pair)
      ++ map (λ e. ends_of (second_transition a b pair e)) (exits_of_second pair)

  block_differs : (pair : ℕ) → AreDistinct {A = ℕ × ℕ} (0, 0) (block pair)
  unfolding block
  block_differs pair = distinct_append {A = ℕ × ℕ} (0, 0) _ _ (first_differ pair) (second_differ pair)
      (λ i j below_i below_j same.
      let inside_i : i < length (exits_of_first pair) =
      subst (λ n. i < n) (length-map (exits_of_first pair) (λ e. ends_of (first_transition a b pair e))) below_i in
      let inside_j : j < length (exits_of_second pair) =
      subst (λ n. j < n) (length-map (exits_of_second pair) (λ e. ends_of (second_transition a b pair e))) below_j in
      lives_differ pair (get_or (exits_of_first pair) i 0) (get_or (exits_of_second pair) j 0)
      (exits_are a (first_of b pair) i 0 inside_i) (exits_are b (second_of b pair) j 0 inside_j)
      (sym (get_or-map {Y = ℕ × ℕ} (λ e. ends_of (first_transition a b pair e)) (exits_of_first pair) i 0 (0, 0)
      inside_i)
      ∙ same ∙ get_or-map {Y = ℕ × ℕ} (λ e. ends_of (second_transition a b pair e)) (exits_of_second pair) j 0 (0, 0)
      inside_j))

  block_leaves : (pair : ℕ) → All (λ (ends : ℕ × ℕ). ends.0 ≡ pair) (block pair)
  unfolding block
  block_leaves pair = All-append (λ (ends : ℕ × ℕ). ends.0 ≡ pair) _ _
      (All-map (λ (ends : ℕ × ℕ). ends.0 ≡ pair) (λ e. ends_of (first_transition a b pair e)) (exits_of_first pair)
      (λ i d below. refl))
      (All-map (λ (ends : ℕ × ℕ). ends.0 ≡ pair) (λ e. ends_of (second_transition a b pair e)) (exits_of_second pair)
      (λ i d below. refl))

  pairs_are_blocks : map ends_of (joint_of a b).transitions ≡ flat_map block (places (pair_count a b))
  unfolding block
  pairs_are_blocks = map_of_blocks ends_of (transitions_from a b) block
      (λ pair. map-append ends_of (map (first_transition a b pair) (exits_of_first pair))
      (map (second_transition a b pair) (exits_of_second pair))
      ∙ ap (λ xs. xs ++ map ends_of (map (second_transition a b pair) (exits_of_second pair)))
      (map-map ends_of (first_transition a b pair) (exits_of_first pair))
      ∙ ap (λ ys. map (λ e. ends_of (first_transition a b pair e)) (exits_of_first pair) ++ ys)
      (map-map ends_of (second_transition a b pair) (exits_of_second pair))) (pair_count a b) (λ k. k)

  pairs_differ : AreDistinct (0, 0) (map ends_of (joint_of a b).transitions)
  pairs_differ = subst (AreDistinct (0, 0)) (sym pairs_are_blocks)
      (distinct_blocks (0, 0) (λ (ends : ℕ × ℕ). ends.0) block (pair_count a b) (λ k. k)
      (λ i j low below same. omega (arith, low, same)) (λ pair inside. block_differs pair)
      (λ pair inside. block_leaves pair))

  pub joint_transitions : HasGoodTransitions (joint_of a b)
  joint_transitions = record {
    from = each_transition (λ t. t.from < length (joint_of a b).states)
        (λ pair e inside exit. omega (arith, inside, state_count a b h))
        (λ pair e inside exit. omega (arith, inside, state_count a b h));
    to = each_transition (λ t. t.to < length (joint_of a b).states)
        (λ pair e inside exit. subst (λ n. (first_transition a b pair e).to < n) (sym (state_count a b h))
        (first_target pair e exit))
        (λ pair e inside exit. subst (λ n. (second_transition a b pair e).to < n) (sym (state_count a b h))
        (second_target pair e inside exit));
    different = each_transition (λ t. t.from ≢ t.to) (λ pair e inside exit. first_leads_on pair e exit)
        (λ pair e inside exit. second_leads_on pair e exit);
    distinct = pairs_differ;
  }
