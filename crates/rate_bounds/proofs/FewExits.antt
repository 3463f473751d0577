-- A state has at most as many exits as there are states, since no two of them lead to the same.
use Rattle.std.proofs.Common.{◌≡◌, ◌≢◌, ℕ, ◌<◌, ◌≤◌, Bool, true, false, arith, refl, ap₂, sym, ◌∙◌}
use Rattle.std.proofs.Common.{get_or, length, List, [], ◌∷◌, ◌⊎◌, inl, inr}
use Rattle.std.specs.Prelude.{map, All, ◌==◌, ◌||◌}
use Rattle.std.specs.List.{IsDistinct, AllPairs, list_any}
use Rattle.std.proofs.Math.Dec.{eqb}
use Rattle.std.proofs.lemmas.Bool.Decides.{nat_tests}
use Rattle.std.proofs.lemmas.List.{length-map, get_or-map}
use Rattle.std.proofs.lemmas.List.Elements.{All-map, All-head, All-tail, filter_passes}
use Rattle.std.proofs.lemmas.List.Kept.{AllPairs-filter}
use Rattle.std.proofs.lemmas.Map.Keys.{IsDistinct-from_apart}
use Rattle.std.proofs.lemmas.Map.Steps.{length-le_from_distinct_below}
use Rattle.whole_laws.specs.Whole.{places}
use Rattle.model_specs.specs.Product.{Product, Transition, transition_at, no_transition}
use Rattle.model_specs.specs.MonthNumbers.{exits}
use Rattle.model_specs.specs.RecordRules.{IsWellFormed}
use Rattle.whole_laws.proofs.ListsByPlace.{at-list_of, length-list_of}
use Rattle.whole_laws.proofs.Tests.{same_numbers}
use Rattle.ledger_laws.proofs.MonthFacts.{exits_below}

-- places rise
places_rise : (n : ℕ) → AllPairs (λ a b. a < b) (places n)
places_rise n i j d before within =
    let all = length-list_of n (λ k. k) in
    omega (
      arith,
      at-list_of n (λ k. k) i d (omega (arith, all, before, within)),
      at-list_of n (λ k. k) j d (omega (arith, all, within)),
      before,
    )

-- two transitions that leave the same state lead to different ones
apart : (product : Product) (state a b : ℕ) → IsWellFormed product → a < b → b < length product.transitions
    → (transition_at product a).from ≡ state → (transition_at product b).from ≡ state
    → eqb (transition_at product a).to (transition_at product b).to ≡ false
apart product state a b lawful before below from_a from_b =
    different (transition_at product a).to (transition_at product b).to
    (λ same. lawful.transitions.distinct a b before (omega (arith, length-map product.transitions pair_of, below))
    (get_or-map pair_of product.transitions a no_transition (0, 0) (omega (arith, before, below))
    ∙ ap₂ (λ x y. (x, y)) (from_a ∙ sym from_b) same
    ∙ sym (get_or-map pair_of product.transitions b no_transition (0, 0) below)))
  where
    pair_of : Transition → ℕ × ℕ
    pair_of t = (t.from, t.to)

    different : (x y : ℕ) → (x ≢ y) → eqb x y ≡ false
    different x y h = grind (arith, nat_tests)

-- where the exits of a state lead to
abbrev goals : Product → ℕ → List ℕ
goals product state = map (λ e. (transition_at product e).to) (exits product state)

-- an exit leaves its state
leaves : (product : Product) (state k : ℕ) → k < length (exits product state)
    → (transition_at product (get_or (exits product state) k 0)).from ≡ state
leaves product state k within = same_numbers _ state
    (filter_passes (λ e. (transition_at product e).from == state) (places (length product.transitions)) k 0 within)

goals_differ : (product : Product) (state : ℕ) → IsWellFormed product → IsDistinct eqb (goals product state)
goals_differ product state lawful = IsDistinct-from_apart eqb (goals product state) differ
  where
    rise : AllPairs (λ a b. a < b) (exits product state)
    rise = AllPairs-filter (λ a b. a < b) (λ e. (transition_at product e).from == state)
        (places (length product.transitions)) (places_rise (length product.transitions))

    to_of : ℕ → ℕ
    to_of e = (transition_at product e).to

    differ : (i j d : ℕ) → i < j → j < length (goals product state)
        → eqb (get_or (goals product state) i d) (get_or (goals product state) j d) ≡ false
    differ i j d before within =
        let inside : j < length (exits product state) =
        omega (arith, length-map (exits product state) to_of, within) in
        let earlier : i < length (exits product state) = omega (arith, before, inside) in
        rw (get_or-map to_of (exits product state) i 0 d earlier, get_or-map to_of (exits product state) j 0 d inside)
        (apart product state _ _ lawful (rise i j 0 before inside) (exits_below product state j 0 inside)
        (leaves product state i earlier) (leaves product state j inside))

found_below : (xs : List ℕ) (n q : ℕ) → All (λ x. x < n) xs → list_any (eqb q) xs ≡ true → q < n
found_below [] n q all found = absurd cc
found_below (x ∷ xs) n q all found = elim (either (eqb q x) (list_any (eqb q) xs) found) [
  | inl here ↦ omega (arith, same_number q x here, All-head (λ k. k < n) x xs all)
  | inr later ↦ found_below xs n q (All-tail (λ k. k < n) x xs all) later
]
  where
    either : (a b : Bool) → (a || b) ≡ true → (a ≡ true) ⊎ (b ≡ true)
    either true b h = inl refl
    either false b h = inr h

    same_number : (a b : ℕ) → eqb a b ≡ true → a ≡ b
    same_number a b h = grind (arith, nat_tests)

goals_are_states : (product : Product) (state : ℕ) → IsWellFormed product
    → All (λ i. i < length product.states) (goals product state)
goals_are_states product state lawful =
    All-map (λ i. i < length product.states) (λ e. (transition_at product e).to) (exits product state)
    (λ k d within. lawful.transitions.to _ no_transition (exits_below product state k d within))

pub few_exits : (product : Product) (state : ℕ) → IsWellFormed product
    → length (exits product state) ≤ length product.states
few_exits product state lawful =
    omega (
      arith,
      length-map (exits product state) (λ e. (transition_at product e).to),
      length-le_from_distinct_below (goals product state) (length product.states)
          (goals_differ product state lawful)
          (λ q found. found_below (goals product state) (length product.states) q
          (goals_are_states product state lawful) found),
    )
