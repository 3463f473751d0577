-- The intensities of the joint record: those of one life, where the other one stays.
use Rattle.std.proofs.Common.{◌≡◌, ◌≢◌, ℕ, ◌-◌, ◌<◌, ◌≤◌, List, [], ◌∷◌, length, map, get_or}
use Rattle.std.proofs.Common.{arith, refl, ap, sym, ◌∙◌, subst, inl, inr, cond}
use Rattle.std.specs.Prelude.{Bool, true, false, ◌&&◌, ◌==◌, nat_le, nat_lt, if◌then◌else◌, pos, find, filter}
use Rattle.std.specs.Prelude.{Option, Some, None, option_map, unwrap_or}
use Rattle.std.specs.Option.{option_or}
use Rattle.std.proofs.lemmas.Bool.{eq-eqb, eqb-true, ne_eqb, cases_lt, lt-ltb, and_from, and_left, and_right}
use Rattle.std.proofs.lemmas.Bool.Decides.{eqb_tells, nat_tests}
use Rattle.std.proofs.lemmas.List.{get_or_past}
use Rattle.std.proofs.lemmas.List.Elements.{All-append, All-map}
use Rattle.std.proofs.lemmas.List.Folds.{find-append}
use mathlib.Core.Path.{ap₂}
use Rattle.frac_laws.specs.Fraction.{Fraction, whole, ◌+ℚ◌}
use Rattle.frac_laws.specs.Lists.{number_at}
use Rattle.frac_laws.proofs.FractionTerms.{ring, terms}
use Rattle.frac_laws.specs.Polynomials.{all_over}
use Rattle.model_specs.specs.Curve.{Piece, zero_piece}
use Rattle.whole_laws.specs.Whole.{places, last_or}
use Rattle.whole_laws.proofs.ListsByPlace.{All-list_of, map-list_of, list_of_places}
use Rattle.model_specs.specs.Product.{Product, Transition, transition_at, no_transition}
use Rattle.model_specs.specs.Payments.{payment_plan}
use Rattle.model_specs.specs.MonthNumbers.{exits}
use Rattle.model_specs.specs.RecordRules.{IsWellFormed}
use Rattle.model_specs.specs.Cells.{Grid, curve_cell, cell_curves, transition_between, per_cell}
use Rattle.model_specs.specs.Cells.{cell_polynomial}
use Rattle.model_specs.specs.Systems.{intensity_at, where_same}
use Rattle.joint_life.specs.Joining.{CanJoin}
use Rattle.joint_life.specs.JointRecord.{pair_count, pair_of, first_of, second_of, joint_of, pieces_within}
use Rattle.joint_life.specs.JointRecord.{first_transition, second_transition, transitions_from}
use Rattle.joint_life.proofs.PairIndices.{first_again, second_again, second_inside, pair_inside}
use Rattle.joint_life.proofs.Searches.{find_made, find_passing, find_nothing, find_same, find_block, or_none}

compose : {A B C : Type 0} (g : B → C) (f : A → B) (x : Option A)
    → option_map (λ a. g (f a)) x ≡ option_map g (option_map f x)
compose g f None = refl
compose g f (Some x) = refl

map_same : {A B : Type 0} (f g : A → B) → ((x : A) → f x ≡ g x) → (x : Option A) → option_map f x ≡ option_map g x
map_same f g same None = refl
map_same f g same (Some x) = ap Some (same x)

map_where : {A B : Type 0} (f : A → B) (test : Bool) (x : Option A)
    → option_map f (if test then x else None) ≡ (if test then option_map f x else None)
map_where f true x = refl
map_where f false x = refl

map_or : {A B : Type 0} (f : A → B) (x y : Option A)
    → option_map f (option_or x y) ≡ option_or (option_map f x) (option_map f y)
map_or f None y = refl
map_or f (Some x) y = refl

and_turned : (x y : Bool) → (x && y) ≡ (y && x)
and_turned true true = refl
and_turned true false = refl
and_turned false true = refl
and_turned false false = refl

-- each transition leads to a state, also one that stands for none
target_inside : (p : Product) → IsWellFormed p → (e : ℕ) → (transition_at p e).to < length p.states
target_inside p formed e = elim (cases_lt e (length p.transitions)) [
  | inl inside ↦ formed.transitions.to e no_transition inside
  | inr past ↦ subst (λ (t : Transition). t.to < length p.states)
      (sym (get_or_past p.transitions e no_transition past)) formed.names.some_state
]

-- what is read of the transition that is found by its place is read of the transition itself
found_itself : {B : Type 0} (g : Transition → B) (test : Transition → Bool) (p : Product)
    → option_map (λ e. g (transition_at p e)) (find (λ e. test (transition_at p e)) (places (length p.transitions)))
    ≡ option_map g (find test p.transitions)
found_itself g test p =
    let at : ℕ → Transition = transition_at p in
    let n = length p.transitions in
    compose g at (find (λ e. test (at e)) (places n))
    ∙ ap (option_map g) (sym (find_made test at (places n))
    ∙ ap (find test) (map-list_of at n (λ e. e) ∙ list_of_places p.transitions no_transition))

-- where two states are one, no transition leads from one to the other
no_loop : (p : Product) (i k : ℕ) → IsWellFormed p → (i == k) ≡ true → transition_between p i k ≡ None
no_loop p i k formed same = find_nothing _ (places (length p.transitions))
    (All-list_of (λ e. ((transition_at p e).from == i && (transition_at p e).to == k) ≡ false) (length p.transitions)
    (λ e. e) (λ e inside. not_both (transition_at p e).from (transition_at p e).to
    (formed.transitions.different e no_transition inside)))
  where
    not_both : (x y : ℕ) → x ≢ y → ((x == i) && (y == k)) ≡ false
    not_both x y differ =
        let one : i ≡ k = eqb-true i k same in
        grind (arith, nat_tests, one)

-- ---- pieces that start below a term

started_before : (a b : ℕ) → a ≤ b → nat_lt b a ≡ false
started_before a b h = grind (arith, nat_tests)

within_again : (months month : ℕ) (pieces : List Piece) → month < months
    → filter (λ piece. nat_le piece.from month) (pieces_within months pieces)
    ≡ filter (λ piece. nat_le piece.from month) pieces
within_again months month [] inside = refl
within_again months month (x ∷ xs) inside =
    let rest = within_again months month xs inside in
    elim (cases_lt x.from months) [
      | inl below ↦ rw (lt-ltb x.from months below) (ap (λ ys. cond (nat_le x.from month) (x ∷ ys) ys) rest)
      | inr past ↦
          let later : month < x.from = omega (arith, past, inside) in
          let not_started : nat_le x.from month ≡ false = grind (arith, nat_tests, later) in
          rw (started_before months x.from past, not_started) rest
    ]

-- the second life's curve is the same in each month of the first one's term
same_curve : (a b : Product) → CanJoin a b → (grid : Grid) (month cell e : ℕ) → month < a.months
    → curve_cell grid a.den (pieces_within a.months (transition_at b e).rate) month cell
    ≡ curve_cell grid b.den (transition_at b e).rate month cell
same_curve a b h grid month cell e inside =
    ap (λ den. curve_cell grid den (pieces_within a.months (transition_at b e).rate) month cell) h.denominator
    ∙ ap (λ (piece : Piece). per_cell grid (cell_polynomial grid (all_over b.den piece.c) (month - piece.from) cell))
    (ap (last_or zero_piece) (within_again a.months month (transition_at b e).rate inside))

-- ---- which transition leads from pair to pair

-- either of two found things, or neither, is the sum of what is read of them
both_read : (same_second same_first : Bool) (x y : Option (List Fraction)) (m : ℕ)
    → (same_second ≡ true → same_first ≡ true → (x ≡ None) × (y ≡ None))
    → number_at (unwrap_or (option_or (if same_second then x else None) (if same_first then y else None)) []) m
    ≡ (if same_second then number_at (unwrap_or x []) m else whole (pos 0))
    +ℚ (if same_first then number_at (unwrap_or y []) m else whole (pos 0))
both_read true true x y m none =
    let both = none refl refl in
    rw (both.0, both.1) (ring [] (hlevel terms) refl)
both_read true false x y m none =
    ap (λ o. number_at (unwrap_or o []) m) (or_none x)
    ∙ ring (number_at (unwrap_or x []) m ∷ []) (hlevel terms) refl
both_read false true x y m none = ring (number_at (unwrap_or y []) m ∷ []) (hlevel terms) refl
both_read false false x y m none = ring [] (hlevel terms) refl

module _ (a b : Product) (h : CanJoin a b) (grid : Grid) (month cell : ℕ) (inside : month < a.months) where
  -- the curve of a transition
  abbrev curve : ℕ → Transition → List Fraction
  curve den t = curve_cell grid den t.rate month cell

  -- the curve between two states of a life
  abbrev between : Product → ℕ → ℕ → Option (List Fraction)
  between p i k = option_map (λ e. curve p.den (transition_at p e)) (transition_between p i k)

  module _ (i j k l : ℕ) (hi : i < length a.states) (hj : j < length b.states) (hk : k < length a.states)
      (hl : l < length b.states) where
    abbrev leads : Transition → Bool
    leads t = (t.from == pair_of b i j) && (t.to == pair_of b k l)

    in_other_pair : (pair : ℕ) → pair ≢ pair_of b i j → find leads (transitions_from a b pair) ≡ None
    in_other_pair pair other = find_nothing leads (transitions_from a b pair)
        (All-append (λ t. leads t ≡ false) (map (first_transition a b pair) (exits a (first_of b pair)))
        (map (second_transition a b pair) (exits b (second_of b pair)))
        (All-map (λ t. leads t ≡ false) (first_transition a b pair) (exits a (first_of b pair))
        (λ n d below. elsewhere (first_transition a b pair (get_or (exits a (first_of b pair)) n d)).to))
        (All-map (λ t. leads t ≡ false) (second_transition a b pair) (exits b (second_of b pair))
        (λ n d below. elsewhere (second_transition a b pair (get_or (exits b (second_of b pair)) n d)).to)))
      where
        elsewhere : (to : ℕ) → ((pair == pair_of b i j) && (to == pair_of b k l)) ≡ false
        elsewhere to = rw (ne_eqb pair (pair_of b i j) other) refl

    -- a pair is the same where both parts are
    pub by_parts : (x y : ℕ) → y < length b.states → (pair_of b x y == pair_of b k l) ≡ ((x == k) && (y == l))
    by_parts x y hy = elim (eqb_tells x k) [
      | inl same_first ↦ elim (eqb_tells y l) [
        | inl same_second ↦
            ap (λ z. z == pair_of b k l) (ap (λ n. pair_of b n y) same_first.1 ∙ ap (pair_of b k) same_second.1)
            ∙ eq-eqb (pair_of b k l) (pair_of b k l) refl ∙ sym (and_from _ _ same_first.0 same_second.0)
        | inr other ↦ ne_eqb (pair_of b x y) (pair_of b k l)
            (λ equal. other.1 (sym (second_again a b h x y hy) ∙ ap (second_of b) equal
            ∙ second_again a b h k l hl)) ∙ sym (and_right (x == k) (y == l) other.0)
      ]
      | inr other ↦ ne_eqb (pair_of b x y) (pair_of b k l)
          (λ equal. other.1 (sym (first_again a b h x y hy) ∙ ap (first_of b) equal
          ∙ first_again a b h k l hl)) ∙ sym (and_left (x == k) (y == l) other.0)
    ]

    abbrev pair : ℕ
    pair = pair_of b i j

    first_is : first_of b (pair_of b i j) ≡ i
    first_is = first_again a b h i j hj

    second_is : second_of b (pair_of b i j) ≡ j
    second_is = second_again a b h i j hj

    -- a test that holds only where another thing does
    only_where : (p : Product) (x y : ℕ) (also : Bool) → find (λ e. ((transition_at p e).from == x)
        && (((transition_at p e).to == y) && also)) (places (length p.transitions))
        ≡ (if also then transition_between p x y else None)
    only_where p x y true = find_same _ _ (λ e. ap (λ t. ((transition_at p e).from == x) && t) (and_turned _ true))
        (places (length p.transitions))
    only_where p x y false = find_nothing _ (places (length p.transitions))
        (λ n d below. ap (λ t. ((transition_at p (get_or (places (length p.transitions)) n d)).from == x) && t)
        (and_right _ false refl) ∙ and_right _ false refl)

    -- the first life's transition between the pairs, if it is one
    first_found : option_map (curve a.den) (find leads (map (first_transition a b pair) (exits a (first_of b pair))))
        ≡ (if j == l then between a i k else None)
    first_found =
        ap (option_map (curve a.den)) (find_made leads (first_transition a b pair) (exits a (first_of b pair)))
        ∙ sym (compose (curve a.den) (first_transition a b pair) _)
        ∙ ap (option_map (λ e. curve a.den (transition_at a e)))
        (find_passing (λ e. (transition_at a e).from == first_of b pair)
        (λ e. leads (first_transition a b pair e)) (places (length a.transitions))
        ∙ find_same _ _ (λ e.
        ap (λ x. ((transition_at a e).from == x) && leads (first_transition a b pair e)) first_is
        ∙ ap (λ x. ((transition_at a e).from == i) && (x && (pair_of b (transition_at a e).to (second_of b pair)
        == pair_of b k l))) (eq-eqb pair pair refl)
        ∙ ap (λ x. ((transition_at a e).from == i) && x) (by_parts (transition_at a e).to (second_of b pair)
        (second_inside a b h pair))
        ∙ ap (λ x. ((transition_at a e).from == i) && (((transition_at a e).to == k) && (x == l))) second_is)
        (places (length a.transitions))
        ∙ only_where a i k (j == l))
        ∙ map_where (λ e. curve a.den (transition_at a e)) (j == l) (transition_between a i k)

    -- the second life's, if it is one
    second_found : option_map (curve a.den) (find leads (map (second_transition a b pair)
        (exits b (second_of b pair)))) ≡ (if i == k then between b j l else None)
    second_found =
        ap (option_map (curve a.den)) (find_made leads (second_transition a b pair) (exits b (second_of b pair)))
        ∙ sym (compose (curve a.den) (second_transition a b pair) _)
        ∙ map_same (λ e. curve a.den (second_transition a b pair e)) (λ e. curve b.den (transition_at b e))
        (λ e. same_curve a b h grid month cell e inside) _
        ∙ ap (option_map (λ e. curve b.den (transition_at b e)))
        (find_passing (λ e. (transition_at b e).from == second_of b pair)
        (λ e. leads (second_transition a b pair e)) (places (length b.transitions))
        ∙ find_same _ _ (λ e.
        ap (λ x. ((transition_at b e).from == x) && leads (second_transition a b pair e)) second_is
        ∙ ap (λ x. ((transition_at b e).from == j) && (x && (pair_of b (first_of b pair) (transition_at b e).to
        == pair_of b k l))) (eq-eqb pair pair refl)
        ∙ ap (λ x. ((transition_at b e).from == j) && x) (by_parts (first_of b pair) (transition_at b e).to
        (target_inside b h.second e))
        ∙ ap (λ x. ((transition_at b e).from == j) && x) (and_turned (first_of b pair == k)
        ((transition_at b e).to == l))
        ∙ ap (λ x. ((transition_at b e).from == j) && (((transition_at b e).to == l) && (x == k))) first_is)
        (places (length b.transitions))
        ∙ only_where b j l (i == k))
        ∙ map_where (λ e. curve b.den (transition_at b e)) (i == k) (transition_between b j l)

    joint_found : option_map (curve a.den) (find leads (joint_of a b).transitions)
        ≡ option_or (if j == l then between a i k else None) (if i == k then between b j l else None)
    joint_found =
        ap (option_map (curve a.den)) (find_block leads (transitions_from a b) (pair_count a b) (λ n. n) pair
        (pair_inside a b h i j hi hj) (λ n below other. in_other_pair n other)
        ∙ find-append leads (map (first_transition a b pair) (exits a (first_of b pair)))
        (map (second_transition a b pair) (exits b (second_of b pair))))
        ∙ map_or (curve a.den) (find leads (map (first_transition a b pair) (exits a (first_of b pair))))
        (find leads (map (second_transition a b pair) (exits b (second_of b pair))))
        ∙ ap₂ option_or first_found second_found

    pub joint_intensity : (m : ℕ)
        → intensity_at (cell_curves grid (joint_of a b) (payment_plan (joint_of a b)) month cell) (pair_of b i j)
        (pair_of b k l) m
        ≡ where_same j l (intensity_at (cell_curves grid a (payment_plan a) month cell) i k m)
        +ℚ where_same i k (intensity_at (cell_curves grid b (payment_plan b) month cell) j l m)
    joint_intensity m =
        ap (λ o. number_at (unwrap_or o []) m)
        (found_itself (curve a.den) leads (joint_of a b) ∙ joint_found)
        ∙ both_read (j == l) (i == k) (between a i k) (between b j l) m
        (λ second first. (
          ap (option_map (λ e. curve a.den (transition_at a e)))
              (no_loop a i k h.first first),
          ap (option_map (λ e. curve b.den (transition_at b e)))
              (no_loop b j l h.second second),
        ))
