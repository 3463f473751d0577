-- The list of moves, and the transitions that they stand for.
use Rattle.std.proofs.Common.{◌≡◌, ℕ, ◌+◌, ◌<◌, List, [], ◌∷◌, ◌++◌, length, map, take, get_or}
use Rattle.std.proofs.Common.{refl, ap, sym, ◌∙◌, subst, append_assoc}
use Rattle.std.specs.Prelude.{All, flat_map}
use Rattle.std.proofs.lemmas.List.{get_or-map, length-map, map-append, flat_map_more}
use Rattle.std.proofs.lemmas.List.Elements.{All-append, All-map}
use Rattle.std.proofs.lemmas.Simd.{map-map}
use Rattle.model_specs.specs.Product.{Product, Transition, transition_at, no_transition}
use Rattle.model_specs.specs.MonthNumbers.{exits}
use Rattle.model_specs.specs.RecordRules.{IsCurve, IsBoundedCurve}
use Rattle.whole_laws.specs.Whole.{places}
use Rattle.whole_laws.proofs.ListsByPlace.{list_of-next}
use Rattle.state_graph.specs.declared.exits.Edge.{Edge}
use Rattle.product_reader.proofs.Grown.{one_more}
use Rattle.joint_life.specs.declared.moves.Life.{Life}
use Rattle.joint_life.specs.declared.moves.Life.TheVariants.{First, Second}
use Rattle.joint_life.specs.declared.moves.Move.{Move}
use Rattle.joint_life.specs.Joining.{CanJoin}
use Rattle.joint_life.specs.JointRecord.{pair_count, first_of, second_of, joint_of, transitions_from}
use Rattle.joint_life.specs.JointRecord.{first_transition}
use Rattle.joint_life.specs.Moves.{move_by, moves_from, moves_of, transition_by, transition_of, IsMove, mover}
use Rattle.joint_life.proofs.DistinctLists.{all_blocks}
use Rattle.joint_life.proofs.ShorterCurves.{shorter_curve, shorter_bounded}
use Rattle.joint_life.proofs.Transitions.{exits_are, map_of_blocks, ends_of}

-- ---- the list, move by move

-- one exit more
pub exit_more : (life : Life) (pair : ℕ) (before moves : List Move) (exits : List Edge) (i : ℕ) (d : Edge)
    → i < length exits
    → moves ≡ before ++ map (move_by life pair) (take i (map (λ (exit : Edge). exit.transition) exits))
    → moves ++ move_by life pair (get_or exits i d).transition ∷ []
    ≡ before ++ map (move_by life pair) (take (i + 1) (map (λ (exit : Edge). exit.transition) exits))
exit_more life pair before moves exits i d below so_far =
    let es = map (λ (exit : Edge). exit.transition) exits in
    let m = move_by life pair (get_or exits i d).transition in
    ap (λ ms. ms ++ m ∷ []) so_far ∙ append_assoc before (map (move_by life pair) (take i es)) (m ∷ [])
    ∙ ap (λ ms. before ++ ms) (one_more (move_by life pair) es i 0 (map (move_by life pair) (take i es)) m refl
    (ap (move_by life pair) (sym (get_or-map (λ (exit : Edge). exit.transition) exits i d 0 below)))
    (subst (λ n. i < n) (sym (length-map exits (λ (exit : Edge). exit.transition))) below))

-- one pair more
pub pair_more : (a b : Product) (pair : ℕ) (moves : List Move) → moves ≡ flat_map (moves_from a b) (places pair)
    → moves ++ moves_from a b pair ≡ flat_map (moves_from a b) (places (pair + 1))
pair_more a b pair moves so_far =
    ap (λ ms. ms ++ moves_from a b pair) so_far ∙ flat_map_more (moves_from a b) [] (places pair) pair
    ∙ ap (flat_map (moves_from a b)) (sym (list_of-next pair (λ i. i)))

-- each is a move
pub moves_are : (a b : Product) → All (IsMove a b) (moves_of a b)
moves_are a b = all_blocks (IsMove a b) (moves_from a b) (pair_count a b) (λ k. k)
    (λ pair inside. All-append (IsMove a b) (map (move_by First pair) (exits a (first_of b pair)))
    (map (move_by Second pair) (exits b (second_of b pair)))
    (All-map (IsMove a b) (move_by First pair) (exits a (first_of b pair))
    (λ i d below. record { pair = inside; transition = (exits_are a (first_of b pair) i d below).inside }))
    (All-map (IsMove a b) (move_by Second pair) (exits b (second_of b pair))
    (λ i d below. record { pair = inside; transition = (exits_are b (second_of b pair) i d below).inside })))

-- ---- what the moves stand for

pub transitions_by_moves : (a b : Product) → map (transition_of a b) (moves_of a b) ≡ (joint_of a b).transitions
transitions_by_moves a b = map_of_blocks (transition_of a b) (moves_from a b) (transitions_from a b)
    (λ pair. map-append (transition_of a b) (map (move_by First pair) (exits a (first_of b pair)))
    (map (move_by Second pair) (exits b (second_of b pair)))
    ∙ ap (λ xs. xs ++ map (transition_of a b) (map (move_by Second pair) (exits b (second_of b pair))))
    (map-map (transition_of a b) (move_by First pair) (exits a (first_of b pair)))
    ∙ ap (λ ys. map (first_transition a b pair) (exits a (first_of b pair)) ++ ys)
    (map-map (transition_of a b) (move_by Second pair) (exits b (second_of b pair)))) (pair_count a b) (λ k. k)

-- values of the transitions, by the moves
pub by_moves : {A : Type 0} (a b : Product) (f : Transition → A)
    → map (λ at. f (transition_of a b at)) (moves_of a b) ≡ map f (joint_of a b).transitions
by_moves a b f = sym (map-map f (transition_of a b) (moves_of a b)) ∙ ap (map f) (transitions_by_moves a b)

-- a move's transition leaves its pair
pub move_leaves : (a b : Product) (at : Move) → at.pair ≡ (transition_of a b at).from
move_leaves a b at = by-life at.life
  where
    by-life : (life : Life) → at.pair ≡ (transition_by a b life at.pair at.transition).from
    by-life First = refl
    by-life Second = refl

same_values : {A B : Type 0} (f g : A → B) → ((x : A) → f x ≡ g x) → (xs : List A) → map f xs ≡ map g xs
same_values f g same [] = refl
same_values f g same (x ∷ xs) = ap (λ y. y ∷ map f xs) (same x) ∙ ap (λ ys. g x ∷ ys) (same_values f g same xs)

pub pairs_by_moves : (a b : Product) (moves : List Move) → moves ≡ moves_of a b
    → map {B = ℕ × ℕ} (λ at. (at.pair, (transition_of a b at).to)) moves ≡ map ends_of (joint_of a b).transitions
pairs_by_moves a b moves are =
    same_values {B = ℕ × ℕ} (λ at. (at.pair, (transition_of a b at).to)) (λ at. ends_of (transition_of a b at))
    (λ at. ap (λ from. (from, (transition_of a b at).to)) (move_leaves a b at)) moves
    ∙ ap (map (λ at. ends_of (transition_of a b at))) are ∙ by_moves a b ends_of

-- ---- the intensity of a move

pub rate_is_curve : (a b : Product) → CanJoin a b → (at : Move) → IsMove a b at
    → IsCurve a.months (transition_of a b at).rate
rate_is_curve a b h at is = by-life at.life is.transition
  where
    by-life : (life : Life) → at.transition < length (mover a b life).transitions
        → IsCurve a.months (transition_by a b life at.pair at.transition).rate
    by-life First inside = h.first.curves.rates at.transition no_transition inside
    by-life Second inside = shorter_curve b.months a.months (transition_at b at.transition).rate
        (h.second.curves.rates at.transition no_transition inside) h.first.head.some_month h.term

pub rate_is_bounded : (a b : Product) → CanJoin a b → (at : Move) → IsMove a b at
    → IsBoundedCurve a.months (transition_of a b at).rate
rate_is_bounded a b h at is = by-life at.life is.transition
  where
    by-life : (life : Life) → at.transition < length (mover a b life).transitions
        → IsBoundedCurve a.months (transition_by a b life at.pair at.transition).rate
    by-life First inside = h.first.curves.bounded_rates at.transition no_transition inside
    by-life Second inside = shorter_bounded b.months a.months (transition_at b at.transition).rate
        (h.second.curves.rates at.transition no_transition inside) h.first.head.some_month h.term
        (h.second.curves.bounded_rates at.transition no_transition inside)

-- ---- payments of the first life

-- what holds of all values holds of the members that they are made of
pub all_of_map : {A B : Type 0} (f : A → B) (P : B → Type 0) (xs : List A) → All P (map f xs) → All (λ x. P (f x)) xs
all_of_map f P xs all i d below = subst P (get_or-map f xs i d (f d) below)
    (all i (f d) (subst (λ n. i < n) (sym (length-map xs f)) below))
