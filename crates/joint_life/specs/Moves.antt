-- The ways out of all pairs of states.
use Rattle.std.specs.Prelude.{ℕ, ◌<◌, List, ◌++◌, length, map, flat_map}
use Rattle.whole_laws.specs.Whole.{places}
use Rattle.model_specs.specs.Product.{Product, Transition}
use Rattle.model_specs.specs.MonthNumbers.{exits}
use Rattle.joint_life.specs.JointRecord.{pair_count, first_of, second_of, first_transition, second_transition}
use Rattle.joint_life.specs.declared.moves.Life.{Life}
use Rattle.joint_life.specs.declared.moves.Life.TheVariants.{First, Second}
use Rattle.joint_life.specs.declared.moves.Move.{Move}

-- a life leaves a pair by one of its transitions
abbrev pub move_by : Life → (pair e : ℕ) → Move
move_by life pair e = record { life = life; pair = pair; transition = e }

-- the ways out of a pair: the first life's, and then the second life's
abbrev pub moves_from : (a b : Product) → (pair : ℕ) → List Move
moves_from a b pair = map (move_by First pair) (exits a (first_of b pair))
    ++ map (move_by Second pair) (exits b (second_of b pair))

-- those out of all pairs
abbrev pub moves_of : (a b : Product) → List Move
moves_of a b = flat_map (moves_from a b) (places (pair_count a b))

-- the life that moves
abbrev pub mover : (a b : Product) → Life → Product
mover a b First = a
mover a b Second = b

-- a way out as a transition of the joint record
abbrev pub transition_by : (a b : Product) → (life : Life) → (pair e : ℕ) → Transition
transition_by a b First pair e = first_transition a b pair e
transition_by a b Second pair e = second_transition a b pair e

-- a way out of a pair that there is, by a transition that there is
pub record IsMove (a b : Product) (move : Move) : Type 0 where
  pub pair : move.pair < pair_count a b
  pub transition : move.transition < length (mover a b move.life).transitions

-- so for a move
abbrev pub transition_of : (a b : Product) → Move → Transition
transition_of a b move = transition_by a b move.life move.pair move.transition
