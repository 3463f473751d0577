-- When two lives cannot be joined. This product's own.
use Rattle.std.specs.Prelude.{ℕ, ◌==◌, nat_lt, [], ◌∷◌, length, Bool, Option, Some, None, if◌then◌else◌}
use Rattle.named_numbers.specs.Numbers.{most_states}
use Rattle.model_specs.specs.Product.{Product}
use Rattle.model_specs.specs.ValuationRules.{first_given}
use Rattle.joint_life.specs.JointRecord.{pair_count}
use Rattle.joint_life.specs.declared.breaks.JoinBreak.{JoinBreak}

-- a part, if it is broken, with the numbers of both lives
abbrev pub broken_part : (part : ℕ) → Bool → (a b : ℕ) → Option JoinBreak
broken_part part is_broken a b = if is_broken then Some (record { part = part; a = a; b = b }) else None

-- the second life's term is shorter
abbrev pub term_break : (a b : Product) → Option JoinBreak
term_break a b = broken_part 1 (nat_lt b.months a.months) a.months b.months

-- the denominators differ
abbrev pub denominator_break : (a b : Product) → Option JoinBreak
denominator_break a b = if a.den == b.den then None else Some (record { part = 2; a = a.den; b = b.den })

-- there are more than twelve pairs of states
abbrev pub state_break : (a b : Product) → Option JoinBreak
state_break a b = broken_part 3 (nat_lt most_states (pair_count a b)) (length a.states) (length b.states)

-- the first part that is broken
abbrev pub first_break : (a b : Product) → Option JoinBreak
first_break a b = first_given (term_break a b ∷ denominator_break a b ∷ state_break a b ∷ [])
