-- The marginals of the joint run: what remains of it where one life is looked at alone.
use Rattle.std.specs.Prelude.{◌≡◌, ℕ, ◌<◌, ◌≤◌, length}
use Rattle.frac_laws.specs.Fraction.{Fraction}
use Rattle.frac_laws.specs.Sums.{sum_to}
use Rattle.model_specs.specs.Product.{Product}
use Rattle.model_specs.specs.Runs.{probability}
use Rattle.joint_life.specs.JointRecord.{pair_of}

-- the probabilities of a state of the first life with each state of the second, together
abbrev pub first_marginal : (joint b : Product) → (n date i : ℕ) → Fraction
first_marginal joint b n date i = sum_to (length b.states) (λ j. probability joint n date (pair_of b i j))

-- those of a state of the second life with each state of the first
abbrev pub second_marginal : (joint a b : Product) → (n date j : ℕ) → Fraction
second_marginal joint a b n date j = sum_to (length a.states) (λ i. probability joint n date (pair_of b i j))

-- in every degree, at every date up to the first life's term, they are exactly the single lives' probabilities
pub record HasMarginals (joint a b : Product) : Type 0 where
  pub first : (n date i : ℕ) → date ≤ a.months → i < length a.states
      → first_marginal joint b n date i ≡ probability a n date i
  pub second : (n date j : ℕ) → date ≤ a.months → j < length b.states
      → second_marginal joint a b n date j ≡ probability b n date j
