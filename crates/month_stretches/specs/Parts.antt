-- The coefficients that hold in a month, kind by kind.
use Rattle.std.specs.Prelude.{ℕ, ℤ, ◌-ℤ◌, unsigned_abs, Bool, ◌==◌, List}
use Rattle.std.specs.List.{list_all}
use Rattle.whole_laws.specs.Whole.{list_of}
use Rattle.model_specs.specs.Curve.{piece_at}
use Rattle.model_specs.specs.Product.{Product, transition_at}
use Rattle.model_specs.specs.Payments.{Plan, sojourn_at, sum_at}
use Rattle.model_specs.specs.MonthNumbers.{coefficient_at}
use Rattle.model_specs.specs.Stretches.{is_constant}

-- of the interest
abbrev pub interest_in : Product → ℕ → List ℤ
interest_in product month = (piece_at product.interest month).c

-- of the rate of a transition
abbrev pub rate_in : Product → ℕ → ℕ → List ℤ
rate_in product month e = (piece_at (transition_at product e).rate month).c

-- of the sojourn rate of a state
abbrev pub sojourn_in : Plan → ℕ → ℕ → List ℤ
sojourn_in plan month i = (sojourn_at plan i month).c

-- of the sum of a transition
abbrev pub sum_in : Plan → ℕ → ℕ → List ℤ
sum_in plan month e = (sum_at plan e month).c

-- the first n have their first coefficient alone
abbrev pub are_constant : ℕ → (ℕ → List ℤ) → Bool
are_constant n numbers = list_all is_constant (list_of n numbers)

-- two polynomials begin with the same number
abbrev pub is_same : List ℤ × List ℤ → Bool
is_same pair = unsigned_abs (coefficient_at pair.0 0 -ℤ coefficient_at pair.1 0) == 0

-- so do the first n of two lists of them
abbrev pub are_same : ℕ → (old new : ℕ → List ℤ) → Bool
are_same n old new = list_all is_same (list_of n (λ i. (old i, new i)))
