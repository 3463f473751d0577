-- Numbers that stand near the probabilities of a product, at a date and on the way over a month.
use Rattle.std.specs.Prelude.{ℕ, ◌≤◌, ℤ, List}
use Rattle.frac_laws.specs.Fraction.{◌≤ℚ◌}
use Rattle.frac_laws.specs.Lists.{Vector}
use Rattle.frac_laws.specs.Norms.{Sum}
use Rattle.cell_laws.specs.ErrorLaws.{distance}
use Rattle.named_numbers.specs.Numbers.{cell_rounding}
use Rattle.model_specs.specs.Product.{Product}
use Rattle.model_specs.specs.Growth.{kappa40}
use Rattle.model_specs.specs.Ledgers.{grow_cells, radius_forward}
use Rattle.model_specs.specs.Runs.{probabilities}
use Rattle.probability_laws.specs.ProbabilityLaws.{probabilities_after}
use Rattle.sweep_laws.specs.SweepLaws.{units}
use Rattle.linear_system.specs.StandsFor.{in_units}

-- the radius after some cells of a month, in units of 2^-64
abbrev pub radius_in : Product → ℕ → ℕ → ℕ
radius_in product month done = grow_cells (kappa40 product month) cell_rounding (radius_forward product month) done

-- all numbers together, in units of 2^-64, are within a radius of exact ones
abbrev pub AreWithin : ℕ → Vector → List ℤ → Type 0
AreWithin rad v numbers = distance Sum v (in_units numbers) ≤ℚ units rad

-- at a date: the probabilities of each degree from one on are within the radius ledger of the numbers
abbrev pub AreNearAt : Product → (degree date : ℕ) → List ℤ → Type 0
AreNearAt product degree date numbers =
    (n : ℕ) → degree ≤ n → AreWithin (radius_forward product date) (probabilities product n date) numbers

-- and after some cells of a month
abbrev pub AreNearIn : Product → (degree month done : ℕ) → List ℤ → Type 0
AreNearIn product degree month done numbers =
    (n : ℕ) → degree ≤ n → AreWithin (radius_in product month done) (probabilities_after product n month done) numbers
