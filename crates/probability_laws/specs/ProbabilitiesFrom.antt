-- The probabilities of a run that begins at any date from any vector. The run from issue is the case of the start
-- state.
use Rattle.std.specs.Prelude.{◌≡◌, ℕ, zero, suc, pos, ◌+◌, ◌-◌, ◌*◌, ◌<◌, ◌≤◌, ◌==◌, if◌then◌else◌, length}
use Rattle.frac_laws.specs.Fraction.{whole, ◌*ℚ◌, ◌≤ℚ◌}
use Rattle.frac_laws.specs.Sums.{sum_of_list}
use Rattle.frac_laws.specs.Lists.{Vector}
use Rattle.frac_laws.specs.Norms.{Sum, norm_of_vector}
use Rattle.model_specs.specs.Product.{Product}
use Rattle.model_specs.specs.ValuationRules.{IsAdmissible}
use Rattle.model_specs.specs.Systems.{vector_of, kolmogorov_system}
use Rattle.model_specs.specs.Runs.{month_forward, probabilities}
use Rattle.product_cells.specs.EachCell.{forward_cell}

-- from v at a date, some months later
abbrev pub probabilities_from : Product → (n date : ℕ) → Vector → ℕ → Vector
probabilities_from product n date v zero = v
probabilities_from product n date v (suc months) =
    month_forward (λ cell. kolmogorov_system (forward_cell product (date + months) cell)) n 32
    (probabilities_from product n date v months)

-- and some cells later
abbrev pub probabilities_from_cells : Product → (n date : ℕ) → Vector → (months cells : ℕ) → Vector
probabilities_from_cells product n date v months cells =
    month_forward (λ cell. kolmogorov_system (forward_cell product (date + months) cell)) n cells
    (probabilities_from product n date v months)

-- 1 in a state and 0 in the others
abbrev pub all_in : Product → ℕ → Vector
all_in product state =
    vector_of (length product.states) (λ j. if j == state then whole (pos 1) else whole (pos 0))

-- the run from issue goes on from each of its own values
abbrev pub ProbabilitiesGoOn : Type 0
ProbabilitiesGoOn = (product : Product) (n date months : ℕ)
    → probabilities_from product n date (probabilities product n date) months ≡ probabilities product n (date + months)

-- what the numbers add up to is kept, in every degree
abbrev pub TotalsAreKept : Type 0
TotalsAreKept = (product : Product) (n date : ℕ) (v : Vector) (months cells : ℕ) → IsAdmissible product
    → length v ≤ length product.states
    → sum_of_list (probabilities_from_cells product n date v months cells) ≡ sum_of_list v

-- sizes that add up to at most 1 grow by at most 1/76800 of what they may be in each cell, so to at most 2
abbrev pub SizesStaySmall : Type 0
SizesStaySmall = (product : Product) (n date : ℕ) (v : Vector) (months cells : ℕ) → IsAdmissible product → 8 ≤ n
    → length v ≤ length product.states → norm_of_vector Sum v ≤ℚ whole (pos 1)
    → date + months < product.months → cells ≤ 32
    → (whole (pos (76800 - (32 * months + cells)))
    *ℚ norm_of_vector Sum (probabilities_from_cells product n date v months cells) ≤ℚ whole (pos 76800))
    × (norm_of_vector Sum (probabilities_from_cells product n date v months cells) ≤ℚ whole (pos 2))

-- so from any state at any date they add up to 1, and their sizes to at most 2
pub record AddUpFrom (product : Product) (n date state months cells : ℕ) : Type 0 where
  pub one : sum_of_list (probabilities_from_cells product n date (all_in product state) months cells) ≡ whole (pos 1)
  pub sizes : 8 ≤ n → date + months < product.months → cells ≤ 32
      → norm_of_vector Sum (probabilities_from_cells product n date (all_in product state) months cells)
      ≤ℚ whole (pos 2)

-- so it is for each admissible product
abbrev pub FromAnyState : Type 0
FromAnyState = (product : Product) (n date state months cells : ℕ) → IsAdmissible product
    → state < length product.states → AddUpFrom product n date state months cells
