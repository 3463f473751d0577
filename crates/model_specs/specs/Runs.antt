-- The runs of degree n: the exact reserves, moments and probabilities of a product, cell by cell. The
-- equations are those of the literature; runs by Taylor values of degree n are this product's own.
use Rattle.std.specs.Prelude.{ℕ, zero, suc, ◌-◌, pos, ◌==◌, if◌then◌else◌, length}
use Rattle.frac_laws.specs.Fraction.{Fraction, whole, ◌+ℚ◌, ◌*ℚ◌}
use Rattle.frac_laws.specs.Lists.{Vector, number_at, add_lists}
use Rattle.cell_laws.specs.Systems.{System, taylor_value}
use Rattle.cell_laws.specs.Pairs.{CoupledPair, second_taylor_value}
use Rattle.named_numbers.specs.Numbers.{cells_of_month}
use Rattle.model_specs.specs.Product.{Product}
use Rattle.model_specs.specs.Payments.{Plan, lump_at, payment_plan, pattern_plan}
use Rattle.model_specs.specs.Cells.{Grid, Forward, Backward, cells_of_32, whole_months, cell_curves}
use Rattle.model_specs.specs.Systems.{vector_of, thiele_system, norberg_pair, kolmogorov_system}

-- a month backward: from its end, the last of its cells first, each replaces the vector by its Taylor value
abbrev pub month_back : (ℕ → System) → ℕ → ℕ → Vector → Vector
month_back system n zero v = v
month_back system n (suc cells) v = month_back system n cells (taylor_value (system cells) v n)

-- a month forward: from its start, the first of its cells first
abbrev pub month_forward : (ℕ → System) → ℕ → ℕ → Vector → Vector
month_forward system n zero v = v
month_forward system n (suc cells) v = taylor_value (system cells) (month_forward system n cells v) n

-- the lumps of a date, state by state
abbrev pub lump_vector : Product → Plan → ℕ → Vector
lump_vector product plan date = vector_of (length product.states) (λ i. whole (lump_at plan date i))

-- the first moments some months before the term, before that date's lumps: 0 at the term; each month's run
-- starts from the value at its end with the lumps of that date
abbrev pub first_before_term : Grid → Product → Plan → ℕ → ℕ → Vector
first_before_term grid product plan n zero = vector_of (length product.states) (λ i. whole (pos 0))
first_before_term grid product plan n (suc months) =
    let month = product.months - suc months in
    month_back (λ cell. thiele_system (cell_curves grid product plan month cell)) n grid.cells
    (add_lists (first_before_term grid product plan n months) (lump_vector product plan (suc month)))

-- V_n(date, state) on a grid of cells: the reserve of a plan, without the lump of its date, in minor units
abbrev pub reserve_on : Grid → Product → Plan → ℕ → ℕ → ℕ → Fraction
reserve_on grid product plan n date state =
    number_at (first_before_term grid product plan n (product.months - date)) state

-- V_n(date, state): the Thiele run (Hoem 1969; Dickson, Hardy and Waters)
abbrev pub reserve : Product → Plan → ℕ → ℕ → ℕ → Fraction
reserve = reserve_on (cells_of_32 Backward)

-- Vm_n(date, state): the same with whole months as cells
abbrev pub month_grid_reserve : Product → Plan → ℕ → ℕ → ℕ → Fraction
month_grid_reserve = reserve_on (whole_months Backward)

-- V_n(0-, start): the value just before issue, with the lump of date 0
abbrev pub value_before_issue : Product → Plan → ℕ → Fraction
value_before_issue product plan n =
    reserve product plan n 0 product.start +ℚ whole (lump_at plan 0 product.start)

-- B_n: the value of the benefits
abbrev pub benefits : Product → ℕ → Fraction
benefits product n = value_before_issue product (payment_plan product) n

-- P_n: the value of the premium pattern
abbrev pub pattern_value : Product → ℕ → Fraction
pattern_value product n = value_before_issue product (pattern_plan product) n

-- first and second moments beside each other
pub record Moments : Type 0 where
  pub first : Vector
  pub second : Vector

-- a month backward of both
abbrev pub moments_month_back : (ℕ → CoupledPair) → ℕ → ℕ → Moments → Moments
moments_month_back pair n zero v = v
moments_month_back pair n (suc cells) v = moments_month_back pair n cells (record {
  first = taylor_value (pair cells).first v.first n;
  second = second_taylor_value (pair cells) v.first v.second n;
})

-- both just before a date with the lump l in each state: V + l, and V2 + 2 l V + l^2
abbrev pub before_lumps : Product → Plan → ℕ → Moments → Moments
before_lumps product plan date v =
    let l : ℕ → Fraction = λ i. whole (lump_at plan date i) in
    record {
      first = add_lists v.first (lump_vector product plan date);
      second = vector_of (length product.states)
          (λ i. number_at v.second i +ℚ whole (pos 2) *ℚ l i *ℚ number_at v.first i +ℚ l i *ℚ l i);
    }

-- both some months before the term, before that date's lumps
abbrev pub moments_before_term : Product → Plan → ℕ → ℕ → Moments
moments_before_term product plan n zero =
    let zeros = vector_of (length product.states) (λ i. whole (pos 0)) in
    record { first = zeros; second = zeros }
moments_before_term product plan n (suc months) =
    let month = product.months - suc months in
    moments_month_back
    (λ cell. norberg_pair (cell_curves (cells_of_32 Backward) product plan month cell)) n cells_of_month
    (before_lumps product plan (suc month) (moments_before_term product plan n months))

-- V2_n(date, state): the second moment of the payment plan (Norberg 1995), in squared minor units
abbrev pub second_moment : Product → ℕ → ℕ → ℕ → Fraction
second_moment product n date state =
    number_at (moments_before_term product (payment_plan product) n (product.months - date)).second state

-- the probabilities at a date: 1 in the start state at issue
abbrev pub probabilities : Product → ℕ → ℕ → Vector
probabilities product n zero = vector_of (length product.states)
    (λ j. if j == product.start then whole (pos 1) else whole (pos 0))
probabilities product n (suc month) =
    let system : ℕ → System = λ cell. kolmogorov_system
    (cell_curves (cells_of_32 Forward) product (payment_plan product) month cell) in
    month_forward system n cells_of_month (probabilities product n month)

-- p_n(date, state): the Kolmogorov run (Hoem 1969)
abbrev pub probability : Product → ℕ → ℕ → ℕ → Fraction
probability product n date state = number_at (probabilities product n date) state
