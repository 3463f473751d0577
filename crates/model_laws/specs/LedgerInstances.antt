-- What the ledgers of small products come to, beside numbers that were computed by hand or by another
-- program.
use Rattle.std.specs.Prelude.{◌≡◌, ℕ, pos, negsuc, Some, None, [], ◌∷◌}
use Rattle.model_specs.specs.Product.{Product, Step}
use Rattle.model_specs.specs.Payments.{payment_plan, pattern_plan}
use Rattle.model_specs.specs.MonthNumbers.{bernstein_numerators}
use Rattle.model_specs.specs.Growth.{phi40, kappa40, load, pay}
use Rattle.model_specs.specs.Ledgers.{bound1024, scale, radius, second_radius}
use Rattle.model_specs.specs.ValuationRules.{first_broken}
use Rattle.model_specs.specs.Rows.{Row, RowKind, Value, Occupancy, Second, Variance, Pattern, tolerance}
use Rattle.model_specs.specs.Stretches.{cost}
use Rattle.model_laws.specs.Examples.{flat_annuity, discounted_lump, century_lump, largest_annuity}
use Rattle.model_laws.specs.Examples.{ring_of_eight, exchange, linear_decrement, at_the_limits}

-- the bound and scale of a product's payment plan, and the two radii at issue
pub record LedgersAre (product : Product) (bound g w second : ℕ) : Type 0 where
  pub bound_is : bound1024 product (payment_plan product) ≡ bound
  pub scale_is : scale product (payment_plan product) ≡ g
  pub radius_is : radius product 0 ≡ w
  pub second_radius_is : second_radius product 0 ≡ second

-- 384 a year for a year: each cell adds 2048 to the bound and 1024 to the radius, and to the second radius
-- ceil(2 * 2048 * W / 2^20) + 1024
abbrev pub FlatLedgers : Type 0
FlatLedgers = LedgersAre flat_annuity 786432 10 393216 687360

-- what a cell of its last month adds to the bound
abbrev pub FlatPay : Type 0
FlatPay = pay flat_annuity (payment_plan flat_annuity) 11 ≡ 2048

-- 10000 after a year at a twentieth
abbrev pub DiscountedLedgers : Type 0
DiscountedLedgers = LedgersAre discounted_lump 10240384 14 393599 393604

-- the growth that its first month counts, in 1/2^40
abbrev pub DiscountedGrowth : Type 0
DiscountedGrowth = (phi40 discounted_lump 0 ≡ 429496730) × (kappa40 discounted_lump 0 ≡ 94372)

-- a century: of a lump at minus a fiftieth, and of the largest annuity
abbrev pub CenturyScales : Type 0
CenturyScales = (scale century_lump (payment_plan century_lump) ≡ 16)
    × (bound1024 largest_annuity (payment_plan largest_annuity) ≡ 204800000000025600)
    × (scale largest_annuity (payment_plan largest_annuity) ≡ 48)

-- a century of a ring of eight states
abbrev pub RingScale : Type 0
RingScale = let ring = ring_of_eight 1200 (pos 2000000) in scale ring (payment_plan ring) ≡ 21

-- a row of a kind, whatever its ends
abbrev pub row_of : RowKind → ℕ → Row
row_of kind month = record { kind = kind; month = month; state = 0; lo = pos 0; hi = pos 0 }

-- the bound, scales and tolerances of a product: of its value, of its occupancy at the term, of its
-- second moment and variance at date 0, and of the pattern
pub record ChecksAs (product : Product) (bound g value occupancy second variance pattern_g pattern : ℕ)
    : Type 0 where
  pub bound_is : bound1024 product (payment_plan product) ≡ bound
  pub scale_is : scale product (payment_plan product) ≡ g
  pub value_is : tolerance product (row_of Value 0) ≡ value
  pub occupancy_is : tolerance product (row_of Occupancy product.months) ≡ occupancy
  pub second_is : tolerance product (row_of Second 0) ≡ second
  pub variance_is : tolerance product (row_of Variance 0) ≡ variance
  pub pattern_scale_is : scale product (pattern_plan product) ≡ pattern_g
  pub pattern_is : tolerance product (row_of Pattern 0) ≡ pattern

-- those of the product at the limits
abbrev pub LimitsCheck : Type 0
LimitsCheck = ChecksAs at_the_limits 9419890484737373 44 1580102 3 36978494013442 92590468759554 0 3

-- the Bernstein coefficients of 1 - t over the twelfth month are 1/12, .., 1/60 and 0
abbrev pub FallingNumerators : Type 0
FallingNumerators = bernstein_numerators (pos 1 ∷ negsuc 0 ∷ pos 0 ∷ pos 0 ∷ pos 0 ∷ pos 0 ∷ []) 11
    ≡ pos 207360 ∷ pos 165888 ∷ pos 124416 ∷ pos 82944 ∷ pos 41472 ∷ pos 0 ∷ []

-- the load of 768 t: from 0 to 64 over the first month, 64 + 4 * 64, and from 704 to 768 over the twelfth
abbrev pub GrowingLoads : Type 0
GrowingLoads =
    let step : Step = record { from = 0; c = pos 0 ∷ pos 768 ∷ pos 0 ∷ pos 0 ∷ [] } in
    (load step 0 ≡ 320) × (load step 11 ≡ 1024)

-- rule 16: 1 - t is taken over a year and refused in the month after it
abbrev pub FallingRates : Type 0
FallingRates = (first_broken (linear_decrement 12 1 (pos 1) (negsuc 0)) ≡ None)
    × (first_broken (linear_decrement 13 1 (pos 1) (negsuc 0)) ≡ Some (record { rule = 16; place = 12 }))

-- rule 17: an intensity of exactly 2 is taken, and one of a millionth more refused
abbrev pub LargestRates : Type 0
LargestRates = (first_broken (ring_of_eight 2 (pos 2000000)) ≡ None)
    × (first_broken (ring_of_eight 2 (pos 2000001)) ≡ Some (record { rule = 17; place = 0 }))

-- rule 18: the largest amount that two states may exchange for a century
abbrev pub LargestExchange : Type 0
LargestExchange = first_broken (exchange (pos 396094500958)) ≡ None

-- an amount of one more is refused
abbrev pub TooLargeExchange : Type 0
TooLargeExchange = first_broken (exchange (pos 396094500959)) ≡ Some (record { rule = 18; place = 0 })

-- and so is the largest amount that a file may have
abbrev pub FarTooLargeExchange : Type 0
FarTooLargeExchange = first_broken (exchange (pos 1000000000000)) ≡ Some (record { rule = 18; place = 0 })

-- a ring in which nothing varies is one stretch of 8 + 1 steps; ten years of a rate t / 50 take 32 steps
-- a month
abbrev pub Costs : Type 0
Costs =
    let ring = ring_of_eight 1200 (pos 2000000) in let growing = linear_decrement 120 50 (pos 0) (pos 1) in
    (cost ring (payment_plan ring) ≡ 9) × (cost growing (payment_plan growing) ≡ 3840)
