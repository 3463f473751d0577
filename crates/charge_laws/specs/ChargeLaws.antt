-- What a charge does to the payments and the values of a product: each is less by the amount times what the premium
-- pattern pays, or is worth.
use Rattle.std.specs.Prelude.{◌≡◌, ℕ, pos, ◌<◌, ℤ, length}
use Rattle.frac_laws.specs.Fraction.{Fraction, whole, ◌*ℚ◌, ◌-ℚ◌}
use Rattle.frac_laws.specs.Lists.{number_at}
use Rattle.model_specs.specs.Product.{Product}
use Rattle.model_specs.specs.Payments.{Plan, payment_plan, pattern_plan, lump_at, sojourn_at}
use Rattle.model_specs.specs.Cells.{Grid, amount_cell}
use Rattle.model_specs.specs.Runs.{reserve_on, benefits, pattern_value}
use Rattle.model_specs.specs.RecordRules.{IsWellFormed}
use Rattle.file_changes.specs.Asks.{ChargeAsks}
use Rattle.file_changes.specs.Charges.{charged}

-- a value less the amount for each 1 of the pattern's value
abbrev pub less_charge : (value : Fraction) → (amount : ℤ) → (pattern : Fraction) → Fraction
less_charge value amount pattern = value -ℚ whole amount *ℚ pattern

-- what the charged product pays: its payments with the amount taken off
abbrev pub charged_plan : (amount : ℤ) → Product → Plan
charged_plan amount product = payment_plan (charged amount product)

-- a fact of each amount and each product that obeys rules 3 to 14, where all parts of the charge hold
abbrev pub OfEachCharge : (ℤ → Product → Type 0) → Type 0
OfEachCharge Says = (amount : ℤ) (product : Product) → IsWellFormed product
    → ((part : ℕ) → ChargeAsks amount product part) → Says amount product

-- at each date and in each state of the product the lump of the charged product is its own, less the amount where the
-- pattern pays then
abbrev pub ChargesComeOffLumps : Type 0
ChargesComeOffLumps = OfEachCharge (λ amount product. (date state : ℕ) → state < length product.states
    → whole (lump_at (charged_plan amount product) date state)
    ≡ less_charge (whole (lump_at (payment_plan product) date state)) amount
    (whole (lump_at (pattern_plan product) date state)))

-- the coefficient of a power of a cell's variable in what a plan pays a year in a state
abbrev pub sojourn_number : Grid → Plan → (state month cell power : ℕ) → Fraction
sojourn_number grid plan state month cell power =
    number_at (amount_cell grid (sojourn_at plan state month) month cell) power

-- on each grid, in each cell of each month of the term and in each state, each coefficient of the sojourn payment of
-- the charged product is its own, less the amount for each 1 a year of the pattern
abbrev pub ChargesComeOffSojourns : Type 0
ChargesComeOffSojourns = OfEachCharge (λ amount product. (grid : Grid) (month cell state power : ℕ)
    → month < product.months → cell < grid.cells
    → sojourn_number grid (charged_plan amount product) state month cell power
    ≡ less_charge (sojourn_number grid (payment_plan product) state month cell power) amount
    (sojourn_number grid (pattern_plan product) state month cell power))

-- in every degree, on each grid, at each date and in each state the reserve of the charged product is its own, less the
-- amount for each 1 of the pattern's reserve
abbrev pub ChargesComeOffReserves : Type 0
ChargesComeOffReserves = OfEachCharge (λ amount product. (grid : Grid) (n date state : ℕ)
    → reserve_on grid (charged amount product) (charged_plan amount product) n date state
    ≡ less_charge (reserve_on grid product (payment_plan product) n date state) amount
    (reserve_on grid product (pattern_plan product) n date state))

-- and so is the value just before issue
abbrev pub ChargesComeOffValues : Type 0
ChargesComeOffValues = OfEachCharge (λ amount product. (n : ℕ)
    → benefits (charged amount product) n ≡ less_charge (benefits product n) amount (pattern_value product n))

-- so a premium that is worth the benefits, once charged, leaves nothing
abbrev pub ChargedPremiumsBalance : Type 0
ChargedPremiumsBalance = OfEachCharge (λ amount product. (n : ℕ)
    → whole amount *ℚ pattern_value product n ≡ benefits product n
    → benefits (charged amount product) n ≡ whole (pos 0))
