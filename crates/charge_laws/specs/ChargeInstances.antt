-- Two small products that are charged, by whole months and degree 2, beside exact fractions that were computed outside.
use Rattle.std.specs.Prelude.{◌≡◌, ℕ, pos, negsuc, codes, List, [], ◌∷◌}
use Rattle.frac_laws.specs.Fraction.{whole, over}
use Rattle.frac_laws.specs.Lists.{Vector}
use Rattle.model_specs.specs.Product.{Product, Lump, Step, Sojourn, PremiumPattern}
use Rattle.model_specs.specs.Payments.{Plan, constant_step, payment_plan, pattern_plan}
use Rattle.model_specs.specs.Cells.{Backward, whole_months}
use Rattle.model_specs.specs.Runs.{first_before_term}
use Rattle.model_laws.specs.Examples.{constant_curve}
use Rattle.file_changes.specs.Charges.{charged}

-- a lump of a month and a state
abbrev pub lump_of : (month state : ℕ) → (amount : ℕ) → Lump
lump_of month state amount = record { month = month; state = state; amount = pos amount }

-- a step of a rate that grows by 12 a year
abbrev pub growing_step : (from first : ℕ) → Step
growing_step from first = record { from = from; c = pos first ∷ pos 12 ∷ pos 0 ∷ pos 0 ∷ [] }

-- two months in or out, with a twentieth of interest, a tenth of leaving and 600 for it
abbrev pub in_or_out : List Sojourn → List Lump → PremiumPattern → Product
in_or_out sojourns lumps pattern = record {
  name = codes "small";
  states = codes "in" ∷ codes "out" ∷ [];
  start = 0;
  months = 2;
  den = 20;
  interest = constant_curve (pos 1);
  transitions = record {
    from = 0;
    to = 1;
    rate = constant_curve (pos 2);
    sum = constant_step 0 (pos 600) ∷ [];
  } ∷ [];
  sojourns = sojourns;
  lumps = lumps;
  pattern = pattern;
}

-- where the premium is due in the first state at dates 0 and 1, and at date 0 no lump is there
abbrev pub small_product : Product
small_product = in_or_out [] (lump_of 2 0 100 ∷ lump_of 2 1 40 ∷ lump_of 1 0 30 ∷ lump_of 0 1 9 ∷ [])
    (record { payers = 0 ∷ []; until = 2; every = 1 })

-- and with 7 taken off at each date
abbrev pub charged_product : Product
charged_product = charged (pos 7) small_product

-- the reserves of both states some months before the term
abbrev pub reserves_before : Product → Plan → (months : ℕ) → Vector
reserves_before product plan months = first_before_term (whole_months Backward) product plan 2 months

-- its lumps: 23 for 30 at date 1, and -7 at date 0, where none was
abbrev pub ChargedLumpsAre : Type 0
ChargedLumpsAre = charged_product.lumps ≡ lump_of 2 0 100 ∷ lump_of 2 1 40 ∷ lump_of 1 0 23 ∷ lump_of 0 1 9
    ∷ record { month = 0; state = 0; amount = negsuc 6 } ∷ []

-- the reserves of the product at issue
abbrev pub FileReservesAre : Type 0
FileReservesAre = reserves_before small_product (payment_plan small_product) 2 ≡
    over (pos 18272869549) 132710400 ∷ over (pos 13160907841) 331776000 ∷ []

-- those of its pattern
abbrev pub PatternReservesAre : Type 0
PatternReservesAre = reserves_before small_product (pattern_plan small_product) 2 ≡
    over (pos 12641) 12800 ∷ whole (pos 0) ∷ []

-- those of the charged product: they are the first less 7 times the second
abbrev pub ChargedReservesAre : Type 0
ChargedReservesAre = reserves_before charged_product (payment_plan charged_product) 2 ≡
    over (pos 17355436333) 132710400 ∷ over (pos 13160907841) 331776000 ∷ []

-- where the premium is paid continuously in the first state in month 0, and 24 + 12 t a year is paid there
abbrev pub continuous_product : Product
continuous_product = in_or_out (record { state = 0; steps = growing_step 0 24 ∷ [] } ∷ [])
    (lump_of 2 0 100 ∷ lump_of 2 1 40 ∷ lump_of 1 0 30 ∷ []) (record { payers = 0 ∷ []; until = 1; every = 0 })

-- and with 7 a year taken off
abbrev pub continuous_charged : Product
continuous_charged = charged (pos 7) continuous_product

-- its sojourn payment: 17 + 12 t in month 0, and then what the product pays a month later, 25 + 12 t
abbrev pub ChargedStepsAre : Type 0
ChargedStepsAre = continuous_charged.sojourns
    ≡ record { state = 0; steps = growing_step 0 17 ∷ growing_step 1 25 ∷ [] } ∷ []

-- the reserves of the product at issue
abbrev pub ContinuousFileReservesAre : Type 0
ContinuousFileReservesAre = reserves_before continuous_product (payment_plan continuous_product) 2 ≡
    over (pos 94094118323) 663552000 ∷ over (pos 13160907841) 331776000 ∷ []

-- those of its pattern
abbrev pub ContinuousPatternReservesAre : Type 0
ContinuousPatternReservesAre = reserves_before continuous_product (pattern_plan continuous_product) 2 ≡
    over (pos 53) 640 ∷ whole (pos 0) ∷ []

-- those of the charged product: they too are the first less 7 times the second
abbrev pub ContinuousChargedReservesAre : Type 0
ContinuousChargedReservesAre = reserves_before continuous_charged (payment_plan continuous_charged) 2 ≡
    over (pos 93709465523) 663552000 ∷ over (pos 13160907841) 331776000 ∷ []
