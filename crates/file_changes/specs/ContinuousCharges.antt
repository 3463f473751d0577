-- A continuous premium that is charged: an amount a year is taken off the sojourn payments of the payers, up to a
-- month. This product's own.
use Rattle.std.specs.Prelude.{ℕ, ◌-◌, ◌*◌, ℤ, pos, ◌+ℤ◌, ◌-ℤ◌, ◌*ℤ◌, ◌==◌, nat_lt, not, Bool, if◌then◌else◌}
use Rattle.std.specs.Prelude.{List, [], ◌∷◌, ◌++◌, map, filter}
use Rattle.std.specs.List.{list_any}
use Rattle.frac_laws.specs.Rounding.{floor_of}
use Rattle.model_specs.specs.MonthNumbers.{coefficient_at}
use Rattle.model_specs.specs.Product.{Product, Step, Sojourn, PremiumPattern}
use Rattle.model_specs.specs.Payments.{constant_step, step_at}
use Rattle.payment_plan.specs.Tables.{is_payer}

-- the numerators of the first three of four coefficients of the years since a month, as coefficients of the years since
-- some months later: over 12^3, 12^2 and 12
abbrev pub numerators_later : (months : ℕ) → List ℤ → List ℤ
numerators_later months c =
    let square = months * months in
    (pos 1728 *ℤ coefficient_at c 0 +ℤ pos (144 * months) *ℤ coefficient_at c 1
    +ℤ pos (12 * square) *ℤ coefficient_at c 2 +ℤ pos (square * months) *ℤ coefficient_at c 3)
    ∷ (pos 144 *ℤ coefficient_at c 1 +ℤ pos (24 * months) *ℤ coefficient_at c 2
    +ℤ pos (3 * square) *ℤ coefficient_at c 3)
    ∷ (pos 12 *ℤ coefficient_at c 2 +ℤ pos (3 * months) *ℤ coefficient_at c 3) ∷ []

-- the four coefficients some months later, each rounded down to a whole number
abbrev pub coefficients_later : (months : ℕ) → List ℤ → List ℤ
coefficients_later months c =
    let numerators = numerators_later months c in
    floor_of (coefficient_at numerators 0) (pos 1728) ∷ floor_of (coefficient_at numerators 1) (pos 144)
    ∷ floor_of (coefficient_at numerators 2) (pos 12) ∷ coefficient_at c 3 ∷ []

-- a step that starts at a month and pays what a step pays that is older
abbrev pub continued_step : (month : ℕ) → Step → Step
continued_step month step = record { from = month; c = coefficients_later (month - step.from) step.c }

-- coefficients, the first one less an amount
abbrev pub less_first : (amount : ℤ) → List ℤ → List ℤ
less_first amount [] = []
less_first amount (c ∷ cs) = (c -ℤ amount) ∷ cs

-- a step less an amount a year
abbrev pub less_step : (amount : ℤ) → Step → Step
less_step amount step = record { from = step.from; c = less_first amount step.c }

-- the steps from a month on: that of the month goes on from there, and the later ones are as they were
abbrev pub steps_from : (month : ℕ) → List Step → List Step
steps_from month steps = continued_step month (step_at steps month) ∷ filter (λ s. nat_lt month s.from) steps

-- steps less an amount a year up to the month until, which is within the term or at its end
abbrev pub charged_steps : (amount : ℤ) → (months until : ℕ) → List Step → List Step
charged_steps amount months until steps = map (less_step amount) (filter (λ s. nat_lt s.from until) steps)
    ++ (if nat_lt until months then steps_from until steps else [])

-- one of some sojourns is in a state
abbrev pub has_sojourn : List Sojourn → (state : ℕ) → Bool
has_sojourn sojourns state = list_any (λ s. s.state == state) sojourns

-- a sojourn that pays nothing
abbrev pub zero_sojourn : (state : ℕ) → Sojourn
zero_sojourn state = record { state = state; steps = constant_step 0 (pos 0) ∷ [] }

-- the sojourn payments of a product, and one of nothing for each payer that has none
abbrev pub completed_sojourns : List Sojourn → PremiumPattern → List Sojourn
completed_sojourns sojourns pattern =
    sojourns ++ map zero_sojourn (filter (λ payer. not (has_sojourn sojourns payer)) pattern.payers)

-- a sojourn payment, less an amount a year up to the month until, where its state pays the premium
abbrev pub charged_sojourn : (amount : ℤ) → (months : ℕ) → PremiumPattern → Sojourn → Sojourn
charged_sojourn amount months pattern s = record {
  state = s.state;
  steps = if is_payer pattern.payers s.state then charged_steps amount months pattern.until s.steps else s.steps;
}

-- the sojourn payments of a product, each less the amount a year where the premium is paid
abbrev pub charged_sojourns : (amount : ℤ) → Product → List Sojourn
charged_sojourns amount product = map (charged_sojourn amount product.months product.pattern)
    (completed_sojourns product.sojourns product.pattern)
