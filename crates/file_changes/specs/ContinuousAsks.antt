-- What a continuous premium that is charged asks of the sojourn payments. This product's own.
use Rattle.std.specs.Prelude.{◌≡◌, ℕ, ◌-◌, ◌<◌, ℤ, pos, All, IsTrue, FitsSigned, List}
use Rattle.std.specs.Int.{w64}
use Rattle.frac_laws.specs.Fraction.{over}
use Rattle.frac_laws.specs.Polynomials.{all_over, shifted}
use Rattle.named_numbers.specs.Numbers.{months_of_year}
use Rattle.model_specs.specs.Product.{Product, Step, Sojourn}
use Rattle.model_specs.specs.Payments.{step_at}
use Rattle.model_specs.specs.RecordRules.{IsBoundedPayment}
use Rattle.payment_plan.specs.Tables.{is_payer}
use Rattle.file_changes.specs.ContinuousCharges.{coefficients_later}

-- numbers of 64 bits
abbrev pub AreWords : List ℤ → Type 0
AreWords numbers = All (FitsSigned w64) numbers

-- the coefficients of steps are numbers of 64 bits, and the steps obey rule 11
pub record AreSmallSteps (months : ℕ) (steps : List Step) : Type 0 where
  pub words : All (λ step. AreWords step.c) steps
  pub bounded : IsBoundedPayment months steps

-- so do those of all sojourn payments
abbrev pub AreSmallSojourns : (months : ℕ) → List Sojourn → Type 0
AreSmallSojourns months sojourns = All (λ s. AreSmallSteps months s.steps) sojourns

-- coefficients of the years since some months later are whole numbers: nothing is lost where they are rounded down
abbrev pub AreWholeLater : (months : ℕ) → List ℤ → Type 0
AreWholeLater months c =
    all_over 1 (coefficients_later months c) ≡ shifted (over (pos months) months_of_year) (all_over 1 c)

-- so are those of the step that holds in a month, from that month on
abbrev pub GoesOnWhole : (month : ℕ) → List Step → Type 0
GoesOnWhole month steps = let step = step_at steps month in AreWholeLater (month - step.from) step.c

-- so are those of each payer's sojourn payment, from the premium's end on, if that is before the term
abbrev pub PayersGoOnWhole : Product → Type 0
PayersGoOnWhole product = product.pattern.until < product.months
    → All (λ s. IsTrue (is_payer product.pattern.payers s.state) → GoesOnWhole product.pattern.until s.steps)
    product.sojourns
