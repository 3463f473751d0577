-- What contracts see of a payment plan.
use Rattle.std.specs.Prelude.{◌≡◌, ℕ, ◌<◌, ◌≤◌, ◌==◌, if◌then◌else◌, List, [], length, map, All, unsigned_abs}
use Rattle.named_numbers.specs.Numbers.{most_months, most_states, most_lump, most_every}
use Rattle.model_specs.specs.Product.{Step, Sojourn, Lump, PremiumPattern}
use Rattle.model_specs.specs.Payments.{Plan, continuous_pattern, dated_pattern}
use Rattle.model_specs.specs.RecordRules.{AreDistinct, IsPayment, IsBoundedPayment}
use Rattle.payment_plan.specs.declared.pattern.Which.{Which}
use Rattle.payment_plan.specs.declared.pattern.Which.TheVariants.{Benefits, Pattern}

-- the payments of a product with so many states and a term of so many months: the steps of the sum of each transition
-- (none: nothing is paid), the sojourn rates, the lumps, and the premium pattern
pub record Payments : Type 0 where
  pub states : ℕ
  pub months : ℕ
  pub sums : List (List Step)
  pub sojourns : List Sojourn
  pub lumps : List Lump
  pub pattern : PremiumPattern

-- what the file pays: benefits are positive and premiums negative
abbrev pub benefits_of : Payments → Plan
benefits_of p = record { sums = p.sums; sojourns = p.sojourns; lumps = p.lumps }

-- the premium pattern as a plan of its own
abbrev pub pattern_of : Payments → Plan
pattern_of p = if p.pattern.every == 0 then continuous_pattern p.pattern else dated_pattern p.pattern

-- the one or the other
abbrev pub plan_of : Which → Payments → Plan
plan_of Benefits p = benefits_of p
plan_of Pattern p = pattern_of p

-- rules 10 and 11: each sojourn names a state of its own; a transition with no steps has no sum
pub record HasGoodPayments (p : Payments) : Type 0 where
  pub states : All (λ s. s.state < p.states) p.sojourns
  pub distinct : AreDistinct 0 (map (λ s. s.state) p.sojourns)
  pub sojourns : All (λ s. IsPayment p.months s.steps) p.sojourns
  pub sums : All (λ steps. 1 ≤ length steps → IsPayment p.months steps) p.sums
  pub bounded_sojourns : All (λ s. IsBoundedPayment p.months s.steps) p.sojourns
  pub bounded_sums : All (IsBoundedPayment p.months) p.sums

-- rule 12: each lump has a date of the term, a state and an amount of at most 10^12, and no two have the same date and
-- state
pub record HasGoodLumps (p : Payments) : Type 0 where
  pub dates : All (λ l. l.month ≤ p.months) p.lumps
  pub states : All (λ l. l.state < p.states) p.lumps
  pub amounts : All (λ l. unsigned_abs l.amount ≤ most_lump) p.lumps
  pub distinct : AreDistinct {A = ℕ × ℕ} (0, 0) (map (λ l. (l.month, l.state)) p.lumps)

-- rules 13 and 14: the payers are states and differ; a pattern that pays ends within the term, at a date above 0, and
-- one without payers is the pattern that never pays
pub record HasGoodPattern (p : Payments) : Type 0 where
  pub payers : All (λ i. i < p.states) p.pattern.payers
  pub distinct : AreDistinct 0 p.pattern.payers
  pub until_above_0 : 1 ≤ length p.pattern.payers → 1 ≤ p.pattern.until
  pub until_within : p.pattern.until ≤ p.months
  pub every : p.pattern.every ≤ most_every
  pub never_until : p.pattern.payers ≡ [] → p.pattern.until ≡ 0
  pub never_every : p.pattern.payers ≡ [] → p.pattern.every ≡ 0

-- 1 to 12 states, a term of 1 to 1200 months, and rules 10 to 14
pub record IsAllowed (p : Payments) : Type 0 where
  pub some_state : 1 ≤ p.states
  pub most_states : p.states ≤ most_states
  pub some_month : 1 ≤ p.months
  pub most_months : p.months ≤ most_months
  pub payments : HasGoodPayments p
  pub lumps : HasGoodLumps p
  pub pattern : HasGoodPattern p
