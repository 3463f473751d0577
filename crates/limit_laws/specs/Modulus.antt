-- Two degrees of one run of an admissible product are close: the radius ledgers bound what they differ by, and they
-- come together as fast as 8^n grows.
use Rattle.std.specs.Prelude.{ℕ, pos, ◌*◌, ◌^◌, ◌≤◌}
use Rattle.frac_laws.specs.Fraction.{Fraction, over, whole, size, ◌-ℚ◌, ◌*ℚ◌, ◌≤ℚ◌}
use Rattle.frac_laws.specs.Sums.{power}
use Rattle.frac_laws.specs.Norms.{Sum}
use Rattle.cell_laws.specs.ErrorLaws.{distance}
use Rattle.model_specs.specs.Product.{Product}
use Rattle.model_specs.specs.Payments.{Plan, payment_plan, pattern_plan}
use Rattle.model_specs.specs.Ledgers.{scale, radius, radius_forward, second_radius}
use Rattle.model_specs.specs.Runs.{reserve, value_before_issue, probabilities, probability, second_moment}
use Rattle.model_specs.specs.ValuationRules.{IsAdmissible}

-- a number of a radius ledger in units of a scale, over 2^13
abbrev pub modulus_of : (scale w : ℕ) → Fraction
modulus_of scale w = over (pos (scale * w)) (2 ^ 13)

-- the modulus of a plan's reserves at a date: G W / 2^13, in minor units
abbrev pub reserve_modulus : Product → Plan → ℕ → Fraction
reserve_modulus product plan date = modulus_of (2 ^ scale product plan) (radius product date)

-- that of the second moments: 4^g Ws / 2^13, in squared minor units
abbrev pub second_moment_modulus : Product → ℕ → Fraction
second_moment_modulus product date =
    modulus_of (4 ^ scale product (payment_plan product)) (second_radius product date)

-- that of the probabilities: Wf / 2^13
abbrev pub probability_modulus : Product → ℕ → Fraction
probability_modulus product date = modulus_of 1 (radius_forward product date)

-- 8^n |x - y| is at most a modulus
abbrev pub AreCloseBy : (n : ℕ) → (modulus x y : Fraction) → Type 0
AreCloseBy n modulus x y = power (whole (pos 8)) n *ℚ size (x -ℚ y) ≤ℚ modulus

-- |x - y| is at most 2^32 / 8^n, in units of a scale
abbrev pub AreClose : (n scale : ℕ) → (x y : Fraction) → Type 0
AreClose n scale x y = size (x -ℚ y) ≤ℚ over (pos (scale * 2 ^ 32)) (8 ^ n)

-- a fact of two degrees from 8 on
abbrev pub OfTwoDegrees : ((n later : ℕ) → Type 0) → Type 0
OfTwoDegrees Says = (n later : ℕ) → 8 ≤ n → n ≤ later → Says n later

-- a plan's reserves, at every date and in every state, and its value just before issue: 8^n |V_n - V_n'| is at most the
-- modulus, so |V_n - V_n'| is at most G 2^32 / 8^n
pub record ReservesConverge (product : Product) (plan : Plan) : Type 0 where
  pub modulus : OfTwoDegrees (λ n later. (date state : ℕ) → AreCloseBy n (reserve_modulus product plan date)
      (reserve product plan later date state) (reserve product plan n date state))
  pub close : OfTwoDegrees (λ n later. (date state : ℕ) → AreClose n (2 ^ scale product plan)
      (reserve product plan later date state) (reserve product plan n date state))
  pub value_modulus : OfTwoDegrees (λ n later. AreCloseBy n (reserve_modulus product plan 0)
      (value_before_issue product plan later) (value_before_issue product plan n))
  pub value_close : OfTwoDegrees (λ n later. AreClose n (2 ^ scale product plan)
      (value_before_issue product plan later) (value_before_issue product plan n))

-- the probabilities at each date of the term: 8^n times the sum of |p_n - p_n'| over the states is at most the modulus,
-- so it is for each state, and |p_n - p_n'| is at most 2^32 / 8^n
pub record ProbabilitiesConverge (product : Product) : Type 0 where
  pub together : OfTwoDegrees (λ n later. (date : ℕ) → date ≤ product.months
      → power (whole (pos 8)) n *ℚ distance Sum (probabilities product later date) (probabilities product n date)
      ≤ℚ probability_modulus product date)
  pub modulus : OfTwoDegrees (λ n later. (date state : ℕ) → date ≤ product.months
      → AreCloseBy n (probability_modulus product date)
      (probability product later date state) (probability product n date state))
  pub close : OfTwoDegrees (λ n later. (date state : ℕ) → date ≤ product.months
      → AreClose n 1 (probability product later date state) (probability product n date state))

-- the second moments, at every date and in every state: 8^n |V2_n - V2_n'| is at most the modulus, so |V2_n - V2_n'| is
-- at most 4^g 2^32 / 8^n
pub record SecondMomentsConverge (product : Product) : Type 0 where
  pub modulus : OfTwoDegrees (λ n later. (date state : ℕ) → AreCloseBy n (second_moment_modulus product date)
      (second_moment product later date state) (second_moment product n date state))
  pub close : OfTwoDegrees (λ n later. (date state : ℕ) → AreClose n (4 ^ scale product (payment_plan product))
      (second_moment product later date state) (second_moment product n date state))

-- a fact of every admissible product
abbrev pub OfEachProduct : (Product → Type 0) → Type 0
OfEachProduct Says = (product : Product) → IsAdmissible product → Says product

-- the reserves of the payment plan
abbrev pub PlanReservesConverge : Type 0
PlanReservesConverge = OfEachProduct (λ product. ReservesConverge product (payment_plan product))

-- and those of the premium pattern
abbrev pub PatternReservesConverge : Type 0
PatternReservesConverge = OfEachProduct (λ product. ReservesConverge product (pattern_plan product))

-- the probabilities
abbrev pub AllProbabilitiesConverge : Type 0
AllProbabilitiesConverge = OfEachProduct ProbabilitiesConverge

-- and the second moments
abbrev pub AllSecondMomentsConverge : Type 0
AllSecondMomentsConverge = OfEachProduct SecondMomentsConverge
