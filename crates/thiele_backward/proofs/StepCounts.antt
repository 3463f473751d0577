-- Counts of steps over months.
use Rattle.std.specs.Prelude.{◌≡◌, ℕ, zero, suc, ◌+◌, ◌-◌, ◌*◌, ◌^◌, ◌<◌, ◌≤◌}
use Rattle.std.specs.Prelude.{Result, Ok, Err, OnErr}
use Rattle.std.proofs.Common.{refl, ap, ◌∙◌, arith, inl, inr, add-one}
use Rattle.std.proofs.lemmas.Bool.{cases_lt}
use Rattle.named_numbers.specs.Numbers.{cells_of_month}
use Rattle.model_specs.specs.Product.{Product}
use Rattle.model_specs.specs.Payments.{Plan}
use Rattle.model_specs.specs.Stretches.{cost}
use Rattle.payment_plan.specs.declared.pattern.Which.{Which}
use Rattle.rate_bounds.specs.MonthPay.{plan_named}
use Rattle.constant_months.specs.Costs.{cell_steps, steps_to}
use Rattle.thiele_backward.specs.Costs.{maps_cost, cells_cost}
use Rattle.thiele_backward.specs.StretchMaps.{RisesAtMost}
use Rattle.thiele_backward.specs.Sweeps.{BackwardSweep, plan_in}
use Rattle.thiele_backward.proofs.SweptTerms.{IsSwept}

-- ---- sums of steps

-- more months take no fewer steps
pub steps_grow : (steps : ℕ → ℕ) (m n : ℕ) → m ≤ n → steps_to steps m ≤ steps_to steps n
steps_grow steps m zero few =
    let none : m ≡ 0 = omega (arith, few) in
    rw none (omega arith)
steps_grow steps m (suc n) few = elim (cases_lt m (suc n)) [
  | inl b ↦ omega (arith, steps_grow steps m n (omega (arith, b)))
  | inr past ↦
      let same : m ≡ suc n = omega (arith, few, past) in
      rw same (omega arith)
]

-- one month more
pub steps_next : (steps : ℕ → ℕ) (months : ℕ) → steps_to steps (months + 1) ≡ steps_to steps months + steps months
steps_next steps months = ap (steps_to steps) (add-one months)

-- the steps of the last of some months
pub steps_last : (steps : ℕ → ℕ) (months : ℕ) → 0 < months
    → steps_to steps months ≡ steps_to steps (months - 1) + steps (months - 1)
steps_last steps zero some = absurd (omega (arith, some))
steps_last steps (suc months) some =
    let one_less : suc months - 1 ≡ months = omega arith in
    rw one_less refl

-- ---- refusals

-- what holds, holds where there is an error
pub on_err_is : {T E P : Type 0} (result : Result T E) → P → OnErr result P
on_err_is (Ok x) is = tt
on_err_is (Err e) is = is

pub rises_by : (old taken new : ℕ) → new ≡ old + taken → RisesAtMost old taken new
rises_by old taken new is = record { least = omega (arith, is); most = omega (arith, is) }

-- a refusal in a month
pub refused_in_month : (steps : ℕ → ℕ) (months month old begun new : ℕ) → month < months
    → begun ≡ old + steps_to steps month → RisesAtMost begun (steps month) new
    → RisesAtMost old (steps_to steps months) new
refused_in_month steps months month old begun new inside is rises = record {
  least = omega (arith, is, rises.least);
  most = omega (
    arith,
    is,
    rises.most,
    steps_next steps month,
    steps_grow steps (month + 1) months (omega (arith, inside)),
  );
}

-- ---- whole sweeps

-- what a valuation's cost is made of
pub record CostIs (product : Product) (plan : Plan) : Type 0 where
  pub split : cost product plan ≡ maps_cost product plan + cells_cost product plan product.months
  pub few : cost product plan ≤ cells_of_month * product.months

-- a refusal before the first month
pub refused_early : (product : Product) (plan : Plan) (old new : ℕ) → CostIs product plan
    → RisesAtMost old (maps_cost product plan) new → RisesAtMost old (cost product plan) new
refused_early product plan old new is rises = record {
  least = rises.least;
  most = omega (arith, rises.most, is.split);
}

-- a sweep from the term, with its steps
module _ (product : Product) (which : Which) (is : CostIs product (plan_named which product)) (done degree : ℕ)
    (s : BackwardSweep) (swept : IsSwept product which done degree s) (old begun : ℕ)
    (made : begun ≡ old + maps_cost product (plan_named which product))
    (room : old + cells_of_month * product.months < 2 ^ 63) where
  abbrev plan : Plan
  plan = plan_named which product

  -- the steps so far and those of the months that are left
  abbrev pub HasSteps : ℕ → ℕ → Type 0
  HasSteps steps left = steps + cells_cost product plan left ≡ begun + cells_cost product plan product.months

  pub steps_here : cell_steps s.product (plan_in s) (s.months_left - 1) ≡ cell_steps product plan (s.months_left - 1)
  steps_here =
      let steps : Product → Which → ℕ = λ p w. cell_steps p (plan_named w p) (s.months_left - 1) in
      ap (λ p. steps p s.which) swept.product_is ∙ ap (λ w. steps product w) swept.which_is

  -- those of the next month fit
  pub month_fits : (steps : ℕ) → HasSteps steps s.months_left → 0 < s.months_left
      → steps + cell_steps s.product (plan_in s) (s.months_left - 1) < 2 ^ 63
  month_fits steps has some = omega (
    arith,
    has,
    steps_here,
    steps_last (cell_steps product plan) s.months_left some,
    is.split,
    is.few,
    made,
    room,
  )

  pub month_counted : (steps after : ℕ) → HasSteps steps s.months_left → 0 < s.months_left
      → after ≡ steps + cell_steps s.product (plan_in s) (s.months_left - 1) → HasSteps after (s.months_left - 1)
  month_counted steps after has some taken =
      omega (arith, has, taken, steps_here, steps_last (cell_steps product plan) s.months_left some)

  -- at date 0 they are the cost
  pub all_counted : (steps : ℕ) → HasSteps steps s.months_left → s.months_left ≡ 0 → steps ≡ old + cost product plan
  all_counted steps has none =
      let nothing : cells_cost product plan s.months_left ≡ 0 = ap (cells_cost product plan) none in
      omega (arith, has, nothing, is.split, made)
