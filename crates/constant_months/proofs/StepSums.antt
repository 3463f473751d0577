-- The steps of maps and cells, month by month, and their sums.
use Rattle.std.specs.Prelude.{◌≡◌, ℕ, zero, suc, ◌+◌, ◌*◌, ◌≤◌, Bool, true, false, if◌then◌else◌, [], ◌∷◌, sum, length}
use Rattle.std.proofs.Common.{refl, ap, ◌∙◌, arith}
use Rattle.std.proofs.lemmas.List.Sums.{sum_by-append}
use Rattle.named_numbers.specs.Numbers.{cells_of_month, most_states}
use Rattle.whole_laws.specs.Whole.{list_of}
use Rattle.whole_laws.proofs.ListsByPlace.{list_of-more}
use Rattle.model_specs.specs.Product.{Product}
use Rattle.model_specs.specs.Payments.{Plan}
use Rattle.model_specs.specs.Stretches.{is_constant_month, continues_stretch, month_cost}
use Rattle.constant_months.specs.Costs.{map_steps, cell_steps, steps_to, CostsSplit, StepsAreFew, CostsAreSmall}

-- a sum by places goes on with the next one
sum_more : (n : ℕ) (f : ℕ → ℕ) → sum (list_of (suc n) f) ≡ sum (list_of n f) + f n
sum_more n f = let e : sum (f n ∷ []) ≡ f n = omega arith in
    ap sum (list_of-more n f) ∙ sum_by-append (λ x. x) (list_of n f) (f n ∷ []) ∙ ap (λ t. sum (list_of n f) + t) e

-- a month either takes the steps of a map or those of its cells
choice_splits : (constant : Bool) (made cells : ℕ)
    → (if constant then made else cells) ≡ (if constant then made else 0) + (if constant then 0 else cells)
choice_splits true made cells = omega arith
choice_splits false made cells = omega arith

module _ (product : Product) (plan : Plan) where
  month_splits : (month : ℕ)
      → month_cost product plan month ≡ map_steps product plan month + cell_steps product plan month
  month_splits month = choice_splits (is_constant_month product plan month)
      (if continues_stretch product plan month then 0 else length product.states + 1) cells_of_month

  sum_splits : (months : ℕ) → sum (list_of months (month_cost product plan))
      ≡ steps_to (map_steps product plan) months + steps_to (cell_steps product plan) months
  sum_splits zero = refl
  sum_splits (suc months) =
      let here = month_splits months in
      let before = sum_splits months in
      let more = sum_more months (month_cost product plan) in
      omega (arith, here, before, more)

  month_most : length product.states ≤ most_states → (month : ℕ) → month_cost product plan month ≤ cells_of_month
  month_most few month = most (is_constant_month product plan month) (continues_stretch product plan month)
    where
      most : (constant goes_on : Bool)
          → (if constant then (if goes_on then 0 else length product.states + 1) else cells_of_month) ≤ cells_of_month
      most true true = omega arith
      most true false = omega (arith, few)
      most false goes_on = omega arith

  steps_few : length product.states ≤ most_states → (months : ℕ)
      → steps_to (map_steps product plan) months + steps_to (cell_steps product plan) months ≤ cells_of_month * months
  steps_few few zero = omega arith
  steps_few few (suc months) =
      omega (arith, steps_few few months, month_splits months, month_most few months)

pub costs_split : CostsSplit
costs_split product plan = sum_splits product plan product.months

pub steps_are_few : StepsAreFew
steps_are_few product plan months few = steps_few product plan few months

pub costs_are_small : CostsAreSmall
costs_are_small product plan few = record {
  month = month_most product plan few;
  whole = let split = sum_splits product plan product.months in
      let all = steps_few product plan few product.months in omega (arith, split, all);
}
