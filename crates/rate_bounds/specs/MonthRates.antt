-- The intensities of a month, over 2488320 den a year.
use Rattle.std.specs.Prelude.{ℕ, ℤ, List, length, map}
use Rattle.whole_laws.specs.Whole.{list_of, least_whole, natural_part, whole_sum}
use Rattle.model_specs.specs.Product.{Product, transition_at}
use Rattle.model_specs.specs.MonthNumbers.{curve_numerators, greatest_rate}

-- the greatest rate of a transition, and 0 where it is below 0
unfoldable pub rate_part : Product → ℕ → ℕ → ℕ
rate_part product month e = natural_part (greatest_rate product e month)

-- the sum of the greatest rates of some transitions
unfoldable pub rate_sum : Product → ℕ → List ℕ → ℤ
rate_sum product month transitions = whole_sum (map (λ e. greatest_rate product e month) transitions)

-- the least Bernstein coefficient of the intensity of a transition
unfoldable pub least_of : Product → ℕ → ℕ → ℤ
least_of product month e = least_whole (curve_numerators (transition_at product e).rate month)

-- the least Bernstein coefficient of all intensities, and 0 where there is no transition
unfoldable pub least_rate : Product → ℕ → ℤ
least_rate product month = least_whole (list_of (length product.transitions) (least_of product month))
