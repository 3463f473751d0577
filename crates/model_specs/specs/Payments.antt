-- Payments of a plan in a month and at a date. This product's own.
use Rattle.std.specs.Prelude.{ℕ, ◌*◌, ℤ, pos, ◌==◌, nat_le, ◌&&◌, if◌then◌else◌}
use Rattle.std.specs.Prelude.{filter, filter_map, find, flat_map, map, option_map, unwrap_or}
use Rattle.std.specs.Prelude.{List, [], ◌∷◌, slice_index_or}
use Rattle.std.specs.Int.{div_ceil}
use Rattle.whole_laws.specs.Whole.{places, last_or}
use Rattle.model_specs.specs.Product.{Product, Step, Sojourn, Lump, PremiumPattern}

-- payments of a product: the steps of the sum of each transition, the sojourn rates, and the lumps
pub record Plan : Type 0 where
  pub sums : List (List Step)
  pub sojourns : List Sojourn
  pub lumps : List Lump

-- the payments that the product file gives: benefits are positive and premiums negative
abbrev pub payment_plan : Product → Plan
payment_plan product = record {
  sums = map (λ t. t.sum) product.transitions;
  sojourns = product.sojourns;
  lumps = product.lumps;
}

-- a payment of a constant amount from a month on
abbrev pub constant_step : ℕ → ℤ → Step
constant_step from amount = record { from = from; c = amount ∷ pos 0 ∷ pos 0 ∷ pos 0 ∷ [] }

-- 1 a year in the payer states, up to the month until
abbrev pub continuous_pattern : PremiumPattern → Plan
continuous_pattern pattern =
    let steps = constant_step 0 (pos 1) ∷ constant_step pattern.until (pos 0) ∷ [] in
    record { sums = []; sojourns = map (λ i. record { state = i; steps = steps }) pattern.payers; lumps = [] }

-- the dates 0, every, 2 every, .. below until
abbrev pub pattern_dates : PremiumPattern → List ℕ
pattern_dates pattern = map (λ k. k * pattern.every) (places (div_ceil pattern.until pattern.every))

-- 1 in the payer states at each of these dates
abbrev pub dated_pattern : PremiumPattern → Plan
dated_pattern pattern = record {
  sums = [];
  sojourns = [];
  lumps = flat_map (λ d. map (λ i. record { month = d; state = i; amount = pos 1 }) pattern.payers)
      (pattern_dates pattern);
}

-- the premium pattern as a plan of its own
abbrev pub pattern_plan : Product → Plan
pattern_plan product =
    if product.pattern.every == 0 then continuous_pattern product.pattern else dated_pattern product.pattern

-- the step that holds in a month: the last of those that start at or before it, or one that pays nothing
abbrev pub step_at : List Step → ℕ → Step
step_at steps month = last_or (constant_step 0 (pos 0)) (filter (λ s. nat_le s.from month) steps)

-- the step of a state's sojourn rate in a month
abbrev pub sojourn_at : Plan → ℕ → ℕ → Step
sojourn_at plan state month =
    let steps = option_map (λ s. s.steps) (find (λ s. s.state == state) plan.sojourns) in
    step_at (unwrap_or steps []) month

-- the step of a transition's sum in a month
abbrev pub sum_at : Plan → ℕ → ℕ → Step
sum_at plan e month = step_at (slice_index_or plan.sums e []) month

-- the lump of a date in a state, in minor units, and 0 where there is none
abbrev pub lump_at : Plan → ℕ → ℕ → ℤ
lump_at plan date state =
    let lump = find (λ l. (l.month == date) && (l.state == state)) plan.lumps in
    unwrap_or (option_map (λ l. l.amount) lump) (pos 0)

-- the lumps of a date, each with its state, in order of states
abbrev pub lumps_at : ℕ → Plan → ℕ → List (ℕ × ℤ)
lumps_at states plan date = filter_map
    (λ i. option_map (λ l. (i, l.amount)) (find (λ l. (l.month == date) && (l.state == i)) plan.lumps))
    (places states)
