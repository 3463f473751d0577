-- The months of steps, by their places.
use Rattle.std.proofs.Common.{◌≡◌, ℕ, zero, suc, ◌<◌, ◌≤◌, List, [], ◌∷◌, length, get_or, arith, refl, sym, subst}
use Rattle.std.specs.Prelude.{All, slice_index, slice_index_or}
use Rattle.std.proofs.lemmas.List.{get_or-map, length-map}
use Rattle.model_specs.specs.Product.{Step}
use Rattle.payment_plan.specs.declared.step.StepAmount.{StepAmount}
use Rattle.payment_plan.specs.Records.{record_of, starts_of, steps_of}

-- where a step starts
pub start_at : (steps : List StepAmount) (k : ℕ) (d : StepAmount) → k < length steps
    → slice_index (starts_of steps) k ≡ (get_or steps k d).from
start_at [] k d inside = absurd (omega (arith, inside))
start_at (s ∷ steps) zero d inside = refl
start_at (s ∷ steps) (suc k) d inside = start_at steps k d (omega (arith, inside))

pub start_or : (steps : List StepAmount) (k months : ℕ) (d : StepAmount) → k < length steps
    → slice_index_or (starts_of steps) k months ≡ (get_or steps k d).from
start_or [] k months d inside = absurd (omega (arith, inside))
start_or (s ∷ steps) zero months d inside = refl
start_or (s ∷ steps) (suc k) months d inside = start_or steps k months d (omega (arith, inside))

-- behind the last step comes the term
pub term_after : (steps : List StepAmount) (k months : ℕ) → length steps ≤ k
    → slice_index_or (starts_of steps) k months ≡ months
term_after [] k months past = refl
term_after (s ∷ steps) zero months past = absurd (omega (arith, past))
term_after (s ∷ steps) (suc k) months past = term_after steps k months (omega (arith, past))

-- each step starts before the term where all do
pub starts_within : (steps : List StepAmount) (k months : ℕ) (d : StepAmount)
    → All (λ (s : Step). s.from < months) (steps_of steps) → k < length steps → (get_or steps k d).from < months
starts_within steps k months d all inside =
    subst (λ (s : Step). s.from < months) (get_or-map record_of steps k d (record_of d) inside)
    (all k (record_of d) (subst (λ n. k < n) (sym (length-map steps record_of)) inside))
