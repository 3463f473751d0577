-- The sizes of transition sums.
use Rattle.std.proofs.Common.{◌≡◌, ℕ, zero, suc, ◌<◌, List, [], ◌∷◌, Bool, true, false, arith, refl, ap, sym}
use Rattle.std.proofs.Common.{◌∙◌, length}
use Rattle.std.specs.Prelude.{map, slice_index_or, if◌then◌else◌, ◌==◌}
use Rattle.whole_laws.specs.Whole.{list_of, greatest_natural}
use Rattle.whole_laws.proofs.ListsByPlace.{list_of-agree, map-list_of, list_of_places}
use Rattle.model_specs.specs.Product.{Product, Transition, Step, transition_at, no_transition}
use Rattle.model_specs.specs.Payments.{payment_plan, pattern_plan, continuous_pattern, dated_pattern, step_at}
use Rattle.model_specs.specs.Growth.{load, sum_size, greatest_sum}
use Rattle.ledger_laws.proofs.Loads.{load_zero}
use Rattle.rate_bounds.specs.MonthPay.{sum_load}
use Rattle.rate_bounds.specs.LedgerSteps.{sum_size_of, greatest_sum_size}

all_zero : (n : ℕ) (f : ℕ → ℕ) → ((i : ℕ) → f i ≡ 0) → greatest_natural (list_of n f) ≡ 0
all_zero zero f h = refl
all_zero (suc n) f h = omega (arith, h 0, all_zero n (λ i. f (suc i)) (λ i. h (suc i)))

-- the size of a sum by its loads, also where there is none
size_by_loads : (months : ℕ) (steps : List Step)
    → sum_size months steps ≡ greatest_natural (list_of months (λ m. load (step_at steps m) m))
size_by_loads months [] = sym (all_zero months (λ m. load (step_at [] m) m) (λ m. load_zero 0 m))
size_by_loads months (step ∷ steps) = refl

sum_there : (transitions : List Transition) (e : ℕ) → e < length transitions
    → slice_index_or (map (λ t. t.sum) transitions) e [] ≡ (slice_index_or transitions e no_transition).sum
sum_there [] e inside = absurd (omega arith)
sum_there (t ∷ transitions) zero inside = refl
sum_there (t ∷ transitions) (suc e) inside = sum_there transitions e (omega arith)

size_is : (p : Product) (e : ℕ) → e < length p.transitions
    → sum_size p.months (transition_at p e).sum ≡ sum_size_of p (payment_plan p) e
unfolding sum_size_of sum_load
size_is p e inside =
    size_by_loads p.months (transition_at p e).sum
    ∙ ap (λ steps. greatest_natural (list_of p.months (λ m. load (step_at steps m) m))) (sym (sum_there
    p.transitions e inside))

pub sizes_are : (p : Product) → greatest_sum_size p (payment_plan p) ≡ greatest_sum p (payment_plan p)
unfolding greatest_sum_size
sizes_are p =
    let size : Transition → ℕ = λ t. sum_size p.months t.sum in
    ap greatest_natural
    (sym (list_of-agree (length p.transitions) (λ e. size (transition_at p e)) (sum_size_of p (payment_plan p))
    (size_is p))
    ∙ sym (map-list_of size (length p.transitions) (transition_at p))
    ∙ ap (map size) (list_of_places p.transitions no_transition)
    ∙ sym (map_map (sum_size p.months) (λ t. t.sum) p.transitions))
  where
    map_map : (f : List Step → ℕ) (g : Transition → List Step) (ts : List Transition)
        → map f (map g ts) ≡ map (λ t. f (g t)) ts
    map_map f g [] = refl
    map_map f g (t ∷ ts) = ap (λ xs. f (g t) ∷ xs) (map_map f g ts)

pub pattern_has_no_sums : (p : Product) → 0 ≡ greatest_sum p (pattern_plan p)
pattern_has_no_sums p = by_kind (p.pattern.every == 0)
  where
    by_kind : (b : Bool)
        → 0 ≡ greatest_sum p (if b then continuous_pattern p.pattern else dated_pattern p.pattern)
    by_kind true = refl
    by_kind false = refl
