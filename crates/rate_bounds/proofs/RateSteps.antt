-- Sums of rates, exit by exit, and how large they are.
use Rattle.std.proofs.Common.{◌≡◌, ℕ, ◌+◌, ◌*◌, ◌^◌, ◌<◌, ◌≤◌, ℤ, ◌+ℤ◌, List, [], ◌∷◌, ◌++◌, FitsSigned}
use Rattle.std.proofs.Common.{arith, ap, sym, ◌∙◌, get_or, length, take}
use Rattle.std.specs.Prelude.{map, unsigned_abs}
use Rattle.std.specs.Int.{w128}
use Rattle.std.proofs.lemmas.Int.{ints}
use Rattle.std.proofs.lemmas.List.{take_more, map-append}
use Rattle.whole_laws.specs.Whole.{whole_sum}
use Rattle.model_specs.specs.Product.{Product}
use Rattle.model_specs.specs.MonthNumbers.{greatest_rate}
use Rattle.state_graph.specs.declared.exits.Edge.{Edge}
use Rattle.rate_bounds.specs.MonthRates.{rate_sum}

sum-assoc : (a b c : ℤ) → a +ℤ (b +ℤ c) ≡ a +ℤ b +ℤ c
sum-assoc a b c = omega (arith, ints)

whole_sum-push : (xs : List ℤ) (x : ℤ) → whole_sum (xs ++ x ∷ []) ≡ whole_sum xs +ℤ x
whole_sum-push [] x = omega (arith, ints)
whole_sum-push (y ∷ xs) x = ap (λ z. y +ℤ z) (whole_sum-push xs x) ∙ sum-assoc y (whole_sum xs) x

rate_sum-push : (product : Product) (m : ℕ) (es : List ℕ) (e : ℕ)
    → rate_sum product m (es ++ e ∷ []) ≡ rate_sum product m es +ℤ greatest_rate product e m
unfolding rate_sum
rate_sum-push product m es e =
    ap whole_sum (map-append (λ k. greatest_rate product k m) es (e ∷ []))
    ∙ whole_sum-push (map (λ k. greatest_rate product k m) es) (greatest_rate product e m)

-- the sum over the first exits, and with one exit more
pub rate_sum_more : (product : Product) (m : ℕ) (exits : List Edge) (i : ℕ) (d : Edge) (sum rate : ℤ)
    → i < length exits → sum ≡ rate_sum product m (map (λ x. x.transition) (take i exits))
    → rate ≡ greatest_rate product (get_or exits i d).transition m
    → sum +ℤ rate ≡ rate_sum product m (map (λ x. x.transition) (take (i + 1) exits))
rate_sum_more product m exits i d sum rate inside sofar here =
    ap (λ z. z +ℤ rate) sofar ∙ ap (λ z. rate_sum product m (map (λ x. x.transition) (take i exits)) +ℤ z) here
    ∙ sym (rate_sum-push product m (map (λ x. x.transition) (take i exits)) (get_or exits i d).transition)
    ∙ ap (rate_sum product m) (sym (map-append (λ x. x.transition) (take i exits) (get_or exits i d ∷ [])))
    ∙ ap (λ xs. rate_sum product m (map (λ x. x.transition) xs)) (sym (take_more exits i d inside))

-- a sum of some numbers below 2^100, and one more
pub size_more : (i : ℕ) (sum rate : ℤ) → unsigned_abs sum ≤ i * 2 ^ 100 → unsigned_abs rate < 2 ^ 100
    → unsigned_abs (sum +ℤ rate) ≤ (i + 1) * 2 ^ 100
size_more i sum rate h k = grind (arith, ints)

pub small_sum_fits : (i : ℕ) (sum : ℤ) → i ≤ 12 → unsigned_abs sum ≤ i * 2 ^ 100 → FitsSigned w128 sum
small_sum_fits i sum few h = omega (arith, ints)
