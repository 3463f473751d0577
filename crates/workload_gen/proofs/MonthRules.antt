-- Rules 15 to 17 of a generated product, in each month of its term.
use Rattle.std.proofs.Common.{◌≡◌, ℕ, ◌-◌, ◌*◌, ◌<◌, List, [], ◌∷◌, arith, refl, ap, inl, inr}
use Rattle.std.specs.Prelude.{Bool, ℤ, pos, neg_ℤ, ◌*ℤ◌, ◌≤ℤ◌, int_le, true, ◌&&◌, ◌⊎◌, All}
use Rattle.std.specs.List.{list_all}
use Rattle.std.proofs.lemmas.Bool.{cases_lt}
use Rattle.std.proofs.lemmas.Int.{ints}
use Rattle.std.proofs.lemmas.List.Elements.{All-nil, All-cons, All-head, All-tail, All-weaker}
use Rattle.whole_laws.specs.Whole.{whole_sum, greatest_whole}
use Rattle.model_specs.specs.Curve.{Piece}
use Rattle.model_specs.specs.MonthNumbers.{bernstein_numerators, curve_numerators, rho}
use Rattle.model_specs.specs.ValuationRules.{obeys_rule_15, obeys_rule_16, obeys_rule_17}
use Rattle.ledger_laws.specs.MonthLaws.{ObeysAllMonths}
use Rattle.ledger_laws.proofs.Loads.{constant_numerators}
use Rattle.whole_laws.proofs.Extremes.{greatest_whole_most}
use Rattle.whole_laws.proofs.Tests.{within_is, above_is_not, passes_both}
use Rattle.workload_gen.specs.declared.transition.Transition.{Transition}
use Rattle.workload_gen.specs.declared.transition.Transition.TheVariants as variant
use Rattle.workload_gen.specs.Draws.{state_after}
use Rattle.workload_gen.specs.Tree.{state_before}
use Rattle.workload_gen.specs.Laws.{generated_product}
use Rattle.workload_gen.proofs.Numerators.{constant, sixfold, IsUpTo}
use Rattle.workload_gen.proofs.Rates.{quarter, rate_pieces, rates_small}

-- the force of interest of a generated product: two constants
abbrev interest_pieces : List Piece
interest_pieces = record { from = 0; c = constant 30000000 } ∷ record { from = 240; c = constant 25000000 } ∷ []

interest_numerators : (month : ℕ) → (curve_numerators interest_pieces month ≡ sixfold (pos (2488320 * 30000000)))
    ⊎ (curve_numerators interest_pieces month ≡ sixfold (pos (2488320 * 25000000)))
interest_numerators month =
    let AreNumerators : Piece → Type 0 = λ piece.
    (bernstein_numerators piece.c (month - piece.from) ≡ sixfold (pos (2488320 * 30000000)))
    ⊎ (bernstein_numerators piece.c (month - piece.from) ≡ sixfold (pos (2488320 * 25000000))) in
    elim (cases_lt month 240) [
      | inl early ↦ rw (within_is 0 month (omega arith), above_is_not 240 month early)
          (inl (constant_numerators 30000000 (month - 0)))
      | inr late ↦ rw (within_is 0 month (omega arith), within_is 240 month late)
          (inr (constant_numerators 25000000 (month - 240)))
    ]

-- rule 15 as a test of a month's numerators
abbrev interest_test : List ℤ → Bool
interest_test = list_all (λ b. int_le (neg_ℤ (pos (2488320 * 1000000000))) (pos 50 *ℤ b)
    && int_le (pos 4 *ℤ b) (pos (2488320 * 1000000000)))

obeys_15 : (seed month : ℕ) → obeys_rule_15 (generated_product seed) month ≡ true
obeys_15 seed month = elim (interest_numerators month) [
  | inl first ↦ ap interest_test first
  | inr second ↦ ap interest_test second
]

-- the pieces of a transition of the product
abbrev pieces_of : ℕ → Transition → List Piece
pieces_of seed t = rate_pieces t (state_before (state_after seed 1) t)

-- rule 16
natural_list : (numbers : List ℤ) → All (IsUpTo quarter) numbers → list_all (int_le (pos 0)) numbers ≡ true
natural_list [] all = refl
natural_list (z ∷ numbers) all = passes_both (int_le (pos 0) z) _
    (natural z (All-head (IsUpTo quarter) z numbers all).0)
    (natural_list numbers (All-tail (IsUpTo quarter) z numbers all))
  where
    natural : (z : ℤ) → pos 0 ≤ℤ z → int_le (pos 0) z ≡ true
    natural z h = grind (arith, ints)

rates_natural : (seed month : ℕ) (t : Transition) → month < 780
    → list_all (int_le (pos 0)) (curve_numerators (pieces_of seed t) month) ≡ true
rates_natural seed month t below = natural_list (curve_numerators (pieces_of seed t) month)
    (rates_small t (state_before (state_after seed 1) t) month below)

obeys_16 : (seed month : ℕ) → month < 780 → obeys_rule_16 (generated_product seed) month ≡ true
obeys_16 seed month below =
    passes_both _ _ (rates_natural seed month variant.Disability below)
    (passes_both _ _ (rates_natural seed month variant.Recovery below)
    (passes_both _ _ (rates_natural seed month variant.DeathOfActive below)
    (passes_both _ _ (rates_natural seed month variant.DeathOfDisabled below) refl)))

-- rule 17: the rates out of a state
abbrev greatest : ℕ → ℕ → Transition → ℤ
greatest seed month t = greatest_whole (curve_numerators (pieces_of seed t) month)

greatest_small : (seed month : ℕ) (t : Transition) → month < 780 → greatest seed month t ≤ℤ pos quarter
greatest_small seed month t below = greatest_whole_most (curve_numerators (pieces_of seed t) month) (pos quarter)
    (omega (arith, ints))
    (All-weaker (IsUpTo quarter) (λ z. z ≤ℤ pos quarter) (λ z h. h.1) (curve_numerators (pieces_of seed t) month)
    (rates_small t (state_before (state_after seed 1) t) month below))

two_exits : (x y : ℤ) (most : ℕ) → x ≤ℤ pos most → y ≤ℤ pos most → whole_sum (x ∷ y ∷ []) ≤ℤ pos (2 * most)
two_exits x y most hx hy = omega (arith, ints)

exits_most : (a b c d : ℤ) (most : ℕ) → a ≤ℤ pos most → b ≤ℤ pos most → c ≤ℤ pos most → d ≤ℤ pos most
    → greatest_whole (whole_sum (a ∷ c ∷ []) ∷ whole_sum (b ∷ d ∷ []) ∷ whole_sum [] ∷ []) ≤ℤ pos (2 * most)
exits_most a b c d most ha hb hc hd =
    greatest_whole_most (whole_sum (a ∷ c ∷ []) ∷ whole_sum (b ∷ d ∷ []) ∷ whole_sum [] ∷ []) (pos (2 * most))
    (omega (arith, ints))
    (All-cons (λ z. z ≤ℤ pos (2 * most)) (whole_sum (a ∷ c ∷ [])) (whole_sum (b ∷ d ∷ []) ∷ whole_sum [] ∷ [])
    (two_exits a c most ha hc)
    (All-cons (λ z. z ≤ℤ pos (2 * most)) (whole_sum (b ∷ d ∷ [])) (whole_sum [] ∷ []) (two_exits b d most hb hd)
    (All-cons (λ z. z ≤ℤ pos (2 * most)) (whole_sum []) [] (omega (arith, ints))
    (All-nil (λ z. z ≤ℤ pos (2 * most))))))

rho_small : (seed month : ℕ) → month < 780 → rho (generated_product seed) month ≤ℤ pos (2 * quarter)
rho_small seed month below =
    exits_most (greatest seed month variant.Disability) (greatest seed month variant.Recovery)
    (greatest seed month variant.DeathOfActive) (greatest seed month variant.DeathOfDisabled) quarter
    (greatest_small seed month variant.Disability below) (greatest_small seed month variant.Recovery below)
    (greatest_small seed month variant.DeathOfActive below) (greatest_small seed month variant.DeathOfDisabled below)

obeys_17 : (seed month : ℕ) → month < 780 → obeys_rule_17 (generated_product seed) month ≡ true
obeys_17 seed month below = enough (rho (generated_product seed) month) (rho_small seed month below)
  where
    enough : (z : ℤ) → z ≤ℤ pos (2 * quarter) → int_le z (pos (2 * (2488320 * 1000000000))) ≡ true
    enough z h = grind (arith, ints)

pub obeys_months : (seed : ℕ) → ObeysAllMonths (generated_product seed)
obeys_months seed month below = record {
  interest = obeys_15 seed month;
  rates = obeys_16 seed month below;
  exits = obeys_17 seed month below;
}
