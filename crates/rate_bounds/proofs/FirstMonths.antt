-- The first month in which a rule is broken.
use Rattle.std.specs.Prelude.{◌≡◌, ℕ, zero, suc, ◌<◌, Bool, true, false, not, find, Option, Some, None, option_map}
use Rattle.std.specs.Prelude.{[], ◌∷◌, refl, cond}
use Rattle.std.proofs.Common.{ap, sym, ◌∙◌, arith}
use Rattle.whole_laws.specs.Whole.{list_of}
use Rattle.whole_laws.proofs.Found.{none_found}
use Rattle.model_specs.specs.Product.{Product}
use Rattle.model_specs.specs.ValuationRules.{broken_in_months, first_given, obeys_rule_15, obeys_rule_16}
use Rattle.model_specs.specs.ValuationRules.{obeys_rule_17}
use Rattle.rate_bounds.specs.Breaks.{first_breaking, broken_by_month}

find_first : (P : ℕ → Bool) (n m : ℕ) (f : ℕ → ℕ) → m < n → P (f m) ≡ true → ((k : ℕ) → k < m → P (f k) ≡ false)
    → find P (list_of n f) ≡ Some (f m)
find_first P zero m f inside here before = absurd (omega arith)
find_first P (suc n) zero f inside here before =
    ap (λ b. cond b (Some (f 0)) (find P (list_of n (λ i. f (suc i))))) here
find_first P (suc n) (suc m) f inside here before =
    ap (λ b. cond b (Some (f 0)) (find P (list_of n (λ i. f (suc i))))) (before 0 (omega arith))
    ∙ find_first P n m (λ i. f (suc i)) (omega arith) here (λ k b. before (suc k) (omega arith))

pub first_is_found : (obeys : ℕ → Bool) (months m : ℕ) (answer : Bool) → m < months → answer ≡ obeys m → answer ≡ false
    → ((k : ℕ) → k < m → obeys k ≡ true) → Some m ≡ first_breaking obeys months
unfolding first_breaking
first_is_found obeys months m answer inside is breaks before =
    sym (find_first (λ k. not (obeys k)) months m (λ k. k) inside (ap not (sym is ∙ breaks))
    (λ k b. ap not (before k b)))

pub none_is_found : (obeys : ℕ → Bool) (months end : ℕ) → months ≡ end → ((k : ℕ) → k < end → obeys k ≡ true)
    → None ≡ first_breaking obeys months
unfolding first_breaking
none_is_found obeys months end is all =
    sym (none_found (λ k. not (obeys k)) months (λ k. k) (λ k b. ap not (all k (omega arith))))

not_first : (obeys : ℕ → Bool) (first : ℕ) (more : Option ℕ) (b : Bool) → obeys first ≡ b
    → cond (not (obeys first)) (Some first) more ≡ None → (obeys first ≡ true) × (more ≡ None)
not_first obeys first more true is none = (is, sym (ap (λ b. cond (not b) (Some first) more) is) ∙ none)
not_first obeys first more false is none =
    let found = sym (ap (λ b. cond (not b) (Some first) more) is) ∙ none in absurd cc

not_breaking : (obeys : ℕ → Bool) (n : ℕ) (f : ℕ → ℕ) → find (λ m. not (obeys m)) (list_of n f) ≡ None
    → (k : ℕ) → k < n → obeys (f k) ≡ true
not_breaking obeys zero f none k inside = absurd (omega arith)
not_breaking obeys (suc n) f none zero inside =
    (not_first obeys (f 0) (find (λ m. not (obeys m)) (list_of n (λ i. f (suc i)))) (obeys (f 0)) refl none).0
not_breaking obeys (suc n) f none (suc k) inside =
    not_breaking obeys n (λ i. f (suc i))
    (not_first obeys (f 0) (find (λ m. not (obeys m)) (list_of n (λ i. f (suc i)))) (obeys (f 0)) refl none).1 k
    (omega arith)

-- a rule that no month breaks holds in all
pub none_breaks : (obeys : ℕ → Bool) (months : ℕ) → None ≡ first_breaking obeys months
    → (m : ℕ) → m < months → obeys m ≡ true
unfolding first_breaking
none_breaks obeys months none m inside = not_breaking obeys months (λ k. k) (sym none) m inside

-- the first of three rules
pub breaks_15 : (p : Product) (m : ℕ) → Some m ≡ first_breaking (obeys_rule_15 p) p.months
    → Some (record { rule = 15; place = m }) ≡ broken_by_month p
unfolding first_breaking broken_by_month
breaks_15 p m found =
    ap (λ o. first_given (option_map (λ m. record { rule = 15; place = m }) o
    ∷ broken_in_months p 16 (obeys_rule_16 p) ∷ broken_in_months p 17 (obeys_rule_17 p) ∷ [])) found

pub breaks_16 : (p : Product) (m : ℕ) → None ≡ first_breaking (obeys_rule_15 p) p.months
    → Some m ≡ first_breaking (obeys_rule_16 p) p.months → Some (record { rule = 16; place = m }) ≡ broken_by_month p
unfolding first_breaking broken_by_month
breaks_16 p m none found =
    ap (λ o. first_given (option_map (λ m. record { rule = 16; place = m }) o
    ∷ broken_in_months p 17 (obeys_rule_17 p) ∷ [])) found
    ∙ ap (λ o. first_given (option_map (λ m. record { rule = 15; place = m }) o
    ∷ broken_in_months p 16 (obeys_rule_16 p) ∷ broken_in_months p 17 (obeys_rule_17 p) ∷ [])) none

-- and the third of them, if it is broken
pub breaks_17 : (p : Product) (o : Option ℕ) → None ≡ first_breaking (obeys_rule_15 p) p.months
    → None ≡ first_breaking (obeys_rule_16 p) p.months → o ≡ first_breaking (obeys_rule_17 p) p.months
    → first_given (option_map (λ m. record { rule = 17; place = m }) o ∷ []) ≡ broken_by_month p
unfolding first_breaking broken_by_month
breaks_17 p o none also found =
    ap (λ o. first_given (option_map (λ m. record { rule = 17; place = m }) o ∷ [])) found
    ∙ ap (λ o. first_given (option_map (λ m. record { rule = 16; place = m }) o
    ∷ broken_in_months p 17 (obeys_rule_17 p) ∷ [])) also
    ∙ ap (λ o. first_given (option_map (λ m. record { rule = 15; place = m }) o
    ∷ broken_in_months p 16 (obeys_rule_16 p) ∷ broken_in_months p 17 (obeys_rule_17 p) ∷ [])) none
