-- Different numbers below a number are at most so many.
use Rattle.std.proofs.Common.{◌≡◌, ◌≢◌, ℕ, zero, suc, ◌+◌, ◌<◌, ◌≤◌, Bool, true, false, cond, eqb, ltb, arith, refl}
use Rattle.std.proofs.Common.{inl, inr}
use Rattle.std.proofs.lemmas.Bool.{cases_Bool, false_from_ne_true}
use Rattle.std.proofs.lemmas.Bool.Decides.{nat_tests}

-- how many of the first k numbers pass a test
abbrev count : (ℕ → Bool) → ℕ → ℕ
count p zero = 0
count p (suc k) = cond (p k) 1 0 + count p k

none_counted : (p : ℕ → Bool) (k : ℕ) → ((i : ℕ) → i < k → p i ≡ false) → count p k ≡ 0
none_counted p zero h = refl
none_counted p (suc k) h = rw (h k (omega arith)) (omega (arith, none_counted p k (λ i below. h i (omega arith))))

all_counted : (p : ℕ → Bool) (k : ℕ) → ((i : ℕ) → i < k → p i ≡ true) → count p k ≡ k
all_counted p zero h = refl
all_counted p (suc k) h = rw (h k (omega arith)) (omega (arith, all_counted p k (λ i below. h i (omega arith))))

one_counted : (p : ℕ → Bool) (k : ℕ) → ((i j : ℕ) → i < j → j < k → p i ≡ true → p j ≡ true → ⊥)
    → count p k ≤ 1
one_counted p zero h = omega arith
one_counted p (suc k) h =
    elim (cases_Bool (p k)) [
      | inl passes ↦
          rw passes
          (omega (
            arith,
            none_counted p k (λ i below. false_from_ne_true (p i) (λ t. h i k below (omega arith) t passes)),
          ))
      | inr fails ↦
          rw fails
          (omega (arith, one_counted p k (λ i j first second. h i j first (omega arith))))
    ]

one_more : (a n : ℕ) → cond (ltb a (suc n)) 1 0 ≤ cond (ltb a n) 1 0 + cond (eqb a n) 1 0
one_more a n = grind (arith, nat_tests)

one_more_counted : (f : ℕ → ℕ) (n k : ℕ)
    → count (λ i. ltb (f i) (suc n)) k ≤ count (λ i. ltb (f i) n) k + count (λ i. eqb (f i) n) k
one_more_counted f n zero = omega arith
one_more_counted f n (suc k) = omega (arith, one_more (f k) n, one_more_counted f n k)

not_below_zero : (a : ℕ) → ltb a 0 ≡ false
not_below_zero a = grind (arith, nat_tests)

below_counted : (f : ℕ → ℕ) (n k : ℕ) → ((i j : ℕ) → i < j → j < k → f i ≢ f j)
    → count (λ i. ltb (f i) n) k ≤ n
below_counted f zero k differ =
    omega (arith, none_counted (λ i. ltb (f i) 0) k (λ i below. not_below_zero (f i)))
below_counted f (suc n) k differ =
    omega (
      arith,
      one_more_counted f n k,
      below_counted f n k differ,
      one_counted (λ i. eqb (f i) n) k (λ i j first second p q. same (f i) (f j) n (differ i j first second) p q),
    )
  where
    same : (a b n : ℕ) → a ≢ b → eqb a n ≡ true → eqb b n ≡ true → ⊥
    same a b n other p q = grind (arith, nat_tests)

-- k different numbers below n
pub at_most : (f : ℕ → ℕ) (n k : ℕ) → ((i : ℕ) → i < k → f i < n) → ((i j : ℕ) → i < j → j < k → f i ≢ f j)
    → k ≤ n
at_most f n k below differ =
    omega (
      arith,
      below_counted f n k differ,
      all_counted (λ i. ltb (f i) n) k (λ i inside. passes (f i) n (below i inside)),
    )
  where
    passes : (a n : ℕ) → a < n → ltb a n ≡ true
    passes a n h = grind (arith, nat_tests)
