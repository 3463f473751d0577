-- What a test that passes or fails says, and what makes it pass.
use Rattle.std.specs.Prelude.{◌≡◌, ℕ, true, nat_eq, ◌≢◌, ◌==◌, ◌-◌, not, nat_le, ℤ, ◌≤ℤ◌, int_le, Bool, ◌&&◌}
use Rattle.std.specs.Prelude.{refl, zero, suc}
use Rattle.std.proofs.Common.{arith, false, sym, ◌∙◌, inl, inr, ◌≤◌, ◌<◌, ap}
use Rattle.std.proofs.lemmas.Bool.{false≢true, eq-eqb, cases_lt}
use Rattle.std.proofs.lemmas.Bool.Decides.{eqb_tells, nat_tests}
use Rattle.std.proofs.lemmas.Int.{ints}
use Rattle.whole_laws.specs.Whole.{holds_below}

-- a number is the same as itself
pub same_is : (n : ℕ) → nat_eq n n ≡ true
same_is n = grind arith

-- numbers that differ fail the test
pub other_is_not : (n c : ℕ) → (n ≡ c → ⊥) → nat_eq n c ≡ false
other_is_not n c h = grind arith

-- numbers that pass the test are one
pub same_numbers : (a b : ℕ) → (a == b) ≡ true → a ≡ b
same_numbers a b h = elim (eqb_tells a b) [
  | inl same ↦ same.1
  | inr other ↦ absurd (false≢true (sym other.0 ∙ h))
]

-- numbers that fail it differ
pub other_numbers : (a b : ℕ) → not (a == b) ≡ true → a ≢ b
other_numbers a b h e = false≢true (rw (eq-eqb a b e) at h)

-- the order of natural numbers as a test
pub within_is : (a b : ℕ) → a ≤ b → nat_le a b ≡ true
within_is a b h = grind (arith, nat_tests)

pub above_is_not : (a b : ℕ) → b < a → nat_le a b ≡ false
above_is_not a b h = grind (arith, nat_tests)

-- a test of the order that passes
pub le_from_test : (a b : ℤ) → int_le a b ≡ true → a ≤ℤ b
le_from_test a b h = grind (arith, ints)

-- both parts of a test that passes
pub both_pass : (a b : Bool) → (a && b) ≡ true → (a ≡ true) × (b ≡ true)
both_pass true true h = (refl, refl)
both_pass true false h = (refl, h)
both_pass false b h = absurd (false≢true h)

-- and a test whose parts both pass
pub passes_both : (a b : Bool) → a ≡ true → b ≡ true → (a && b) ≡ true
passes_both a b h k = rw (h, k)

-- a test that holds at each number below n holds below n
pub all_below_hold : (n : ℕ) (test : ℕ → Bool) → ((k : ℕ) → k < n → test k ≡ true) → holds_below n test ≡ true
all_below_hold zero test h = refl
all_below_hold (suc n) test h = rw (all_below_hold n test (λ k b. h k (omega arith)), h n (omega arith)) refl

-- and the other way round
pub holds_at_each : (n : ℕ) (test : ℕ → Bool) → holds_below n test ≡ true → (k : ℕ) → k < n → test k ≡ true
holds_at_each zero test e k b = absurd (omega arith)
holds_at_each (suc n) test e k b =
    by_both (holds_below n test) (test n) refl refl (λ h c. holds_at_each n test h k c) e
  where
    by_both : (x y : Bool) → x ≡ holds_below n test → y ≡ test n → (holds_below n test ≡ true → k < n → test k ≡ true)
        → x && y ≡ true → test k ≡ true
    by_both true true ex ey g e = elim (cases_lt k n) [
      | inl c ↦ g (sym ex) c
      | inr c ↦ (let q : k ≡ n = omega arith in ap test q) ∙ sym ey
    ]
    by_both true false ex ey g e = absurd (let z : false ≡ true = e in cc)
    by_both false y ex ey g e = absurd (let z : false ≡ true = e in cc)
