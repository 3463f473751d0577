-- The payments of the tests obey rules 10 to 14.
use Rattle.std.proofs.Common.{◌≡◌, ℕ, zero, suc, ◌*◌, ◌^◌, ◌<◌, ◌≤◌, ℤ, pos, negsuc, List, [], ◌∷◌, length}
use Rattle.std.proofs.Common.{Bool, true, arith, refl, ap, sym, ◌∙◌, lit≤, lit<}
use Rattle.std.specs.Prelude.{All, nat_le, unsigned_abs, slice_index, slice_index_or}
use Rattle.std.specs.List.{list_all}
use Rattle.std.proofs.lemmas.Bool.Decides.{nat_tests}
use Rattle.std.proofs.lemmas.List.Elements.{All-cons}
use Rattle.std.proofs.lemmas.List.Sums.{AllPass-from_list_all}
use Rattle.whole_laws.specs.Whole.{places}
use Rattle.whole_laws.proofs.ListsByPlace.{at-list_of, length-list_of}
use Rattle.whole_laws.proofs.Members.{All-one, All-two}
use Rattle.model_specs.specs.Product.{Step, Lump}
use Rattle.model_specs.specs.MonthNumbers.{coefficient_at, bernstein_numerators}
use Rattle.model_specs.specs.RecordRules.{AreDistinct, IsBoundedStep, IsBoundedPayment, IsPayment}
use Rattle.payment_plan.specs.Payments.{Payments, IsAllowed}
use Rattle.payment_plan.proofs.tests.sample.Goals as goal

-- tests of rule 11
abbrev coefficients_pass : List ℤ → ℕ → Bool
coefficients_pass c s =
    list_all (λ i. nat_le (unsigned_abs (coefficient_at c i) * s ^ i) (10 ^ 22)) (places (length c))

abbrev amounts_pass : List ℤ → ℕ → Bool
amounts_pass c s =
    list_all (λ k. list_all (λ b. nat_le (unsigned_abs b) (10 ^ 12 * 2488320)) (bernstein_numerators c k)) (places s)

at_most : (a b : ℕ) → nat_le a b ≡ true → a ≤ b
at_most a b h = grind (arith, nat_tests)

passes_below : (test : ℕ → Bool) (n : ℕ) → list_all test (places n) ≡ true → (i : ℕ) → i < n → test i ≡ true
passes_below test n h i below =
    ap test (sym (at-list_of n (λ k. k) i 0 below))
    ∙ AllPass-from_list_all test (places n) h i 0 (omega (arith, length-list_of n (λ k. k)))

amounts_within : (xs : List ℤ) → list_all (λ b. nat_le (unsigned_abs b) (10 ^ 12 * 2488320)) xs ≡ true
    → All (λ b. unsigned_abs b ≤ 10 ^ 12 * 2488320) xs
amounts_within xs h k d below =
    at_most (unsigned_abs (slice_index_or xs k d)) (10 ^ 12 * 2488320)
    (AllPass-from_list_all (λ b. nat_le (unsigned_abs b) (10 ^ 12 * 2488320)) xs h k d below)

bounded : (c : List ℤ) (s : ℕ) → coefficients_pass c s ≡ true → amounts_pass c s ≡ true → IsBoundedStep c s
bounded c s h k =
    record {
      coefficients = λ i below. at_most (unsigned_abs (coefficient_at c i) * s ^ i) (10 ^ 22)
          (passes_below (λ i. nat_le (unsigned_abs (coefficient_at c i) * s ^ i) (10 ^ 22)) (length c) h i below);
      amounts = λ m below. amounts_within (bernstein_numerators c m)
          (passes_below (λ n. list_all (λ b. nat_le (unsigned_abs b) (10 ^ 12 * 2488320)) (bernstein_numerators c n))
          s k m below);
    }

three : {A : Type 0} (P : A → Type 0) (x y z : A) → P x → P y → P z → All P (x ∷ y ∷ z ∷ [])
three P x y z h k l = All-cons P x (y ∷ z ∷ []) h (All-two P y z k l)

abbrev sum : List Step
sum =
    record { from = 0; c = pos 0 ∷ pos 0 ∷ pos 0 ∷ pos 1728 ∷ [] } ∷
    record { from = 3; c = pos 1 ∷ pos 2 ∷ pos 3 ∷ pos 4 ∷ [] } ∷ []

abbrev rate : List Step
rate =
    record { from = 0; c = pos 0 ∷ pos 768 ∷ pos 0 ∷ pos 0 ∷ [] } ∷
    record { from = 12; c = pos 100 ∷ negsuc 1199 ∷ pos 0 ∷ pos 0 ∷ [] } ∷ []

abbrev lumps : List Lump
lumps =
    record { month = 24; state = 2; amount = pos 7 } ∷ record { month = 12; state = 1; amount = negsuc 4 } ∷
    record { month = 12; state = 0; amount = pos 3 } ∷ []

abbrev pairs : List (ℕ × ℕ)
pairs = (24, 2) ∷ (12, 1) ∷ (12, 0) ∷ []

abbrev payments : ℕ → Payments
payments every = record {
  states = 3;
  months = 24;
  sums = [] ∷ sum ∷ [];
  sojourns = record { state = 1; steps = rate } ∷ [];
  lumps = lumps;
  pattern = record { payers = 2 ∷ 0 ∷ []; until = 10; every = every };
}

two_steps : (first second : Step) → first.from ≡ 0 → 0 < second.from → second.from < 24
    → length first.c ≡ 4 → length second.c ≡ 4 → IsPayment 24 (first ∷ second ∷ [])
two_steps first second start later within four-1 four-2 =
    record {
      four = All-two (λ step. length step.c ≡ 4) first second four-1 four-2;
      starts = record {
        some = lit≤ tt;
        first = start;
        rising = rising;
        below = below;
      };
    }
  where
    rising : (k : ℕ) → suc k < 2
        → slice_index (first.from ∷ second.from ∷ []) k < slice_index (first.from ∷ second.from ∷ []) (suc k)
    rising zero b = omega arith
    rising (suc k) b = absurd (omega arith)

    below : (k : ℕ) → k < 2 → slice_index (first.from ∷ second.from ∷ []) k < 24
    below zero b = omega arith
    below (suc zero) b = omega arith
    below (suc (suc k)) b = absurd (omega arith)

sum_bounded : IsBoundedPayment 24 sum
sum_bounded zero b = bounded (pos 0 ∷ pos 0 ∷ pos 0 ∷ pos 1728 ∷ []) 3 refl refl
sum_bounded (suc zero) b = bounded (pos 1 ∷ pos 2 ∷ pos 3 ∷ pos 4 ∷ []) 21 refl refl
sum_bounded (suc (suc k)) b = absurd (omega arith)

rate_bounded : IsBoundedPayment 24 rate
rate_bounded zero b = bounded (pos 0 ∷ pos 768 ∷ pos 0 ∷ pos 0 ∷ []) 12 refl refl
rate_bounded (suc zero) b = bounded (pos 100 ∷ negsuc 1199 ∷ pos 0 ∷ pos 0 ∷ []) 12 refl refl
rate_bounded (suc (suc k)) b = absurd (omega arith)

allowed : (every : ℕ) → every ≤ 1200 → IsAllowed (payments every)
allowed every within =
    record {
      some_state = lit≤ tt;
      most_states = lit≤ tt;
      some_month = lit≤ tt;
      most_months = lit≤ tt;
      payments = record {
        states = All-one (λ s. s.state < 3) _ (lit< tt);
        distinct = λ i j low inside. absurd (omega arith);
        sojourns = All-one (λ s. IsPayment 24 s.steps) _ (two_steps _ _ refl (lit< tt) (lit< tt) refl refl);
        sums = All-two (λ steps. 1 ≤ length steps → IsPayment 24 steps) [] sum (λ some. absurd (omega arith))
            (λ some. two_steps _ _ refl (lit< tt) (lit< tt) refl refl);
        bounded_sojourns = All-one (λ s. IsBoundedPayment 24 s.steps) _ rate_bounded;
        bounded_sums = All-two (IsBoundedPayment 24) [] sum (λ k below. absurd (omega arith)) sum_bounded;
      };
      lumps = record {
        dates = three (λ l. l.month ≤ 24) _ _ _ (lit≤ tt) (lit≤ tt) (lit≤ tt);
        states = three (λ l. l.state < 3) _ _ _ (lit< tt) (lit< tt) (lit< tt);
        amounts = three (λ l. unsigned_abs l.amount ≤ 10 ^ 12) _ _ _ (lit≤ tt) (lit≤ tt) (lit≤ tt);
        distinct = lumps_differ;
      };
      pattern = record {
        payers = All-two (λ i. i < 3) 2 0 (lit< tt) (lit< tt);
        distinct = payers_differ;
        until_above_0 = λ some. lit≤ tt;
        until_within = lit≤ tt;
        every = within;
        never_until = λ none. cc;
        never_every = λ none. cc;
      };
    }
  where
    lumps_differ : AreDistinct {A = ℕ × ℕ} (0, 0) pairs
    lumps_differ i zero low inside same = absurd (omega arith)
    lumps_differ zero (suc zero) low inside same = absurd (omega (arith, ap (λ (p : ℕ × ℕ). p.0) same))
    lumps_differ zero (suc (suc zero)) low inside same = absurd (omega (arith, ap (λ (p : ℕ × ℕ). p.0) same))
    lumps_differ (suc zero) (suc (suc zero)) low inside same = absurd (omega (arith, ap (λ (p : ℕ × ℕ). p.1) same))
    lumps_differ (suc zero) (suc zero) low inside same = absurd (omega arith)
    lumps_differ (suc (suc i)) (suc zero) low inside same = absurd (omega arith)
    lumps_differ (suc (suc i)) (suc (suc zero)) low inside same = absurd (omega arith)
    lumps_differ i (suc (suc (suc j))) low inside same = absurd (omega arith)

    payers_differ : AreDistinct {A = ℕ} 0 (2 ∷ 0 ∷ [])
    payers_differ i zero low inside same = absurd (omega arith)
    payers_differ zero (suc zero) low inside same = absurd (omega (arith, same))
    payers_differ (suc i) (suc zero) low inside same = absurd (omega arith)
    payers_differ i (suc (suc j)) low inside same = absurd (omega arith)

pub new-requires-2 : goal.new-requires-2
new-requires-2 c =
    rw (
      c.in_ok-sums.ensures.items,
      c.new.ensures.items,
      c.in_ok-sum.ensures.items,
      c.in_ok-sojourns.ensures.items,
      c.in_ok-rate.ensures.items,
      c.in_ok-lumps.ensures.items,
      c.in_ok-payers.ensures.items,
    ) (allowed c.args.every c.requires)
