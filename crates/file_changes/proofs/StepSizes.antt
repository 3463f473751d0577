-- The test of rule 11, which decides it.
use Rattle.std.proofs.Common.{◌≡◌, ℕ, ◌*◌, ◌^◌, ◌<◌, length, sym, ◌∙◌}
use Rattle.std.specs.Prelude.{◌↔◌, true, false, nat_le, unsigned_abs, slice_index_or, List, pos}
use Rattle.std.specs.List.{list_all}
use Rattle.std.proofs.lemmas.Bool.{le-leb, leb-true, false≢true}
use Rattle.std.proofs.lemmas.List.Sums.{list_all-from_AllPass}
use Rattle.named_numbers.specs.Numbers.{most_amount, most_coefficient, bernstein_unit}
use Rattle.whole_laws.specs.Whole.{places}
use Rattle.whole_laws.proofs.ListsByPlace.{holds_at_places}
use Rattle.whole_laws.proofs.Members.{each_passes}
use Rattle.whole_laws.proofs.Tests.{both_pass, passes_both}
use Rattle.model_specs.specs.MonthNumbers.{coefficient_at, bernstein_numerators}
use Rattle.model_specs.specs.Payments.{constant_step}
use Rattle.model_specs.specs.Product.{Step}
use Rattle.model_specs.specs.RecordRules.{IsBoundedStep, IsBoundedPayment, is_bounded, months_of, step_starts}
use Rattle.model_laws.proofs.BoundedCoefficients.{bounded_from_test}
use Rattle.product_file.specs.PaymentRules.{are_small, is_bounded_step}
use Rattle.file_checks.proofs.SizeLemmas.{all_of}

-- a step passes the test exactly where it obeys the rule
pub test_decides : (step : Step) (s : ℕ) → (is_bounded_step step s ≡ true) ↔ IsBoundedStep step.c s
test_decides step s = (bounded, passes)
  where
    bounded : is_bounded_step step s ≡ true → IsBoundedStep step.c s
    bounded h = record {
      coefficients = bounded_from_test step.c s (both_pass (is_bounded step.c s)
          (list_all (λ k. are_small (bernstein_numerators step.c k)) (places s)) h).0;
      amounts = λ k below i d inside. leb-true _ _
          (each_passes (λ b. nat_le (unsigned_abs b) (most_amount * bernstein_unit)) (bernstein_numerators step.c k)
          (holds_at_places s (λ m. are_small (bernstein_numerators step.c m)) (both_pass (is_bounded step.c s)
          (list_all (λ k. are_small (bernstein_numerators step.c k)) (places s)) h).1 k below) i d inside);
    }

    passes : IsBoundedStep step.c s → is_bounded_step step s ≡ true
    passes h = passes_both (is_bounded step.c s) (list_all (λ k. are_small (bernstein_numerators step.c k)) (places s))
        (sym (all_of (λ i. nat_le (unsigned_abs (coefficient_at step.c i) * s ^ i) most_coefficient) (length step.c)
        (λ i. i) (λ i below. le-leb _ _ (h.coefficients i below))))
        (sym (all_of (λ k. are_small (bernstein_numerators step.c k)) s (λ k. k)
        (λ k below. list_all-from_AllPass (λ b. nat_le (unsigned_abs b) (most_amount * bernstein_unit))
        (bernstein_numerators step.c k) (λ i d inside. le-leb _ _ (h.amounts k below i d inside)))))

-- a step of a payment, by its place
abbrev step_in : List Step → ℕ → Step
step_in steps k = slice_index_or steps k (constant_step 0 (pos 0))

-- where one fails, the payment does not obey it
pub payment_fails : (months : ℕ) (steps : List Step) (k : ℕ) → k < length steps
    → is_bounded_step (step_in steps k) (months_of months (step_starts steps) k) ≡ false
    → ¬ IsBoundedPayment months steps
payment_fails months steps k inside failed bounded =
    false≢true (sym failed ∙ (test_decides (step_in steps k) (months_of months (step_starts steps) k)).1
    (bounded k inside))

-- where all pass, it does
pub payment_passes : (months : ℕ) (steps : List Step)
    → ((k : ℕ) → k < length steps → is_bounded_step (step_in steps k) (months_of months (step_starts steps) k) ≡ true)
    → IsBoundedPayment months steps
payment_passes months steps passed k inside =
    (test_decides (step_in steps k) (months_of months (step_starts steps) k)).0 (passed k inside)
