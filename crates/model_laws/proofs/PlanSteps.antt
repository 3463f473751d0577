-- The steps of both plans of a product have four coefficients.
use Rattle.std.specs.Prelude.{◌≡◌, zero, suc, pos, ◌≤◌, ◌==◌, cond, true, false, All, List, [], ◌∷◌, length}
use Rattle.std.specs.Prelude.{slice_index_or}
use Rattle.std.proofs.Common.{refl, arith}
use Rattle.std.proofs.lemmas.List.Elements.{All-nil, All-map}
use Rattle.model_specs.specs.Product.{Product, Step}
use Rattle.model_specs.specs.Payments.{Plan, payment_plan, pattern_plan, continuous_pattern, dated_pattern}
use Rattle.model_specs.specs.Payments.{constant_step}
use Rattle.model_specs.specs.RecordRules.{IsWellFormed, IsPayment}

abbrev pub HasFour : List Step → Type 0
HasFour steps = All (λ step. length step.c ≡ 4) steps

-- a plan whose steps have four coefficients
pub record HasFourEach (plan : Plan) : Type 0 where
  pub sums : All HasFour plan.sums
  pub sojourns : All (λ s. HasFour s.steps) plan.sojourns

pub payment_plan_four : (product : Product) → IsWellFormed product → HasFourEach (payment_plan product)
payment_plan_four product formed = record {
  sums = All-map HasFour (λ t. t.sum) product.transitions
      (λ k d b. given (slice_index_or product.transitions k d).sum (formed.payments.sums k d b));
  sojourns = λ k d b. (formed.payments.sojourns k d b).four;
}
  where
    given : (steps : List Step) → (1 ≤ length steps → IsPayment product.months steps) → HasFour steps
    given [] payment = All-nil (λ step. length step.c ≡ 4)
    given (step ∷ steps) payment = (payment (omega arith)).four

pub pattern_plan_four : (product : Product) → HasFourEach (pattern_plan product)
pattern_plan_four product =
    elim (product.pattern.every == 0) as (λ b. HasFourEach
    (cond b (continuous_pattern product.pattern) (dated_pattern product.pattern))) [
      | true ↦ record {
        sums = All-nil HasFour;
        sojourns = All-map (λ s. HasFour s.steps) (λ i. record {
          state = i;
          steps = constant_step 0 (pos 1) ∷ constant_step product.pattern.until (pos 0) ∷ [];
        })
            product.pattern.payers (λ k d b. two);
      }
      | false ↦ record { sums = All-nil HasFour; sojourns = All-nil (λ s. HasFour s.steps) }
    ]
  where
    two : HasFour (constant_step 0 (pos 1) ∷ constant_step product.pattern.until (pos 0) ∷ [])
    two zero d b = refl
    two (suc zero) d b = refl
    two (suc (suc k)) d b = absurd (omega arith)
