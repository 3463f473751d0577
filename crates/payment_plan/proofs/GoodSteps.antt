-- The steps of a plan that obeys rules 10 and 11.
use Rattle.std.proofs.Common.{◌≡◌, ℕ, suc, ◌+◌, ◌<◌, ◌≤◌, List, [], ◌∷◌, length, get_or, drop}
use Rattle.std.proofs.Common.{arith, refl, ap, sym, ◌∙◌, inl, inr, add-one}
use Rattle.std.proofs.Math.Seq.{drop-cons}
use Rattle.std.specs.Prelude.{All, Vec}
use Rattle.std.specs.declared.alloc.Global.{Global}
use Rattle.std.proofs.lemmas.Bool.Decides.{eqb_tells}
use Rattle.std.proofs.lemmas.List.Elements.{All-head, All-tail}
use Rattle.model_specs.specs.Product as model
use Rattle.model_specs.specs.RecordRules.{IsPayment, IsBoundedPayment, step_starts}
use Rattle.payment_plan.specs.declared.step.StepAmount.{StepAmount}
use Rattle.payment_plan.specs.Records.{steps_of, sojourns_of}
use Rattle.payment_plan.specs.Payments.{Payments, HasGoodPayments}
use Rattle.payment_plan.specs.Steps.{HasGoodSteps, steps_in_state}

no_steps : (months : ℕ) → HasGoodSteps months []
no_steps months =
    record { payment = λ some. absurd (omega (arith, some)); bounded = λ k below. absurd (omega (arith, below)) }

pub first_start : (months month : ℕ) (steps : List model.Step) → HasGoodSteps months steps
    → get_or (step_starts steps) 0 0 ≤ month
first_start months month [] good = omega arith
first_start months month (s ∷ steps) good = omega (arith, (good.payment (omega arith)).starts.first)

-- a state's steps are those of one of the sojourns
good_in : (months state : ℕ) (sojourns : List model.Sojourn) → All (λ s. IsPayment months s.steps) sojourns
    → All (λ s. IsBoundedPayment months s.steps) sojourns → HasGoodSteps months (steps_in_state sojourns state)
good_in months state [] payments bounded = no_steps months
good_in months state (s ∷ sojourns) payments bounded =
    elim (eqb_tells s.state state) [
      | inl here ↦
          rw here.0
          (record {
            payment = λ some. All-head (λ s. IsPayment months s.steps) s sojourns payments;
            bounded = All-head (λ s. IsBoundedPayment months s.steps) s sojourns bounded;
          })
      | inr other ↦
          rw other.0
          (good_in months state sojourns (All-tail (λ s. IsPayment months s.steps) s sojourns payments)
          (All-tail (λ s. IsBoundedPayment months s.steps) s sojourns bounded))
    ]

pub good_sojourns : (p : Payments) (state : ℕ) → HasGoodPayments p
    → HasGoodSteps p.months (steps_in_state p.sojourns state)
good_sojourns p state good = good_in p.months state p.sojourns good.sojourns good.bounded_sojourns

pub good_sums : (p : Payments) (e : ℕ) → HasGoodPayments p → e < length p.sums
    → HasGoodSteps p.months (get_or p.sums e [])
good_sums p e good inside =
    record { payment = good.sums e [] inside; bounded = good.bounded_sums e [] inside }

-- the steps of a state, where the sojourn of the state comes first, and where it comes later
steps_here : (s : ℕ × Vec StepAmount Global) (rest : List (ℕ × Vec StepAmount Global)) (state : ℕ)
    → s.0 ≡ state → steps_in_state (sojourns_of (s ∷ rest)) state ≡ steps_of s.1.items
steps_here s rest state h =
    elim (eqb_tells s.0 state) [ inl here ↦ rw here.0 refl | inr other ↦ absurd (other.1 h) ]

steps_later : (s : ℕ × Vec StepAmount Global) (rest : List (ℕ × Vec StepAmount Global)) (state : ℕ)
    → ¬ (s.0 ≡ state) → steps_in_state (sojourns_of (s ∷ rest)) state ≡ steps_in_state (sojourns_of rest) state
steps_later s rest state h =
    elim (eqb_tells s.0 state) [ inl here ↦ absurd (h here.1) | inr other ↦ rw other.0 refl ]

-- the sojourn at a place of the list
pub record StandsAt (sojourns : List (ℕ × Vec StepAmount Global)) (i : ℕ) (s : ℕ × Vec StepAmount Global) : Type 0 where
  pub inside : i < length sojourns
  pub sojourn_is : s ≡ get_or sojourns i s

from_place : (sojourns : List (ℕ × Vec StepAmount Global)) (i : ℕ) (s : ℕ × Vec StepAmount Global)
    → StandsAt sojourns i s → drop i sojourns ≡ s ∷ drop (suc i) sojourns
from_place sojourns i s at =
    drop-cons sojourns i s at.inside ∙ ap (λ x. x ∷ drop (suc i) sojourns) (sym at.sojourn_is)

pub steps_at : (sojourns : List (ℕ × Vec StepAmount Global)) (i state : ℕ) (s : ℕ × Vec StepAmount Global)
    → StandsAt sojourns i s → s.0 ≡ state → steps_of s.1.items ≡ steps_in_state (sojourns_of (drop i sojourns)) state
steps_at sojourns i state s at h =
    sym (steps_here s (drop (suc i) sojourns) state h)
    ∙ ap (λ ss. steps_in_state (sojourns_of ss) state) (sym (from_place sojourns i s at))

pub steps_past : (sojourns : List (ℕ × Vec StepAmount Global)) (i state : ℕ) (s : ℕ × Vec StepAmount Global)
    → StandsAt sojourns i s → ¬ (s.0 ≡ state)
    → steps_in_state (sojourns_of (drop i sojourns)) state ≡ steps_in_state (sojourns_of (drop (i + 1) sojourns)) state
steps_past sojourns i state s at h =
    ap (λ ss. steps_in_state (sojourns_of ss) state) (from_place sojourns i s at)
    ∙ steps_later s (drop (suc i) sojourns) state h
    ∙ ap (λ j. steps_in_state (sojourns_of (drop j sojourns)) state) (sym (add-one i))
