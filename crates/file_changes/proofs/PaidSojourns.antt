-- A sojourn that is charged, where its state pays the premium and where it does not.
use Rattle.std.proofs.Common.{◌≡◌, ℕ, zero, suc, ◌+◌, ◌<◌, ℤ, List, [], ◌∷◌, ◌++◌, length, map, take, get_or}
use Rattle.std.proofs.Common.{arith, refl, ap, sym, ◌∙◌, subst}
use Rattle.std.specs.Prelude.{All, true, false}
use Rattle.std.proofs.lemmas.List.{get_or-map, length-map, map-append}
use Rattle.std.proofs.lemmas.List.Elements.{All-append}
use Rattle.model_specs.specs.Product.{Sojourn, PremiumPattern}
use Rattle.payment_plan.specs.Records.{sojourn_of, sojourns_of}
use Rattle.payment_plan.specs.Tables.{is_payer}
use Rattle.product_reader.proofs.Grown.{one_more_of}
use Rattle.file_changes.specs.ContinuousAsks.{AreSmallSojourns, AreSmallSteps}
use Rattle.file_changes.specs.ContinuousCharges.{charged_sojourn, charged_steps}
use Rattle.file_changes.proofs.OwnSojourns.{Paid}

-- a sojourn of some, by its place
module _ (paid : List Paid) (i : ℕ) (d : Paid) (inside : i < length paid) where
  pub inside_sojourns : i < length (sojourns_of paid)
  inside_sojourns = subst (λ n. i < n) (sym (length-map paid sojourn_of)) inside

  pub sojourn_is : get_or (sojourns_of paid) i (sojourn_of d) ≡ sojourn_of (get_or paid i d)
  sojourn_is = get_or-map sojourn_of paid i d (sojourn_of d) inside

  -- what holds of all sojourns holds of each
  pub holds_of_sojourn : (P : Sojourn → Type 0) → All P (sojourns_of paid) → P (sojourn_of (get_or paid i d))
  holds_of_sojourn P all = subst P sojourn_is (all i (sojourn_of d) inside_sojourns)

module _ (amount : ℤ) (months : ℕ) (pattern : PremiumPattern) where
  pub paying_sojourn : (s : Sojourn) → is_payer pattern.payers s.state ≡ true → charged_sojourn amount months pattern s
      ≡ record { state = s.state; steps = charged_steps amount months pattern.until s.steps }
  paying_sojourn s pays = rw pays refl

  pub other_sojourn : (s : Sojourn) → is_payer pattern.payers s.state ≡ false
      → charged_sojourn amount months pattern s ≡ s
  other_sojourn s pays = rw pays refl

  module _ (paid : List Paid) (i : ℕ) (d : Paid) (inside : i < length paid) where
    -- one sojourn more
    pub sojourn_more : (made : List Paid) (s : Paid)
        → sojourns_of made ≡ map (charged_sojourn amount months pattern) (take i (sojourns_of paid))
        → sojourn_of s ≡ charged_sojourn amount months pattern (sojourn_of (get_or paid i d))
        → sojourns_of (made ++ s ∷ []) ≡ map (charged_sojourn amount months pattern) (take (i + 1) (sojourns_of paid))
    sojourn_more made s so_far next =
        one_more_of sojourn_of (charged_sojourn amount months pattern) (sojourns_of paid) i (sojourn_of d) made s so_far
        (next ∙ ap (charged_sojourn amount months pattern) (sym (sojourn_is paid i d inside)))
        (inside_sojourns paid i d inside)

    -- where one is too large, they are not small
    pub sojourn_is_too_large : ¬ AreSmallSteps months
        (charged_sojourn amount months pattern (sojourn_of (get_or paid i d))).steps
        → ¬ AreSmallSojourns months (map (charged_sojourn amount months pattern) (sojourns_of paid))
    sojourn_is_too_large wide all =
        wide (subst (λ (s : Sojourn). AreSmallSteps months s.steps)
        (get_or-map (charged_sojourn amount months pattern) (sojourns_of paid) i (sojourn_of d)
        (charged_sojourn amount months pattern (sojourn_of d)) (inside_sojourns paid i d inside)
        ∙ ap (charged_sojourn amount months pattern) (sojourn_is paid i d inside))
        (all i (charged_sojourn amount months pattern (sojourn_of d))
        (subst (λ n. i < n) (sym (length-map (sojourns_of paid) (charged_sojourn amount months pattern)))
        (inside_sojourns paid i d inside))))

-- one small sojourn more
pub small_sojourn_more : (months : ℕ) (made : List Paid) (s : Paid) → AreSmallSojourns months (sojourns_of made)
    → AreSmallSteps months (sojourn_of s).steps → AreSmallSojourns months (sojourns_of (made ++ s ∷ []))
small_sojourn_more months made s all one =
    subst (AreSmallSojourns months) (sym (map-append sojourn_of made (s ∷ [])))
    (All-append (λ (x : Sojourn). AreSmallSteps months x.steps) (sojourns_of made) (sojourn_of s ∷ []) all only)
  where
    only : AreSmallSojourns months (sojourn_of s ∷ [])
    only zero d below = one
    only (suc k) d below = absurd (omega (arith, below))
