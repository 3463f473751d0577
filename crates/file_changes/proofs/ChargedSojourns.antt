-- Charged sojourn payments obey rules 10 and 11.
use Rattle.std.proofs.Common.{◌≡◌, ◌≢◌, ℕ, zero, suc, ◌<◌, ◌≤◌, ℤ, List, [], ◌∷◌, length, map, get_or}
use Rattle.std.proofs.Common.{arith, ap, sym, ◌∙◌, subst}
use Rattle.std.specs.Prelude.{All, Bool, true, false, not, filter, ◌==◌, cond}
use Rattle.std.proofs.lemmas.Bool.{eq-eqb, not-true}
use Rattle.std.proofs.lemmas.List.{get_or-map, length-map, map-append}
use Rattle.std.proofs.lemmas.List.Elements.{All-append, All-map, All-filter, filter_passes}
use Rattle.std.proofs.lemmas.List.Folds.{list_any_at}
use Rattle.std.proofs.lemmas.Simd.{map-map}
use Rattle.model_specs.specs.Product.{Product, Sojourn}
use Rattle.model_specs.specs.RecordRules.{AreDistinct, HasGoodPayments, IsBoundedPayment, IsPayment, IsWellFormed}
use Rattle.model_specs.specs.RecordRules.{months_of}
use Rattle.payment_plan.specs.Tables.{is_payer}
use Rattle.payment_plan.proofs.Patterns.{unit_bounded}
use Rattle.joint_life.proofs.DistinctLists.{distinct_append, distinct_filter, distinct_map}
use Rattle.file_changes.specs.ContinuousAsks.{AreSmallSojourns}
use Rattle.file_changes.specs.ContinuousCharges.{charged_sojourn, charged_sojourns, charged_steps, completed_sojourns}
use Rattle.file_changes.specs.ContinuousCharges.{has_sojourn, zero_sojourn}
use Rattle.file_changes.specs.Charges.{with_sojourns}
use Rattle.file_changes.proofs.ChargedSteps.{charged_is_payment, nothing_is_payment}

-- the state of a sojourn payment
abbrev state_of : Sojourn → ℕ
state_of s = s.state

module _ (product : Product) (formed : IsWellFormed product) where
  abbrev payers : List ℕ
  payers = product.pattern.payers

  abbrev missing : ℕ → Bool
  missing payer = not (has_sojourn product.sojourns payer)

  -- the payers that have no sojourn payment
  abbrev those : List ℕ
  those = filter missing payers

  abbrev completed : List Sojourn
  completed = completed_sojourns product.sojourns product.pattern

  completed_states : All (λ s. s.state < length product.states) completed
  completed_states = All-append (λ (s : Sojourn). s.state < length product.states) product.sojourns
      (map zero_sojourn those) formed.payments.states
      (All-map (λ (s : Sojourn). s.state < length product.states) zero_sojourn those
      (All-filter missing (λ payer. payer < length product.states) payers formed.pattern.payers))

  zeros_distinct : AreDistinct 0 (map state_of (map zero_sojourn those))
  zeros_distinct = subst (AreDistinct 0) (sym (map-map state_of zero_sojourn those))
      (distinct_map 0 0 (λ payer. payer) those (distinct_filter 0 missing payers formed.pattern.distinct)
      (λ i j inside_i inside_j same. same))

  -- no sojourn payment is in the state of one that is missing
  apart : (i j : ℕ) → i < length (map state_of product.sojourns) → j < length (map state_of (map zero_sojourn those))
      → get_or (map state_of product.sojourns) i 0 ≢ get_or (map state_of (map zero_sojourn those)) j 0
  apart i j below_i below_j same =
      let none : Sojourn = record { state = 0; steps = [] } in
      let inside_i : i < length product.sojourns =
      subst (λ n. i < n) (length-map product.sojourns state_of) below_i in
      let inside_z : j < length (map zero_sojourn those) =
      subst (λ n. j < n) (length-map (map zero_sojourn those) state_of) below_j in
      let inside_j : j < length those = subst (λ n. j < n) (length-map those zero_sojourn) inside_z in
      let payer : ℕ = get_or those j 0 in
      let s : Sojourn = get_or product.sojourns i none in
      let at_s : get_or (map state_of product.sojourns) i 0 ≡ s.state =
      get_or-map state_of product.sojourns i none 0 inside_i in
      let at_payer : get_or (map state_of (map zero_sojourn those)) j 0 ≡ payer =
      get_or-map state_of (map zero_sojourn those) j none 0 inside_z
      ∙ ap state_of (get_or-map zero_sojourn those j 0 none inside_j) in
      let found : has_sojourn product.sojourns payer ≡ true =
      list_any_at (λ (x : Sojourn). x.state == payer) product.sojourns i none inside_i
      (eq-eqb s.state payer (sym at_s ∙ same ∙ at_payer)) in
      let lost : has_sojourn product.sojourns payer ≡ false =
      not-true _ (filter_passes missing payers j 0 inside_j) in
      absurd (cc (sym found ∙ lost))

  completed_distinct : AreDistinct 0 (map state_of completed)
  completed_distinct = subst (AreDistinct 0) (sym (map-append state_of product.sojourns (map zero_sojourn those)))
      (distinct_append 0 (map state_of product.sojourns) (map state_of (map zero_sojourn those))
      formed.payments.distinct zeros_distinct apart)

  abbrev IsPaid : Sojourn → Type 0
  IsPaid s = IsPayment product.months s.steps

  pub completed_payments : All IsPaid completed
  completed_payments = All-append IsPaid product.sojourns (map zero_sojourn those) formed.payments.sojourns
      (All-map IsPaid zero_sojourn those (λ k d below. nothing_is_payment product.months formed.head.some_month))

  abbrev IsBounded : Sojourn → Type 0
  IsBounded s = IsBoundedPayment product.months s.steps

  nothing_is_bounded : (payer : ℕ) → IsBounded (zero_sojourn payer)
  nothing_is_bounded payer zero inside = unit_bounded false (months_of product.months (0 ∷ []) 0)
  nothing_is_bounded payer (suc k) inside = absurd (omega (arith, inside))

  pub completed_bounds : All IsBounded completed
  completed_bounds = All-append IsBounded product.sojourns (map zero_sojourn those) formed.payments.bounded_sojourns
      (All-map IsBounded zero_sojourn those (λ k d below. nothing_is_bounded (get_or those k d)))

  module _ (amount : ℤ) (paid : 1 ≤ length payers) where
    abbrev charge : Sojourn → Sojourn
    charge = charged_sojourn amount product.months product.pattern

    charge_is_payment : (s : Sojourn) → IsPaid s → IsPaid (charge s)
    charge_is_payment s payment = by_payer (is_payer payers s.state)
      where
        by_payer : (b : Bool) → IsPayment product.months
            (cond b (charged_steps amount product.months product.pattern.until s.steps) s.steps)
        by_payer true = charged_is_payment amount product.months product.pattern.until s.steps
            (formed.pattern.until_above_0 paid) formed.pattern.until_within payment
        by_payer false = payment

    pub charged_sojourns_are_good : AreSmallSojourns product.months (charged_sojourns amount product)
        → HasGoodPayments (with_sojourns (charged_sojourns amount product) product)
    charged_sojourns_are_good small = record {
      states = All-map (λ (s : Sojourn). s.state < length product.states) charge completed completed_states;
      distinct = subst (AreDistinct 0) (sym (map-map state_of charge completed)) completed_distinct;
      sojourns = All-map IsPaid charge completed
          (λ k d below. charge_is_payment (get_or completed k d) (completed_payments k d below));
      sums = formed.payments.sums;
      bounded_sojourns = λ k d below. (small k d below).bounded;
      bounded_sums = formed.payments.bounded_sums;
    }
