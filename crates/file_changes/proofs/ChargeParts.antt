-- The parts of a charge, and the first one that is broken.
use Rattle.std.proofs.Common.{◌≡◌, ℕ, zero, suc, ◌<◌, ◌≤◌, ℤ, List, length, map, arith, refl, ap, ◌∙◌}
use Rattle.std.proofs.lemmas.Bool.{eq-eqb, ne_eqb}
use Rattle.model_specs.specs.Product.{Product, Lump, PremiumPattern, Sojourn}
use Rattle.curve_pieces.specs.BrokenRules.{IsFirstBroken}
use Rattle.payment_plan.specs.Payments.{Payments}
use Rattle.product_model.specs.Views.{payments_of}
use Rattle.file_changes.specs.Asks.{ChargeAsks, AreSmallPayments, AreSmallLumps}
use Rattle.file_changes.specs.Charges.{charged, completed_lumps, charged_lump, charged_lumps, with_lumps, with_sojourns}
use Rattle.file_changes.specs.ContinuousAsks.{AreSmallSojourns, PayersGoOnWhole}
use Rattle.file_changes.specs.ContinuousCharges.{charged_sojourn, charged_sojourns, completed_sojourns}

module _ (amount : ℤ) (p : Product) where
  -- small payments of the one kind of premium and of the other
  pub small_lumps : 1 ≤ p.pattern.every → AreSmallLumps (charged_lumps amount p) → AreSmallPayments amount p
  small_lumps dated small = record { continuous = λ never. absurd (omega (arith, never, dated)); dated = λ _. small }

  pub small_sojourns : p.pattern.every ≡ 0 → AreSmallSojourns p.months (charged_sojourns amount p)
      → AreSmallPayments amount p
  small_sojourns continuous small =
      record { continuous = λ _. small; dated = λ dated. absurd (omega (arith, continuous, dated)) }

  -- part 4 is the first where there is no payer
  pub first_is_4 : ¬ (1 ≤ length p.pattern.payers) → IsFirstBroken (ChargeAsks amount p) 4
  first_is_4 none = record { broken = none; before = before }
    where
      before : (i : ℕ) → i < 4 → ChargeAsks amount p i
      before zero low = tt
      before (suc zero) low = tt
      before (suc (suc zero)) low = tt
      before (suc (suc (suc zero))) low = tt
      before (suc (suc (suc (suc i)))) low = absurd (omega (arith, low))

  -- part 5 is the first where part 4 holds, and part 6 where both do
  pub first_is_5 : 1 ≤ length p.pattern.payers → ¬ AreSmallPayments amount p → IsFirstBroken (ChargeAsks amount p) 5
  first_is_5 some wide = record { broken = wide; before = before }
    where
      before : (i : ℕ) → i < 5 → ChargeAsks amount p i
      before zero low = tt
      before (suc zero) low = tt
      before (suc (suc zero)) low = tt
      before (suc (suc (suc zero))) low = tt
      before (suc (suc (suc (suc zero)))) low = some
      before (suc (suc (suc (suc (suc i))))) low = absurd (omega (arith, low))

  pub first_is_6 : 1 ≤ length p.pattern.payers → AreSmallPayments amount p → p.pattern.every ≡ 0
      → ¬ PayersGoOnWhole p → IsFirstBroken (ChargeAsks amount p) 6
  first_is_6 some small continuous parts = record { broken = λ whole. parts (whole continuous); before = before }
    where
      before : (i : ℕ) → i < 6 → ChargeAsks amount p i
      before zero low = tt
      before (suc zero) low = tt
      before (suc (suc zero)) low = tt
      before (suc (suc (suc zero))) low = tt
      before (suc (suc (suc (suc zero)))) low = some
      before (suc (suc (suc (suc (suc zero))))) low = small
      before (suc (suc (suc (suc (suc (suc i)))))) low = absurd (omega (arith, low))

  -- all parts hold where these three do
  pub all_parts_hold : 1 ≤ length p.pattern.payers → AreSmallPayments amount p
      → (p.pattern.every ≡ 0 → PayersGoOnWhole p) → (part : ℕ) → ChargeAsks amount p part
  all_parts_hold some small whole zero = tt
  all_parts_hold some small whole (suc zero) = tt
  all_parts_hold some small whole (suc (suc zero)) = tt
  all_parts_hold some small whole (suc (suc (suc zero))) = tt
  all_parts_hold some small whole (suc (suc (suc (suc zero)))) = some
  all_parts_hold some small whole (suc (suc (suc (suc (suc zero))))) = small
  all_parts_hold some small whole (suc (suc (suc (suc (suc (suc zero)))))) = whole
  all_parts_hold some small whole (suc (suc (suc (suc (suc (suc (suc part))))))) = tt

  -- the charged lumps are those of the parts of the plan
  pub charged_by_parts : (plan : Payments) (states : ℕ) (lumps : List Lump) (pattern : PremiumPattern)
      (all : List Lump) → plan ≡ payments_of p → states ≡ length p.states → lumps ≡ plan.lumps
      → pattern ≡ plan.pattern → all ≡ completed_lumps states lumps pattern
      → map (charged_lump amount pattern) all ≡ charged_lumps amount p
  charged_by_parts plan states lumps pattern all a b c d e =
      ap (map (charged_lump amount pattern)) e
      ∙ ap (λ s. map (charged_lump amount pattern) (completed_lumps s lumps pattern)) b
      ∙ ap (λ ls. map (charged_lump amount pattern) (completed_lumps (length p.states) ls pattern))
      (c ∙ ap (λ (ps : Payments). ps.lumps) a)
      ∙ ap (λ rule. map (charged_lump amount rule) (completed_lumps (length p.states) p.lumps rule))
      (d ∙ ap (λ (ps : Payments). ps.pattern) a)

  -- what is charged of a premium of either kind
  pub charged_at_dates : 1 ≤ p.pattern.every → charged amount p ≡ with_lumps (charged_lumps amount p) p
  charged_at_dates dated = rw (ne_eqb p.pattern.every 0 (λ none. omega (arith, dated, none))) refl

  pub charged_all_the_time : p.pattern.every ≡ 0 → charged amount p ≡ with_sojourns (charged_sojourns amount p) p
  charged_all_the_time continuous = rw (eq-eqb p.pattern.every 0 continuous) refl

  -- the charged sojourns are those of the parts of the plan
  pub charged_sojourns_by_parts : (plan : Payments) (months : ℕ) (pattern : PremiumPattern) (all : List Sojourn)
      → plan ≡ payments_of p → months ≡ p.months → pattern ≡ plan.pattern
      → all ≡ completed_sojourns plan.sojourns pattern
      → map (charged_sojourn amount months pattern) all ≡ charged_sojourns amount p
  charged_sojourns_by_parts plan months pattern all a b c d =
      ap (map (charged_sojourn amount months pattern)) d
      ∙ ap (λ n. map (charged_sojourn amount n pattern) (completed_sojourns plan.sojourns pattern)) b
      ∙ ap (λ rule. map (charged_sojourn amount p.months rule) (completed_sojourns plan.sojourns rule)) c
      ∙ ap (λ (ps : Payments). map (charged_sojourn amount p.months ps.pattern)
      (completed_sojourns ps.sojourns ps.pattern)) a
