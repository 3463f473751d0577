-- The laws of charges, of premiums at dates and of continuous ones.
use Rattle.std.specs.Prelude.{◌≡◌, ℕ, pos, ◌≤◌, ℤ, [], ◌∷◌, refl, Bool, true, false, cond, ◌==◌}
use Rattle.std.proofs.Common.{ap, sym, ◌∙◌, subst, arith}
use Rattle.std.proofs.lemmas.Bool.{eqb-true}
use Rattle.frac_laws.specs.Fraction.{Fraction, whole, ◌*ℚ◌, ◌-ℚ◌}
use Rattle.frac_laws.proofs.FractionTerms.{ring, terms}
use Rattle.whole_laws.proofs.Tests.{same_is}
use Rattle.model_specs.specs.Product.{Product}
use Rattle.model_specs.specs.Payments.{payment_plan, pattern_plan, sojourn_at}
use Rattle.model_specs.specs.Cells.{Grid}
use Rattle.model_specs.specs.Runs.{reserve_on, benefits, pattern_value}
use Rattle.model_specs.specs.RecordRules.{IsWellFormed}
use Rattle.file_changes.specs.Asks.{ChargeAsks}
use Rattle.file_changes.specs.Charges.{charged, charged_lumps, with_lumps, with_sojourns}
use Rattle.file_changes.specs.ContinuousCharges.{charged_sojourns}
use Rattle.charge_laws.specs.ChargeLaws.{ChargesComeOffLumps, ChargesComeOffSojourns, ChargesComeOffReserves}
use Rattle.charge_laws.specs.ChargeLaws.{ChargesComeOffValues, ChargedPremiumsBalance, less_charge}
use Rattle.charge_laws.proofs.ChargedRuns.{ComesOff, with_payments, reserve_is_less, value_is_less}
use Rattle.charge_laws.proofs.ChargedSojourns.{continuous_charge, less_nowhere}
use Rattle.charge_laws.proofs.ContinuedSteps.{paid_number}
use Rattle.charge_laws.proofs.FoundLumps.{charge_comes_off}
use Rattle.charge_laws.proofs.PatternCells.{pattern_pays}

not_charged : (x a : Fraction) → x ≡ x -ℚ a *ℚ whole (pos 0)
not_charged x a = ring (x ∷ a ∷ []) (hlevel terms) refl

nothing_left : (x : Fraction) → x -ℚ x ≡ whole (pos 0)
nothing_left x = ring (x ∷ []) (hlevel terms) refl

-- a charged product has the payments of another, and else what the product has
charged_is : (amount : ℤ) (product : Product)
    → charged amount product ≡ with_payments (charged amount product).sojourns (charged amount product).lumps product
charged_is amount product = elim (product.pattern.every == 0) as (λ b.
    cond b (with_sojourns (charged_sojourns amount product) product) (with_lumps (charged_lumps amount product) product)
    ≡ with_payments
    (cond b (with_sojourns (charged_sojourns amount product) product)
    (with_lumps (charged_lumps amount product) product)).sojourns
    (cond b (with_sojourns (charged_sojourns amount product) product)
    (with_lumps (charged_lumps amount product) product)).lumps
    product) [ true ↦ refl | false ↦ refl ]

module _ (amount : ℤ) (product : Product) (formed : IsWellFormed product)
    (asks : (part : ℕ) → ChargeAsks amount product part) where
  -- the amount comes off, continuously or at dates
  by_premium : (b : Bool) → (product.pattern.every == 0) ≡ b → ComesOff amount product
      (cond b (with_sojourns (charged_sojourns amount product) product)
      (with_lumps (charged_lumps amount product) product))
  by_premium true continuous = record {
    sojourns = λ grid month cell state power within inside.
        continuous_charge grid month cell power amount product formed (omega (arith, inside)) within state
        (asks 6 (eqb-true product.pattern.every 0 continuous))
        ∙ sym (ap (λ y. less_charge (paid_number grid month cell power (sojourn_at (payment_plan product) state month))
        amount y) (pattern_pays grid product month cell state power)
        ∙ rw continuous refl);
    lumps = λ date state inside. rw continuous (not_charged _ (whole amount));
  }
  by_premium false dated = record {
    sojourns = λ grid month cell state power within inside.
        less_nowhere amount power (paid_number grid month cell power (sojourn_at (payment_plan product) state month))
        ∙ sym (ap (λ y. less_charge (paid_number grid month cell power (sojourn_at (payment_plan product) state month))
        amount y) (pattern_pays grid product month cell state power)
        ∙ rw dated refl);
    lumps = λ date state inside. rw dated
        (charge_comes_off amount product date state (some product.pattern.every dated) inside);
  }
    where
      some : (every : ℕ) → (every == 0) ≡ false → 1 ≤ every
      some every fails = grind (arith, same_is)

  comes_off : ComesOff amount product (charged amount product)
  comes_off = by_premium (product.pattern.every == 0) refl

  off : ComesOff amount product
      (with_payments (charged amount product).sojourns (charged amount product).lumps product)
  off = subst (ComesOff amount product) (charged_is amount product) comes_off

  reserve_comes_off : (grid : Grid) (n date state : ℕ)
      → reserve_on grid (charged amount product) (payment_plan (charged amount product)) n date state
      ≡ less_charge (reserve_on grid product (payment_plan product) n date state) amount
      (reserve_on grid product (pattern_plan product) n date state)
  reserve_comes_off grid n date state = subst (λ p. reserve_on grid p (payment_plan p) n date state
      ≡ less_charge (reserve_on grid product (payment_plan product) n date state) amount
      (reserve_on grid product (pattern_plan product) n date state)) (sym (charged_is amount product))
      (reserve_is_less amount product (charged amount product).sojourns (charged amount product).lumps
      formed.head.some_month off grid n date state)

  value_comes_off : (n : ℕ)
      → benefits (charged amount product) n ≡ less_charge (benefits product n) amount (pattern_value product n)
  value_comes_off n = subst
      (λ p. benefits p n ≡ less_charge (benefits product n) amount (pattern_value product n))
      (sym (charged_is amount product))
      (value_is_less amount product (charged amount product).sojourns (charged amount product).lumps
      formed.head.some_month off formed.head.start n)

pub charges_come_off_lumps : ChargesComeOffLumps
charges_come_off_lumps amount product formed asks = (comes_off amount product formed asks).lumps

pub charges_come_off_sojourns : ChargesComeOffSojourns
charges_come_off_sojourns amount product formed asks = (comes_off amount product formed asks).sojourns

pub charges_come_off_reserves : ChargesComeOffReserves
charges_come_off_reserves amount product formed asks = reserve_comes_off amount product formed asks

pub charges_come_off_values : ChargesComeOffValues
charges_come_off_values amount product formed asks = value_comes_off amount product formed asks

pub charged_premiums_balance : ChargedPremiumsBalance
charged_premiums_balance amount product formed asks n worth =
    value_comes_off amount product formed asks n
    ∙ ap (λ x. benefits product n -ℚ x) worth ∙ nothing_left (benefits product n)
