-- The probabilities of two degrees are close.
use Rattle.std.specs.Prelude.{◌≡◌, ℕ, zero, suc, pos, ◌+◌, ◌-◌, ◌*◌, ◌^◌, ◌<◌, ◌≤◌, [], ◌∷◌}
use Rattle.std.proofs.Common.{refl, subst, arith, lit≤}
use Rattle.frac_laws.specs.Fraction.{Fraction, over, whole, size, ◌-ℚ◌, ◌*ℚ◌, ◌≤ℚ◌}
use Rattle.frac_laws.specs.Sums.{power}
use Rattle.frac_laws.specs.Norms.{Sum}
use Rattle.frac_laws.proofs.Linear.{linear, claims, natural, ◌⊞◌, ◌⊠◌}
use Rattle.frac_laws.proofs.Order.{le_refl}
use Rattle.frac_laws.proofs.Quotients.{over_is}
use Rattle.cell_laws.specs.ErrorLaws.{distance}
use Rattle.cell_laws.proofs.Decay.{eights_natural}
use Rattle.model_specs.specs.Product.{Product}
use Rattle.model_specs.specs.Growth.{kappa40}
use Rattle.model_specs.specs.Ledgers.{grow_cells, radius_forward}
use Rattle.model_specs.specs.Runs.{probabilities, probability}
use Rattle.model_specs.specs.ValuationRules.{IsAdmissible}
use Rattle.ledger_laws.proofs.MonthFacts.{admissible_obeys}
use Rattle.ledger_laws.proofs.GrowthFacts.{radii_small}
use Rattle.probability_laws.specs.ProbabilityLaws.{probabilities_after}
use Rattle.sweep_laws.proofs.ScaledSteps.{probabilities_step}
use Rattle.limit_laws.specs.CellTails.{IsWithinRadius}
use Rattle.limit_laws.specs.Modulus.{modulus_of, AreCloseBy, probability_modulus, OfTwoDegrees, ProbabilitiesConverge}
use Rattle.limit_laws.specs.Modulus.{AllProbabilitiesConverge}
use Rattle.limit_laws.proofs.CellSteps.{step_carried}
use Rattle.limit_laws.proofs.ModulusForms.{self_within, number_apart, close}

-- both degrees
module _ (product : Product) (n more : ℕ) (admissible : IsAdmissible product) (above : 8 ≤ n) where
  in_cells : (month done : ℕ) → month < product.months → done ≤ 32
      → IsWithinRadius n (radius_forward product month)
      (distance Sum (probabilities product (n + more) month) (probabilities product n month))
      → IsWithinRadius n (grow_cells (kappa40 product month) 1024 (radius_forward product month) done)
      (distance Sum (probabilities_after product (n + more) month done) (probabilities_after product n month done))
  in_cells month zero inside few near = near
  in_cells month (suc done) inside few near =
      let low : done < 32 = omega (arith, few) in
      step_carried Sum (kappa40 product month) n more
      (grow_cells (kappa40 product month) 1024 (radius_forward product month) done) (whole (pos 2)) _
      (probabilities_after product n month done) (probabilities_after product (n + more) month done)
      (probabilities_after product n month (suc done)) (probabilities_after product (n + more) month (suc done))
      (probabilities_step product n month done admissible above inside low)
      (probabilities_step product (n + more) month done admissible (omega (arith, above)) inside low)
      (le_refl (whole (pos 2))) (lit≤ tt) above (in_cells month done inside (omega (arith, few)) near)

  pub at_dates : (month : ℕ) → month ≤ product.months → IsWithinRadius n (radius_forward product month)
      (distance Sum (probabilities product (n + more) month) (probabilities product n month))
  at_dates zero within = self_within Sum n 0 (probabilities product n 0)
  at_dates (suc month) within =
      in_cells month 32 (omega (arith, within)) (lit≤ tt) (at_dates month (omega (arith, within)))

-- the ledger's bound as the modulus
together : (n w : ℕ) (d : Fraction) → IsWithinRadius n w d → power (whole (pos 8)) n *ℚ d ≤ℚ modulus_of 1 w
together n w d held =
    let once : 1 * w ≡ w = omega arith in
    rw (once, over_is (pos w) (2 ^ 13)) (combine (power (whole (pos 8)) n) (whole (pos w)) held)
  where
    combine : (e w : Fraction) → whole (pos (2 ^ 13)) *ℚ (e *ℚ d) ≤ℚ w → e *ℚ d ≤ℚ w *ℚ over (pos 1) (2 ^ 13)
    combine e w held = linear (e ∷ d ∷ w ∷ []) (held ⊠ natural 1 8192) (hlevel claims) refl

module _ (product : Product) (admissible : IsAdmissible product) where
  all_together : OfTwoDegrees (λ n later. (date : ℕ) → date ≤ product.months
      → power (whole (pos 8)) n *ℚ distance Sum (probabilities product later date) (probabilities product n date)
      ≤ℚ probability_modulus product date)
  all_together n later above more date within =
      let e : n + (later - n) ≡ later = omega (arith, more) in
      subst (λ degree. power (whole (pos 8)) n
      *ℚ distance Sum (probabilities product degree date) (probabilities product n date)
      ≤ℚ probability_modulus product date) e
      (together n (radius_forward product date) _ (at_dates product n (later - n) admissible above date within))

  each_state : OfTwoDegrees (λ n later. (date state : ℕ) → date ≤ product.months
      → AreCloseBy n (probability_modulus product date)
      (probability product later date state) (probability product n date state))
  each_state n later above more date state within =
      combine (power (whole (pos 8)) n)
      (size (probability product later date state -ℚ probability product n date state))
      (distance Sum (probabilities product later date) (probabilities product n date))
      (probability_modulus product date) (eights_natural n)
      (number_apart Sum (probabilities product later date) (probabilities product n date) state)
      (all_together n later above more date within)
    where
      combine : (e s d r : Fraction) → whole (pos 0) ≤ℚ e → s ≤ℚ d → e *ℚ d ≤ℚ r → e *ℚ s ≤ℚ r
      combine e s d r he h k = linear (e ∷ s ∷ d ∷ r ∷ []) (he ⊠ h ⊞ k) (hlevel claims) refl

  few : (date : ℕ) → date ≤ product.months → radius_forward product date ≤ 2 ^ 45
  few date within =
      let rules = admissible_obeys product admissible in
      let small = (radii_small product admissible.well_formed rules date within).forward in omega (arith, small)

  pub probabilities_converge : ProbabilitiesConverge product
  probabilities_converge = record {
    together = all_together;
    modulus = each_state;
    close = λ n later above more date state within. close n 1 (radius_forward product date)
        (probability product later date state) (probability product n date state) (few date within)
        (each_state n later above more date state within);
  }

pub all_probabilities_converge : AllProbabilitiesConverge
all_probabilities_converge product admissible = probabilities_converge product admissible
