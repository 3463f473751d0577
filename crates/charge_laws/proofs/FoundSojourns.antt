-- The sojourn payment of a state among those that are charged.
use Rattle.std.proofs.Common.{◌≡◌, ℕ, ℤ, List, [], ◌∷◌, ◌++◌, map, cond, refl, ap, ◌∙◌, inl, inr}
use Rattle.std.specs.Prelude.{Bool, true, false, not, filter, ◌==◌, ◌&&◌, Some, None, find, option_map}
use Rattle.std.specs.Option.{option_or}
use Rattle.std.proofs.lemmas.Bool.Decides.{eqb_tells}
use Rattle.std.proofs.lemmas.List.Folds.{find-append}
use Rattle.model_specs.specs.Product.{Product, Sojourn}
use Rattle.payment_plan.specs.Tables.{is_payer}
use Rattle.joint_life.proofs.Searches.{find_made, find_passing}
use Rattle.file_changes.specs.ContinuousCharges.{charged_sojourn, charged_sojourns, has_sojourn, zero_sojourn}

abbrev pub of_state : ℕ → Sojourn → Bool
of_state i s = s.state == i

-- a payer that has no sojourn payment of its own
pub missing_payer : (sojourns : List Sojourn) (i : ℕ) → has_sojourn sojourns i ≡ false → (payers : List ℕ)
    → find (λ payer. not (has_sojourn sojourns payer) && (payer == i)) payers ≡ cond (is_payer payers i) (Some i) None
missing_payer sojourns i none [] = refl
missing_payer sojourns i none (payer ∷ payers) =
    elim (eqb_tells payer i) [
      | inl here ↦ rw (here.0, here.1, none) refl
      | inr other ↦ rw (other.0, fails (not (has_sojourn sojourns payer))) (missing_payer sojourns i none payers)
    ]
  where
    fails : (b : Bool) → (b && false) ≡ false
    fails true = refl
    fails false = refl

module _ (amount : ℤ) (product : Product) (i : ℕ) where
  abbrev charge : Sojourn → Sojourn
  charge = charged_sojourn amount product.months product.pattern

  abbrev is_missing : ℕ → Bool
  is_missing payer = not (has_sojourn product.sojourns payer)

  -- what is found of a state: its own sojourn payment that is charged, or that of nothing of a payer
  pub charged_is_found : find (of_state i) (charged_sojourns amount product)
      ≡ option_map charge (option_or (find (of_state i) product.sojourns)
      (option_map zero_sojourn (find (λ payer. is_missing payer && (payer == i)) product.pattern.payers)))
  charged_is_found =
      find_made (of_state i) charge (product.sojourns ++ map zero_sojourn (filter is_missing product.pattern.payers))
      ∙ ap (option_map charge) (find-append (of_state i) product.sojourns
      (map zero_sojourn (filter is_missing product.pattern.payers))
      ∙ ap (option_or (find (of_state i) product.sojourns))
      (find_made (of_state i) zero_sojourn (filter is_missing product.pattern.payers)
      ∙ ap (option_map zero_sojourn) (find_passing is_missing (λ payer. payer == i) product.pattern.payers)))
