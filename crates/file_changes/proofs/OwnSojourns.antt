-- Sojourn payments of all payers, one after the other.
use Rattle.std.proofs.Common.{◌≡◌, ℕ, ◌+◌, ◌<◌, List, length, take, get_or, ap, sym, ◌∙◌, subst}
use Rattle.std.specs.Prelude.{Bool, true, false, ◌==◌, ◌||◌, Vec}
use Rattle.std.specs.declared.alloc.Global.{Global}
use Rattle.std.proofs.lemmas.List.{get_or-map, length-map}
use Rattle.std.proofs.lemmas.List.Folds.{list_any_more, list_any_at}
use Rattle.model_specs.specs.Product.{Sojourn}
use Rattle.payment_plan.specs.declared.step.StepAmount.{StepAmount}
use Rattle.payment_plan.specs.Records.{sojourn_of, sojourns_of}
use Rattle.file_changes.specs.ContinuousCharges.{has_sojourn}

-- a state with its steps
abbrev pub Paid : Type 0
Paid = ℕ × Vec StepAmount Global

module _ (paid : List Paid) (state i : ℕ) (d : Paid) (inside : i < length paid) where
  records_inside : i < length (sojourns_of paid)
  records_inside = subst (λ n. i < n) (sym (length-map paid sojourn_of)) inside

  abbrev is_in : Sojourn → Bool
  is_in s = s.state == state

  record_at : get_or (sojourns_of paid) i (sojourn_of d) ≡ sojourn_of (get_or paid i d)
  record_at = get_or-map sojourn_of paid i d (sojourn_of d) inside

  -- the sojourn there is one of the sojourns
  pub sojourn_is_found : is_in (sojourn_of (get_or paid i d)) ≡ true → has_sojourn (sojourns_of paid) state ≡ true
  sojourn_is_found found =
      list_any_at is_in (sojourns_of paid) i (sojourn_of d) records_inside (ap is_in record_at ∙ found)

  -- and another one is passed
  pub sojourn_is_passed : has_sojourn (take i (sojourns_of paid)) state ≡ false
      → is_in (sojourn_of (get_or paid i d)) ≡ false → has_sojourn (take (i + 1) (sojourns_of paid)) state ≡ false
  sojourn_is_passed so_far other = list_any_more is_in (sojourns_of paid) i (sojourn_of d) records_inside
      ∙ ap (λ found. found || is_in (get_or (sojourns_of paid) i (sojourn_of d))) so_far
      ∙ ap is_in record_at ∙ other
