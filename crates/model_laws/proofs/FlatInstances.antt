-- Reserves and rows of products of one state without interest.
use Rattle.std.specs.Prelude.{◌≡◌, ℕ, zero, suc, ◌-◌, ◌≤◌, ◌^◌, pos, [], ◌∷◌, refl}
use Rattle.std.proofs.Common.{ap, subst, ◌∙◌, arith}
use Rattle.std.proofs.lemmas.Bool.{false≢true}
use Rattle.frac_laws.specs.Fraction.{whole, ◌+ℚ◌, ◌*ℚ◌, ◌-ℚ◌, ◌≤ℚ◌, opposite, is_not_negative}
use Rattle.frac_laws.specs.Lists.{number_at}
use Rattle.frac_laws.proofs.FractionTerms.{ring, terms}
use Rattle.frac_laws.proofs.Quotients.{whole_suc}
use Rattle.model_specs.specs.Payments.{payment_plan}
use Rattle.model_specs.specs.Cells.{Backward, cells_of_32}
use Rattle.model_specs.specs.Runs.{first_before_term, value_before_issue}
use Rattle.model_specs.specs.Rows.{IsBetween}
use Rattle.model_laws.specs.Examples.{flat_annuity, lump_on}
use Rattle.model_laws.specs.FlatLaws.{FlatReserves, FlatValueHolds, HigherValueDoesNotHold, LumpAtTheTerm}
use Rattle.model_laws.specs.FlatLaws.{LumpAtIssue, steady_product}
use Rattle.model_laws.proofs.FlatRuns.{flat_months_add_up}

-- the reserve some months before the term
months-left : (n k : ℕ) → number_at (first_before_term (cells_of_32 Backward) flat_annuity
    (payment_plan flat_annuity) (suc n) k) 0 ≡ whole (pos k) *ℚ whole (pos 32)
months-left n zero = ring [] (hlevel terms) refl
months-left n (suc k) = flat_months_add_up 12 n k (pos 384) []
    ∙ rw (months-left n k, whole_suc k) (ring (whole (pos k) ∷ []) (hlevel terms) refl)

pub flat_reserves : FlatReserves
flat_reserves n k within = rw (left k within) (months-left n k)
  where
    left : (k : ℕ) → k ≤ 12 → 12 - (12 - k) ≡ k
    left k within = omega arith

flat_value : (n : ℕ) → value_before_issue flat_annuity (payment_plan flat_annuity) (suc n) ≡ whole (pos 384)
flat_value n = ap (λ x. x +ℚ whole (pos 0)) (months-left n 12) ∙ ring [] (hlevel terms) refl

exactly_384 : IsBetween (pos 384000000) (pos 384000000) (10 ^ 6) (whole (pos 384))
unfolding ◌+ℚ◌ ◌*ℚ◌ ◌-ℚ◌ opposite is_not_negative
exactly_384 = record { at_least = record { le = refl }; at_most = record { le = refl } }

pub flat_value_holds : FlatValueHolds
flat_value_holds zero least = absurd (omega arith)
flat_value_holds (suc n) least = rw (flat_value n) exactly_384

pub lump_at_the_term : LumpAtTheTerm
lump_at_the_term n = (refl, flat_months_add_up 1 n 0 (pos 0) (lump_on 1 (pos 100)) ∙ ring [] (hlevel terms) refl)

issue_without_lump : (n : ℕ) → number_at (first_before_term (cells_of_32 Backward)
    (steady_product 1 (pos 0) (lump_on 0 (pos 50))) (payment_plan (steady_product 1 (pos 0) (lump_on 0 (pos 50))))
    (suc n) 1) 0 ≡ whole (pos 0)
issue_without_lump n = flat_months_add_up 1 n 0 (pos 0) (lump_on 0 (pos 50)) ∙ ring [] (hlevel terms) refl

pub lump_at_issue : LumpAtIssue
lump_at_issue n = (
  issue_without_lump n,
  ap (λ x. x +ℚ whole (pos 50)) (issue_without_lump n) ∙ ring [] (hlevel terms) refl,
)

too_high : ¬ (whole (pos 384000001) ≤ℚ whole (pos (10 ^ 6)) *ℚ whole (pos 384))
unfolding ◌+ℚ◌ ◌*ℚ◌ ◌-ℚ◌ opposite is_not_negative
too_high h = false≢true h.le

pub higher_value_does_not_hold : HigherValueDoesNotHold
higher_value_does_not_hold least holds =
    let between : IsBetween (pos 384000001) (pos 384000002) (10 ^ 6)
    (value_before_issue flat_annuity (payment_plan flat_annuity) (suc least)) =
    holds (suc least) (omega arith) in
    too_high (subst (λ x. whole (pos 384000001) ≤ℚ whole (pos (10 ^ 6)) *ℚ x) (flat_value least) between.at_least)
