-- Two months before the term, one after the other.
use Rattle.std.specs.Prelude.{◌≡◌, ℕ, suc, ◌-◌, [], ◌∷◌}
use Rattle.std.proofs.Common.{ap, ◌∙◌}
use mathlib.Core.Path.{ap₂}
use Rattle.frac_laws.specs.Fraction.{Fraction}
use Rattle.frac_laws.specs.Lists.{Vector, add_lists}
use Rattle.cell_laws.specs.Systems.{taylor_value}
use Rattle.model_specs.specs.Product.{Product}
use Rattle.model_specs.specs.Payments.{Plan}
use Rattle.model_specs.specs.Cells.{Backward, whole_months, cell_curves}
use Rattle.model_specs.specs.Systems.{thiele_system}
use Rattle.model_specs.specs.Runs.{lump_vector}
use Rattle.charge_laws.specs.ChargeInstances.{reserves_before}

-- two lists of two numbers are one where the numbers are
pub two : {a b x y : Fraction} → a ≡ x → b ≡ y → ◌≡◌ {A = Vector} (a ∷ b ∷ []) (x ∷ y ∷ [])
two p q = ap₂ (λ x y. x ∷ y ∷ []) p q

-- the vector with a date's lumps, and the month before
abbrev pub with_lumps : Product → Plan → (date : ℕ) → Vector → Vector
with_lumps product plan date v = add_lists v (lump_vector product plan date)

abbrev pub month_before : Product → Plan → (month : ℕ) → Vector → Vector
month_before product plan month v =
    taylor_value (thiele_system (cell_curves (whole_months Backward) product plan month 0)) v 2

-- the lumps of the term, its last month, the lumps of that month's start, and the month before
pub two_months : (product : Product) (plan : Plan) (at_term at_end lumped at_start : Vector)
    → with_lumps product plan (suc (product.months - 1)) (reserves_before product plan 0) ≡ at_term
    → month_before product plan (product.months - 1) at_term ≡ at_end
    → with_lumps product plan (suc (product.months - 2)) at_end ≡ lumped
    → month_before product plan (product.months - 2) lumped ≡ at_start
    → reserves_before product plan 2 ≡ at_start
two_months product plan at_term at_end lumped at_start lumps last more first =
    ap (λ v. month_before product plan (product.months - 2)
    (with_lumps product plan (suc (product.months - 2)) (month_before product plan (product.months - 1) v))) lumps
    ∙ ap (λ v. month_before product plan (product.months - 2)
    (with_lumps product plan (suc (product.months - 2)) v)) last
    ∙ ap (month_before product plan (product.months - 2)) more ∙ first
