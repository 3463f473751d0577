-- Runs of one state without interest and transitions: what is paid adds up, in every degree from 1 on.
use Rattle.std.specs.Prelude.{◌≡◌, ℕ, suc, ◌-◌, ◌≤◌, ℤ, pos, List, [], ◌∷◌}
use Rattle.frac_laws.specs.Fraction.{whole, over, ◌+ℚ◌, ◌*ℚ◌}
use Rattle.frac_laws.specs.Lists.{number_at}
use Rattle.model_specs.specs.Product.{Product, Lump}
use Rattle.model_specs.specs.Payments.{payment_plan, lump_at}
use Rattle.model_specs.specs.Cells.{Backward, cells_of_32}
use Rattle.model_specs.specs.Runs.{reserve, first_before_term, value_before_issue}
use Rattle.model_specs.specs.Rows.{Value, Holds}
use Rattle.model_laws.specs.Examples.{one_state, steady, flat_annuity, lump_on}

-- a state in which an amount a year is paid, and lumps
abbrev pub steady_product : ℕ → ℤ → List Lump → Product
steady_product months amount lumps = one_state months 1 (pos 0) (steady 0 amount ∷ []) lumps

-- a month back adds the lump of its end and a twelfth of the amount
abbrev pub FlatMonthsAddUp : Type 0
FlatMonthsAddUp = (months n k : ℕ) (amount : ℤ) (lumps : List Lump) →
    let product = steady_product months amount lumps in
    let plan = payment_plan product in
    number_at (first_before_term (cells_of_32 Backward) product plan (suc n) (suc k)) 0
    ≡ number_at (first_before_term (cells_of_32 Backward) product plan (suc n) k) 0
    +ℚ whole (lump_at plan (suc (months - suc k)) 0) +ℚ over amount 12

-- 384 a year is worth 32 for each month that is left
abbrev pub FlatReserves : Type 0
FlatReserves = (n k : ℕ) → k ≤ 12
    → reserve flat_annuity (payment_plan flat_annuity) (suc n) (12 - k) 0 ≡ whole (pos k) *ℚ whole (pos 32)

-- so the row that says exactly 384 of the value holds from degree 1 on
abbrev pub FlatValueHolds : Type 0
FlatValueHolds =
    Holds (record { kind = Value; month = 0; state = 0; lo = pos 384000000; hi = pos 384000000 })
    flat_annuity 1

-- a row that says a millionth more holds from no degree on
abbrev pub HigherValueDoesNotHold : Type 0
HigherValueDoesNotHold = (least : ℕ) → ¬ Holds
    (record { kind = Value; month = 0; state = 0; lo = pos 384000001; hi = pos 384000002 }) flat_annuity least

-- 100 after a month, without interest: the reserve at its date does not have it, and the one before does
abbrev pub LumpAtTheTerm : Type 0
LumpAtTheTerm = (n : ℕ) →
    let product = steady_product 1 (pos 0) (lump_on 1 (pos 100)) in
    (reserve product (payment_plan product) (suc n) 1 0 ≡ whole (pos 0))
    × (reserve product (payment_plan product) (suc n) 0 0 ≡ whole (pos 100))

-- 50 at issue: the reserve at issue does not have it, and the value just before issue does
abbrev pub LumpAtIssue : Type 0
LumpAtIssue = (n : ℕ) →
    let product = steady_product 1 (pos 0) (lump_on 0 (pos 50)) in
    (reserve product (payment_plan product) (suc n) 0 0 ≡ whole (pos 0))
    × (value_before_issue product (payment_plan product) (suc n) ≡ whole (pos 50))
