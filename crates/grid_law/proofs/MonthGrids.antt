-- From reserves with a unit to spare to those by whole months.
use Rattle.std.proofs.Common.{◌≡◌, ℕ, ◌-◌, ◌*◌, ◌/◌, ◌^◌, ◌<◌, ◌≤◌, pos, min, [], ◌∷◌}
use Rattle.std.proofs.Common.{refl, ap, sym, subst, ◌∙◌, inl, inr, arith}
use Rattle.std.proofs.lemmas.Bool.{cases_lt}
use Rattle.std.proofs.Math.Nat.{div-add-mod, mul-le-mul}
use Rattle.frac_laws.specs.Fraction.{Fraction, whole, size, ◌-ℚ◌, ◌≤ℚ◌}
use Rattle.frac_laws.proofs.FractionTerms.{ring, terms}
use Rattle.frac_laws.proofs.Linear.{natural}
use Rattle.frac_laws.proofs.Norms.{size_zero}
use Rattle.frac_laws.proofs.Order.{le_of_lt, le_of_equal, le_trans}
use Rattle.fixed_interval.specs.declared.tables.Table.{Table}
use Rattle.fixed_interval.specs.Tables.{IsAnsweredDegree}
use Rattle.model_specs.specs.Product.{Product}
use Rattle.model_specs.specs.Payments.{payment_plan}
use Rattle.model_specs.specs.Ledgers.{scale}
use Rattle.model_specs.specs.Runs.{reserve, month_grid_reserve}
use Rattle.model_specs.specs.ValuationRules.{IsAdmissible}
use Rattle.thiele_backward.specs.Results.{HoldAroundReserves, spare_at}
use Rattle.month_grid.specs.MonthGridLaws.{month_grid_degree, MonthGridIsWithinAUnit, MonthGridMeetsAtTheTerm}
use Rattle.grid_law.specs.MonthReserves.{HoldMonthGrid}

-- how far both runs are apart at a date
abbrev apart : Product → (n date state : ℕ) → Fraction
apart product n date state = size (month_grid_reserve product (payment_plan product) n date state
    -ℚ reserve product (payment_plan product) n date state)

-- no further than the ends leave free
near_before_term : (product : Product) (n date state : ℕ) → MonthGridIsWithinAUnit → IsAdmissible product
    → month_grid_degree ≤ n → date < product.months → apart product n date state ≤ℚ spare_at product date
near_before_term product n date state unit admissible high before =
    let some : min 1 (product.months - date) ≡ 1 = omega arith in
    rw (some, one_times (2 ^ scale product (payment_plan product)))
    (le_of_lt ((unit product n admissible high).0 date state (omega arith)))
  where
    one_times : (n : ℕ) → 1 * n ≡ n
    one_times n = omega arith

near_at_term : (product : Product) (n date state : ℕ) → MonthGridMeetsAtTheTerm → date ≡ product.months
    → apart product n date state ≤ℚ spare_at product date
near_at_term product n date state meets is =
    let v = reserve product (payment_plan product) n product.months state in
    subst (λ d. apart product n d state ≤ℚ spare_at product d) (sym is)
    (le_trans (le_of_equal (ap (λ x. size (x -ℚ reserve product (payment_plan product) n product.months state))
    (meets product (payment_plan product) n state)
    ∙ ap size (nothing (reserve product (payment_plan product) n product.months state)) ∙ size_zero))
    (natural (min 1 (product.months - product.months) * 2 ^ scale product (payment_plan product)) (2 ^ 64)))
  where
    nothing : (x : Fraction) → x -ℚ x ≡ whole (pos 0)
    nothing x = ring (x ∷ []) (hlevel terms) refl

date_in_term : (k every months : ℕ) → k ≤ months / every → k * every ≤ months
date_in_term k every months last =
    let all : k * every ≤ months / every * every = mul-le-mul last (omega arith) in
    omega (arith, div-add-mod months every, all)

pub months_held : (product : Product) (every : ℕ) (t : Table) → MonthGridIsWithinAUnit → MonthGridMeetsAtTheTerm
    → IsAdmissible product → IsAnsweredDegree t.degree → HoldAroundReserves product every t
    → HoldMonthGrid product every t
months_held product every t unit meets admissible answered around k state n last inside high =
    let date = k * every in
    let within = date_in_term k every product.months last in
    around k state last inside n (month_grid_reserve product (payment_plan product) n (k * every) state)
    (omega (arith, answered.highest, high))
    (elim (cases_lt (k * every) product.months) [
      | inl before ↦ near_before_term product n (k * every) state unit admissible high before
      | inr reached ↦ near_at_term product n (k * every) state meets (omega (arith, within, reached))
    ])
