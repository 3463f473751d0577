-- What the interval of a state encloses.
use Rattle.std.specs.Prelude.{◌≡◌, ℕ, pos, ◌+◌, ◌-◌, ◌*◌, ◌^◌, ◌<◌, ◌≤◌, ℤ, ◌+ℤ◌, ◌-ℤ◌, ◌*ℤ◌, List, [], ◌∷◌}
use Rattle.std.specs.Prelude.{length}
use Rattle.std.specs.Prelude.{slice_index_or}
use Rattle.std.proofs.Common.{refl, ap, sym, subst, ◌∙◌, arith}
use Rattle.std.proofs.lemmas.Int.{ints}
use Rattle.frac_laws.specs.Fraction.{Fraction, over, whole, size, ◌+ℚ◌, ◌-ℚ◌, ◌*ℚ◌, ◌≤ℚ◌}
use Rattle.frac_laws.specs.Lists.{Vector, number_at}
use Rattle.frac_laws.proofs.FractionTerms.{ring, terms}
use Rattle.frac_laws.proofs.Linear.{linear, claims}
use Rattle.frac_laws.proofs.Order.{le_trans, le_of_equal}
use Rattle.frac_laws.proofs.Quotients.{over_add, over_is, whole_mul, inverse}
use Rattle.model_specs.specs.Cells.{Backward, cells_of_32}
use Rattle.model_specs.specs.Ledgers.{scale}
use Rattle.model_specs.specs.Runs.{first_before_term, reserve}
use Rattle.fixed_interval.specs.Intervals.{LiesInside}
use Rattle.fixed_interval.specs.declared.interval.Interval.{Interval}
use Rattle.linear_system.specs.StoredSystem.{StoredSystem}
use Rattle.moment_laws.specs.RunsFrom.{first_from}
use Rattle.moment_laws.proofs.ReserveLedger.{runs_go_on}
use Rattle.product_cells.specs.EachCell.{plan_scaling}
use Rattle.thiele_backward.specs.MonthRuns.{IsNearAt}
use Rattle.thiele_backward.specs.Sweeps.{Beginning, BackwardSweep, at_term, plan_in, IsStart, values_from, spare_units}
use Rattle.thiele_backward.specs.Sweeps.{spare_of, KeepsRuns}
use Rattle.thiele_backward.proofs.StateValues.{state_near, unscaled, spare_within, zeros_near}

-- what the interval round a midpoint promises
abbrev pub Spares : ℤ → (rad g : ℕ) → Interval → Type 0
Spares mid rad g i = (x : Fraction) (near : ℕ) → near ≤ rad
    → size (x -ℚ over mid (2 ^ 64)) ≤ℚ over (pos near) (2 ^ 64)
    → LiesInside ((rad - near) * 2 ^ g) (whole (pos (2 ^ g)) *ℚ x) i

-- at a state a sweep's interval encloses the values of each run that it tells of
abbrev pub EnclosesValues : BackwardSweep → ℕ → Interval → Type 0
EnclosesValues s state i = (n : ℕ) (v : Vector) → s.degree ≤ n → IsStart s v
    → LiesInside (spare_of s) (number_at (values_from s n v) state) i

module _ (s : BackwardSweep) (g rad : ℕ) (system : StoredSystem) (work : ℕ) (mid : List ℤ)
    (kept : KeepsRuns s g rad system work mid) (state : ℕ) (inside : state < length s.product.states)
    (i : Interval) where
  pub encloses_values : Spares (slice_index_or mid state (pos 0)) rad g i → EnclosesValues s state i
  encloses_values spares n v from start =
      let product = s.product in
      let plan = plan_in s in
      let near = rad - spare_units s in
      let value = number_at (values_from s n v) state in
      let z = slice_index_or mid state (pos 0) in
      let here : LiesInside ((rad - near) * 2 ^ scale product plan)
      (whole (pos (2 ^ scale product plan)) *ℚ (plan_scaling product plan *ℚ value)) i =
      subst (λ q. Spares z rad q i) kept.scale_is spares (plan_scaling product plan *ℚ value) near (omega arith)
      (state_near product plan near (values_from s n v) mid state (kept.near n v from start)
      (rw kept.long inside)) in
      subst (λ k. LiesInside (k * 2 ^ scale product plan) value i)
      (spare_within product s.begun.months_left s.months_left rad kept.radius_is kept.begun)
      (subst (λ x. LiesInside ((rad - near) * 2 ^ scale product plan) x i) (unscaled (scale product plan) value) here)

-- from the term the values are the reserves
values-reserve : (s : BackwardSweep) (n : ℕ) → s.begun ≡ at_term s.product
    → values_from s n (first_before_term (cells_of_32 Backward) s.product (plan_in s) n 0)
    ≡ first_before_term (cells_of_32 Backward) s.product (plan_in s) n (s.product.months - s.months_left)
values-reserve s n is =
    let product = s.product in
    let plan = plan_in s in
    let zeros = first_before_term (cells_of_32 Backward) product plan n 0 in
    let more = product.months - s.months_left in
    let values : Beginning → Vector = λ b.
    first_from product plan n (product.months - b.months_left) zeros (b.months_left - s.months_left) in
    let none : product.months - product.months ≡ 0 = omega arith in
    let sum : 0 + more ≡ more = omega arith in
    ap values is ∙ ap (λ k. first_from product plan n k zeros more) none ∙ runs_go_on product plan n 0 more
    ∙ ap (first_before_term (cells_of_32 Backward) product plan n) sum

pub encloses_reserves : (s : BackwardSweep) (state : ℕ) (i : Interval) → EnclosesValues s state i
    → s.begun ≡ at_term s.product → (n : ℕ) → s.degree ≤ n
    → LiesInside (spare_of s) (reserve s.product (plan_in s) n s.months_left state) i
encloses_reserves s state i values is n from =
    let zeros = first_before_term (cells_of_32 Backward) s.product (plan_in s) n 0 in
    subst (λ (y : Vector). LiesInside (spare_of s) (number_at y state) i) (values-reserve s n is)
    (values n zeros from
    (subst (λ (b : Beginning). IsNearAt s.product (plan_in s) b.months_left b.numbers zeros) (sym is)
    (zeros_near s.product (plan_in s) n)))

-- a whole number of minor units
whole_units : (l : ℤ) → over (l *ℤ pos (2 ^ 64)) (2 ^ 64) ≡ whole l
whole_units l =
    over_is (l *ℤ pos (2 ^ 64)) (2 ^ 64) ∙ ap (λ x. x *ℚ over (pos 1) (2 ^ 64)) (whole_mul l (pos (2 ^ 64)))
    ∙ join (whole l) (whole (pos (2 ^ 64))) (over (pos 1) (2 ^ 64)) (inverse (2 ^ 64) (omega arith))
  where
    join : (x d u : Fraction) → d *ℚ u ≡ whole (pos 1) → (x *ℚ d) *ℚ u ≡ x
    join x d u is =
        ring (x ∷ d ∷ u ∷ []) (hlevel terms) refl ∙ ap (λ y. x *ℚ y) is ∙ ring (x ∷ []) (hlevel terms) refl

-- moved by so many minor units
pub moved : (spare : ℕ) (x : Fraction) (l : ℤ) (i j : Interval) → j.lo ≡ i.lo +ℤ (l *ℤ pos (2 ^ 64))
    → j.hi ≡ i.hi +ℤ (l *ℤ pos (2 ^ 64)) → LiesInside spare x i → LiesInside spare (x +ℚ whole l) j
moved spare x l i j low high inside =
    let lo : j.lo +ℤ pos spare ≡ (i.lo +ℤ pos spare) +ℤ (l *ℤ pos (2 ^ 64)) = omega (arith, ints, low) in
    let hi : j.hi -ℤ pos spare ≡ (i.hi -ℤ pos spare) +ℤ (l *ℤ pos (2 ^ 64)) = omega (arith, ints, high) in
    record {
      at_least = le_trans (le_of_equal (ap (λ (z : ℤ). over z (2 ^ 64)) lo ∙ more (i.lo +ℤ pos spare)))
          (linear (over (i.lo +ℤ pos spare) (2 ^ 64) ∷ x ∷ whole l ∷ []) inside.at_least (hlevel claims) refl);
      at_most = le_trans
          (linear (over (i.hi -ℤ pos spare) (2 ^ 64) ∷ x ∷ whole l ∷ []) inside.at_most (hlevel claims) refl)
          (le_of_equal (sym (ap (λ (z : ℤ). over z (2 ^ 64)) hi ∙ more (i.hi -ℤ pos spare))));
    }
  where
    more : (z : ℤ) → over (z +ℤ (l *ℤ pos (2 ^ 64))) (2 ^ 64) ≡ over z (2 ^ 64) +ℚ whole l
    more z = over_add z (l *ℤ pos (2 ^ 64)) (2 ^ 64) ∙ ap (λ y. over z (2 ^ 64) +ℚ y) (whole_units l)
