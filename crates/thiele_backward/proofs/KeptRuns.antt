-- What a sweep keeps when it begins, and over a month.
use Rattle.std.specs.Prelude.{◌≡◌, ℕ, suc, pos, ◌-◌, ◌*◌, ◌^◌, ◌<◌, ◌≤◌, max, ℤ, List, length, replicate}
use Rattle.std.specs.Prelude.{unsigned_abs, ◌==◌}
use Rattle.std.specs.Prelude.{unwrap_or, option_map, find, take, drop, ◌++◌}
use Rattle.std.proofs.lemmas.List.{take_at}
use Rattle.std.proofs.Common.{ap, sym, subst, ◌∙◌, arith}
use mathlib.Core.Path.{ap₂}
use Rattle.named_numbers.specs.Numbers.{highest_degree}
use Rattle.model_specs.specs.Product.{Product}
use Rattle.model_specs.specs.Payments.{Plan, lump_at, lumps_at}
use Rattle.model_specs.specs.Ledgers.{scale, radius}
use Rattle.model_specs.specs.ValuationRules.{IsAdmissible}
use Rattle.frac_laws.specs.Lists.{scale_list}
use Rattle.linear_system.specs.Setting.{HaveSamePlaces}
use Rattle.linear_system.specs.StoredSystem.{StoredSystem}
use Rattle.model_specs.specs.Cells.{Backward, cells_of_32}
use Rattle.model_specs.specs.Runs.{first_before_term}
use Rattle.taylor_step.specs.CanStep.{AreAtMost}
use Rattle.product_cells.specs.EachCell.{plan_scaling}
use Rattle.payment_plan.specs.declared.pattern.Which.{Which}
use Rattle.payment_plan.specs.Payments.{Payments, plan_of}
use Rattle.product_model.specs.Views.{payments_of}
use Rattle.rate_bounds.specs.MonthPay.{plan_named}
use Rattle.rate_bounds.proofs.PaySteps.{plan_is}
use Rattle.cell_coeffs.specs.Rows.{IsMadeForFirst}
use Rattle.cell_coeffs.proofs.DateLumps.{lump-found}
use Rattle.cell_coeffs.proofs.RowSteps.{made_kept}
use Rattle.thiele_backward.specs.MonthRuns.{IsNearAt, HasSome, EnclosesMonth}
use Rattle.thiele_backward.specs.Sweeps.{BackwardSweep, begun_sweep, month_earlier, plan_in, values_from}
use Rattle.thiele_backward.specs.Sweeps.{spare_units, width_of, KeepsRuns}
use Rattle.thiele_backward.proofs.MonthSteps.{begun_within, four_named}
use Rattle.thiele_backward.proofs.LumpedNumbers.{lump_small}
use Rattle.thiele_backward.proofs.NearNumbers.{mid_most}
use Rattle.thiele_backward.proofs.StateValues.{zeros_near}
use Rattle.thiele_backward.proofs.SweepSteps.{near_at_first, some_before, near_after, may_go_on}

pub keeps_begun : (product : Product) (which : Which) (date g rad : ℕ) (system : StoredSystem) (work : ℕ)
    (numbers : List ℤ) → IsAdmissible product → date ≤ product.months → g ≡ scale product (plan_named which product)
    → g ≤ 56 → rad ≡ radius product date → rad < 2 ^ 39 → IsMadeForFirst product system
    → work ≡ length product.states → length numbers ≡ length product.states
    → HasSome (IsNearAt product (plan_named which product) date numbers)
    → KeepsRuns (begun_sweep product which (record { months_left = date; numbers = numbers })) g rad system work numbers
keeps_begun product which date g rad system work numbers admissible within scale_is scale_most radius_is radius_most
    made work_is long some = record {
      admissible = admissible;
      begun = within;
      left = omega arith;
      least = omega arith;
      highest = omega arith;
      scale_is = scale_is;
      scale_most = scale_most;
      radius_is = radius_is;
      radius_most = radius_most;
      made = made;
      room = work_is;
      long = long;
      start = some;
      near = λ n v from start. near_at_first product (plan_named which product) date rad n numbers v radius_is start;
    }

module _ (s : BackwardSweep) (g rad : ℕ) (system : StoredSystem) (work : ℕ) (mid : List ℤ)
    (kept : KeepsRuns s g rad system work mid) (month : ℕ) (month_is : s.months_left ≡ suc month) where
  pub month_inside : month < s.product.months
  month_inside = omega (arith, kept.begun, kept.left, month_is)

  -- some run is near the numbers at the month's end
  pub some_near : HasSome (IsNearAt s.product (plan_in s) (suc month) mid)
  some_near = some_before s rad mid mid kept.admissible kept.begun kept.left kept.radius_is kept.least kept.near month
      month_is kept.start

  pub keeps_month : (answered rad_after work_after : ℕ) (after : StoredSystem) (new : List ℤ)
      → EnclosesMonth s.product (plan_in s) month answered mid new → answered ≤ highest_degree
      → rad_after ≡ radius s.product month → rad_after < 2 ^ 39 → HaveSamePlaces system after → work_after ≡ work
      → length new ≡ length mid → KeepsRuns (month_earlier s answered) g rad_after after work_after new
  keeps_month answered rad_after work_after after new encloses most radius_is radius_most places same long = record {
    admissible = kept.admissible;
    begun = kept.begun;
    left = omega (arith, kept.left);
    least = omega (arith, kept.least);
    highest = omega (arith, kept.highest, most);
    scale_is = kept.scale_is;
    scale_most = kept.scale_most;
    radius_is = radius_is ∙ ap (radius s.product) (omega (arith, month_is));
    radius_most = radius_most;
    made = made_kept s.product _ _ places kept.made;
    room = same ∙ kept.room;
    long = long ∙ kept.long;
    start = kept.start;
    near = rw radius_is (near_after s rad mid new kept.admissible kept.begun kept.left kept.radius_is kept.least
        kept.near month month_is answered encloses);
  }

  pub keeps_month_of : (product : Product) (before : List ℤ) → product ≡ s.product → before ≡ mid
      → (answered top rad_after work_after : ℕ) (after : StoredSystem) (new : List ℤ)
      → EnclosesMonth product (plan_named s.which product) month answered before new → answered ≤ highest_degree
      → top ≡ max s.degree answered → rad_after ≡ radius product month → rad_after < 2 ^ 39
      → HaveSamePlaces system after → work_after ≡ work → length new ≡ length before
      → KeepsRuns (record {
        product = s.product;
        which = s.which;
        begun = s.begun;
        months_left = month;
        degree = top;
      }) g rad_after after work_after new
  keeps_month_of product before product_is before_is answered top rad_after work_after after new encloses most is_top
      radius_is radius_most places same long =
      let earlier : s.months_left - 1 ≡ month = omega (arith, month_is) in
      let kept_here = keeps_month answered rad_after work_after after new
      (subst (λ (m : List ℤ). EnclosesMonth s.product (plan_in s) month answered m new) before_is
      (subst (λ (p : Product). EnclosesMonth p (plan_named s.which p) month answered before new) product_is encloses))
      most (radius_is ∙ ap (λ (p : Product). radius p month) product_is) radius_most places same
      (long ∙ ap length before_is) in
      let Kept : ℕ → ℕ → Type 0 = λ m d. KeepsRuns (record {
        product = s.product;
        which = s.which;
        begun = s.begun;
        months_left = m;
        degree = d;
      }) g rad_after after work_after new in
      subst (λ m. Kept m top) earlier (subst (λ d. Kept (s.months_left - 1) d) (sym is_top) kept_here)

-- the numbers fit, since some run is near them
pub numbers_most : (s : BackwardSweep) (g rad : ℕ) (system : StoredSystem) (work : ℕ) (mid : List ℤ)
    → KeepsRuns s g rad system work mid → AreAtMost (2 ^ 65) mid
numbers_most s g rad system work mid kept =
    let product = s.product in
    let plan = plan_in s in
    let v = kept.start.values in
    let left = product.months - s.months_left in
    let begins = may_go_on product plan s.degree (product.months - s.begun.months_left) v kept.start.has.begins
    kept.admissible (four_named s.which product kept.admissible) (omega (arith, kept.least))
    (s.begun.months_left - s.months_left) left (omega (arith, kept.begun, kept.left)) (omega arith) in
    mid_most (scale_list (plan_scaling product plan) (values_from s s.degree v)) mid (rad - spare_units s)
    (begun_within product plan left (values_from s s.degree v) (omega arith) begins)
    (kept.near s.degree v (omega arith) kept.start.has) (omega (arith, kept.radius_most))

-- how wide its intervals are
pub width-is : (s : BackwardSweep) (g rad : ℕ) (system : StoredSystem) (work : ℕ) (mid : List ℤ)
    → KeepsRuns s g rad system work mid → 2 * rad * 2 ^ g ≡ width_of s
width-is s g rad system work mid kept = ap₂ (λ r q. 2 * r * 2 ^ q) kept.radius_is kept.scale_is

-- zeros at the term
pub some_at_term : (which : Which) (product : Product) (date : ℕ) (numbers : List ℤ) → date ≡ product.months
    → numbers ≡ replicate (length product.states) (pos 0)
    → HasSome (IsNearAt product (plan_named which product) date numbers)
some_at_term which product date numbers is_term are = rw (is_term, are) (record {
  values = first_before_term (cells_of_32 Backward) product (plan_named which product) 0 0;
  has = zeros_near product (plan_named which product) 0;
})

-- the lump of a state at a sweep's date
module _ (s : BackwardSweep) (g rad : ℕ) (system : StoredSystem) (work : ℕ) (mid : List ℤ)
    (kept : KeepsRuns s g rad system work mid) (state : ℕ) (inside : state < length s.product.states) where
  pub state_lump_small : unsigned_abs (lump_at (plan_in s) s.months_left state) ≤ 2 ^ 56
  state_lump_small = lump_small s.product (plan_in s) g s.months_left state kept.scale_is kept.scale_most
      (omega (arith, kept.begun, kept.left)) inside

  pub state_lump : (p : Payments) (lumps : List (ℕ × ℤ)) → p ≡ payments_of s.product
      → lumps ≡ lumps_at p.states (plan_of s.which p) s.months_left
      → unwrap_or (option_map (λ (lump : ℕ × ℤ). lump.1) (find (λ lump. lump.0 == state) lumps)) (pos 0)
      ≡ lump_at (plan_in s) s.months_left state
  state_lump p lumps is are =
      let here = are ∙ ap (λ (q : Payments). lumps_at q.states (plan_of s.which q) s.months_left) is
      ∙ ap (λ (plan : Plan). lumps_at (length s.product.states) plan s.months_left) (plan_is s.which s.product) in
      rw here (lump-found (length s.product.states) (plan_in s) s.months_left state inside)

-- numbers that were written through a slice of all of them
pub keeps_written : (s : BackwardSweep) (g rad : ℕ) (system : StoredSystem) (work count : ℕ) (new items : List ℤ)
    → length new ≡ count → KeepsRuns s g rad system work new
    → KeepsRuns s g rad system work (take count (new ++ drop (length new) items))
keeps_written s g rad system work count new items long kept = subst (λ (m : List ℤ). KeepsRuns s g rad system work m)
    (sym (take_at new (drop (length new) items) count long)) kept
