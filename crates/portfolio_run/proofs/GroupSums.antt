-- Sums of a group over holdings, one by one.
use Rattle.std.proofs.Common.{◌≡◌, ◌≢◌, ℕ, ◌+◌, ◌*◌, ◌^◌, ◌≤◌, ℤ, pos, ◌+ℤ◌, ◌*ℤ◌, ◌≤ℤ◌, true, false, List, [], ◌∷◌}
use Rattle.std.proofs.Common.{◌++◌, length, slice_get, Some, refl, sym, ap, subst, ◌∙◌, arith, eq-eqb}
use Rattle.std.specs.Prelude.{◌==◌, unsigned_abs}
use Rattle.std.proofs.lemmas.Bool.{ne_eqb}
use Rattle.std.proofs.lemmas.Int.{ints, unsigned_abs-mul}
use Rattle.std.proofs.lemmas.List.{length_push}
use Rattle.std.proofs.lemmas.List.Sums.{fold_push}
use Rattle.std.proofs.lemmas.Option.{get_or_from_slice_get, slice_get_within}
use Rattle.std.proofs.Math.Nat.{mul-le-mul}
use Rattle.frac_laws.specs.Fraction.{Fraction, whole, ◌+ℚ◌, ◌*ℚ◌, ◌≤ℚ◌}
use Rattle.frac_laws.proofs.Linear.{linear, claims, natural, ◌⊞◌, ◌⊠◌}
use Rattle.frac_laws.proofs.Quotients.{whole_add, whole_mul, whole_le, le_of_whole}
use Rattle.fixed_interval.specs.Printing.{LiesBetween}
use Rattle.claim_audit.specs.Audits.{reserve_at, tolerance_at}
use Rattle.portfolio_run.specs.declared.policies.Policy.{Policy}
use Rattle.portfolio_run.specs.declared.sums.Sum.{Sum}
use Rattle.portfolio_run.specs.declared.valued.Reserve.{Reserve}
use Rattle.portfolio_run.specs.Names.{place_in}
use Rattle.portfolio_run.specs.Sums.{IsSum, kept_tolerance, kept_value, sum_where, total_where}
use Rattle.portfolio_run.specs.Sums.{tolerance_by, value_by}
use Rattle.portfolio_run.specs.Values.{IsReserve, ValuedProduct}
use Rattle.whole_laws.proofs.Numbers.{size_of_sum}

-- ---- a number and so many times another one

-- as a fraction
whole_plus : (a r s : ℤ) (c : ℕ) → s ≡ a +ℤ (pos c *ℤ r) → whole s ≡ whole a +ℚ whole (pos c) *ℚ whole r
whole_plus a r s c is = ap whole is ∙ whole_add a (pos c *ℤ r) ∙ ap (λ x. whole a +ℚ x) (whole_mul (pos c) r)

lower : (lo r low : ℤ) (c : ℕ) (s x : Fraction) → low ≡ lo +ℤ (pos c *ℤ r) → whole lo ≤ℚ whole (pos (10 ^ 6)) *ℚ s
    → whole r ≤ℚ whole (pos (10 ^ 6)) *ℚ x → whole low ≤ℚ whole (pos (10 ^ 6)) *ℚ (s +ℚ whole (pos c) *ℚ x)
lower lo r low c s x is below_s below_x =
    subst (λ l. l ≤ℚ whole (pos (10 ^ 6)) *ℚ (s +ℚ whole (pos c) *ℚ x)) (sym (whole_plus lo r low c is))
    (linear (whole lo ∷ whole (pos c) ∷ whole r ∷ s ∷ x ∷ []) (below_s ⊞ natural c 1 ⊠ below_x) (hlevel claims) refl)

upper : (hi r high : ℤ) (c : ℕ) (s x : Fraction) → high ≡ hi +ℤ (pos c *ℤ r) → whole (pos (10 ^ 6)) *ℚ s ≤ℚ whole hi
    → whole (pos (10 ^ 6)) *ℚ x ≤ℚ whole r → whole (pos (10 ^ 6)) *ℚ (s +ℚ whole (pos c) *ℚ x) ≤ℚ whole high
upper hi r high c s x is above_s above_x =
    subst (λ h. whole (pos (10 ^ 6)) *ℚ (s +ℚ whole (pos c) *ℚ x) ≤ℚ h) (sym (whole_plus hi r high c is))
    (linear (whole hi ∷ whole (pos c) ∷ whole r ∷ s ∷ x ∷ []) (above_s ⊞ natural c 1 ⊠ above_x) (hlevel claims) refl)

-- the widths add up
wide : (lo hi low high r_lo r_hi : ℤ) (tol r_tol c : ℕ) → low ≡ lo +ℤ (pos c *ℤ r_lo)
    → high ≡ hi +ℤ (pos c *ℤ r_hi) → hi ≤ℤ (lo +ℤ pos tol) → r_hi ≤ℤ (r_lo +ℤ pos r_tol)
    → high ≤ℤ (low +ℤ pos (tol + c * r_tol))
wide lo hi low high r_lo r_hi tol r_tol c low_is high_is narrow r_narrow =
    let first = subst (λ x. whole hi ≤ℚ x) (whole_add lo (pos tol)) (whole_le narrow) in
    let more = subst (λ x. whole r_hi ≤ℚ x) (whole_add r_lo (pos r_tol)) (whole_le r_narrow) in
    let tolerances : whole (pos (tol + c * r_tol)) ≡ whole (pos tol) +ℚ whole (pos c) *ℚ whole (pos r_tol) =
    whole_add (pos tol) (pos (c * r_tol)) ∙ ap (λ x. whole (pos tol) +ℚ x) (whole_mul (pos c) (pos r_tol)) in
    let sums : whole hi +ℚ whole (pos c) *ℚ whole r_hi ≤ℚ whole lo +ℚ whole (pos c) *ℚ whole r_lo
    +ℚ (whole (pos tol) +ℚ whole (pos c) *ℚ whole (pos r_tol)) =
    linear (whole lo ∷ whole hi ∷ whole r_lo ∷ whole r_hi ∷ whole (pos tol) ∷ whole (pos r_tol) ∷ whole (pos c) ∷ [])
    (first ⊞ natural c 1 ⊠ more) (hlevel claims) refl in
    le_of_whole (subst (λ x. x ≤ℚ whole (low +ℤ pos (tol + c * r_tol))) (sym (whole_plus hi r_hi high c high_is))
    (subst (λ x. whole hi +ℚ whole (pos c) *ℚ whole r_hi ≤ℚ x)
    (sym (whole_add low (pos (tol + c * r_tol)) ∙ ap (λ x. x +ℚ whole (pos (tol + c * r_tol)))
    (whole_plus lo r_lo low c low_is)
    ∙ ap (λ x. whole lo +ℚ whole (pos c) *ℚ whole r_lo +ℚ x) tolerances)) sums))

-- and the sizes
size_more : (a r s : ℤ) (c k : ℕ) → s ≡ a +ℤ (pos c *ℤ r) → c ≤ 10 ^ 6 → unsigned_abs r ≤ 2 ^ 79
    → unsigned_abs a ≤ k * 2 ^ 99 → unsigned_abs s ≤ (k + 1) * 2 ^ 99
size_more a r s c k is few small so_far =
    let times : unsigned_abs (pos c *ℤ r) ≡ c * unsigned_abs r = unsigned_abs-mul (pos c) r in
    let most : c * unsigned_abs r ≤ 10 ^ 6 * 2 ^ 79 = mul-le-mul few small in
    let both : unsigned_abs (a +ℤ (pos c *ℤ r)) ≤ unsigned_abs a + unsigned_abs (pos c *ℤ r) =
    size_of_sum a (pos c *ℤ r) in
    let bound : unsigned_abs (a +ℤ (pos c *ℤ r)) ≤ (k + 1) * 2 ^ 99 = omega (arith, times, most, both, so_far) in
    subst (λ z. unsigned_abs z ≤ (k + 1) * 2 ^ 99) (sym is) bound

tolerance_more : (tol r_tol c k : ℕ) → c ≤ 10 ^ 6 → r_tol ≤ 2 ^ 58 → tol ≤ k * 2 ^ 99
    → tol + c * r_tol ≤ (k + 1) * 2 ^ 99
tolerance_more tol r_tol c k few small so_far =
    let most : c * r_tol ≤ 10 ^ 6 * 2 ^ 58 = mul-le-mul few small in
    omega (arith, most, so_far)

-- ---- one holding more

-- one that belongs to the group
pub sum_with : (valued : List ValuedProduct) (policies : List Policy) (group : ℕ) (sum next : Sum) (policy : Policy)
    (by : ValuedProduct) (reserve : Reserve) → IsSum valued policies group sum → policy.group ≡ group
    → policy.count ≤ 10 ^ 6 → slice_get valued policy.file ≡ Some by
    → IsReserve by policy.month policy.state.items reserve
    → next.lo ≡ sum.lo +ℤ (pos policy.count *ℤ reserve.lo) → next.hi ≡ sum.hi +ℤ (pos policy.count *ℤ reserve.hi)
    → next.tol ≡ sum.tol + policy.count * reserve.tol
    → IsSum valued (policies ++ policy ∷ []) group next
sum_with valued policies group sum next policy by reserve is_sum in_group few file is_reserve lo_is hi_is tol_is =
    let belongs : (policy.group == group) ≡ true = eq-eqb policy.group group in_group in
    let count = length_push policies policy in
    record {
      holds = λ n reached.
          let value : kept_value valued n policy ≡ whole (pos policy.count)
          *ℚ reserve_at by.product n policy.month (place_in by.product.states policy.state.items) =
          ap (λ v. value_by v n policy.month policy.state.items policy.count) file in
          let so_far = sum_where (λ p. p.group == group) (kept_value valued n) policies in
          let more : sum_where (λ p. p.group == group) (kept_value valued n) (policies ++ policy ∷ [])
          ≡ sum_where (λ p. p.group == group) (kept_value valued n) policies +ℚ whole (pos policy.count)
          *ℚ reserve_at by.product n policy.month (place_in by.product.states policy.state.items) =
          fold_push _ (whole (pos 0)) policies policy ∙ rw belongs (ap (λ v. so_far +ℚ v) value) in
          let early : by.degree ≤ n =
          subst (λ v. v.degree ≤ n) (get_or_from_slice_get valued policy.file by by file)
          (reached policy.file by (slice_get_within valued policy.file by file)) in
          subst (LiesBetween (record { lo = next.lo; hi = next.hi })) (sym more)
          (record {
            at_least = lower sum.lo reserve.lo next.lo policy.count _ _ lo_is (is_sum.holds n reached).at_least
                (is_reserve.ends.holds n early).at_least;
            at_most = upper sum.hi reserve.hi next.hi policy.count _ _ hi_is (is_sum.holds n reached).at_most
                (is_reserve.ends.holds n early).at_most;
          });
      narrow = rw tol_is (wide sum.lo sum.hi next.lo next.hi reserve.lo reserve.hi sum.tol reserve.tol policy.count
          lo_is hi_is is_sum.narrow is_reserve.ends.narrow);
      tolerance_is =
          let value : kept_tolerance valued policy ≡ policy.count * tolerance_at by.product policy.month =
          ap (λ v. tolerance_by v policy.month policy.count) file in
          let more : total_where (λ p. p.group == group) (kept_tolerance valued) (policies ++ policy ∷ [])
          ≡ total_where (λ p. p.group == group) (kept_tolerance valued) policies
          + policy.count * tolerance_at by.product policy.month =
          fold_push _ 0 policies policy
          ∙ rw belongs (ap (λ v. total_where (λ p. p.group == group) (kept_tolerance valued) policies + v) value) in
          tol_is ∙ ap (λ t. t + policy.count * reserve.tol) is_sum.tolerance_is
          ∙ ap (λ t. total_where (λ p. p.group == group) (kept_tolerance valued) policies + policy.count * t)
          is_reserve.tolerance_is
          ∙ sym more;
      small_lo = rw count (size_more sum.lo reserve.lo next.lo policy.count (length policies) lo_is few
          is_reserve.ends.small.lo is_sum.small_lo);
      small_hi = rw count (size_more sum.hi reserve.hi next.hi policy.count (length policies) hi_is few
          is_reserve.ends.small.hi is_sum.small_hi);
      small_tol = rw (count, tol_is) (tolerance_more sum.tol reserve.tol policy.count (length policies) few
          is_reserve.small is_sum.small_tol);
    }

-- one that belongs to another group
pub sum_without : (valued : List ValuedProduct) (policies : List Policy) (group : ℕ) (sum : Sum) (policy : Policy)
    → IsSum valued policies group sum → policy.group ≢ group
    → IsSum valued (policies ++ policy ∷ []) group sum
sum_without valued policies group sum policy is_sum not_in_group =
    let belongs : (policy.group == group) ≡ false = ne_eqb policy.group group not_in_group in
    let count = length_push policies policy in
    record {
      holds = λ n reached.
          let same : sum_where (λ p. p.group == group) (kept_value valued n) (policies ++ policy ∷ [])
          ≡ sum_where (λ p. p.group == group) (kept_value valued n) policies =
          fold_push _ (whole (pos 0)) policies policy ∙ rw belongs refl in
          subst (LiesBetween (record { lo = sum.lo; hi = sum.hi })) (sym same) (is_sum.holds n reached);
      narrow = is_sum.narrow;
      tolerance_is =
          let same : total_where (λ p. p.group == group) (kept_tolerance valued) (policies ++ policy ∷ [])
          ≡ total_where (λ p. p.group == group) (kept_tolerance valued) policies =
          fold_push _ 0 policies policy ∙ rw belongs refl in
          is_sum.tolerance_is ∙ sym same;
      small_lo = rw count (omega (arith, is_sum.small_lo));
      small_hi = rw count (omega (arith, is_sum.small_hi));
      small_tol = rw count (omega (arith, is_sum.small_tol));
    }

-- no holding
pub sum_of_none : (valued : List ValuedProduct) (group : ℕ)
    → IsSum valued [] group (record { lo = pos 0; hi = pos 0; tol = 0 })
sum_of_none valued group = record {
  holds = λ n reached. record {
    at_least = linear [] (natural 0 1) (hlevel claims) refl;
    at_most = linear [] (natural 0 1) (hlevel claims) refl;
  };
  narrow = omega (arith, ints);
  tolerance_is = refl;
  small_lo = omega arith;
  small_hi = omega arith;
  small_tol = omega arith;
}
