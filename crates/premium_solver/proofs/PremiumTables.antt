-- Both values and the premium of a product, from the intervals of the values.
use Rattle.std.proofs.Common.{◌≡◌, ℕ, ◌+◌, ◌*◌, ◌^◌, ◌≤◌, ℤ, pos, ◌+ℤ◌, ◌*ℤ◌, ◌≤ℤ◌, ◌<ℤ◌}
use Rattle.std.proofs.Common.{[], ◌∷◌, refl, sym, subst, arith}
use Rattle.std.specs.Int.{div_ceil}
use Rattle.std.proofs.lemmas.Grind.{div_ceil_times}
use Rattle.std.proofs.lemmas.Int.{ints}
use Rattle.std.proofs.Math.IntN.{pos-*ℤ-pos}
use Rattle.std.proofs.Math.Nat.{mul-le-mul, mul_assoc}
use Rattle.named_numbers.specs.Numbers.{highest_degree}
use Rattle.frac_laws.specs.Fraction.{Fraction, whole, over, ◌+ℚ◌, ◌*ℚ◌, ◌≤ℚ◌}
use Rattle.frac_laws.proofs.Linear.{linear, claims, natural, ◌⊞◌, ◌⊠◌}
use Rattle.frac_laws.proofs.Order.{le_trans}
use Rattle.frac_laws.proofs.Quotients.{over_mul, over_le_of_cross, cross_of_over_le, units_le}
use Rattle.frac_laws.proofs.WholeProducts.{product_le_cancel}
use Rattle.fixed_interval.specs.declared.interval.Interval.{Interval}
use Rattle.fixed_interval.specs.declared.printed.Printed.{Printed}
use Rattle.fixed_interval.specs.declared.tables.Valued.{Valued}
use Rattle.fixed_interval.specs.Intervals.{LiesIn, HasEndsUpTo}
use Rattle.fixed_interval.specs.Printing.{LiesBetween, AreSmallEnds, printed_width}
use Rattle.fixed_interval.specs.Tables.{AreEndsFor}
use Rattle.model_specs.specs.Product.{Product}
use Rattle.model_specs.specs.Payments.{Plan, payment_plan, pattern_plan}
use Rattle.model_specs.specs.Ledgers.{radius, scale}
use Rattle.model_specs.specs.Rows.{IsPremium}
use Rattle.model_specs.specs.Runs.{benefits, pattern_value, value_before_issue}
use Rattle.thiele_backward.specs.Results.{IsValueAtIssue}
use Rattle.premium_solver.specs.Quotients.{least_divisor, most_divisor, largest_size, AreQuotientsClose}
use Rattle.premium_solver.specs.Quotients.{AreQuotientsCloseFor}
use Rattle.premium_solver.specs.Premiums.{tolerance_at_issue, ArePremiumsClose, pattern_width}
use Rattle.premium_solver.specs.Premiums.{IsTooSmall, IsLargePattern}

-- how wide the interval of a plan's value is at most, in units of 2^-64
abbrev value_width : Product → Plan → ℕ
value_width product plan = 2 * radius product 0 * 2 ^ scale product plan

-- ---- printed values

-- what `printed` promises of an interval: its ends enclose, they are in order and small, and they are narrow
pub record IsPrintedFrom (i : Interval) (ends : Printed) : Type 0 where
  pub encloses : (x : Fraction) → LiesIn x i → LiesBetween ends x
  pub ordered : ends.lo ≤ℤ ends.hi
  pub small : AreSmallEnds ends
  pub narrow : (width : ℕ) → i.hi ≤ℤ (i.lo +ℤ pos width) → ends.hi ≤ℤ (ends.lo +ℤ pos (printed_width width))

pub value_printed : (product : Product) (plan : Plan) (v : Valued) (degree : ℕ) (ends : Printed)
    → IsValueAtIssue product plan v → v.degree ≤ degree → IsPrintedFrom v.interval ends
    → AreEndsFor degree (value_before_issue product plan) (tolerance_at_issue product plan) ends
value_printed product plan v degree ends valued order printed = record {
  holds = λ n from. printed.encloses (value_before_issue product plan n)
      (valued.holds n (omega (arith, order, from)));
  ordered = printed.ordered;
  narrow = one_more ends.lo ends.hi _ (printed.narrow (value_width product plan) valued.narrow);
  small = printed.small;
}
  where
    one_more : (lo hi : ℤ) (n : ℕ) → hi ≤ℤ (lo +ℤ pos (n + 1)) → hi ≤ℤ (lo +ℤ pos (n + 2))
    one_more lo hi n h = omega (arith, ints)

-- ---- the premium

pub premium_holds : (product : Product) (b p : Valued) (lo hi : ℤ) (n : ℕ)
    → IsValueAtIssue product (payment_plan product) b → IsValueAtIssue product (pattern_plan product) p
    → ((x y : Fraction) → LiesIn x b.interval → LiesIn y p.interval → IsPremium lo hi x y)
    → b.degree ≤ n → p.degree ≤ n → IsPremium lo hi (benefits product n) (pattern_value product n)
premium_holds product b p lo hi n valued_b valued_p encloses from_b from_p =
    encloses (benefits product n) (pattern_value product n) (valued_b.holds n from_b) (valued_p.holds n from_p)

-- a million times a width is at most the tolerance, in units of 2^-64
width_most : (width : ℕ) → width * 10 ^ 6 ≤ (div_ceil (width * 10 ^ 6) (2 ^ 64) + 2) * 2 ^ 64
width_most width = omega (arith, (div_ceil_times (width * 10 ^ 6) (2 ^ 64) (omega arith)).0)

-- both parts of a premium's width, a million times
widths_most : (width_b width_p tolerance_b tolerance_p twice : ℕ) → width_b * 10 ^ 6 ≤ tolerance_b * 2 ^ 64
    → width_p * 10 ^ 6 ≤ tolerance_p * 2 ^ 64
    → 10 ^ 6 * (10 ^ 6 * width_b + twice * width_p) ≤ (10 ^ 6 * tolerance_b + twice * tolerance_p) * 2 ^ 64
widths_most width_b width_p tolerance_b tolerance_p twice at_b at_p =
    let product : twice * (width_p * 10 ^ 6) ≤ twice * (tolerance_p * 2 ^ 64) =
    mul-le-mul {n₁ = twice} {n₂ = twice} (omega arith) at_p in
    omega (arith, mul_assoc twice width_p (10 ^ 6), mul_assoc twice tolerance_p (2 ^ 64), product)

million_times : (n c : ℕ) → 10 ^ 6 * n ≤ c * 2 ^ 64
    → whole (pos (10 ^ 6)) *ℚ over (pos n) (2 ^ 64) ≤ℚ whole (pos c)
million_times n c h =
    rw (over_mul (pos (10 ^ 6)) (pos n) 1 (2 ^ 64) (omega arith) (omega arith))
    (over_le_of_cross (pos (10 ^ 6) *ℤ pos n) (pos c) (2 ^ 64) 1 (omega arith) (omega arith)
    (omega (arith, ints, pos-*ℤ-pos (10 ^ 6) n, pos-*ℤ-pos c (2 ^ 64))))

-- the width of quotients, a million times, by the tolerances of both values
quotients_close : (width_b width_p : ℕ) (ends : Printed) (y : Fraction) → AreQuotientsClose width_b width_p ends y
    → ArePremiumsClose (div_ceil (width_b * 10 ^ 6) (2 ^ 64) + 2) (div_ceil (width_p * 10 ^ 6) (2 ^ 64) + 2) ends y
quotients_close width_b width_p ends y h =
    let twice = 2 * largest_size ends in
    let tolerance_b = div_ceil (width_b * 10 ^ 6) (2 ^ 64) + 2 in
    let tolerance_p = div_ceil (width_p * 10 ^ 6) (2 ^ 64) + 2 in
    times _ y (over (pos (10 ^ 6 * width_b + 2 * largest_size ends * width_p)) (2 ^ 64)) _ h
    (million_times (10 ^ 6 * width_b + twice * width_p) (10 ^ 6 * tolerance_b + twice * tolerance_p)
    (widths_most width_b width_p tolerance_b tolerance_p twice (width_most width_b) (width_most width_p)))
  where
    times : (x y n c : Fraction) → x *ℚ y ≤ℚ n +ℚ whole (pos 2) *ℚ y → whole (pos (10 ^ 6)) *ℚ n ≤ℚ c
        → whole (pos (10 ^ 6)) *ℚ (x *ℚ y) ≤ℚ c +ℚ whole (pos (2 * 10 ^ 6)) *ℚ y
    times x y n c h k = linear (x ∷ y ∷ n ∷ c ∷ []) (natural (10 ^ 6) 1 ⊠ h ⊞ k) (hlevel claims) refl

pub premium_is_close : (product : Product) (b p : Valued) (ends : Printed) (n : ℕ)
    → IsValueAtIssue product (payment_plan product) b → IsValueAtIssue product (pattern_plan product) p
    → AreQuotientsCloseFor b.interval p.interval ends → p.degree ≤ n
    → ArePremiumsClose (tolerance_at_issue product (payment_plan product))
    (tolerance_at_issue product (pattern_plan product)) ends (pattern_value product n)
premium_is_close product b p ends n valued_b valued_p close from =
    let width_b = value_width product (payment_plan product) in
    let width_p = value_width product (pattern_plan product) in
    quotients_close width_b width_p ends (pattern_value product n)
    (close width_b width_p (pattern_value product n) valued_b.narrow valued_p.narrow (valued_p.holds n from))

-- ---- small patterns

pub pattern_large : (product : Product) (p : Valued) (n : ℕ) → IsValueAtIssue product (pattern_plan product) p
    → pos least_divisor ≤ℤ p.interval.lo → p.degree ≤ n
    → over (pos least_divisor) (2 ^ 64) ≤ℚ pattern_value product n
pattern_large product p n valued least from =
    le_trans (units_le (pos least_divisor) p.interval.lo least) (valued.holds n from).at_least

pub too_small : (product : Product) (p : Valued) (low : ℤ) → IsValueAtIssue product (pattern_plan product) p
    → HasEndsUpTo most_divisor p.interval → p.interval.lo <ℤ pos least_divisor → low ≡ p.interval.lo
    → IsTooSmall product low
too_small product p low valued ends below low_is = subst (IsTooSmall product) (sym low_is) (record {
  below = below;
  small = ends.lo;
  at_least = λ n from. (valued.holds n (reached n from)).at_least;
  at_most = λ n from. le_trans (valued.holds n (reached n from)).at_most (units_le p.interval.hi _ valued.narrow);
})
  where
    reached : (n : ℕ) → highest_degree ≤ n → p.degree ≤ n
    reached n from = omega (arith, valued.degree.highest, from)

-- a pattern that is large enough is not too small
pub large_is_not_small : (product : Product) (n : ℕ) (low : ℤ) → highest_degree ≤ n → IsLargePattern product n
    → ¬ IsTooSmall product low
large_is_not_small product n low from large small =
    let order = cross_of_over_le (pos (least_divisor + pattern_width product)) (low +ℤ pos (pattern_width product))
    (2 ^ 64) (2 ^ 64) (omega arith) (omega arith) (le_trans large (small.at_most n from)) in
    let plain = product_le_cancel (pos (least_divisor + pattern_width product)) (low +ℤ pos (pattern_width product))
    (2 ^ 64) (omega arith) order in
    let below = small.below in
    absurd (omega (arith, ints))
