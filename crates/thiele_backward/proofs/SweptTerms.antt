-- A sweep from the term, month by month.
use Rattle.std.proofs.Common.{◌≡◌, ℕ, ◌+◌, ◌-◌, ◌*◌, ◌^◌, ◌<◌, ◌≤◌, max, ap, sym, subst, ◌∙◌, refl, arith}
use Rattle.std.proofs.Common.{ℤ, pos, ◌+ℤ◌, ◌≤ℤ◌}
use Rattle.std.specs.Prelude.{IsTrue}
use Rattle.std.proofs.lemmas.Int.{ints}
use Rattle.frac_laws.specs.Fraction.{Fraction, whole, ◌+ℚ◌}
use Rattle.named_numbers.specs.Numbers.{least_degree, highest_degree}
use Rattle.fixed_interval.specs.declared.tables.Valued.{Valued}
use Rattle.fixed_interval.specs.Intervals.{LiesIn, LiesInside, HasEndsUpTo}
use Rattle.fixed_interval.specs.Printing.{most_end}
use Rattle.fixed_interval.specs.Tables.{IsAnsweredDegree}
use Rattle.fixed_interval.proofs.Enclosing.{inside_lies_in}
use Rattle.model_specs.specs.Ledgers.{radius, scale}
use Rattle.model_specs.specs.Payments.{lump_at}
use Rattle.model_specs.specs.Runs.{reserve, value_before_issue}
use Rattle.model_specs.specs.Product.{Product}
use Rattle.model_specs.specs.Stretches.{is_constant_month}
use Rattle.payment_plan.specs.declared.pattern.Which.{Which}
use Rattle.rate_bounds.specs.MonthPay.{plan_named}
use Rattle.thiele_backward.specs.Results.{AreConstantMonths, IsValueAtIssue}
use Rattle.thiele_backward.specs.Sweeps.{BackwardSweep, begun_sweep, at_term, month_earlier, plan_in, width_of}

-- a sweep of a plan from the term, after some months, whose steps had at most a degree
pub record IsSwept (product : Product) (which : Which) (done degree : ℕ) (s : BackwardSweep) : Type 0 where
  pub product_is : s.product ≡ product
  pub which_is : s.which ≡ which
  pub begun : s.begun ≡ at_term product
  pub left : s.months_left + done ≡ product.months
  pub degree_is : s.degree ≡ degree
  pub answered : IsAnsweredDegree degree
  pub constant : AreConstantMonths product (plan_named which product) → degree ≡ least_degree

pub swept_none : (product : Product) (which : Which)
    → IsSwept product which 0 least_degree (begun_sweep product which (at_term product))
swept_none product which = record {
  product_is = refl;
  which_is = refl;
  begun = refl;
  left = omega arith;
  degree_is = refl;
  answered = record { least = omega arith; highest = omega arith };
  constant = λ all. refl;
}

-- one month more, with steps of up to a degree
pub swept_more : (product : Product) (which : Which) (done degree answered : ℕ) (s : BackwardSweep)
    → IsSwept product which done degree s → 0 < s.months_left → least_degree ≤ answered → answered ≤ highest_degree
    → (IsTrue (is_constant_month s.product (plan_in s) (s.months_left - 1)) → answered ≡ least_degree)
    → IsSwept product which (done + 1) (max degree answered) (month_earlier s answered)
swept_more product which done degree answered s h left least highest constant = record {
  product_is = h.product_is;
  which_is = h.which_is;
  begun = h.begun;
  left = omega (arith, h.left);
  degree_is = ap (λ d. max d answered) h.degree_is;
  answered = record {
    least = omega (arith, h.answered.least);
    highest = omega (arith, h.answered.highest, highest);
  };
  constant = λ all. rw (h.constant all, constant (as_in_term all)) refl;
}
  where
    as_in_term : AreConstantMonths product (plan_named which product)
        → IsTrue (is_constant_month s.product (plan_in s) (s.months_left - 1))
    as_in_term all =
        let month = s.months_left - 1 in
        subst (λ p. IsTrue (is_constant_month p (plan_named s.which p) (s.months_left - 1))) (sym h.product_is)
        (subst (λ w. IsTrue (is_constant_month product (plan_named w product) (s.months_left - 1))) (sym h.which_is)
        (all month (omega (arith, h.left, left))))

-- ---- at issue

left_at_issue : (product : Product) (which : Which) (degree : ℕ) (s : BackwardSweep)
    → IsSwept product which product.months degree s → s.months_left ≡ 0
left_at_issue product which degree s h = omega (arith, h.left)

-- with the lump of date 0 the values of a whole sweep are those just before issue
pub issue_value : (product : Product) (which : Which) (degree : ℕ) (s : BackwardSweep) (n start : ℕ)
    → IsSwept product which product.months degree s → start ≡ product.start
    → reserve s.product (plan_in s) n s.months_left start +ℚ whole (lump_at (plan_in s) s.months_left start)
    ≡ value_before_issue product (plan_named which product) n
issue_value product which degree s n start h is_start =
    let value : Product → Which → (date state : ℕ) → Fraction = λ p w date state.
    reserve p (plan_named w p) n date state +ℚ whole (lump_at (plan_named w p) date state) in
    ap (λ p. value p s.which s.months_left start) h.product_is
    ∙ ap (λ w. value product w s.months_left start) h.which_is
    ∙ ap (λ date. value product which date start) (left_at_issue product which degree s h)
    ∙ ap (λ state. value product which 0 state) is_start

pub issue_width : (product : Product) (which : Which) (degree : ℕ) (s : BackwardSweep)
    → IsSwept product which product.months degree s
    → width_of s ≡ 2 * radius product 0 * 2 ^ scale product (plan_named which product)
issue_width product which degree s h =
    let width : Product → Which → ℕ → ℕ = λ p w date. 2 * radius p date * 2 ^ scale p (plan_named w p) in
    ap (λ p. width p s.which s.months_left) h.product_is ∙ ap (λ w. width product w s.months_left) h.which_is
    ∙ ap (λ date. width product which date) (left_at_issue product which degree s h)

-- the interval of a value, from a whole sweep
pub valued_for : (product : Product) (which : Which) (degree spare start : ℕ) (s : BackwardSweep) (v : Valued)
    → IsSwept product which product.months degree s → v.degree ≡ degree → start ≡ product.start
    → v.interval.hi ≡ v.interval.lo +ℤ pos (width_of s) → HasEndsUpTo most_end v.interval
    → ((n : ℕ) → s.degree ≤ n → LiesInside spare (reserve s.product (plan_in s) n s.months_left start
    +ℚ whole (lump_at (plan_in s) s.months_left start)) v.interval)
    → IsValueAtIssue product (plan_named which product) v
valued_for product which degree spare start s v h is_degree is_start width small held = record {
  degree = subst IsAnsweredDegree (sym is_degree) h.answered;
  holds = λ n from. subst (λ x. LiesIn x v.interval) (issue_value product which degree s n start h is_start)
      (inside_lies_in spare _ v.interval (held n (omega (arith, from, is_degree, h.degree_is))));
  narrow = subst (λ w. v.interval.hi ≤ℤ (v.interval.lo +ℤ pos w)) (issue_width product which degree s h)
      (le_of_equal v.interval.hi _ width);
  small = small;
}
  where
    le_of_equal : (a b : ℤ) → a ≡ b → a ≤ℤ b
    le_of_equal a b e = omega (arith, ints)
