-- The premium and its refusal, from what the solver answers.
use Rattle.std.proofs.Common.{◌≡◌, ℕ, ◌^◌, ◌≤◌, ℤ, inl, inr, refl, sym, subst, ap, ◌∙◌, arith}
use Rattle.named_numbers.specs.Numbers.{least_degree, highest_degree}
use Rattle.fixed_interval.specs.declared.tables.PremiumTable.{PremiumTable}
use Rattle.model_specs.specs.Product.{Product}
use Rattle.model_specs.specs.Payments.{payment_plan, pattern_plan}
use Rattle.model_specs.specs.Runs.{pattern_value}
use Rattle.premium_solver.specs.Premiums.{IsPremiumTable, IsTooSmall, IsLargePattern, ArePremiumsClose}
use Rattle.premium_solver.specs.Premiums.{tolerance_at_issue}
use Rattle.thiele_backward.specs.Results.{AreConstantMonths}
use Rattle.reserve_report.specs.declared.report.Kind.TheVariants as kind
use Rattle.reserve_report.specs.declared.report.Report.{Report}
use Rattle.reserve_report.specs.Reports.{IsReport}
use Rattle.reserve_report.specs.Results.{IsPremiumOf, TellsPremium, premium_row}
use Rattle.thiele_cli.specs.declared.answer.Answer.TheVariants as answer
use Rattle.thiele_cli.specs.declared.question.Question.TheVariants as question
use Rattle.thiele_cli.specs.declared.refusal.Refusal.{Refusal}
use Rattle.thiele_cli.specs.declared.refusal.Refusal.TheVariants as refusal
use Rattle.thiele_cli.specs.Premiums.{HasClosePremium, ends_of}
use Rattle.thiele_cli.specs.Replies.{AnswersQuestion, HasLine}
use Rattle.ledger_laws.proofs.Rounding.{le_when_same}
use Rattle.thiele_cli.proofs.Reported.{valuation_of}

-- what the solver answers can be reported
pub premium_of : (product : Product) (t : PremiumTable) → IsPremiumTable product t → IsPremiumOf product t
premium_of product t h = record {
  degree = h.degree;
  benefits = h.benefits_hold;
  pattern = h.pattern_holds;
  premium = record {
    holds = h.premium_holds;
    ordered = h.ordered;
    small = record { lo = below _ h.small.lo; hi = below _ h.small.hi };
  };
}
  where
    below : (size : ℕ) → size ≤ 2 ^ 84 → size ≤ 2 ^ 100
    below size few = omega (arith, few)

-- the row of the premium has the table's ends
same_ends : (t : PremiumTable) (r : Report) → TellsPremium t r → t.premium ≡ ends_of (premium_row r)
same_ends t r tells =
    ap (λ lo. record { lo = lo; hi = t.premium.hi }) (sym tells.lo)
    ∙ ap (λ hi. record { lo = (premium_row r).lo; hi = hi }) (sym tells.hi)

close_premium : (product : Product) (t : PremiumTable) (r : Report) → IsPremiumTable product t → TellsPremium t r
    → HasClosePremium product r
close_premium product t r h tells n from =
    subst (λ ends. ArePremiumsClose (tolerance_at_issue product (payment_plan product))
    (tolerance_at_issue product (pattern_plan product)) ends (pattern_value product n)) (same_ends t r tells)
    (h.close n (subst (λ least. least ≤ n) tells.degree from))

pub premium_is_reported : (product : Product) (t : PremiumTable) (r : Report) → IsPremiumTable product t
    → IsReport product kind.Premium 1 r → TellsPremium t r
    → (AreConstantMonths product (payment_plan product) → t.degree ≡ least_degree)
    → AnswersQuestion question.Premium product (answer.Report product r)
premium_is_reported product t r h right tells constant = inl (
  r,
  refl,
  record {
    valuation = valuation_of product kind.Premium r 1 1 t.degree refl right tells.degree
        (λ all. le_when_same t.degree least_degree (constant all));
    close = close_premium product t r h tells;
  },
)

pub premium_is_refused : (product : Product) (why : Refusal) (low : ℤ) → why ≡ refusal.Premium low
    → IsTooSmall product low → ((n : ℕ) → highest_degree ≤ n → ¬ IsLargePattern product n)
    → AnswersQuestion question.Premium product (answer.Refused why)
premium_is_refused product why low is small none =
    inr (record { low = low; refused = ap (λ x. answer.Refused x) is; too_small = small; none_large = none })

-- and its line can be printed
pub premium_has_line : (product : Product) (why : Refusal) (low : ℤ) → why ≡ refusal.Premium low
    → IsTooSmall product low → HasLine why
premium_has_line product why low is small = subst HasLine (sym is) small.small
