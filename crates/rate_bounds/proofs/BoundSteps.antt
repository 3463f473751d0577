-- The bound ledger, month by month.
use Rattle.std.proofs.Common.{◌≡◌, ℕ, suc, ◌+◌, ◌-◌, ◌*◌, ◌^◌, ◌<◌, ◌≤◌, arith, ap, sym, ◌∙◌, add-one}
use Rattle.std.proofs.Common.{Fits}
use Rattle.std.specs.Int.{w128}
use Rattle.model_specs.specs.Product.{Product}
use Rattle.model_specs.specs.Payments.{Plan}
use Rattle.model_specs.specs.Growth.{kappa40, pay}
use Rattle.model_specs.specs.Ledgers.{grow_cells, greatest_lump, bound_before_term, bound1024}
use Rattle.model_specs.specs.RecordRules.{IsWellFormed}
use Rattle.payment_plan.specs.declared.pattern.Which.{Which}
use Rattle.payment_plan.specs.declared.pattern.Which.TheVariants.{Benefits, Pattern}
use Rattle.ledger_laws.specs.MonthLaws.{ObeysAllMonths}
use Rattle.ledger_laws.specs.BoundLaws.{BoundIsGreatest}
use Rattle.ledger_laws.specs.PlanBoundLaws.{PaymentBoundStaysSmall, PatternBoundStaysSmall}
use Rattle.ledger_laws.proofs.GrowthFacts.{cells_never_fall}
use Rattle.rate_bounds.specs.MonthPay.{plan_named}
use Rattle.rate_bounds.specs.LedgerSteps.{bound_step}

pub step_is : (p : Product) (plan : Plan) (month bound cells kappa add lump : ℕ) → kappa ≡ kappa40 p month
    → add ≡ pay p plan month → lump ≡ greatest_lump p plan (month + 1)
    → grow_cells kappa add (bound + 1024 * lump) cells ≡ bound_step p plan month bound cells
unfolding bound_step
step_is p plan month bound cells kappa add lump h k l =
    ap (λ x. grow_cells x add (bound + 1024 * lump) cells) h
    ∙ ap (λ x. grow_cells (kappa40 p month) x (bound + 1024 * lump) cells) k
    ∙ ap (λ x. grow_cells (kappa40 p month) (pay p plan month) (bound + 1024 * x) cells)
    (l ∙ ap (greatest_lump p plan) (add-one month))

through : (a b c d : ℕ) → a ≤ b → b ≡ c → c ≤ d → a ≤ d
through a b c d h e k = omega arith

pub step_fits : (p : Product) (plan : Plan) (month bound cells most kappa add lump : ℕ) → kappa ≡ kappa40 p month
    → add ≡ pay p plan month → lump ≡ greatest_lump p plan (month + 1) → bound_step p plan month bound cells ≤ most
    → (k : ℕ) → k ≤ cells → grow_cells kappa add (bound + 1024 * lump) k ≤ most
step_fits p plan month bound cells most kappa add lump h k l fits fewer within =
    through (grow_cells kappa add (bound + 1024 * lump) fewer) (grow_cells kappa add (bound + 1024 * lump) cells)
    (bound_step p plan month bound cells) most
    (cells_never_fall kappa add (bound + 1024 * lump) fewer cells within)
    (step_is p plan month bound cells kappa add lump h k l) fits

last_month : (months back month : ℕ) → back < months → month ≡ months - 1 - back → month ≡ months - suc back
last_month months back month inside is = omega arith

pub bound_goes : (p : Product) (plan : Plan) (back month bound : ℕ) → back < p.months → month ≡ p.months - 1 - back
    → bound ≡ bound_before_term p plan back → bound_step p plan month bound 32 ≡ bound_before_term p plan (back + 1)
unfolding bound_step
bound_goes p plan back month bound inside month_is sofar =
    ap (λ b. grow_cells (kappa40 p month) (pay p plan month) (b + 1024 * greatest_lump p plan (suc month)) 32) sofar
    ∙ ap (λ m. grow_cells (kappa40 p m) (pay p plan m)
    (bound_before_term p plan back + 1024 * greatest_lump p plan (suc m)) 32)
    (last_month p.months back month inside month_is)
    ∙ ap (bound_before_term p plan) (sym (add-one back))

below_or_at : (a b c d : ℕ) → a ≡ b → b ≤ c → c < d → a ≤ d
below_or_at a b c d e h k = omega arith

-- the bound fits
pub bound_is_small : PaymentBoundStaysSmall → PatternBoundStaysSmall → (which : Which) (p : Product) → IsWellFormed p
    → ObeysAllMonths p → bound1024 p (plan_named which p) < 2 ^ 80
bound_is_small payments pattern Benefits p well rules = (payments p well rules).bound
bound_is_small payments pattern Pattern p well rules =
    far (bound1024 p (plan_named Pattern p)) ((pattern p well rules).below)
  where
    far : (a : ℕ) → a < 2 ^ 39 → a < 2 ^ 80
    far a h = omega arith

-- and so does each step
pub bound_step_fits : BoundIsGreatest → (p : Product) (plan : Plan) (back month bound : ℕ) → back < p.months
    → month ≡ p.months - 1 - back → bound ≡ bound_before_term p plan back → bound1024 p plan < 2 ^ 80
    → bound_step p plan month bound 32 ≤ 2 ^ 80
bound_step_fits greatest p plan back month bound inside month_is sofar small =
    below_or_at (bound_step p plan month bound 32) (bound_before_term p plan (back + 1)) (bound1024 p plan) (2 ^ 80)
    (bound_goes p plan back month bound inside month_is sofar)
    ((greatest p plan).months (back + 1) (omega arith)) small

-- the bound, with the lumps of date 0
pub bound_is_whole : (p : Product) (plan : Plan) (back bound lump : ℕ) → back ≡ p.months
    → bound ≡ bound_before_term p plan back → lump ≡ greatest_lump p plan 0 → bound + 1024 * lump ≡ bound1024 p plan
bound_is_whole p plan back bound lump all sofar l =
    ap (λ b. b + 1024 * lump) (sofar ∙ ap (bound_before_term p plan) all)
    ∙ ap (λ x. bound_before_term p plan p.months + 1024 * x) l

pub whole_fits : (a b : ℕ) → a ≡ b → b < 2 ^ 80 → Fits w128 a
whole_fits a b e h = omega arith
