-- The radii, month by month.
use Rattle.std.proofs.Common.{◌≡◌, ℕ, suc, ◌+◌, ◌-◌, ◌^◌, ◌<◌, ◌≤◌, arith, refl, ap, sym, ◌∙◌, add-one}
use Rattle.std.proofs.Common.{List, length, get_or}
use Rattle.whole_laws.specs.Whole.{list_of}
use Rattle.model_specs.specs.Product.{Product}
use Rattle.whole_laws.proofs.ListsByPlace.{at-list_of, length-list_of}
use Rattle.model_specs.specs.Growth.{kappa40}
use Rattle.model_specs.specs.Ledgers.{grow_cells, radius, radius_before_term, radius_forward}
use Rattle.model_specs.specs.RecordRules.{IsWellFormed}
use Rattle.ledger_laws.specs.MonthLaws.{ObeysAllMonths}
use Rattle.ledger_laws.specs.GrowthLaws.{RadiiStaySmallInside, greatest_radius}
use Rattle.rate_bounds.specs.LedgerSteps.{radius_step}

pub radius_step_is : (p : Product) (month w cells kappa : ℕ) → kappa ≡ kappa40 p month
    → grow_cells kappa 1024 w cells ≡ radius_step p month w cells
unfolding radius_step
radius_step_is p month w cells kappa h = ap (λ k. grow_cells k 1024 w cells) h

as_much : (a b most : ℕ) → a ≡ b → b ≤ most → a ≤ most
as_much a b most e h = omega arith

pub radius_cells_fit : (p : Product) (month w cells kappa most : ℕ) → kappa ≡ kappa40 p month
    → ((k : ℕ) → k ≤ cells → radius_step p month w k ≤ most) → (k : ℕ) → k ≤ cells → grow_cells kappa 1024 w k ≤ most
radius_cells_fit p month w cells kappa most h fits k within =
    as_much (grow_cells kappa 1024 w k) (radius_step p month w k) most (radius_step_is p month w k kappa h) (fits k
    within)

last_month : (months back month : ℕ) → back < months → month ≡ months - 1 - back → month ≡ months - suc back
last_month months back month inside is = omega arith

pub months_after : (months back month : ℕ) → back < months → month ≡ months - 1 - back → months - suc month ≡ back
months_after months back month inside is = omega arith

pub radius_goes_back : (p : Product) (back month w : ℕ) → back < p.months → month ≡ p.months - 1 - back
    → w ≡ radius_before_term p back → radius_step p month w 32 ≡ radius_before_term p (back + 1)
unfolding radius_step
radius_goes_back p back month w inside month_is sofar =
    ap (λ x. grow_cells (kappa40 p month) 1024 x 32) sofar
    ∙ ap (λ m. grow_cells (kappa40 p m) 1024 (radius_before_term p back) 32) (last_month p.months back month inside
    month_is)
    ∙ ap (radius_before_term p) (sym (add-one back))

pub radius_goes_forward : (p : Product) (month w : ℕ) → w ≡ radius_forward p month
    → radius_step p month w 32 ≡ radius_forward p (month + 1)
unfolding radius_step
radius_goes_forward p month w sofar =
    ap (λ x. grow_cells (kappa40 p month) 1024 x 32) sofar ∙ ap (radius_forward p) (sym (add-one month))

small_inside : (a b : ℕ) → a ≡ b → b ≤ greatest_radius → a ≤ 2 ^ 40
small_inside a b e h = omega arith

-- the radii inside a month fit
pub radius_back_fits : RadiiStaySmallInside → (p : Product) (back month w : ℕ) → IsWellFormed p → ObeysAllMonths p
    → back < p.months → month ≡ p.months - 1 - back → w ≡ radius_before_term p back
    → (k : ℕ) → k ≤ 32 → radius_step p month w k ≤ 2 ^ 40
unfolding radius_step
radius_back_fits small p back month w well rules inside month_is sofar k within =
    small_inside (grow_cells (kappa40 p month) 1024 w k) (grow_cells (kappa40 p month) 1024 (radius p (suc month)) k)
    (ap (λ x. grow_cells (kappa40 p month) 1024 x k)
    (sofar ∙ ap (radius_before_term p) (sym (months_after p.months back month inside month_is))))
    ((small p well rules month k (below p.months back month inside month_is) within).backward)
  where
    below : (months back month : ℕ) → back < months → month ≡ months - 1 - back → month < months
    below months back month inside is = omega arith

pub radius_forward_fits : RadiiStaySmallInside → (p : Product) (month w : ℕ) → IsWellFormed p → ObeysAllMonths p
    → month < p.months → w ≡ radius_forward p month
    → (k : ℕ) → k ≤ 32 → radius_step p month w k ≤ 2 ^ 40
unfolding radius_step
radius_forward_fits small p month w well rules inside sofar k within =
    small_inside (grow_cells (kappa40 p month) 1024 w k) (grow_cells (kappa40 p month) 1024 (radius_forward p month) k)
    (ap (λ x. grow_cells (kappa40 p month) 1024 x k) sofar)
    ((small p well rules month k inside within).forward)

pub wider : (a : ℕ) → a ≤ 2 ^ 40 → a ≤ 2 ^ 80
wider a h = omega arith

pub no_cells : (p : Product) (month w : ℕ) → radius_step p month w 0 ≡ w
unfolding radius_step
no_cells p month w = refl

-- the first radius of a date stands in the list of them
pub radius_there : (p : Product) (radii : List ℕ) (back : ℕ) → radii ≡ list_of (suc p.months) (radius_before_term p)
    → back < p.months → get_or radii back 0 ≡ radius_before_term p back
radius_there p radii back are inside =
    ap (λ xs. get_or xs back 0) are
    ∙ at-list_of (suc p.months) (radius_before_term p) back 0 (omega arith)

pub dates_there : (p : Product) (radii : List ℕ) → radii ≡ list_of (suc p.months) (radius_before_term p)
    → length radii ≡ suc p.months
dates_there p radii are = ap length are ∙ length-list_of (suc p.months) (radius_before_term p)
