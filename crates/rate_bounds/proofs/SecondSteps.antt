-- The second radius, month by month.
use Rattle.std.proofs.Common.{◌≡◌, ℕ, ℤ, suc, ◌+◌, ◌-◌, ◌*◌, ◌^◌, ◌<◌, ◌≤◌, List, length, arith, ap, sym, ◌∙◌}
use Rattle.std.proofs.Common.{add-one}
use Rattle.std.specs.Prelude.{map, unsigned_abs}
use Rattle.whole_laws.specs.Whole.{greatest_natural}
use Rattle.model_specs.specs.Product.{Product}
use Rattle.model_specs.specs.Payments.{Plan, lumps_at, payment_plan}
use Rattle.model_specs.specs.Growth.{kappa40, pay}
use Rattle.model_specs.specs.Ledgers.{second_grow_cells, greatest_lump, date_adds, radius, radius_before_term}
use Rattle.model_specs.specs.Ledgers.{second_before_term}
use Rattle.ledger_laws.specs.GrowthLaws.{greatest_radius}
use Rattle.ledger_laws.specs.SecondLaws.{HasSmallSecond}
use Rattle.rate_bounds.specs.LedgerSteps.{second_step}
use Rattle.rate_bounds.proofs.RadiusSteps.{months_after}

-- the lumps of a date add what their greatest size says
adds_are : (p : Product) (plan : Plan) (month w G adds : ℕ) (lumps : List (ℕ × ℤ))
    → lumps ≡ lumps_at (length p.states) plan (month + 1)
    → adds ≡ date_adds lumps (greatest_natural (map (λ l. unsigned_abs l.1) lumps)) w G
    → adds ≡ date_adds (lumps_at (length p.states) plan (suc month)) (greatest_lump p plan (suc month)) w G
adds_are p plan month w G adds lumps lumps_are is =
    let at : List (ℕ × ℤ) → ℕ = λ ls. date_adds ls (greatest_natural (map (λ l. unsigned_abs l.1) ls)) w G in
    is ∙ ap at (lumps_are ∙ ap (lumps_at (length p.states) plan) (add-one month))

-- the numbers of a month at the radii of its end
pub record AreMonth (p : Product) (plan : Plan) (G month w kappa paid adds : ℕ) (lumps : List (ℕ × ℤ)) : Type 0 where
  pub kappa_is : kappa ≡ kappa40 p month
  pub pay_is : paid ≡ pay p plan month
  pub lumps_are : lumps ≡ lumps_at (length p.states) plan (month + 1)
  pub adds_is : adds ≡ date_adds lumps (greatest_natural (map (λ l. unsigned_abs l.1) lumps)) w G

pub second_step_is : (p : Product) (plan : Plan) (G month w second cells kappa paid adds : ℕ) (lumps : List (ℕ × ℤ))
    → AreMonth p plan G month w kappa paid adds lumps
    → second_grow_cells kappa paid G w (second + adds) cells ≡ second_step p plan G month w second cells
unfolding second_step
second_step_is p plan G month w second cells kappa paid adds lumps m =
    ap (λ k. second_grow_cells k paid G w (second + adds) cells) m.kappa_is
    ∙ ap (λ x. second_grow_cells (kappa40 p month) x G w (second + adds) cells) m.pay_is
    ∙ ap (λ a. second_grow_cells (kappa40 p month) (pay p plan month) G w (second + a) cells)
    (adds_are p plan month w G adds lumps m.lumps_are m.adds_is)

as_much : (a b most : ℕ) → a ≡ b → b ≤ most → a ≤ most
as_much a b most e h = omega arith

pub second_cells_fit : (p : Product) (plan : Plan) (G month w second cells kappa paid adds : ℕ) (lumps : List (ℕ × ℤ))
    → AreMonth p plan G month w kappa paid adds lumps
    → ((k : ℕ) → k ≤ cells → second_step p plan G month w second k ≤ 2 ^ 80)
    → (k : ℕ) → k ≤ cells → second_grow_cells kappa paid G w (second + adds) k ≤ 2 ^ 80
second_cells_fit p plan G month w second cells kappa paid adds lumps m fits k within =
    as_much (second_grow_cells kappa paid G w (second + adds) k) (second_step p plan G month w second k) (2 ^ 80)
    (second_step_is p plan G month w second k kappa paid adds lumps m) (fits k within)

last_month : (months back month : ℕ) → back < months → month ≡ months - 1 - back → month ≡ months - suc back
last_month months back month inside is = omega arith

pub second_goes_back : (p : Product) (plan : Plan) (G back month w second : ℕ) → back < p.months
    → month ≡ p.months - 1 - back → w ≡ radius_before_term p back → second ≡ second_before_term p plan G back
    → second_step p plan G month w second 32 ≡ second_before_term p plan G (back + 1)
unfolding second_step
second_goes_back p plan G back month w second inside month_is first sofar =
    ap (λ x. second_grow_cells (kappa40 p month) (pay p plan month) G x
    (second + date_adds (lumps_at (length p.states) plan (suc month)) (greatest_lump p plan (suc month)) x G) 32) first
    ∙ ap (λ s. second_grow_cells (kappa40 p month) (pay p plan month) G (radius_before_term p back)
    (s + date_adds (lumps_at (length p.states) plan (suc month)) (greatest_lump p plan (suc month))
    (radius_before_term p back) G) 32) sofar
    ∙ ap (λ m. second_grow_cells (kappa40 p m) (pay p plan m) G (radius_before_term p back)
    (second_before_term p plan G back + date_adds (lumps_at (length p.states) plan (suc m)) (greatest_lump p plan
    (suc m))
    (radius_before_term p back) G) 32) (last_month p.months back month inside month_is)
    ∙ ap (second_before_term p plan G) (sym (add-one back))

small_inside : (a b : ℕ) → a ≡ b → b ≤ 4 * greatest_radius + 5 → a ≤ 2 ^ 80
small_inside a b e h = omega arith

pub second_fits : (p : Product) (G back month w second : ℕ) → HasSmallSecond p G → back < p.months
    → month ≡ p.months - 1 - back → w ≡ radius_before_term p back
    → second ≡ second_before_term p (payment_plan p) G back
    → (k : ℕ) → k ≤ 32 → second_step p (payment_plan p) G month w second k ≤ 2 ^ 80
unfolding second_step
second_fits p G back month w second small inside month_is first sofar k within =
    let plan : Plan = payment_plan p in
    let after = sym (months_after p.months back month inside month_is) in
    small_inside
    (second_grow_cells (kappa40 p month) (pay p plan month) G w
    (second + date_adds (lumps_at (length p.states) plan (suc month)) (greatest_lump p plan (suc month)) w G) k)
    (second_grow_cells (kappa40 p month) (pay p plan month) G (radius p (suc month))
    (second_before_term p plan G (p.months - suc month)
    + date_adds (lumps_at (length p.states) plan (suc month)) (greatest_lump p plan (suc month)) (radius p (suc
    month)) G) k)
    (ap (λ x. second_grow_cells (kappa40 p month) (pay p plan month) G x
    (second + date_adds (lumps_at (length p.states) plan (suc month)) (greatest_lump p plan (suc month)) x G) k)
    (first ∙ ap (radius_before_term p) after)
    ∙ ap (λ s. second_grow_cells (kappa40 p month) (pay p plan month) G (radius p (suc month))
    (s + date_adds (lumps_at (length p.states) plan (suc month)) (greatest_lump p plan (suc month))
    (radius p (suc month)) G) k) (sofar ∙ ap (second_before_term p plan G) after))
    (small.cells month k (below p.months back month inside month_is) within)
  where
    below : (months back month : ℕ) → back < months → month ≡ months - 1 - back → month < months
    below months back month inside is = omega arith
