-- What exits and states pay, one more of them each time, and how little it is.
use Rattle.std.proofs.Common.{◌≡◌, ℕ, ◌+◌, ◌*◌, ◌^◌, ◌<◌, ◌≤◌, List, [], ◌∷◌, ◌++◌}
use Rattle.std.proofs.Common.{arith, refl, ap, sym, ◌∙◌, get_or, max, take, drop, length, sum}
use Rattle.std.specs.Prelude.{map}
use Rattle.std.specs.Int.{div_ceil}
use Rattle.std.proofs.lemmas.List.{take_more, map-append, take-append-drop}
use Rattle.std.proofs.lemmas.List.Sums.{sum_by-append}
use Rattle.whole_laws.specs.Whole.{list_of, greatest_natural}
use Rattle.model_specs.specs.Product.{Product}
use Rattle.model_specs.specs.Payments.{Plan}
use Rattle.model_specs.specs.MonthNumbers.{month_unit, exits}
use Rattle.model_specs.specs.Growth.{load, state_pay, pay}
use Rattle.model_specs.specs.RecordRules.{IsWellFormed}
use Rattle.state_graph.specs.declared.exits.Edge.{Edge}
use Rattle.payment_plan.specs.Payments.{plan_of}
use Rattle.payment_plan.specs.declared.pattern.Which.{Which}
use Rattle.payment_plan.specs.declared.pattern.Which.TheVariants.{Benefits, Pattern}
use Rattle.product_model.specs.Views.{payments_of}
use Rattle.ledger_laws.specs.MonthLaws.{ObeysMonthRules}
use Rattle.ledger_laws.specs.PaymentLaws.{PaymentsPayLittle, PatternPaysLittle}
use Rattle.rate_bounds.specs.MonthRates.{rate_part}
use Rattle.rate_bounds.specs.MonthPay.{plan_named, sojourn_load, sum_load, exit_pay, exits_pay, paid_in_state}
use Rattle.rate_bounds.specs.MonthPay.{greatest_paid}
use Rattle.rate_bounds.proofs.LeastAndGreatest.{greatest_natural_more}

-- the plan of a product by its name
pub plan_is : (which : Which) (p : Product) → plan_of which (payments_of p) ≡ plan_named which p
plan_is Benefits p = refl
plan_is Pattern p = refl

exits_pay-append : (p : Product) (plan : Plan) (m : ℕ) (es fs : List ℕ)
    → exits_pay p plan m (es ++ fs) ≡ exits_pay p plan m es + exits_pay p plan m fs
unfolding exits_pay
exits_pay-append p plan m es fs =
    ap sum (map-append (exit_pay p plan m) es fs)
    ∙ sum_by-append (λ n. n) (map (exit_pay p plan m) es) (map (exit_pay p plan m) fs)

exits_pay-one : (p : Product) (plan : Plan) (m e : ℕ) → exits_pay p plan m (e ∷ []) ≡ exit_pay p plan m e
unfolding exits_pay
exits_pay-one p plan m e = omega arith

pub exit_pay_is : (p : Product) (plan : Plan) (m e rate load : ℕ) → rate ≡ rate_part p m e → load ≡ sum_load plan m e
    → rate * load ≡ exit_pay p plan m e
unfolding exit_pay
exit_pay_is p plan m e rate load h k = ap (λ r. r * load) h ∙ ap (λ l. rate_part p m e * l) k

-- what exits pay, with one exit more
exits_pay_more : (p : Product) (plan : Plan) (m : ℕ) (exits : List Edge) (i : ℕ) (d : Edge) → i < length exits
    → exits_pay p plan m (map (λ x. x.transition) (take (i + 1) exits))
    ≡ exits_pay p plan m (map (λ x. x.transition) (take i exits)) + exit_pay p plan m (get_or exits i d).transition
exits_pay_more p plan m exits i d inside =
    ap (λ xs. exits_pay p plan m (map (λ x. x.transition) xs)) (take_more exits i d inside)
    ∙ ap (exits_pay p plan m) (map-append (λ x. x.transition) (take i exits) (get_or exits i d ∷ []))
    ∙ exits_pay-append p plan m (map (λ x. x.transition) (take i exits)) ((get_or exits i d).transition ∷ [])
    ∙ ap (λ n. exits_pay p plan m (map (λ x. x.transition) (take i exits)) + n)
    (exits_pay-one p plan m (get_or exits i d).transition)

-- some of them pay no more than all
some_exits_pay : (p : Product) (plan : Plan) (m : ℕ) (exits : List Edge) (i : ℕ)
    → exits_pay p plan m (map (λ x. x.transition) (take i exits)) ≤ exits_pay p plan m (map (λ x. x.transition) exits)
some_exits_pay p plan m exits i =
    let parts : exits_pay p plan m (map (λ x. x.transition) exits)
    ≡ exits_pay p plan m (map (λ x. x.transition) (take i exits))
    + exits_pay p plan m (map (λ x. x.transition) (drop i exits)) =
    ap (λ xs. exits_pay p plan m (map (λ x. x.transition) xs)) (sym (take-append-drop i exits))
    ∙ ap (exits_pay p plan m) (map-append (λ x. x.transition) (take i exits) (drop i exits))
    ∙ exits_pay-append p plan m (map (λ x. x.transition) (take i exits)) (map (λ x. x.transition) (drop i exits)) in
    omega (arith, parts)

pub no_load_no_pay : (p : Product) (plan : Plan) (m e load : ℕ) → load ≡ sum_load plan m e → load ≡ 0
    → 0 ≡ exit_pay p plan m e
no_load_no_pay p plan m e load h none =
    let nothing : 0 ≡ rate_part p m e * load = rw none (omega arith) in
    nothing ∙ exit_pay_is p plan m e (rate_part p m e) load refl h

pub exits_pay_step : (p : Product) (plan : Plan) (m : ℕ) (exits : List Edge) (i : ℕ) (d : Edge) (paid one : ℕ)
    → i < length exits → paid ≡ exits_pay p plan m (map (λ x. x.transition) (take i exits))
    → one ≡ exit_pay p plan m (get_or exits i d).transition
    → paid + one ≡ exits_pay p plan m (map (λ x. x.transition) (take (i + 1) exits))
exits_pay_step p plan m exits i d paid one inside sofar h =
    ap (λ n. n + one) sofar ∙ ap (λ n. exits_pay p plan m (map (λ x. x.transition) (take i exits)) + n) h
    ∙ sym (exits_pay_more p plan m exits i d inside)

pub exits_pay_fits : (p : Product) (plan : Plan) (m : ℕ) (exits : List Edge) (i : ℕ) (d : Edge) (paid one : ℕ)
    → i < length exits → paid ≡ exits_pay p plan m (map (λ x. x.transition) (take i exits))
    → one ≡ exit_pay p plan m (get_or exits i d).transition
    → exits_pay p plan m (map (λ x. x.transition) exits) < 2 ^ 127 → paid + one < 2 ^ 127
exits_pay_fits p plan m exits i d paid one inside sofar h fits =
    omega (
      arith,
      exits_pay_step p plan m exits i d paid one inside sofar h,
      some_exits_pay p plan m exits (i + 1),
    )

pub one_exit_fits : (p : Product) (plan : Plan) (m : ℕ) (exits : List Edge) (i : ℕ) (d : Edge) → i < length exits
    → exits_pay p plan m (map (λ x. x.transition) exits) < 2 ^ 127
    → exit_pay p plan m (get_or exits i d).transition < 2 ^ 127
one_exit_fits p plan m exits i d inside fits =
    omega (arith, exits_pay_more p plan m exits i d inside, some_exits_pay p plan m exits (i + 1))

-- what a state pays, by its parts
pub paid_in_parts : (p : Product) (plan : Plan) (m i sojourn unit exits-paid : ℕ) → sojourn ≡ sojourn_load plan m i
    → unit ≡ month_unit p → exits-paid ≡ exits_pay p plan m (exits p i)
    → sojourn * unit + exits-paid ≡ paid_in_state p plan m i
unfolding paid_in_state
paid_in_parts p plan m i sojourn unit exits-paid h k e =
    ap (λ s. s * unit + exits-paid) h ∙ ap (λ u. sojourn_load plan m i * u + exits-paid) k
    ∙ ap (λ x. sojourn_load plan m i * month_unit p + x) e

pub exits_pay_less : (p : Product) (plan : Plan) (m i : ℕ)
    → exits_pay p plan m (exits p i) ≤ paid_in_state p plan m i
unfolding paid_in_state
exits_pay_less p plan m i = omega arith

-- the most that states pay, with one state more
pub greatest_paid_more : (n : ℕ) (f : ℕ → ℕ) (g x : ℕ) → g ≡ greatest_natural (list_of n f) → x ≡ f n
    → max x g ≡ greatest_natural (list_of (n + 1) f)
greatest_paid_more n f g x sofar here = omega (arith, greatest_natural_more n f)

-- what a state pays is what its parts pay
state_pay_is : (p : Product) (plan : Plan) (m i : ℕ) → state_pay p plan m i ≡ paid_in_state p plan m i
unfolding paid_in_state exits_pay exit_pay sum_load sojourn_load rate_part
state_pay_is p plan m i = refl

pub pay_is : (p : Product) (plan : Plan) (m : ℕ)
    → pay p plan m ≡ div_ceil (1024 * greatest_paid p plan m) (192 * month_unit p)
unfolding greatest_paid paid_in_state exits_pay exit_pay sum_load sojourn_load rate_part
pay_is p plan m = refl

small_product : (n unit : ℕ) → unit < 2 ^ 62 → n ≤ 27 * 10 ^ 12 * unit → n < 2 ^ 117
small_product n unit small most = omega arith

-- it is little where the rules hold
pub little_is_paid : PaymentsPayLittle → PatternPaysLittle → (which : Which) (p : Product) (m : ℕ) → IsWellFormed p
    → ObeysMonthRules p m → m < p.months → month_unit p < 2 ^ 62
    → (i : ℕ) → i < length p.states → paid_in_state p (plan_named which p) m i < 2 ^ 117
little_is_paid payments pattern Benefits p m well rules inside unit i state =
    small_product (paid_in_state p (plan_named Benefits p) m i) (month_unit p) unit
    (rw (← state_pay_is p (plan_named Benefits p) m i) ((payments p m well rules inside).states i state))
little_is_paid payments pattern Pattern p m well rules inside unit i state =
    small_product (paid_in_state p (plan_named Pattern p) m i) (month_unit p) unit
    (let most = (pattern p m well rules inside).states i state in
    rw (← state_pay_is p (plan_named Pattern p) m i) (omega (arith, most)))
