-- Rule 18 of a generated product: what it pays is small.
use Rattle.std.proofs.Common.{◌≡◌, ℕ, ◌*◌, ◌-◌, ◌^◌, ◌≤◌, [], ◌∷◌, arith, ap, sym, subst, ◌∙◌}
use Rattle.std.specs.Prelude.{pos, nat_le, true, unsigned_abs, All, List}
use Rattle.std.specs.Prelude.{slice_index_or}
use Rattle.std.proofs.lemmas.Bool.Decides.{nat_tests}
use Rattle.std.proofs.lemmas.List.Elements.{All-nil, All-cons, All-map}
use Rattle.whole_laws.specs.Whole.{list_of, greatest_natural}
use Rattle.model_specs.specs.Product.{Product, Step, Lump}
use Rattle.model_specs.specs.Payments.{payment_plan, constant_step, step_at}
use Rattle.model_specs.specs.Growth.{load, sum_size, greatest_sum}
use Rattle.model_specs.specs.Ledgers.{greatest_lump, bound1024}
use Rattle.model_specs.specs.RecordRules.{IsWellFormed}
use Rattle.model_specs.specs.ValuationRules.{obeys_rule_18}
use Rattle.ledger_laws.specs.MonthLaws.{ObeysAllMonths}
use Rattle.ledger_laws.specs.PaymentLaws.{HasLoadsWithin}
use Rattle.ledger_laws.specs.PlanBoundLaws.{AddsAtMost}
use Rattle.whole_laws.proofs.Extremes.{greatest_natural_most}
use Rattle.whole_laws.proofs.Found.{place-has}
use Rattle.whole_laws.proofs.Tests.{within_is}
use Rattle.whole_laws.proofs.ListsByPlace.{All-list_of}
use Rattle.ledger_laws.proofs.Loads.{load_of}
use Rattle.ledger_laws.proofs.MonthFacts.{month_numbers}
use Rattle.ledger_laws.proofs.PaymentFacts.{pay_within, no_step_pays, lump_most}
use Rattle.ledger_laws.proofs.PlanBounds.{bound_most}
use Rattle.toml.specs.Data.{Data}
use Rattle.product_file.specs.LumpRule.{lump_items, lump_of}
use Rattle.workload_gen.specs.Tree.{annuity, lump, lumps, generated}
use Rattle.workload_gen.specs.Laws.{generated_product}
use Rattle.workload_gen.proofs.CurveRules.{drawn_below, listed-items}
use Rattle.workload_gen.proofs.MonthRules.{obeys_months}
use Rattle.workload_gen.proofs.Numerators.{payment_numerators}
use Rattle.workload_gen.proofs.PaymentRules.{lumps-months}

-- the sum of a death, as its one step
abbrev death_steps : List Step
death_steps = constant_step 0 (pos 10000000) ∷ []

death_load : (month : ℕ) → load (step_at death_steps month) month ≤ 10000000
death_load month =
    rw (within_is 0 month (omega arith)) (omega (arith, ap load_of (payment_numerators 10000000 (month - 0))))

-- the sums that the four transitions pay
sum_load : (e month : ℕ) → load (step_at (slice_index_or ([] ∷ [] ∷ death_steps ∷ death_steps ∷ []) e []) month) month
    ≤ 10000000
sum_load e month =
    let IsSmall : List Step → Type 0 = λ steps. load (step_at steps month) month ≤ 10000000 in
    place-has IsSmall ([] ∷ [] ∷ death_steps ∷ death_steps ∷ []) e [] (no_step_pays month 10000000)
    (All-cons IsSmall [] ([] ∷ death_steps ∷ death_steps ∷ []) (no_step_pays month 10000000)
    (All-cons IsSmall [] (death_steps ∷ death_steps ∷ []) (no_step_pays month 10000000)
    (All-cons IsSmall death_steps (death_steps ∷ []) (death_load month)
    (All-cons IsSmall death_steps [] (death_load month) (All-nil IsSmall)))))

death_size : sum_size 780 death_steps ≤ 10000000
death_size = greatest_natural_most (list_of 780 (λ m. load (step_at death_steps m) m)) 10000000
    (All-list_of (λ n. n ≤ 10000000) 780 (λ m. load (step_at death_steps m) m) (λ m below. death_load m))

greatest_sum_small : (seed : ℕ)
    → greatest_sum (generated_product seed) (payment_plan (generated_product seed)) ≤ 10000000
greatest_sum_small seed = four 0 0 (sum_size 780 death_steps) (omega arith) (omega arith) death_size
  where
    four : (a b c : ℕ) → a ≤ 10000000 → b ≤ 10000000 → c ≤ 10000000
        → greatest_natural (a ∷ b ∷ c ∷ c ∷ []) ≤ 10000000
    four a b c ha hb hc = omega arith

annuity_small : (seed : ℕ) → annuity seed ≤ 150001
annuity_small seed = omega (arith, drawn_below seed 0 50001 (omega arith))

lumps_small : (seed : ℕ) → All (λ l. unsigned_abs l.amount ≤ 150001) (generated_product seed).lumps
lumps_small seed =
    let tree = generated seed in
    let IsSmall : Data → Type 0 = λ d. unsigned_abs (lump_of tree d).amount ≤ 150001 in
    let AreSmall : List Data → Type 0 = λ ds. All IsSmall ds in
    let items : lump_items tree ≡ list_of 780 (lump (annuity seed)) =
    listed-items (lumps (annuity seed)) ∙ lumps-months (annuity seed) in
    All-map (λ (l : Lump). unsigned_abs l.amount ≤ 150001) (lump_of tree) (lump_items tree)
    (subst AreSmall (sym items) (All-list_of IsSmall 780 (lump (annuity seed)) (λ i below. annuity_small seed)))

loads_small : (seed : ℕ)
    → HasLoadsWithin (generated_product seed) (payment_plan (generated_product seed)) 0 10000000 150001
loads_small seed = record {
  sojourns = λ i month below. no_step_pays month 0;
  sums = λ e month below. sum_load e month;
  greatest_sum = greatest_sum_small seed;
  lumps = λ date. lump_most (generated_product seed) (payment_plan (generated_product seed)) date 150001
      (lumps_small seed);
}

-- what a product adds to its bound at once
module _ (product : Product) (well : IsWellFormed product) (rules : ObeysAllMonths product)
    (loads : HasLoadsWithin product (payment_plan product) 0 10000000 150001) where
  adds_little : AddsAtMost product (payment_plan product) (2 ^ 40)
  adds_little = record {
    sums = scaled (greatest_sum product (payment_plan product)) loads.greatest_sum;
    lumps = λ date. scaled (greatest_lump product (payment_plan product) date)
        (wider (greatest_lump product (payment_plan product) date) (loads.lumps date));
    pays = λ month below. (pay_within product (payment_plan product) month 0 10000000 150001 (2 ^ 40)
        (month_numbers product month well (rules month below)) below loads (omega arith)).cells;
  }
    where
      scaled : (a : ℕ) → a ≤ 10000000 → 1024 * a ≤ 2 ^ 40
      scaled a h = omega arith

      wider : (a : ℕ) → a ≤ 150001 → a ≤ 10000000
      wider a h = omega arith

  little_obeys_18 : obeys_rule_18 product ≡ true
  little_obeys_18 = enough (bound1024 product (payment_plan product))
      (bound_most product (payment_plan product) (2 ^ 40) well rules adds_little)
    where
      enough : (a : ℕ) → a ≤ 2 ^ 26 * 2 ^ 40 → nat_le a (2 ^ 66) ≡ true
      enough a h = grind (arith, nat_tests)

pub obeys_18 : (seed : ℕ) → IsWellFormed (generated_product seed) → obeys_rule_18 (generated_product seed) ≡ true
obeys_18 seed well = little_obeys_18 (generated_product seed) well (obeys_months seed) (loads_small seed)
