-- The tree of each seed is valid.
use Rattle.std.proofs.Common.{◌≡◌, ℕ, ◌^◌, ◌<◌, [], ◌∷◌, ap}
use Rattle.std.specs.Prelude.{Bool, true, not, None, Option, option_map}
use Rattle.model_specs.specs.Product.{Product}
use Rattle.model_specs.specs.ValuationRules.{RuleBreak, obeys_rule_15, obeys_rule_16, obeys_rule_17, obeys_rule_18}
use Rattle.model_specs.specs.ValuationRules.{broken_in_months, broken_at_last, first_given, first_broken}
use Rattle.ledger_laws.specs.MonthLaws.{ObeysAllMonths}
use Rattle.product_file.specs.Checks.{first_failed, first_failed_of_lists}
use Rattle.product_file.specs.HeadRules.{rule_1, rule_2, rule_3, rule_4, rule_5, rule_6}
use Rattle.product_file.specs.TransitionRule.{rule_7}
use Rattle.product_file.specs.CurveRules.{rule_8, rule_9}
use Rattle.product_file.specs.PaymentRules.{rule_10, rule_11}
use Rattle.product_file.specs.LumpRule.{rule_12}
use Rattle.product_file.specs.PatternRules.{rule_13, rule_14}
use Rattle.product_file.specs.Reads.{broken_in_tree, broken_at, product_unless, product_of}
use Rattle.workload_gen.specs.Tree.{generated}
use Rattle.product_file.proofs.Products.{product_is_well_formed}
use Rattle.workload_gen.specs.Laws.{generated_product, GeneratedTreesAreValid}
use Rattle.workload_gen.proofs.TreeRules.{keys_pass, format_passes, term_passes, denominator_passes, start_passes}
use Rattle.workload_gen.proofs.TreeRules.{transitions_pass, sums_pass, payers_pass, pattern_passes}
use Rattle.workload_gen.proofs.SeedNames.{names_pass}
use Rattle.workload_gen.proofs.CurveRules.{pieces_pass, sizes_pass}
use Rattle.workload_gen.proofs.PaymentRules.{amounts_pass, lumps_pass}
use Rattle.workload_gen.proofs.MonthRules.{obeys_months}
use Rattle.workload_gen.proofs.PlanBound.{obeys_18}
use Rattle.whole_laws.proofs.Found.{none_found}

-- none of fourteen rules is broken
none_broken : (a b c d e f g h i j k l m n : Option ℕ) → a ≡ None → b ≡ None → c ≡ None → d ≡ None → e ≡ None
    → f ≡ None → g ≡ None → h ≡ None → i ≡ None → j ≡ None → k ≡ None → l ≡ None → m ≡ None → n ≡ None
    → first_given (broken_at 1 a ∷ broken_at 2 b ∷ broken_at 3 c ∷ broken_at 4 d ∷ broken_at 5 e ∷ broken_at 6 f
    ∷ broken_at 7 g ∷ broken_at 8 h ∷ broken_at 9 i ∷ broken_at 10 j ∷ broken_at 11 k ∷ broken_at 12 l
    ∷ broken_at 13 m ∷ broken_at 14 n ∷ []) ≡ None
none_broken a b c d e f g h i j k l m n ea eb ec ed ee ef eg eh ei ej ek el em en =
    rw (ea, eb, ec, ed, ee, ef, eg, eh, ei, ej, ek, el, em, en)

unbroken : (seed : ℕ) → seed < 2 ^ 64 → broken_in_tree (generated seed) ≡ None
unbroken seed below =
    let tree = generated seed in
    none_broken (first_failed (rule_1 tree)) (first_failed (rule_2 tree)) (first_failed (rule_3 tree))
    (first_failed (rule_4 tree)) (first_failed (rule_5 tree)) (first_failed (rule_6 tree)) (first_failed (rule_7 tree))
    (first_failed_of_lists (rule_8 tree)) (first_failed_of_lists (rule_9 tree)) (first_failed_of_lists (rule_10 tree))
    (first_failed_of_lists (rule_11 tree)) (first_failed (rule_12 tree)) (first_failed (rule_13 tree))
    (first_failed (rule_14 tree)) (keys_pass seed) (format_passes seed) (names_pass seed below) (term_passes seed)
    (denominator_passes seed) (start_passes seed) (transitions_pass seed) (pieces_pass seed) (sizes_pass seed)
    (sums_pass seed) (amounts_pass seed) (lumps_pass seed) (payers_pass seed) (pattern_passes seed)

-- a product that obeys rules 15 to 17 in each month, and rule 18
module _ (product : Product) (rules : ObeysAllMonths product) (bound : obeys_rule_18 product ≡ true) where
  months_unbroken : (rule : ℕ) (obeys : ℕ → Bool) → ((m : ℕ) → m < product.months → obeys m ≡ true)
      → broken_in_months product rule obeys ≡ None
  months_unbroken rule obeys h = ap (option_map (λ m. record { rule = rule; place = m }))
      (none_found (λ m. not (obeys m)) product.months (λ m. m) (λ m below. ap not (h m below)))

  last_unbroken : broken_at_last product ≡ None
  last_unbroken = rw bound

  four_given : (a b c d : Option RuleBreak) → a ≡ None → b ≡ None → c ≡ None → d ≡ None
      → first_given (a ∷ b ∷ c ∷ d ∷ []) ≡ None
  four_given a b c d ea eb ec ed = rw (ea, eb, ec, ed)

  valued : first_broken product ≡ None
  valued = four_given (broken_in_months product 15 (obeys_rule_15 product))
      (broken_in_months product 16 (obeys_rule_16 product)) (broken_in_months product 17 (obeys_rule_17 product))
      (broken_at_last product) (months_unbroken 15 (obeys_rule_15 product) (λ m below. (rules m below).interest))
      (months_unbroken 16 (obeys_rule_16 product) (λ m below. (rules m below).rates))
      (months_unbroken 17 (obeys_rule_17 product) (λ m below. (rules m below).exits)) last_unbroken

pub generated_valid : GeneratedTreesAreValid
generated_valid seed below = record {
  gives = ap (product_unless (product_of (generated seed))) (unbroken seed below);
  valued = valued (generated_product seed) (obeys_months seed)
      (obeys_18 seed (product_is_well_formed (generated seed) (unbroken seed below)));
}
