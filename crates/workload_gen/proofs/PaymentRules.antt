-- The payments of a generated tree: the sums of passes_both deaths, and a lump each month.
use Rattle.std.proofs.Common.{◌≡◌, ℕ, zero, suc, ◌^◌, ◌<◌, ◌≤◌, List, [], ◌∷◌, arith, refl, ap, sym, subst, ◌∙◌}
use Rattle.std.specs.Prelude.{pos, Bool, true, false, not, ◌&&◌, ◌==◌, None, is_some, length, take, codes}
use Rattle.std.specs.Prelude.{nat_le, int_le, unsigned_abs}
use Rattle.std.specs.List.{list_any}
use Rattle.std.proofs.lemmas.Bool.Decides.{nat_tests}
use Rattle.std.proofs.lemmas.Int.{ints}
use Rattle.toml.specs.Data.{Data, Members}
use Rattle.whole_laws.specs.Whole.{list_of}
use Rattle.model_specs.specs.Payments.{constant_step}
use Rattle.model_specs.specs.MonthNumbers.{bernstein_numerators}
use Rattle.whole_laws.proofs.ListsByPlace.{at-list_of, length-list_of}
use Rattle.whole_laws.proofs.Tests.{within_is as at_most, passes_both}
use Rattle.product_file.specs.Checks.{first_failed, first_failed_of_lists}
use Rattle.product_file.specs.Members.{item_at, whole_of, members_of}
use Rattle.product_file.specs.HeadRules.{is_from_to, state_of}
use Rattle.product_file.specs.TransitionRule.{state_at, is_same_pair}
use Rattle.product_file.specs.PaymentRules.{rule_11, is_bounded_step, are_small}
use Rattle.product_file.specs.LumpRule.{rule_12, lump_items, lump_of, is_lump, is_good_lump, date_and_state}
use Rattle.workload_gen.specs.Tree.{lump, lumps, annuity, generated}
use Rattle.workload_gen.proofs.Passing.{places_pass, each_place_passes}
use Rattle.workload_gen.proofs.CurveRules.{listed-items, drawn_below}
use Rattle.workload_gen.proofs.Numerators.{payment, payment_numerators}

-- the sum of a death is small in each month
sum_is_small : (k : ℕ) → are_small (bernstein_numerators (payment 10000000) k) ≡ true
sum_is_small k = ap are_small (payment_numerators 10000000 k)

sum_is_bounded : is_bounded_step (constant_step 0 (pos 10000000)) 780 ≡ true
sum_is_bounded = passes_both true _ refl
    (each_place_passes (λ k. are_small (bernstein_numerators (payment 10000000) k)) 780 (λ k. k)
    (λ k below. sum_is_small k))

two_sums_pass : (check : Bool) → check ≡ true
    → first_failed_of_lists ([] ∷ [] ∷ (check ∷ []) ∷ (check ∷ []) ∷ []) ≡ None
two_sums_pass check h = rw h

pub amounts_pass : (seed : ℕ) → first_failed_of_lists (rule_11 (generated seed)) ≡ None
amounts_pass seed = two_sums_pass (is_bounded_step (constant_step 0 (pos 10000000)) 780) sum_is_bounded

-- no earlier item of a list by places passes a test
none_earlier : (test : Data → Bool) (n k : ℕ) (f : ℕ → Data) → ((i : ℕ) → i < k → test (f i) ≡ false)
    → list_any test (take k (list_of n f)) ≡ false
none_earlier test zero zero f h = refl
none_earlier test zero (suc k) f h = refl
none_earlier test (suc n) zero f h = refl
none_earlier test (suc n) (suc k) f h =
    rw (h 0 (omega arith)) (none_earlier test n k (λ i. f (suc i)) (λ i below. h (suc i) (omega arith)))

-- the check of a lump, of the lumps before it
abbrev is_good_after : Members → Data → List Data → Bool
is_good_after tree d earlier =
    is_lump d && is_from_to (pos 0) (whole_of (codes "months") tree) (whole_of (codes "month") (members_of d))
    && is_some (state_at tree (codes "state") d) && nat_le (unsigned_abs (lump_of tree d).amount) (10 ^ 12)
    && not (list_any (λ e. is_same_pair (date_and_state (lump_of tree d)) (date_and_state (lump_of tree e))) earlier)

-- lumps one month after the other
module _ (tree : Members) (amount n months : ℕ) (items : lump_items tree ≡ list_of n (lump amount))
    (term : whole_of (codes "months") tree ≡ pos months) (within : n ≤ months) (small : amount ≤ 10 ^ 12)
    (state : is_some (state_of tree (codes "disabled")) ≡ true) where
  other_month : (k i : ℕ) → i < k → is_same_pair (date_and_state (lump_of tree (lump amount k)))
      (date_and_state (lump_of tree (lump amount i))) ≡ false
  other_month k i below = apart (suc k) (suc i) _ (omega arith)
    where
      apart : (a b : ℕ) (same : Bool) → b < a → ((a == b) && same) ≡ false
      apart a b same h = let differ : (a == b) ≡ false = grind (arith, nat_tests) in rw differ

  dated : (k : ℕ) → suc k ≤ months → is_from_to (pos 0) (pos months) (pos (suc k)) ≡ true
  dated k h = passes_both _ _ (natural (suc k)) (most (suc k) months h)
    where
      natural : (a : ℕ) → int_le (pos 0) (pos a) ≡ true
      natural a = grind (arith, ints)

      most : (a b : ℕ) → a ≤ b → int_le (pos a) (pos b) ≡ true
      most a b h = grind (arith, ints)

  good_after : (k : ℕ) → k < n → is_good_after tree (lump amount k) (take k (list_of n (lump amount))) ≡ true
  good_after k below = passes_both _ _
      (passes_both _ _ (passes_both _ _ (passes_both true _ refl (rw term (dated k (omega arith)))) state)
      (at_most amount (10 ^ 12) small))
      (ap not (none_earlier (λ e. is_same_pair (date_and_state (lump_of tree (lump amount k)))
      (date_and_state (lump_of tree e))) n k (lump amount) (other_month k)))

  good_at : (k : ℕ) → k < n → is_good_lump tree k ≡ true
  good_at k below =
      let this : item_at (lump_items tree) k ≡ lump amount k =
      ap (λ ds. item_at ds k) items ∙ at-list_of n (lump amount) k _ below in
      let IsGood : Data → Type 0 = λ d. is_good_after tree d (take k (lump_items tree)) ≡ true in
      let IsGoodAfter : List Data → Type 0 = λ ds. is_good_after tree (lump amount k) (take k ds) ≡ true in
      subst IsGood (sym this) (subst IsGoodAfter (sym items) (good_after k below))

  monthly_pass : first_failed (rule_12 tree) ≡ None
  monthly_pass =
      let count : length (lump_items tree) ≡ n = ap length items ∙ length-list_of n (lump amount) in
      places_pass (length (lump_items tree)) (is_good_lump tree) (λ k below. good_at k (omega (arith, count)))

-- the lumps of a tree, by their months
pub lumps-months : (amount : ℕ) → lumps amount ≡ list_of 780 (lump amount)
unfolding lumps
lumps-months amount = refl

pub lumps_pass : (seed : ℕ) → first_failed (rule_12 (generated seed)) ≡ None
lumps_pass seed = monthly_pass (generated seed) (annuity seed) 780 780
    (listed-items (lumps (annuity seed)) ∙ lumps-months (annuity seed)) refl (omega arith)
    (omega (arith, drawn_below seed 0 50001 (omega arith))) refl
