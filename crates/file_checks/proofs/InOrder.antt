-- Starts in order rise from 0 and are below the term, so there are at most as many as the term has months.
use Rattle.std.proofs.Common.{◌≡◌, ◌≢◌, ℕ, zero, suc, ◌-◌, ◌<◌, ◌≤◌, ℤ, pos, negsuc, ◌≤ℤ◌, ◌<ℤ◌, true, ◌&&◌}
use Rattle.std.proofs.Common.{codes, List, None, refl, ap, ◌∙◌, arith}
use Rattle.std.specs.Prelude.{int_le, int_lt}
use Rattle.std.proofs.lemmas.Bool.{and_parts}
use Rattle.std.proofs.lemmas.Int.{ints}
use Rattle.toml.specs.Data.{Data, Members}
use Rattle.whole_laws.specs.Whole.{natural_part}
use Rattle.whole_laws.proofs.Tests.{le_from_test}
use Rattle.product_file.specs.Checks.{first_failed}
use Rattle.product_file.specs.Members.{whole_of, item_at}
use Rattle.product_file.specs.HeadRules.{rule_4}
use Rattle.product_file.specs.CurveRules.{start_of, is_in_order}
use Rattle.file_checks.proofs.Checks.{passed_at}

below_from_test : (a b : ℤ) → int_lt a b ≡ true → a <ℤ b
below_from_test a b h = grind (arith, ints)

-- a later start is in order where it is above the one before and below the term
pub in_order-later : (months : ℤ) (items : List Data) (i : ℕ) (before start : ℤ) → i ≢ 0
    → before ≡ start_of (item_at items (i - 1)) → start ≡ start_of (item_at items i)
    → (int_lt before start && int_lt start months) ≡ is_in_order months items i
in_order-later months items zero before start other b s = absurd (omega arith)
in_order-later months items (suc i) before start other b s =
    let same : suc i - 1 ≡ i = omega arith in
    rw (b ∙ ap (λ k. start_of (item_at items k)) same, s) refl

above_more : (k : ℕ) (a b : ℤ) → pos k ≤ℤ a → a <ℤ b → pos (suc k) ≤ℤ b
above_more k a b h less = omega (arith, ints)

-- starts in order are at least their places
start-above : (months : ℤ) (items : List Data) (k : ℕ) → ((i : ℕ) → i ≤ k → is_in_order months items i ≡ true)
    → pos k ≤ℤ start_of (item_at items k)
start-above months items zero ordered =
    let start = start_of (item_at items 0) in
    let all = and_parts (int_le (pos 0) start && int_le start (pos 0)) (int_lt start months)
    (ordered 0 (omega arith)) in
    le_from_test _ _ (and_parts (int_le (pos 0) start) (int_le start (pos 0)) all.0).0
start-above months items (suc k) ordered =
    let start = start_of (item_at items (suc k)) in
    let before = start_of (item_at items k) in
    let all = and_parts (int_lt before start) (int_lt start months) (ordered (suc k) (omega arith)) in
    above_more k before start (start-above months items k (λ i below. ordered i (omega arith)))
    (below_from_test before start all.0)

-- and below the term
start-below : (months : ℤ) (items : List Data) (k : ℕ) → is_in_order months items k ≡ true
    → start_of (item_at items k) <ℤ months
start-below months items zero ordered =
    let start = start_of (item_at items 0) in
    below_from_test _ _ (and_parts (int_le (pos 0) start && int_le start (pos 0)) (int_lt start months) ordered).1
start-below months items (suc k) ordered =
    let start = start_of (item_at items (suc k)) in
    below_from_test _ _ (and_parts (int_lt (start_of (item_at items k)) start) (int_lt start months) ordered).1

below_term : (k : ℕ) (start months : ℤ) → pos k ≤ℤ start → start <ℤ months → months ≤ℤ pos 1200 → k < 1200
below_term k start months above below most = omega (arith, ints)

-- the term has at most 1200 months
pub term-le : (tree : Members) → first_failed (rule_4 tree) ≡ None
    → whole_of (codes "months") tree ≤ℤ pos 1200
term-le tree none =
    let months = whole_of (codes "months") tree in
    le_from_test _ _ (and_parts (int_le (pos 1) months) (int_le months (pos 1200))
    (passed_at (rule_4 tree) 0 none (omega arith))).1

pub few_in_order : (months : ℤ) (items : List Data) (i : ℕ) → months ≤ℤ pos 1200
    → ((k : ℕ) → k < i → is_in_order months items k ≡ true) → i ≤ 1200
few_in_order months items zero term ordered = omega arith
few_in_order months items (suc k) term ordered =
    below_term k (start_of (item_at items k)) months (start-above months items k (λ i below. ordered i (omega arith)))
    (start-below months items k (ordered k (omega arith))) term

small : (a months : ℤ) → a <ℤ months → months ≤ℤ pos 1200 → natural_part a ≤ 1200
small (pos a) months below most = omega (arith, ints)
small (negsuc a) months below most = omega arith

-- a start in order is at most 1200
pub start-small : (tree : Members) (items : List Data) (i : ℕ) → first_failed (rule_4 tree) ≡ None
    → is_in_order (whole_of (codes "months") tree) items i ≡ true → natural_part (start_of (item_at items i)) ≤ 1200
start-small tree items i term ordered =
    small (start_of (item_at items i)) (whole_of (codes "months") tree)
    (start-below (whole_of (codes "months") tree) items i ordered) (term-le tree term)
