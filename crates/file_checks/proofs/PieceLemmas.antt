-- Good pieces of a curve are at most as many as the term has months.
use Rattle.std.proofs.Common.{◌≡◌, ℕ, ◌<◌, ◌≤◌, suc, true, codes, List, length, None, ap}
use Rattle.std.proofs.lemmas.Bool.{and_parts}
use Rattle.std.proofs.lemmas.List.{length-map}
use Rattle.toml.specs.Data.{Data, Members}
use Rattle.product_file.specs.Checks.{first_failed}
use Rattle.product_file.specs.Members.{whole_of, item_at, items_of, members_of}
use Rattle.product_file.specs.HeadRules.{rule_4}
use Rattle.product_file.specs.CurveRules.{most_coefficients, is_piece, is_in_order, curve_items}
use Rattle.product_file.specs.TransitionRule.{transition_items}
use Rattle.file_checks.specs.Lists.{is_good_piece}
use Rattle.file_checks.proofs.InOrder.{few_in_order, term-le}

pub few_pieces : (tree : Members) (items : List Data) (i : ℕ) → first_failed (rule_4 tree) ≡ None
    → ((k : ℕ) → k < i → is_good_piece tree items k ≡ true) → i ≤ 1200
few_pieces tree items i term good =
    let months = whole_of (codes "months") tree in
    few_in_order months items i (term-le tree term)
    (λ k below. (and_parts (is_piece (most_coefficients tree) (item_at items k)) (is_in_order months items k)
    (good k below)).1)

-- there is a curve more than there are transitions
pub length-curves : (tree : Members) → length (curve_items tree) ≡ suc (length (transition_items tree))
length-curves tree = ap suc (length-map (transition_items tree) (λ d. items_of (codes "rate") (members_of d)))
