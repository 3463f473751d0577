-- A product that a tree reads as is well formed.
use Rattle.std.proofs.Common.{◌≡◌, refl, ap, subst}
use Rattle.std.specs.Prelude.{Option, Some, None, Result, Ok, Err, is_ok}
use Rattle.std.proofs.lemmas.Bool.{false≢true}
use Rattle.toml.specs.Data.{Members}
use Rattle.model_specs.specs.Product.{Product}
use Rattle.model_specs.specs.ValuationRules.{RuleBreak}
use Rattle.model_specs.specs.RecordRules.{IsWellFormed}
use Rattle.product_file.specs.Checks.{first_failed, first_failed_of_lists}
use Rattle.product_file.specs.HeadRules.{rule_1, rule_2, rule_3, rule_4, rule_5, rule_6}
use Rattle.product_file.specs.TransitionRule.{rule_7}
use Rattle.product_file.specs.CurveRules.{rule_8, rule_9}
use Rattle.product_file.specs.PaymentRules.{rule_10, rule_11}
use Rattle.product_file.specs.LumpRule.{rule_12}
use Rattle.product_file.specs.PatternRules.{rule_13, rule_14}
use Rattle.product_file.specs.Reads.{product_of, broken_in_tree, product_unless, reads, broken_at}
use Rattle.product_file.specs.ReadLaws.{ReadProductsAreWellFormed}
use Rattle.product_file.proofs.Passed.{given-head, given-tail, unbroken}
use Rattle.product_file.proofs.Heads.{good_names, good_head}
use Rattle.product_file.proofs.Transitions.{good_transitions}
use Rattle.product_file.proofs.Curves.{good_curves}
use Rattle.product_file.proofs.Payments.{good_payments}
use Rattle.product_file.proofs.Lumps.{good_lumps, good_pattern}

-- no check of rules 1 to 14 fails
pub record ObeysRules (tree : Members) : Type 0 where
  pub one : first_failed (rule_1 tree) ≡ None
  pub two : first_failed (rule_2 tree) ≡ None
  pub three : first_failed (rule_3 tree) ≡ None
  pub four : first_failed (rule_4 tree) ≡ None
  pub five : first_failed (rule_5 tree) ≡ None
  pub six : first_failed (rule_6 tree) ≡ None
  pub seven : first_failed (rule_7 tree) ≡ None
  pub eight : first_failed_of_lists (rule_8 tree) ≡ None
  pub nine : first_failed_of_lists (rule_9 tree) ≡ None
  pub ten : first_failed_of_lists (rule_10 tree) ≡ None
  pub eleven : first_failed_of_lists (rule_11 tree) ≡ None
  pub twelve : first_failed (rule_12 tree) ≡ None
  pub thirteen : first_failed (rule_13 tree) ≡ None
  pub fourteen : first_failed (rule_14 tree) ≡ None

pub obeys : (tree : Members) → broken_in_tree tree ≡ None → ObeysRules tree
obeys tree h1 =
    let h2 = given-tail (broken_at 1 (first_failed (rule_1 tree))) _ h1 in
    let h3 = given-tail (broken_at 2 (first_failed (rule_2 tree))) _ h2 in
    let h4 = given-tail (broken_at 3 (first_failed (rule_3 tree))) _ h3 in
    let h5 = given-tail (broken_at 4 (first_failed (rule_4 tree))) _ h4 in
    let h6 = given-tail (broken_at 5 (first_failed (rule_5 tree))) _ h5 in
    let h7 = given-tail (broken_at 6 (first_failed (rule_6 tree))) _ h6 in
    let h8 = given-tail (broken_at 7 (first_failed (rule_7 tree))) _ h7 in
    let h9 = given-tail (broken_at 8 (first_failed_of_lists (rule_8 tree))) _ h8 in
    let h10 = given-tail (broken_at 9 (first_failed_of_lists (rule_9 tree))) _ h9 in
    let h11 = given-tail (broken_at 10 (first_failed_of_lists (rule_10 tree))) _ h10 in
    let h12 = given-tail (broken_at 11 (first_failed_of_lists (rule_11 tree))) _ h11 in
    let h13 = given-tail (broken_at 12 (first_failed (rule_12 tree))) _ h12 in
    let h14 = given-tail (broken_at 13 (first_failed (rule_13 tree))) _ h13 in
    record {
      one = unbroken 1 _ (given-head _ _ h1);
      two = unbroken 2 _ (given-head _ _ h2);
      three = unbroken 3 _ (given-head _ _ h3);
      four = unbroken 4 _ (given-head _ _ h4);
      five = unbroken 5 _ (given-head _ _ h5);
      six = unbroken 6 _ (given-head _ _ h6);
      seven = unbroken 7 _ (given-head _ _ h7);
      eight = unbroken 8 _ (given-head _ _ h8);
      nine = unbroken 9 _ (given-head _ _ h9);
      ten = unbroken 10 _ (given-head _ _ h10);
      eleven = unbroken 11 _ (given-head _ _ h11);
      twelve = unbroken 12 _ (given-head _ _ h12);
      thirteen = unbroken 13 _ (given-head _ _ h13);
      fourteen = unbroken 14 _ (given-head _ _ h14);
    }

-- the product of a tree that obeys the rules
pub product_is_well_formed : (tree : Members) → broken_in_tree tree ≡ None → IsWellFormed (product_of tree)
product_is_well_formed tree h =
    let o : ObeysRules tree = obeys tree h in
    record {
      names = good_names tree o.three;
      head = good_head tree o.four o.five o.six;
      transitions = good_transitions tree o.seven;
      curves = good_curves tree o.eight o.nine;
      payments = good_payments tree o.ten o.eleven;
      lumps = good_lumps tree o.twelve;
      pattern = good_pattern tree o.thirteen o.fourteen;
    }

-- a tree that reads as a product obeys the rules, and this is the product
pub read_is_unbroken : (tree : Members) (product : Product) → reads tree ≡ Ok product
    → (broken_in_tree tree ≡ None) × (product_of tree ≡ product)
read_is_unbroken tree product h = by-break (broken_in_tree tree) h
  where
    value_or : Product → Result Product RuleBreak → Product
    value_or other (Ok p) = p
    value_or other (Err x) = other

    by-break : (o : Option RuleBreak) → product_unless (product_of tree) o ≡ Ok product
        → (o ≡ None) × (product_of tree ≡ product)
    by-break None e = (refl, ap (value_or (product_of tree)) e)
    by-break (Some x) e = absurd (false≢true (ap is_ok e))

pub read_products_are_well_formed : ReadProductsAreWellFormed
read_products_are_well_formed tree product h =
    subst IsWellFormed (read_is_unbroken tree product h).1
    (product_is_well_formed tree (read_is_unbroken tree product h).0)
