-- What a product file reads as: the product of its tree, or the first broken of rules 1 to 14 with its least place.
use Rattle.std.specs.Prelude.{ℕ, codes, [], ◌∷◌, map, Option, Some, None, option_map, unwrap_or, Result, Ok, Err}
use Rattle.toml.specs.Data.{Data, Members}
use Rattle.whole_laws.specs.Whole.{natural_part}
use Rattle.model_specs.specs.Product.{Product, Transition, Sojourn}
use Rattle.model_specs.specs.ValuationRules.{RuleBreak, first_given}
use Rattle.product_file.specs.Members.{whole_of, text_of, items_of, members_of}
use Rattle.product_file.specs.Checks.{first_failed, first_failed_of_lists}
use Rattle.product_file.specs.HeadRules.{rule_1, rule_2, rule_3, rule_4, rule_5, rule_6, state_names, state_of}
use Rattle.product_file.specs.TransitionRule.{rule_7, transition_items, state_index}
use Rattle.product_file.specs.CurveRules.{rule_8, rule_9, piece_of, months_of_term}
use Rattle.product_file.specs.PaymentRules.{rule_10, rule_11, step_of, sum_items, steps_items, sojourn_items}
use Rattle.product_file.specs.LumpRule.{rule_12, lump_items, lump_of}
use Rattle.product_file.specs.PatternRules.{rule_13, rule_14, pattern_of}

-- a transition of the product
abbrev pub transition_of : Members → Data → Transition
transition_of tree d = record {
  from = state_index tree (codes "from") d;
  to = state_index tree (codes "to") d;
  rate = map piece_of (items_of (codes "rate") (members_of d));
  sum = map (step_of tree) (sum_items d);
}

-- a sojourn of the product
abbrev pub sojourn_of : Members → Data → Sojourn
sojourn_of tree d = record {
  state = state_index tree (codes "state") d;
  steps = map (step_of tree) (steps_items d);
}

-- the product that a tree gives, where it breaks no rule
abbrev pub product_of : Members → Product
product_of tree = record {
  name = text_of (codes "name") tree;
  states = state_names tree;
  start = unwrap_or (state_of tree (text_of (codes "start") tree)) 0;
  months = months_of_term tree;
  den = natural_part (whole_of (codes "den") tree);
  interest = map piece_of (items_of (codes "interest") tree);
  transitions = map (transition_of tree) (transition_items tree);
  sojourns = map (sojourn_of tree) (sojourn_items tree);
  lumps = map (lump_of tree) (lump_items tree);
  pattern = pattern_of tree;
}

-- a rule that is broken at a place, if it is
abbrev pub broken_at : ℕ → Option ℕ → Option RuleBreak
broken_at rule place = option_map (λ p. record { rule = rule; place = p }) place

-- the first broken of rules 1 to 14, with its least place
abbrev pub broken_in_tree : Members → Option RuleBreak
broken_in_tree tree = first_given
    (broken_at 1 (first_failed (rule_1 tree)) ∷ broken_at 2 (first_failed (rule_2 tree))
    ∷ broken_at 3 (first_failed (rule_3 tree)) ∷ broken_at 4 (first_failed (rule_4 tree))
    ∷ broken_at 5 (first_failed (rule_5 tree)) ∷ broken_at 6 (first_failed (rule_6 tree))
    ∷ broken_at 7 (first_failed (rule_7 tree)) ∷ broken_at 8 (first_failed_of_lists (rule_8 tree))
    ∷ broken_at 9 (first_failed_of_lists (rule_9 tree)) ∷ broken_at 10 (first_failed_of_lists (rule_10 tree))
    ∷ broken_at 11 (first_failed_of_lists (rule_11 tree)) ∷ broken_at 12 (first_failed (rule_12 tree))
    ∷ broken_at 13 (first_failed (rule_13 tree)) ∷ broken_at 14 (first_failed (rule_14 tree)) ∷ [])

-- a product, or the rule that is broken
abbrev pub product_unless : Product → Option RuleBreak → Result Product RuleBreak
product_unless product None = Ok product
product_unless product (Some rule_break) = Err rule_break

-- what a tree reads as: its product, or the rule that it breaks first
abbrev pub reads : Members → Result Product RuleBreak
reads tree = product_unless (product_of tree) (broken_in_tree tree)
