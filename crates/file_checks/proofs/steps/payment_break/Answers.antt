use Rattle.std.proofs.Common.{◌≡◌, ◌+◌, map, length, ap, sym, ◌∙◌, arith}
use Rattle.std.proofs.lemmas.List.{length-map}
use Rattle.whole_laws.specs.Whole.{list_of}
use Rattle.toml.specs.View.{table_view}
use Rattle.product_file.specs.Checks.{first_failed_from}
use Rattle.product_file.specs.TransitionRule.{transition_items}
use Rattle.product_file.specs.PaymentRules.{sojourn_items, sum_rule_10, sojourn_rule_10}
use Rattle.file_checks.proofs.Checks.{first_of_both-first, first_of_both-second}
use Rattle.file_checks.proofs.steps.payment_break.Goals as goal

pub returns-in-Some : goal.returns-in-Some
returns-in-Some c =
    let tree = table_view c.args.tree.now in
    first_of_both-first 0 c.in-Some.place (map (sum_rule_10 tree) (transition_items tree))
    (list_of (length (sojourn_items tree)) (sojourn_rule_10 tree)) (sym c.in-Some.is ∙ c.sums_break.ensures)

pub returns-in-None : goal.returns-in-None
returns-in-None c =
    let tree = table_view c.args.tree.now in
    let sums = map (sum_rule_10 tree) (transition_items tree) in
    let sojourns = list_of (length (sojourn_items tree)) (sojourn_rule_10 tree) in
    let count : length (transition_items tree) ≡ 0 + length sums =
    omega (arith, length-map (transition_items tree) (sum_rule_10 tree)) in
    c.sojourns_break.ensures ∙ ap (λ n. first_failed_from n sojourns) count
    ∙ first_of_both-second 0 sums sojourns (sym c.sums_break.ensures ∙ c.in-None.is)
