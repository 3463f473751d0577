use Rattle.std.proofs.Common.{◌≡◌, Option, Some, None, IfNone, option_map, ap, sym, ◌∙◌}
use Rattle.toml.specs.Data.{Members}
use Rattle.toml.specs.View.{table_view}
use Rattle.model_specs.specs.ValuationRules.{first_given}
use Rattle.product_file.specs.Reads.{broken_in_tree}
use Rattle.rule_breaks.specs.declared.breaks.RuleBreak.{RuleBreak}
use Rattle.rule_breaks.specs.Breaks.{break_of}
use Rattle.file_checks.specs.Broken.{head_breaks, list_breaks, ObeysHead, ObeysLists, ObeysRules}
use Rattle.file_checks.proofs.Given.{given_first, given_second, IfOk-follows}
use Rattle.file_checks.proofs.verdict.first_break.Goals as goal

pub returns-in-Some-clause-first : goal.returns-in-Some-clause-first
returns-in-Some-clause-first c =
    let tree = table_view c.args.tree.now in
    given_first (head_breaks tree) (list_breaks tree) (break_of c.in-Some.broken)
    (ap (option_map break_of) (sym c.in-Some.is) ∙ c.head_break.ensures.first)

pub returns-in-None-clause-first : goal.returns-in-None-clause-first
returns-in-None-clause-first c =
    let tree = table_view c.args.tree.now in
    IfOk-follows c.list_break.result (λ (b : Option RuleBreak). option_map break_of b ≡ first_given (list_breaks tree))
    (λ (b : Option RuleBreak). option_map break_of b ≡ broken_in_tree tree)
    (λ b first. first ∙ given_second (head_breaks tree) (list_breaks tree)
    (sym c.head_break.ensures.first ∙ ap (option_map break_of) c.in-None.is)) c.list_break.ensures.first

pub returns-in-None-clause-none : goal.returns-in-None-clause-none
returns-in-None-clause-none c =
    let tree = table_view c.args.tree.now in
    let head : ObeysHead tree = c.in-None.ensures.none in
    IfOk-follows c.list_break.result (λ (b : Option RuleBreak). IfNone b (ObeysLists tree))
    (λ (b : Option RuleBreak). IfNone b (ObeysRules tree)) (λ b lists. both b tree head lists) c.list_break.ensures.none
  where
    both : (b : Option RuleBreak) (tree : Members) → ObeysHead tree → IfNone b (ObeysLists tree)
        → IfNone b (ObeysRules tree)
    both None tree head lists = record { head = head; lists = lists }
    both (Some x) tree head lists = lists
