use Rattle.std.proofs.Common.{codes, length, ◌++◌, ◌∙◌, ap}
use Rattle.report_columns.proofs.Parts.{four_parts}
use Rattle.portfolio_run.specs.TotalsText.{counted, group_lines, groups_text, head_lines}
use Rattle.portfolio_run.proofs.totals_text.groups_bytes.Goals as goal

pub returns : goal.returns
returns c =
    let totals = c.args.totals.now in
    four_parts c.new-bytes.result.items (head_lines totals) (group_lines totals.groups.items)
    (counted (codes "end ") (length totals.groups.items)) (codes "\n") _ _ _ _ c.in_ok-push_head.ensures
    (c.in_ok-push_groups.ensures
    ∙ ap (λ groups. c.push_head.new.out.items ++ group_lines groups) c.deref.ensures.value)
    (c.in_ok-push_count.ensures
    ∙ ap (λ n. c.push_groups.new.out.items ++ counted (codes "end ") n) (c.len.ensures ∙ totals.groups.ok.0))
    c.in_ok-push.ensures.items
    ∙ ap (λ start. start ++ groups_text totals) c.new-bytes.ensures.items
