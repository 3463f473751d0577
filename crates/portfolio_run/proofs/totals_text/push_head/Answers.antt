use Rattle.std.proofs.Common.{codes, length, ◌++◌, ◌∙◌, ap}
use Rattle.report_columns.proofs.Parts.{four_parts}
use Rattle.portfolio_run.specs.TotalsText.{counted}
use Rattle.portfolio_run.proofs.totals_text.push_head.Goals as goal

pub returns : goal.returns
returns c =
    let totals = c.args.totals.now in
    four_parts c.args.out.now.items (counted (codes "portfolio\ndegree ") totals.degree)
    (counted (codes " policies ") totals.policies) (counted (codes " groups ") (length totals.groups.items))
    (codes "\n") _ _ _ _
    (c.in_ok-push_count.ensures
    ∙ ap (λ n. c.args.out.now.items ++ counted (codes "portfolio\ndegree ") n) c.from.ensures)
    c.in_ok-push_count-2.ensures
    (c.in_ok-push_count-3.ensures
    ∙ ap (λ n. c.push_count-2.new.out.items ++ counted (codes " groups ") n) (c.len.ensures ∙ totals.groups.ok.0))
    c.in_ok-push.ensures.items
