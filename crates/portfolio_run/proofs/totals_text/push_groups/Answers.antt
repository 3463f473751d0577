use Rattle.std.proofs.Common.{◌++◌, ◌∙◌, ap, sym, append_assoc, get_or}
use Rattle.portfolio_run.specs.TotalsText.{group_line}
use Rattle.portfolio_run.proofs.TotalLines.{lines_more}
use Rattle.portfolio_run.proofs.totals_text.push_groups.Goals as goal

pub loop-i-preserved : goal.loop-i-preserved
loop-i-preserved c =
    let total = c.index-groups-i.result in
    let line = group_line (get_or c.args.groups.now c.loop-i.i total) in
    let more = lines_more c.args.groups.now c.loop-i.i total c.loop-i-test.true in
    c.in_ok-push_group.ensures ∙ ap (λ t. c.loop-i.out.items ++ group_line t) c.index-groups-i.is
    ∙ ap (λ text. text ++ line) c.loop-i.invariant ∙ append_assoc _ _ line
    ∙ ap (λ text. c.args.out.now.items ++ text) (sym more)
