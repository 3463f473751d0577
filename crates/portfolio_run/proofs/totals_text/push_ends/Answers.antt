use Rattle.std.proofs.Common.{codes, FitsSigned, rules}
use Rattle.std.specs.Int.{w128}
use Rattle.std.proofs.lemmas.Int.{to_z-of_z}
use Rattle.decimal_out.specs.Millionths.{millionths}
use Rattle.report_columns.proofs.Parts.{four_parts}
use Rattle.portfolio_run.proofs.totals_text.push_ends.Goals as goal

pub returns : goal.returns
returns c =
    let total = c.args.total.now in
    let lo_fits : FitsSigned w128 c.args.total.now.lo = search rules in
    let hi_fits : FitsSigned w128 c.args.total.now.hi = search rules in
    four_parts c.args.out.now.items (millionths total.lo) (codes " ") (millionths total.hi) (codes " ") _ _ _ _
    (simp to_z-of_z at c.in_ok-push_millionths.ensures.ok) c.in_ok-push.ensures.items
    (simp to_z-of_z at c.in_ok-push_millionths-2.ensures.ok) c.in_ok-push-2.ensures.items
