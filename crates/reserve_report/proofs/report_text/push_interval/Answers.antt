use Rattle.std.proofs.Common.{pos, codes, FitsSigned, rules}
use Rattle.std.specs.Int.{w128}
use Rattle.std.proofs.lemmas.Int.{to_z-of_z}
use Rattle.report_columns.specs.Lines.{in_format}
use Rattle.reserve_report.proofs.Parts.{six_parts}
use Rattle.reserve_report.proofs.report_text.push_interval.Goals as goal

pub returns : goal.returns
returns c =
    let row = c.args.row.now in
    let lo_fits : FitsSigned w128 c.args.row.now.lo = search rules in
    let hi_fits : FitsSigned w128 c.args.row.now.hi = search rules in
    six_parts c.args.out.now.items (in_format row.what row.lo) (codes " ") (in_format row.what row.hi) (codes " ")
    (in_format row.what (pos c.args.tolerance)) (codes "\n") _ _ _ _ _ _ (simp to_z-of_z at c.in_ok-push_number.ensures)
    c.in_ok-push.ensures.items (simp to_z-of_z at c.in_ok-push_number-2.ensures) c.in_ok-push-2.ensures.items
    c.in_ok-push_tolerance.ensures c.in_ok-push-3.ensures.items
