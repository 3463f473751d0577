use Rattle.std.proofs.Common.{codes, rules}
use Rattle.std.proofs.lemmas.Int.{to_z-of_z}
use mir.Syntax.{w128}
use mir.Val.{SFits}
use Rattle.report_columns.specs.Lines.{in_format}
use Rattle.report_columns.proofs.Parts.{four_parts}
use Rattle.report_columns.proofs.lines.push_ends.Goals as goal

pub returns : goal.returns
returns c =
    let lo_fits : SFits w128 c.args.note.now.lo = search rules in
    let hi_fits : SFits w128 c.args.note.now.hi = search rules in
    let what = c.args.note.now.what in
    four_parts c.args.out.now.items (in_format what c.args.note.now.lo) (codes ",")
    (in_format what c.args.note.now.hi) (codes "\n") _ _ _ _ (simp to_z-of_z at c.in_ok-push_number.ensures)
    c.in_ok-push.ensures.items (simp to_z-of_z at c.in_ok-push_number-2.ensures) c.in_ok-push-2.ensures.items
