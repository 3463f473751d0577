use Rattle.std.proofs.Common.{◌-ℤ◌, codes, rules}
use Rattle.std.proofs.lemmas.Int.{to_z-of_z}
use mir.Syntax.{w128}
use mir.Val.{SFits}
use Rattle.report_columns.specs.Lines.{in_format, row_start}
use Rattle.report_columns.proofs.Parts.{three_parts}
use Rattle.report_columns.proofs.lines.push_width_line.Goals as goal

pub returns : goal.returns
returns c =
    let note = c.args.note.now in
    let lo_fits : SFits w128 c.args.note.now.lo = search rules in
    let hi_fits : SFits w128 c.args.note.now.hi = search rules in
    let width_fits : SFits w128 (c.args.note.now.hi -ℤ c.args.note.now.lo) = search rules in
    three_parts c.args.out.now.items (row_start 32 note) (in_format note.what (note.hi -ℤ note.lo)) (codes "\n") _ _ _
    c.in_ok-push_start.ensures (simp to_z-of_z at c.in_ok-push_number.ensures) c.in_ok-push.ensures.items
