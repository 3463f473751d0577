use Rattle.std.proofs.Common.{◌++◌, ◌∙◌, ap, sym, pos, append_assoc, get_or}
use Rattle.basis_compare.specs.declared.change_rows.Change.{Change}
use Rattle.basis_compare.specs.declared.change_rows.Part.TheVariants.{Interest}
use Rattle.basis_compare.specs.declared.change_rows.Turn.TheVariants.{Above}
use Rattle.basis_compare.specs.ChangesText.{change_line}
use Rattle.basis_compare.proofs.TextLines.{lines_more}
use Rattle.basis_compare.proofs.changes_text.push_rows.Goals as goal

-- what a list of rows has past its end
abbrev no_row : Change
no_row = record { month = 0; state = 0; part = Interest; lo = pos 0; hi = pos 0; tol = 0; turn = Above }

pub loop-i-preserved : goal.loop-i-preserved
loop-i-preserved c =
    let line = change_line c.args.a.now (get_or c.args.rows.now c.loop-i.i no_row) in
    let more = lines_more c.args.a.now c.args.rows.now c.loop-i.i no_row c.loop-i-test.true in
    c.in_ok-push_row.ensures ∙ ap (λ text. text ++ line) c.loop-i.invariant ∙ append_assoc _ _ line
    ∙ ap (λ text. c.args.out.now.items ++ text) (sym more)
