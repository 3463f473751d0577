use Rattle.std.proofs.Common.{◌∙◌, ap, sym, arith, refl}
use Rattle.std.proofs.lemmas.List.{take_all}
use Rattle.serde_json.specs.Data.{no_members, object}
use Rattle.serde_json.proofs.Views.{view-Object}
use Rattle.row_sheets.specs.JsonText.{cell_tree}
use Rattle.row_sheets.specs.Sheets.{cell_of}
use Rattle.row_sheets.proofs.Grown.{cells_more}
use Rattle.row_sheets.proofs.json_parts.row_value.Goals as goal

pub loop-i-preserved : goal.loop-i-preserved
loop-i-preserved c =
    let step = c.in_ok-put.ensures.ok in
    let field = c.in_ok-field_value.ensures ∙ ap (λ field. cell_tree (cell_of field)) c.index-row-i.is in
    let more = cells_more (λ name. name.now) no_members c.args.head.now c.args.row.now c.loop-i.i _ c.index-row-i.result
    c.requires c.loop-i-test.true in
    step ∙ rw (field, c.loop-i.invariant) (sym more)

pub returns : goal.returns
returns c =
    let all_names = take_all c.loop-i.i c.args.head.now c.loop-i-test.false in
    let all_fields = take_all c.loop-i.i c.args.row.now (omega (arith, c.requires, c.loop-i-test.false)) in
    view-Object c.loop-i.members ∙ ap object (c.loop-i.invariant ∙ rw (all_names, all_fields) refl)
