use Rattle.std.proofs.Common.{◌∙◌, ap, codes}
use Rattle.serde_json.specs.Data.{object}
use Rattle.serde_json.proofs.Views.{view-Object}
use Rattle.row_sheets.specs.JsonText.{with_number}
use Rattle.row_sheets.proofs.json_form.tree.Goals as goal

pub returns : goal.returns
returns c =
    let about = c.args.about.now in
    let always = c.in_ok-members.ensures in
    let degree = c.in_ok-put_number.ensures ∙ ap (with_number (codes "degree") about.degree) always in
    view-Object _ ∙ ap object (c.in_ok-put_number-2.ensures ∙ ap (with_number (codes "scale") about.scale) degree)
