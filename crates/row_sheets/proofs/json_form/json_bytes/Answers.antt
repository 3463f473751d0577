use Rattle.std.proofs.Common.{◌∙◌, ◌∷◌, ◌++◌, [], ap, arith, subst, sym, Some, ◌≡◌, ◌≤◌}
use Rattle.serde_json.specs.Data.{depth}
use Rattle.serde_json.specs.Read.{read}
use Rattle.serde_json.specs.Written.{compact_text, has_float}
use Rattle.row_sheets.specs.JsonText.{json_line, json_tree}
use Rattle.row_sheets.proofs.Trees.{tree_is_plain, tree_is_low}
use Rattle.row_sheets.proofs.json_form.json_bytes.Goals as goal

line : (c : goal.In_ok-push) → c.in_ok-bytes.bytes.items ≡ json_line c.args.about.now c.args.sheet.now
line c =
    let view_is = c.in_ok-tree.ensures in
    let plain = ap has_float view_is ∙ tree_is_plain c.args.about.now c.args.sheet.now in
    c.in_ok-bytes.ensures.text plain ∙ ap compact_text view_is

pub returns-clause-text : goal.returns-clause-text
returns-clause-text c = c.in_ok-push.ensures.items ∙ ap (λ text. text ++ 10 ∷ []) (line c)

pub returns-clause-reads : goal.returns-clause-reads
returns-clause-reads c =
    let view_is = c.in_ok-tree.ensures in
    let low = subst (λ tree. depth tree ≤ 3) (sym view_is) (tree_is_low c.args.about.now c.args.sheet.now) in
    let read_back = c.in_ok-bytes.ensures.reads_back (omega (arith, low)) in
    subst (λ text. read text ≡ Some (json_tree c.args.about.now c.args.sheet.now)) (line c)
    (read_back ∙ ap Some view_is)
