use Rattle.std.proofs.Common.{map, FitsSigned, ap, ◌∙◌, rules}
use Rattle.std.specs.Int.{w64}
use Rattle.std.proofs.lemmas.Int.{to_z-of_z}
use Rattle.toml.specs.View.{view}
use Rattle.product_file.specs.CurveRules.{start_of}
use Rattle.file_checks.proofs.InOrder.{in_order-later}
use Rattle.file_checks.proofs.pieces.is_in_order.Goals as goal

pub returns-else-i-eq0 : goal.returns-else-i-eq0
returns-else-i-eq0 c =
    let before : FitsSigned w64 c.start_of.result = search rules in
    let start : FitsSigned w64 c.start_of-start.result = search rules in
    let months : FitsSigned w64 c.args.months = search rules in
    simp to_z-of_z
    (in_order-later c.args.months (map view c.args.values.now) c.args.i c.start_of.result c.start_of-start.result
    c.if-i-eq0.false (c.start_of.ensures ∙ ap start_of c.item-else-i-eq0.ensures)
    (c.start_of-start.ensures ∙ ap start_of c.item.ensures))
