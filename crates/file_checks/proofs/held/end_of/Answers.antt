use Rattle.std.proofs.Common.{◌+◌, map, ap, ◌∙◌, arith}
use Rattle.std.proofs.lemmas.List.{length-map}
use Rattle.toml.specs.View.{view, table_view}
use Rattle.whole_laws.specs.Whole.{natural_part}
use Rattle.product_file.specs.CurveRules.{start_of}
use Rattle.file_checks.proofs.InOrder.{start-small}
use Rattle.file_checks.proofs.held.end_of.Goals as goal

pub returns-then-i-values-clause-small : goal.returns-then-i-values-clause-small
returns-then-i-values-clause-small c =
    let items = map view c.args.values.now in
    let start = c.natural_within.ensures ∙ ap (λ d. natural_part (start_of d)) c.item.ensures in
    omega (
      arith,
      start,
      start-small (table_view c.args.tree.now) items (c.args.i + 1) c.requires.term
          (c.requires.in_order (c.args.i + 1) (omega (arith, length-map c.args.values.now view))),
    )
