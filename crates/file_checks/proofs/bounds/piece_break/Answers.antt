use Rattle.std.proofs.Common.{map, length, below_more, ap, sym, ◌∙◌, arith}
use Rattle.std.proofs.lemmas.List.{length-map}
use Rattle.toml.specs.View.{view, table_view}
use Rattle.product_file.specs.Checks.{first_failed}
use Rattle.file_checks.specs.Lists.{is_bounded_piece}
use Rattle.file_checks.proofs.BoundLemmas.{pieces_in_order, few_ordered, rule_9_is}
use Rattle.file_checks.proofs.Checks.{first_of-at, first_of-none}
use Rattle.file_checks.proofs.bounds.piece_break.Goals as goal

pub is_bounded_piece-requires-clause-in_order : goal.is_bounded_piece-requires-clause-in_order
is_bounded_piece-requires-clause-in_order c =
    pieces_in_order (table_view c.args.tree.now) (map view c.args.pieces.now) c.requires.pieces

pub overflow_cast-result : goal.overflow_cast-result
overflow_cast-result c =
    let tree = table_view c.args.tree.now in
    let items = map view c.args.pieces.now in
    omega (
      arith,
      few_ordered tree items c.loop-i.i c.requires.term (pieces_in_order tree items c.requires.pieces)
          (omega (arith, length-map c.args.pieces.now view)),
    )

pub returns-then-not-is_bounded_piece-clause-small : goal.returns-then-not-is_bounded_piece-clause-small
returns-then-not-is_bounded_piece-clause-small c =
    let tree = table_view c.args.tree.now in
    let items = map view c.args.pieces.now in
    few_ordered tree items c.loop-i.i c.requires.term (pieces_in_order tree items c.requires.pieces)
    (omega (arith, length-map c.args.pieces.now view))

pub returns-then-not-is_bounded_piece-clause-value : goal.returns-then-not-is_bounded_piece-clause-value
returns-then-not-is_bounded_piece-clause-value c =
    let tree = table_view c.args.tree.now in
    let items = map view c.args.pieces.now in
    first_of-at (length items) c.loop-i.i (is_bounded_piece tree items)
    (omega (arith, length-map c.args.pieces.now view))
    c.loop-i.invariant (sym c.is_bounded_piece.ensures ∙ c.if-not-is_bounded_piece.true)
    ∙ ap first_failed (rule_9_is tree items)

pub loop-i-preserved : goal.loop-i-preserved
loop-i-preserved c =
    below_more _ _ c.loop-i.invariant (sym c.is_bounded_piece.ensures ∙ c.if-not-is_bounded_piece.false)

pub returns-clause-value : goal.returns-clause-value
returns-clause-value c =
    let tree = table_view c.args.tree.now in
    let items = map view c.args.pieces.now in
    first_of-none (length items) (is_bounded_piece tree items)
    (λ k below. c.loop-i.invariant k (omega (arith, length-map c.args.pieces.now view)))
    ∙ ap first_failed (rule_9_is tree items)
