use Rattle.std.proofs.Common.{[], ap, sym, ◌∙◌, arith}
use Rattle.toml.specs.View.{table_view}
use Rattle.product_file.specs.Checks.{first_failed}
use Rattle.product_file.specs.CurveRules.{rule_8_of, rule_9_of, curve_items}
use Rattle.file_checks.proofs.BoundLemmas.{curve_obeys}
use Rattle.file_checks.proofs.Checks.{first_of_lists-at, first_of_lists-none}
use Rattle.file_checks.proofs.PieceLemmas.{length-curves}
use Rattle.file_checks.proofs.TransitionLemmas.{transitions-le}
use Rattle.file_checks.proofs.bounds.size_break.Goals as goal

pub overflow_add-count : goal.overflow_add-count
overflow_add-count c =
    omega (
      arith,
      transitions-le (table_view c.args.tree.now) c.requires.names c.requires.transitions,
      c.transitions.ensures.count,
    )

pub piece_break-requires-clause-pieces : goal.piece_break-requires-clause-pieces
piece_break-requires-clause-pieces c =
    let tree = table_view c.args.tree.now in
    ap (λ ds. first_failed (rule_8_of tree ds)) c.curve.ensures
    ∙ curve_obeys tree c.loop-k.k c.requires.curves (omega (arith, length-curves tree, c.transitions.ensures.count))

pub place-requires-clause-list : goal.place-requires-clause-list
place-requires-clause-list c =
    omega (
      arith,
      transitions-le (table_view c.args.tree.now) c.requires.names c.requires.transitions,
      c.transitions.ensures.count,
    )

pub returns-in-Some : goal.returns-in-Some
returns-in-Some c =
    let tree = table_view c.args.tree.now in
    first_of_lists-at 0 (rule_9_of tree) (curve_items tree) [] c.loop-k.k c.in-Some.i c.place.result
    (omega (arith, c.place.ensures)) (omega (arith, length-curves tree, c.transitions.ensures.count)) c.loop-k.invariant
    (ap (λ ds. first_failed (rule_9_of tree ds)) (sym c.curve.ensures) ∙ sym c.piece_break.ensures.value ∙ c.in-Some.is)

pub returns : goal.returns
returns c =
    let tree = table_view c.args.tree.now in
    first_of_lists-none 0 (rule_9_of tree) (curve_items tree) []
    (λ j below. c.loop-k.invariant j (omega (arith, length-curves tree, c.transitions.ensures.count)))
