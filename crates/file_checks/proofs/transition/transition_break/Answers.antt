use Rattle.std.proofs.Common.{length, below_more, sym, ◌∙◌, arith}
use Rattle.toml.specs.View.{table_view}
use Rattle.product_file.specs.TransitionRule.{transition_items, is_good_transition}
use Rattle.file_checks.proofs.Checks.{first_of-at, first_of-none}
use Rattle.file_checks.proofs.TransitionLemmas.{few_transitions}
use Rattle.file_checks.proofs.transition.transition_break.Goals as goal

pub overflow_cast-result : goal.overflow_cast-result
overflow_cast-result c =
    omega (
      arith,
      few_transitions (table_view c.args.tree.now) c.loop-k.k c.requires
          (omega (arith, c.transitions-count.ensures.count)) c.loop-k.invariant,
    )

pub returns-then-not-is_good_transition : goal.returns-then-not-is_good_transition
returns-then-not-is_good_transition c =
    first_of-at (length (transition_items (table_view c.args.tree.now))) c.loop-k.k
    (is_good_transition (table_view c.args.tree.now)) (omega arith) c.loop-k.invariant
    (sym c.is_good_transition.ensures ∙ c.if-not-is_good_transition.true)

pub loop-k-preserved : goal.loop-k-preserved
loop-k-preserved c =
    below_more _ _ c.loop-k.invariant (sym c.is_good_transition.ensures ∙ c.if-not-is_good_transition.false)

pub returns : goal.returns
returns c =
    first_of-none (length (transition_items (table_view c.args.tree.now)))
    (is_good_transition (table_view c.args.tree.now)) (λ i below. c.loop-k.invariant i (omega arith))
