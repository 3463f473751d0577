use Rattle.std.proofs.Common.{length, sym, ◌∙◌, arith}
use Rattle.toml.specs.View.{table_view}
use Rattle.product_file.specs.HeadRules.{state_names, is_good_state}
use Rattle.file_checks.proofs.Checks.{first_of-at, first_of-none}
use Rattle.file_checks.proofs.names.state_break.Goals as goal

pub returns-then-not-is_good_state-clause-value : goal.returns-then-not-is_good_state-clause-value
returns-then-not-is_good_state-clause-value c =
    first_of-at (length (state_names (table_view c.args.tree.now))) c.loop-i.i
    (is_good_state (table_view c.args.tree.now)) (omega arith) c.loop-i.invariant
    (sym c.is_good_state.ensures ∙ c.if-not-is_good_state.true)

pub returns-clause-value : goal.returns-clause-value
returns-clause-value c =
    first_of-none (length (state_names (table_view c.args.tree.now))) (is_good_state (table_view c.args.tree.now))
    (λ k below. c.loop-i.invariant k (omega arith))
