use Rattle.std.proofs.Common.{arith}
use Rattle.toml.specs.View.{view, table_view}
use Rattle.file_checks.proofs.LumpLemmas.{slot_of-within, months-le}
use Rattle.file_checks.proofs.lump.slot_of.Goals as goal

pub overflow_add-result : goal.overflow_add-result
overflow_add-result c =
    let tree = table_view c.args.tree.now in
    omega (
      arith,
      c.natural_within.ensures,
      c.state_index.ensures,
      months-le tree c.requires.term,
      slot_of-within tree (view c.args.value.now) c.requires.names c.requires.fair,
    )

pub returns-clause-within : goal.returns-clause-within
returns-clause-within c =
    let tree = table_view c.args.tree.now in
    omega (
      arith,
      c.natural_within.ensures,
      c.state_index.ensures,
      slot_of-within tree (view c.args.value.now)
          c.requires.names c.requires.fair,
    )
