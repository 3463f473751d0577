use Rattle.toml.specs.View.{table_view}
use Rattle.file_checks.proofs.LumpLemmas.{HasSeen}
use Rattle.file_checks.proofs.lump.first_bad_lump.Given as goal

-- the lumps so far are good, and the flags of their dates and states are set
abbrev pub invariant-loop-k : goal.invariant-loop-k
invariant-loop-k l = HasSeen (table_view l.tree) l.seen l.k
