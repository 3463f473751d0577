use Rattle.std.proofs.Common.{◌≡◌, ℕ, ◌<◌, true, [], slice_index_or}
use Rattle.toml.specs.View.{table_view}
use Rattle.product_file.specs.Keys.{Text, optional, top_keys, has_key}
use Rattle.file_checks.proofs.head.key_break.Given as goal

-- the keys so far hold
abbrev pub invariant-loop-i : goal.invariant-loop-i
invariant-loop-i l = (k : ℕ) → k < l.i → has_key (table_view l.tree) (slice_index_or top_keys k (optional [] Text))
    ≡ true
