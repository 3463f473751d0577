use Rattle.std.proofs.Common.{ℕ, ◌*◌, ◌^◌, ◌<◌}
use Rattle.ledger_bounds.proofs.scale.scale_of.Given as goal

-- no number tried so far is enough
abbrev pub invariant-loop-g : goal.invariant-loop-g
invariant-loop-g l = (h : ℕ) → h < l.g → 1024 * 2 ^ h < l.bound1024
