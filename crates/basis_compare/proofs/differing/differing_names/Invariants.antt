use Rattle.std.proofs.Common.{◌≡◌, ℕ, ◌<◌, true}
use Rattle.basis_compare.specs.Bases.{is_named_alike}
use Rattle.basis_compare.proofs.differing.differing_names.Given as goal

-- each state so far has one name
abbrev pub invariant-loop-state : goal.invariant-loop-state
invariant-loop-state l = (k : ℕ) → k < l.state → is_named_alike l.a.names l.b.names k ≡ true
