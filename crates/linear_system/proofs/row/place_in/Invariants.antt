use Rattle.std.proofs.Common.{◌≡◌, ◌+◌, drop}
use Rattle.linear_system.specs.StoredSystem.{place_of}
use Rattle.linear_system.proofs.row.place_in.Given as goal

abbrev pub invariant-loop-place : goal.invariant-loop-place
invariant-loop-place l = l.place + place_of (drop l.place l.columns) l.col ≡ place_of l.columns l.col
