use Rattle.std.proofs.Common.{◌≡◌, take}
use Rattle.std.specs.Prelude.{false}
use Rattle.std.specs.List.{list_any}
use Rattle.file_changes.specs.BasisChanges as basis
use Rattle.file_changes.proofs.rates.has_transition.Given as goal

abbrev pub invariant-loop-transition : goal.invariant-loop-transition
invariant-loop-transition l =
    list_any (basis.leads l.product l.from l.to) (take l.transition l.product.transitions) ≡ false
