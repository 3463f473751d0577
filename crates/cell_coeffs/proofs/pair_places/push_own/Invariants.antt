use Rattle.cell_coeffs.specs.PairPlaces.{KeepsLinks, HasOwnLinks}
use Rattle.cell_coeffs.proofs.pair_places.push_own.Given as goal

abbrev pub invariant-loop-state : goal.invariant-loop-state
invariant-loop-state l = record {
  has : HasOwnLinks l.states l.state l.links.items;
  keeps : KeepsLinks l.states l.initial.links.items l.links.items;
}
