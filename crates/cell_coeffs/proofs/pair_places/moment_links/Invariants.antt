use Rattle.std.proofs.Common.{length}
use Rattle.cell_coeffs.specs.PairPlaces.{IsOneWay}
use Rattle.cell_coeffs.proofs.MadePairs.{HasLinksOf}
use Rattle.cell_coeffs.proofs.pair_places.moment_links.Given as goal

abbrev pub invariant-loop-transition : goal.invariant-loop-transition
invariant-loop-transition l = record {
  has : HasLinksOf l.p (length l.p.states) l.transition l.links.items;
  one_way : IsOneWay (length l.p.states) l.links.items;
}
