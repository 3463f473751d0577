use Rattle.std.proofs.Common.{arith}
use Rattle.cell_coeffs.proofs.MadePairs.{keeps_all}
use Rattle.cell_coeffs.proofs.pair_places.push_own.Goals as goal

pub loop-state-init : goal.loop-state-init
loop-state-init c = record {
  has = λ i few. absurd (omega (arith, few));
  keeps = keeps_all c.args.states
      c.args.links.now.items;
}
