use Rattle.step_bench.proofs.Filling.{keeps_first, keeps_then}
use Rattle.step_bench.proofs.systems.fill_power.Goals as goal

pub loop-place-init : goal.loop-place-init
loop-place-init c = keeps_first _ c.requires.small

pub put-requires-clause-row : goal.put-requires-clause-row
put-requires-clause-row c = rw c.loop-place.invariant.places.dim c.requires.row

pub put-requires-clause-place : goal.put-requires-clause-place
put-requires-clause-place c =
    rw (c.loop-place.invariant.places.columns c.args.row) (rw c.columns-width.ensures at c.loop-place-test.true)

pub put-requires-clause-power : goal.put-requires-clause-power
put-requires-clause-power c = rw c.loop-place.invariant.places.degree c.requires.power

pub put-requires-clause-small : goal.put-requires-clause-small
put-requires-clause-small c = c.loop-place.invariant.small

pub loop-place-preserved : goal.loop-place-preserved
loop-place-preserved c = keeps_then _ _ _ c.loop-place.invariant c.put.ensures.places c.put.ensures.small
