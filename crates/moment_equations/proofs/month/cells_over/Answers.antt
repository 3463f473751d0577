use Rattle.std.proofs.Common.{◌≡◌, ◌<◌, ◌+◌, ◌∙◌, refl, arith, add-one}
use Rattle.cell_coeffs.proofs.PairRowSteps.{moments_kept}
use Rattle.moment_equations.specs.NearMoments.{months_behind}
use Rattle.moment_equations.proofs.CellSteps.{can_step, stays_on, stands_here, constant_here}
use Rattle.linear_system.proofs.Made.{same_places_then}
use Rattle.moment_equations.proofs.month.cells_over.Goals as goal

pub loop-done-init : goal.loop-done-init
loop-done-init g c = record {
  near = λ n from near. near;
  least = omega arith;
  highest = omega arith;
  constant = λ constant. omega arith;
  long = c.requires.mid;
  work = refl;
  count = omega arith;
  made = c.requires.made;
  places = record { dim = refl; degree = refl; columns = λ row. refl };
}

pub step-answered-requires-clause-can : goal.step-answered-requires-clause-can
step-answered-requires-clause-can g c =
    let product = c.args.adm.now in
    let months = months_behind c.args.adm.now c.args.month in
    let inside : months_behind c.args.adm.now c.args.month < c.args.adm.now.months = omega (arith, c.requires.month) in
    let few : c.loop-done.done < 32 = c.loop-done-test.true in
    let admissible = c.product.ensures.admissible in
    let stands = rw c.product.ensures.product at c.fill_moments.ensures.stands in
    can_step product months c.loop-done.done admissible inside few c.fill_moments.new.out c.loop-done.mid
    (stands_here product months c.loop-done.done admissible inside few c.scale-g.result c.args.month _
    c.fill_moments.new.out c.scale-g.ensures.value (omega (arith, c.requires.month)) (omega arith) stands)
    c.loop-done.invariant.long (c.loop-done.invariant.near 24 c.loop-done.invariant.highest c.requires.near)

pub loop-done-preserved : goal.loop-done-preserved
loop-done-preserved g c =
    let product = c.args.adm.now in
    let months = months_behind c.args.adm.now c.args.month in
    let inside : months_behind c.args.adm.now c.args.month < c.args.adm.now.months = omega (arith, c.requires.month) in
    let few : c.loop-done.done < 32 = c.loop-done-test.true in
    let admissible = c.product.ensures.admissible in
    let before = c.loop-done.invariant in
    let stands = stands_here product months c.loop-done.done admissible inside few c.scale-g.result c.args.month _
    c.fill_moments.new.out c.scale-g.ensures.value (omega (arith, c.requires.month)) (omega arith)
    (rw c.product.ensures.product at c.fill_moments.ensures.stands) in
    record {
      near = stays_on product months c.loop-done.done admissible inside few c.fill_moments.new.out c.loop-done.degree
          c.step-answered.result c.max-degree.result (c.loop-done.done + 1) c.args.mid.now c.loop-done.mid
          c.step-answered.new.mid stands before.least c.max-degree.ensures (add-one c.loop-done.done)
          c.step-answered.ensures.first_half c.step-answered.ensures.second_half before.near;
      least = omega (arith, before.least, c.max-degree.ensures);
      highest = omega (arith, before.highest, c.step-answered.ensures.most, c.max-degree.ensures);
      constant = λ constant.
          let nine = constant_here product months c.loop-done.done admissible inside few c.fill_moments.new.out
          c.loop-done.mid stands before.long (before.near 24 before.highest c.requires.near) c.step-answered.result
          c.step-answered.ensures.constant_pair
          (c.fill_moments.ensures.constant (rw c.product.ensures.product constant)) in
          omega (arith, before.constant constant, nine, c.max-degree.ensures);
      long = c.step-answered.auto.mid ∙ before.long;
      work = c.step-answered.ensures.work ∙ before.work;
      count = omega (arith, before.count, c.step-answered.ensures.count);
      made = moments_kept product _ _ c.fill_moments.ensures.places before.made;
      places = same_places_then _ _ _ before.places c.fill_moments.ensures.places;
    }

pub returns-clause-near : goal.returns-clause-near
returns-clause-near g c =
    let done : c.loop-done.done ≡ 32 = omega (arith, c.loop-done-test.false, c.loop-done.auto.done-end) in
    rw done at c.loop-done.invariant.near
