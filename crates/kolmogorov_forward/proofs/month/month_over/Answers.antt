use Rattle.std.proofs.Common.{◌≡◌, ◌<◌, ◌≤◌, ◌+◌, ◌∙◌, refl, subst, arith, add-one}
use Rattle.cell_coeffs.proofs.ForwardSteps.{made_forward_kept}
use Rattle.kolmogorov_forward.specs.MonthRuns.{AreNearIn}
use Rattle.kolmogorov_forward.proofs.CellSteps.{can_step, stepped_to, answers_here, constant_here}
use Rattle.linear_system.proofs.Made.{same_places_then}
use Rattle.kolmogorov_forward.proofs.month.month_over.Goals as goal

pub loop-cell-init : goal.loop-cell-init
loop-cell-init g c = record {
  near = c.requires.near;
  least = omega arith;
  highest = c.requires.highest;
  constant = λ constant. refl;
  long = c.requires.mid;
  work = refl;
  count = omega arith;
  made = c.requires.made;
  places = record { dim = refl; degree = refl; columns = λ row. refl };
}

pub step-answered-requires-clause-can : goal.step-answered-requires-clause-can
step-answered-requires-clause-can g c =
    let inv = c.loop-cell.invariant in
    can_step c.args.adm.now c.args.month c.loop-cell.cell c.product.ensures.admissible c.requires.month
    c.loop-cell-test.true c.loop-cell.greatest (omega (arith, inv.least, c.requires.least)) c.loop-cell.mid inv.near
    c.fill_forward.new.out (rw c.product.ensures.product at c.fill_forward.ensures.stands)

pub loop-cell-preserved : goal.loop-cell-preserved
loop-cell-preserved g c =
    let product = c.args.adm.now in
    let month = c.args.month in
    let cell = c.loop-cell.cell in
    let few : cell < 32 = c.loop-cell-test.true in
    let admissible = c.product.ensures.admissible in
    let before = c.loop-cell.invariant in
    let system = c.fill_forward.new.out in
    let answered = c.step-answered.result in
    let eight : 8 ≤ c.loop-cell.greatest = omega (arith, before.least, c.requires.least) in
    let stands = rw c.product.ensures.product at c.fill_forward.ensures.stands in
    let promise = answers_here product month cell admissible c.requires.month few system c.loop-cell.mid
    c.step-answered.new.mid answered stands c.step-answered.ensures.sum in
    record {
      near = stepped_to product month cell admissible c.requires.month few c.loop-cell.greatest eight c.loop-cell.mid
          before.near c.step-answered.new.mid answered c.max-greatest.result (cell + 1) c.max-greatest.ensures
          (add-one cell) promise;
      least = omega (arith, before.least, c.max-greatest.ensures);
      highest = omega (arith, before.highest, c.step-answered.ensures.most, c.max-greatest.ensures);
      constant = λ constant. c.max-greatest.ensures ∙ constant_here product month cell admissible c.requires.month few
          c.loop-cell.greatest eight c.loop-cell.mid before.near answered system stands
          c.step-answered.ensures.constant_in_sum
          (c.fill_forward.ensures.constant (rw c.product.ensures.product constant)) ∙ before.constant constant;
      long = c.step-answered.auto.mid ∙ before.long;
      work = c.step-answered.ensures.work ∙ before.work;
      count = omega (arith, before.count, c.step-answered.ensures.count);
      made = made_forward_kept product _ _ c.fill_forward.ensures.places before.made;
      places = same_places_then _ _ _ before.places c.fill_forward.ensures.places;
    }

pub returns-clause-near : goal.returns-clause-near
returns-clause-near g c =
    let done : c.loop-cell.cell ≡ 32 = omega (arith, c.loop-cell-test.false, c.loop-cell.auto.cell-end) in
    subst (λ k. AreNearIn c.args.adm.now c.loop-cell.greatest c.args.month k c.loop-cell.mid) done
    c.loop-cell.invariant.near
