use Rattle.std.proofs.Common.{◌≡◌, ◌<◌, ◌+◌, ◌∙◌, refl, arith, add-one}
use Rattle.named_numbers.specs.Numbers.{cells_of_month, least_degree}
use Rattle.rate_bounds.specs.MonthPay.{plan_named}
use Rattle.cell_coeffs.proofs.RowSteps.{made_kept}
use Rattle.thiele_backward.proofs.CellSteps.{can_step, stepped_to, near_by_spare, stands_here, answers_here}
use Rattle.thiele_backward.proofs.CellSteps.{begins_near, constant_named, constant_here}
use Rattle.linear_system.proofs.Made.{same_places_then}
use Rattle.thiele_backward.proofs.month.cells_over.Goals as goal

pub loop-done-init : goal.loop-done-init
loop-done-init g c = record {
  near = begins_near c.args.adm.now (plan_named c.args.which c.args.adm.now) c.args.month least_degree
      c.args.mid.now;
  spare = λ none. absurd (omega (arith, none));
  least = omega arith;
  highest = omega arith;
  constant = λ constant. refl;
  long = c.requires.mid;
  work = refl;
  count = omega arith;
  made = c.requires.made;
  places = record { dim = refl; degree = refl; columns = λ row. refl };
}

pub step-answered-requires-clause-can : goal.step-answered-requires-clause-can
step-answered-requires-clause-can g c =
    let product = c.args.adm.now in
    let few : c.loop-done.done < cells_of_month = c.loop-done-test.true in
    let stands = rw c.product.ensures.product at c.fill.ensures.stands in
    can_step c.args.which product c.args.month c.loop-done.done c.product.ensures.admissible
    c.requires.month few c.loop-done.degree c.loop-done.invariant.least c.args.mid.now c.loop-done.mid
    c.loop-done.invariant.near c.fill.new.out
    (stands_here c.args.which product c.args.month c.loop-done.done c.product.ensures.admissible
    c.requires.month few c.scale-g.result _ c.fill.new.out c.scale-g.ensures.value (omega arith) stands)
    c.requires.some

pub loop-done-preserved : goal.loop-done-preserved
loop-done-preserved g c =
    let product = c.args.adm.now in
    let which = c.args.which in
    let month = c.args.month in
    let done = c.loop-done.done in
    let few : done < cells_of_month = c.loop-done-test.true in
    let admissible = c.product.ensures.admissible in
    let before = c.loop-done.invariant in
    let system = c.fill.new.out in
    let answered = c.step-answered.result in
    let stands = stands_here which product month done admissible c.requires.month few c.scale-g.result _ system
    c.scale-g.ensures.value (omega arith) (rw c.product.ensures.product at c.fill.ensures.stands) in
    let promise = answers_here which product month done admissible c.requires.month few system c.loop-done.mid
    c.step-answered.new.mid answered stands c.step-answered.ensures.sup in
    let spare = stepped_to which product month done admissible c.requires.month few c.loop-done.degree before.least
    c.args.mid.now c.loop-done.mid before.near c.step-answered.new.mid answered c.max-degree.result (done + 1)
    c.max-degree.ensures (add-one done) promise in
    record {
      near = near_by_spare product (plan_named which product) month c.max-degree.result (done + 1) c.args.mid.now
          c.step-answered.new.mid spare;
      spare = λ some. spare;
      least = omega (arith, before.least, c.max-degree.ensures);
      highest = omega (arith, before.highest, c.step-answered.ensures.most, c.max-degree.ensures);
      constant = λ constant. c.max-degree.ensures ∙ constant_here which product month done admissible c.requires.month
          few c.loop-done.degree before.least c.args.mid.now c.loop-done.mid before.near answered system stands
          c.requires.some c.step-answered.ensures.constant_in_sup
          (c.fill.ensures.constant (constant_named which product _ month c.product.ensures.product constant))
          (before.constant constant);
      long = c.step-answered.auto.mid ∙ before.long;
      work = c.step-answered.ensures.work ∙ before.work;
      count = omega (arith, before.count, c.step-answered.ensures.count);
      made = made_kept product _ _ c.fill.ensures.places before.made;
      places = same_places_then _ _ _ before.places c.fill.ensures.places;
    }

pub returns-clause-near : goal.returns-clause-near
returns-clause-near g c =
    let done : c.loop-done.done ≡ cells_of_month =
    omega (arith, c.loop-done-test.false, c.loop-done.auto.done-end) in
    rw done at (c.loop-done.invariant.spare (omega (arith, done)))
