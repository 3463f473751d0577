use Rattle.std.proofs.Common.{◌≡◌, ◌-◌, ◌<◌, ◌≤◌, refl, ap, subst, ◌∙◌, length, arith}
use Rattle.std.proofs.lemmas.List.{length-replicate}
use Rattle.cell_coeffs.proofs.PairRowSteps.{moments_kept}
use Rattle.thiele_backward.proofs.WrittenDates.{room_for}
use Rattle.moment_equations.specs.declared.ends.Moment.TheVariants.{First, Second, Variance}
use Rattle.moment_equations.specs.Dates.{AreNearFrom, HaveDatesFrom}
use Rattle.moment_equations.proofs.SweepSteps.{near_term, term_written, near_before, near_after, near_next, dates_next}
use Rattle.moment_equations.proofs.valuation.sweep.Goals as goal

pub keep_date-requires-clause-near : goal.keep_date-requires-clause-near
keep_date-requires-clause-near g c =
    let months : c.months-months.result ≡ c.args.adm.now.months =
    c.months-months.ensures.value ∙ ap (λ p. p.months) c.product.ensures.product in
    near_term c.args.adm.now 24 c.months-months.result c.args.mid.now months c.requires.mid

pub keep_date-requires-2-clause-near : goal.keep_date-requires-2-clause-near
keep_date-requires-2-clause-near g c =
    let months : c.months-months.result ≡ c.args.adm.now.months =
    c.months-months.ensures.value ∙ ap (λ p. p.months) c.product.ensures.product in
    near_term c.args.adm.now 24 c.months-months.result c.args.mid.now months c.requires.mid

pub keep_date-requires-3-clause-near : goal.keep_date-requires-3-clause-near
keep_date-requires-3-clause-near g c =
    let months : c.months-months.result ≡ c.args.adm.now.months =
    c.months-months.ensures.value ∙ ap (λ p. p.months) c.product.ensures.product in
    near_term c.args.adm.now 24 c.months-months.result c.args.mid.now months c.requires.mid

pub loop-done-init : goal.loop-done-init
loop-done-init g c =
    let product = c.args.adm.now in
    let months : c.months-months.result ≡ c.args.adm.now.months =
    c.months-months.ensures.value ∙ ap (λ p. p.months) c.product.ensures.product in
    let near : AreNearFrom c.args.adm.now 8 c.months-months.result c.args.mid.now =
    λ n from. near_term c.args.adm.now n c.months-months.result c.args.mid.now months c.requires.mid in
    let left : c.args.adm.now.months - 0 ≡ c.args.adm.now.months = omega arith in
    record {
      near = λ n from. near_term c.args.adm.now n (c.args.adm.now.months - 0) c.args.mid.now left c.requires.mid;
      dates = record {
        firsts = term_written First product c.args.every 8 c.months-months.result (c.args.adm.now.months - 0)
            c.args.mid.now c.keep_date.new.cells months left (omega arith) (c.keep_date.auto.cells ∙ c.requires.first)
            near c.keep_date.ensures.written;
        seconds = term_written Second product c.args.every 8 c.months-months.result (c.args.adm.now.months - 0)
            c.args.mid.now c.keep_date-2.new.cells months left (omega arith)
            (c.keep_date-2.auto.cells ∙ c.requires.second) near c.keep_date-2.ensures.written;
        variances = term_written Variance product c.args.every 8 c.months-months.result (c.args.adm.now.months - 0)
            c.args.mid.now c.keep_date-3.new.cells months left (omega arith)
            (c.keep_date-3.auto.cells ∙ c.requires.variance) near c.keep_date-3.ensures.written;
      };
      least = omega arith;
      highest = omega arith;
      constant = λ all. omega arith;
      long = ap length c.requires.mid ∙ length-replicate _ _;
      work = c.requires.work;
      count = omega arith;
      made = c.requires.made;
    }

pub month_over-answered-requires-clause-near : goal.month_over-answered-requires-clause-near
month_over-answered-requires-clause-near g c =
    let product = c.args.adm.now in
    let months : c.months-months.result ≡ c.args.adm.now.months =
    c.months-months.ensures.value ∙ ap (λ p. p.months) c.product.ensures.product in
    let date = c.months-months.result - 1 - c.loop-done.done in
    let inside : c.loop-done.done < c.args.adm.now.months = omega (arith, c.loop-done-test.true, months) in
    let at : c.months-months.result - 1 - c.loop-done.done ≡ c.args.adm.now.months - 1 - c.loop-done.done =
    omega (arith, months) in
    near_before product c.loop-done.done date inside at c.loop-done.degree 24 c.loop-done.mid c.loop-done.invariant.near
    c.loop-done.invariant.highest

pub keep_date-requires-in-loop-done-clause-near : goal.keep_date-requires-in-loop-done-clause-near
keep_date-requires-in-loop-done-clause-near g c =
    let product = c.args.adm.now in
    let months : c.months-months.result ≡ c.args.adm.now.months =
    c.months-months.ensures.value ∙ ap (λ p. p.months) c.product.ensures.product in
    let date = c.months-months.result - 1 - c.loop-done.done in
    let inside : c.loop-done.done < c.args.adm.now.months = omega (arith, c.loop-done-test.true, months) in
    let at : c.months-months.result - 1 - c.loop-done.done ≡ c.args.adm.now.months - 1 - c.loop-done.done =
    omega (arith, months) in
    let near = near_after product c.loop-done.done date inside at c.loop-done.degree c.month_over-answered.result
    c.max-degree.result c.loop-done.mid c.month_over-answered.new.mid c.max-degree.ensures c.loop-done.invariant.near
    c.month_over-answered.ensures.near in
    let top : c.max-degree.result ≤ 24 =
    omega (arith, c.loop-done.invariant.highest, c.month_over-answered.ensures.highest, c.max-degree.ensures) in
    near 24 top

pub keep_date-requires-in-loop-done-clause-room : goal.keep_date-requires-in-loop-done-clause-room
keep_date-requires-in-loop-done-clause-room g c =
    let states = length c.args.adm.now.states in
    let months : c.months-months.result ≡ c.args.adm.now.months =
    c.months-months.ensures.value ∙ ap (λ p. p.months) c.product.ensures.product in
    let within : c.months-months.result - 1 - c.loop-done.done ≤ c.args.adm.now.months = omega (arith, months) in
    room_for (c.months-months.result - 1 - c.loop-done.done) c.args.adm.now.months c.args.every states states
    (length c.loop-done.first) c.requires.every refl within c.loop-done.invariant.dates.firsts.room

pub keep_date-requires-in-loop-done-2-clause-near : goal.keep_date-requires-in-loop-done-2-clause-near
keep_date-requires-in-loop-done-2-clause-near g c =
    let product = c.args.adm.now in
    let months : c.months-months.result ≡ c.args.adm.now.months =
    c.months-months.ensures.value ∙ ap (λ p. p.months) c.product.ensures.product in
    let date = c.months-months.result - 1 - c.loop-done.done in
    let inside : c.loop-done.done < c.args.adm.now.months = omega (arith, c.loop-done-test.true, months) in
    let at : c.months-months.result - 1 - c.loop-done.done ≡ c.args.adm.now.months - 1 - c.loop-done.done =
    omega (arith, months) in
    let near = near_after product c.loop-done.done date inside at c.loop-done.degree c.month_over-answered.result
    c.max-degree.result c.loop-done.mid c.month_over-answered.new.mid c.max-degree.ensures c.loop-done.invariant.near
    c.month_over-answered.ensures.near in
    let top : c.max-degree.result ≤ 24 =
    omega (arith, c.loop-done.invariant.highest, c.month_over-answered.ensures.highest, c.max-degree.ensures) in
    near 24 top

pub keep_date-requires-in-loop-done-2-clause-room : goal.keep_date-requires-in-loop-done-2-clause-room
keep_date-requires-in-loop-done-2-clause-room g c =
    let states = length c.args.adm.now.states in
    let months : c.months-months.result ≡ c.args.adm.now.months =
    c.months-months.ensures.value ∙ ap (λ p. p.months) c.product.ensures.product in
    let within : c.months-months.result - 1 - c.loop-done.done ≤ c.args.adm.now.months = omega (arith, months) in
    room_for (c.months-months.result - 1 - c.loop-done.done) c.args.adm.now.months c.args.every states states
    (length c.loop-done.second) c.requires.every refl within c.loop-done.invariant.dates.seconds.room

pub keep_date-requires-in-loop-done-3-clause-near : goal.keep_date-requires-in-loop-done-3-clause-near
keep_date-requires-in-loop-done-3-clause-near g c =
    let product = c.args.adm.now in
    let months : c.months-months.result ≡ c.args.adm.now.months =
    c.months-months.ensures.value ∙ ap (λ p. p.months) c.product.ensures.product in
    let date = c.months-months.result - 1 - c.loop-done.done in
    let inside : c.loop-done.done < c.args.adm.now.months = omega (arith, c.loop-done-test.true, months) in
    let at : c.months-months.result - 1 - c.loop-done.done ≡ c.args.adm.now.months - 1 - c.loop-done.done =
    omega (arith, months) in
    let near = near_after product c.loop-done.done date inside at c.loop-done.degree c.month_over-answered.result
    c.max-degree.result c.loop-done.mid c.month_over-answered.new.mid c.max-degree.ensures c.loop-done.invariant.near
    c.month_over-answered.ensures.near in
    let top : c.max-degree.result ≤ 24 =
    omega (arith, c.loop-done.invariant.highest, c.month_over-answered.ensures.highest, c.max-degree.ensures) in
    near 24 top

pub keep_date-requires-in-loop-done-3-clause-room : goal.keep_date-requires-in-loop-done-3-clause-room
keep_date-requires-in-loop-done-3-clause-room g c =
    let states = length c.args.adm.now.states in
    let months : c.months-months.result ≡ c.args.adm.now.months =
    c.months-months.ensures.value ∙ ap (λ p. p.months) c.product.ensures.product in
    let within : c.months-months.result - 1 - c.loop-done.done ≤ c.args.adm.now.months = omega (arith, months) in
    room_for (c.months-months.result - 1 - c.loop-done.done) c.args.adm.now.months c.args.every states states
    (length c.loop-done.variance) c.requires.every refl within c.loop-done.invariant.dates.variances.room

pub loop-done-preserved : goal.loop-done-preserved
loop-done-preserved g c =
    let before = c.loop-done.invariant in
    let product = c.args.adm.now in
    let months : c.months-months.result ≡ c.args.adm.now.months =
    c.months-months.ensures.value ∙ ap (λ p. p.months) c.product.ensures.product in
    let date = c.months-months.result - 1 - c.loop-done.done in
    let inside : c.loop-done.done < c.args.adm.now.months = omega (arith, c.loop-done-test.true, months) in
    let at : c.months-months.result - 1 - c.loop-done.done ≡ c.args.adm.now.months - 1 - c.loop-done.done =
    omega (arith, months) in
    let near = near_after product c.loop-done.done date inside at c.loop-done.degree c.month_over-answered.result
    c.max-degree.result c.loop-done.mid c.month_over-answered.new.mid c.max-degree.ensures c.loop-done.invariant.near
    c.month_over-answered.ensures.near in
    record {
      near = near_next product c.loop-done.done date inside at c.max-degree.result c.month_over-answered.new.mid near;
      dates = record {
        firsts = dates_next product c.loop-done.done date inside at First c.args.every c.loop-done.degree
            c.month_over-answered.result c.max-degree.result c.loop-done.first c.keep_date-in-loop-done.new.cells
            c.month_over-answered.new.mid c.requires.every c.max-degree.ensures before.least
            c.keep_date-in-loop-done.auto.cells before.dates.firsts c.keep_date-in-loop-done.ensures.kept
            c.keep_date-in-loop-done.ensures.written near;
        seconds = dates_next product c.loop-done.done date inside at Second c.args.every c.loop-done.degree
            c.month_over-answered.result c.max-degree.result c.loop-done.second c.keep_date-in-loop-done-2.new.cells
            c.month_over-answered.new.mid c.requires.every c.max-degree.ensures before.least
            c.keep_date-in-loop-done-2.auto.cells before.dates.seconds c.keep_date-in-loop-done-2.ensures.kept
            c.keep_date-in-loop-done-2.ensures.written near;
        variances = dates_next product c.loop-done.done date inside at Variance c.args.every c.loop-done.degree
            c.month_over-answered.result c.max-degree.result c.loop-done.variance c.keep_date-in-loop-done-3.new.cells
            c.month_over-answered.new.mid c.requires.every c.max-degree.ensures before.least
            c.keep_date-in-loop-done-3.auto.cells before.dates.variances c.keep_date-in-loop-done-3.ensures.kept
            c.keep_date-in-loop-done-3.ensures.written near;
      };
      least = omega (arith, before.least, c.max-degree.ensures);
      highest = omega (arith, before.highest, c.month_over-answered.ensures.highest, c.max-degree.ensures);
      constant = λ all.
          let nine = c.month_over-answered.ensures.constant (all date (omega (arith, c.loop-done-test.true, months))) in
          omega (arith, before.constant all, nine, c.max-degree.ensures);
      long = c.month_over-answered.auto.mid ∙ before.long;
      work = c.month_over-answered.ensures.work ∙ before.work;
      count = omega (arith, c.month_over-answered.ensures.count, before.count);
      made = moments_kept product _ _ c.month_over-answered.ensures.places before.made;
    }

pub returns-clause-dates : goal.returns-clause-dates
returns-clause-dates g c =
    let months : c.months-months.result ≡ c.args.adm.now.months =
    c.months-months.ensures.value ∙ ap (λ p. p.months) c.product.ensures.product in
    let none : c.args.adm.now.months - c.loop-done.done ≡ 0 = omega (arith, c.loop-done-test.false, months) in
    subst (λ n. HaveDatesFrom c.args.adm.now c.args.every n c.loop-done.degree c.loop-done.first c.loop-done.second
    c.loop-done.variance) none c.loop-done.invariant.dates
