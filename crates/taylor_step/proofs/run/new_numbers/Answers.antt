use Rattle.std.proofs.Common.{◌<◌, ◌+◌, ◌*◌, ◌^◌, pos, get_or, length, FitsSigned, arith, rules, ap, ◌∙◌, Vec}
use Rattle.std.proofs.Common.{Global, ℤ}
use Rattle.std.specs.Int.{w64, w128}
use Rattle.std.proofs.lemmas.Int.{to_z-of_z}
use Rattle.frac_laws.specs.Rounding.{floor_of}
use Rattle.linear_system.specs.StoredSystem.{dim_of}
use Rattle.taylor_step.specs.Strips.{contents, products_of}
use Rattle.taylor_step.proofs.NewNumbers.{row_fits, row_is, one_more_done, one_less_left}
use Rattle.taylor_step.proofs.Rows.{strip_is}
use Rattle.taylor_step.proofs.run.new_numbers.Goals as goal

pub new_number-requires-clause-fits : goal.new_number-requires-clause-fits
new_number-requires-clause-fits c =
    let row : c.loop-i.i < dim_of c.args.sys.now = omega arith in
    let given_fits : FitsSigned w128 c.from_start-given.result = search rules in
    simp to_z-of_z (row_fits c.args.sys.now c.args.start.now (contents c.args.strips.now) c.args.k c.loop-i.i
    c.from_start-given.result c.numbers.result.now c.columns.result.now c.deref.result.now c.from_start-given.ensures
    c.numbers.ensures c.columns.ensures
    (strip_is c.args.sys.now c.args.strips.now c.loop-i.i c.index-strips-i.result _ c.requires.room row
    (c.deref.ensures.value ∙ ap (λ (v : Vec ℤ Global). v.items) c.index-strips-i.is)) (c.requires.fit c.loop-i.i row))

pub loop-i-preserved : goal.loop-i-preserved
loop-i-preserved c =
    let row : c.loop-i.i < dim_of c.args.sys.now = omega arith in
    let room : c.loop-i.i < length c.loop-i.newest = omega (arith, row, c.loop-i.auto.newest, c.requires.newest) in
    let given_fits : FitsSigned w128 c.from_start-given.result = search rules in
    let number_fits : FitsSigned w64 c.new_number.result = search rules in
    let new = row_is c.args.sys.now c.args.start.now (contents c.args.strips.now) c.args.k c.loop-i.i
    c.from_start-given.result c.numbers.result.now c.columns.result.now c.deref.result.now c.from_start-given.ensures
    c.numbers.ensures c.columns.ensures
    (strip_is c.args.sys.now c.args.strips.now c.loop-i.i c.index-strips-i.result _ c.requires.room row
    (c.deref.ensures.value ∙ ap (λ (v : Vec ℤ Global). v.items) c.index-strips-i.is)) c.new_number.result _
    (simp to_z-of_z at c.new_number.ensures)
    (omega (arith, c.requires.power)) in
    record {
      done = one_more_done c.loop-i.newest
          (λ j. floor_of (products_of c.args.sys.now c.args.start.now (contents c.args.strips.now) c.args.k j)
          (pos (2 ^ 64 * (c.args.k + 1)))) c.loop-i.i _ room c.loop-i.invariant.done (simp to_z-of_z new);
      left = one_less_left c.loop-i.newest (λ j. get_or c.args.newest.now j (pos 0)) c.loop-i.i _
          c.loop-i.invariant.left;
    }
