use Rattle.std.proofs.Common.{◌≡◌, FitsSigned, rules, length, inl, inr}
use Rattle.std.specs.Prelude.{◌⊎◌}
use Rattle.std.specs.Int.{w128}
use Rattle.std.proofs.lemmas.Int.{to_z-of_z}
use Rattle.fixed_interval.proofs.Rows.{next_partial_row, whole_row_low, whole_row_high, lies_in_sum}
use Rattle.fixed_interval.proofs.affine.affine_apply.Goals as goal

pub loop-i-preserved : goal.loop-i-preserved
loop-i-preserved c =
    let number_fits : FitsSigned w128 c.in-Some.number.now = search rules in
    let lo = simp to_z-of_z at c.times.ensures.lo in
    let hi = simp to_z-of_z at c.times.ensures.hi in
    next_partial_row c.args.row.now c.args.mid.now c.args.free.now c.loop-i.sum c.times.result c.add-sum.result
    c.in-Some.i.now c.in-Some.number.now _ _ _ _ c.loop-i.invariant c.in-Some.ensures.steps.0
    c.in-Some.ensures.steps.1 lo hi c.times.ensures.size c.add-sum.ensures.lo c.add-sum.ensures.hi

pub returns-clause-lo : goal.returns-clause-lo
returns-clause-lo c =
    let done : (length c.loop-i.i-iterator.a.rest.now ≡ 0) ⊎ (length c.loop-i.i-iterator.b.rest.now ≡ 0) =
    elim c.in-None.ensures.steps [ inl h ↦ inl h.1.0 | inr h ↦ inr h.1.0 ] in
    whole_row_low c.loop-i.i-iterator.a.rest.now c.loop-i.i-iterator.b.rest.now _ _ done c.loop-i.invariant.lo

pub returns-clause-hi : goal.returns-clause-hi
returns-clause-hi c =
    let done : (length c.loop-i.i-iterator.a.rest.now ≡ 0) ⊎ (length c.loop-i.i-iterator.b.rest.now ≡ 0) =
    elim c.in-None.ensures.steps [ inl h ↦ inl h.1.0 | inr h ↦ inr h.1.0 ] in
    whole_row_high c.loop-i.i-iterator.a.rest.now c.loop-i.i-iterator.b.rest.now _ _ done c.loop-i.invariant.hi

pub returns-clause-encloses : goal.returns-clause-encloses
returns-clause-encloses c xs f held free_held =
    lies_in_sum c.args.row.now c.args.free.now c.loop-i.sum c.args.mid.now xs f c.requires.lengths held free_held
    (returns-clause-lo c) (returns-clause-hi c)
