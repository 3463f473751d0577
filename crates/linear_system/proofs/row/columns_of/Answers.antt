use Rattle.std.proofs.Common.{◌≡◌, ◌∙◌, ap, arith, sym, ℕ, Vec, Global}
use Rattle.linear_system.specs.Setting.{may_hold}
use Rattle.linear_system.proofs.Columns.{none_taken, taken_one, passed_one, with_free, with_free_places}
use Rattle.linear_system.proofs.row.columns_of.Goals as goal
use Rattle.linear_system.proofs.row.columns_of.Goals.{then-has_place+in_ok-push, else-has_place}

pub loop-col-init : goal.loop-col-init
loop-col-init c = rw c.new-columns.ensures.items (none_taken _ c.args.dim)

pub loop-col-preserved : goal.loop-col-preserved
loop-col-preserved c =
    elim c.if-has_place.branch [
      | then-has_place+in_ok-push w ↦
          taken_one (may_hold c.args.links.now c.args.row) c.args.dim c.loop-col.col c.loop-col.columns.items
          _
          (ap (λ (v : Vec ℕ Global). v.items) w.columns-is ∙ w.in_ok-push.ensures.items)
          c.loop-col-test.true (sym c.has_place.ensures ∙ w.if-has_place.true) c.loop-col.invariant
      | else-has_place w ↦
          passed_one (may_hold c.args.links.now c.args.row) c.args.dim c.loop-col.col c.loop-col.columns.items
          _
          (ap (λ (v : Vec ℕ Global). v.items) w.columns-is) (sym c.has_place.ensures ∙ w.if-has_place.false)
          c.loop-col.invariant
    ]

pub returns-clause-columns : goal.returns-clause-columns
returns-clause-columns c =
    let e : c.loop-col.col ≡ c.args.dim = omega arith in
    with_free _ c.args.dim _ _ c.in_ok-push-2.ensures.items (rw e at c.loop-col.invariant)

pub returns-clause-places : goal.returns-clause-places
returns-clause-places c =
    let e : c.loop-col.col ≡ c.args.dim = omega arith in
    with_free_places _ c.args.dim _ _ c.in_ok-push-2.ensures.items (rw e at c.loop-col.invariant)
