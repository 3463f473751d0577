use Rattle.std.proofs.Common.{ℕ, ◌+◌, ◌*◌, length, arith, ◌≡◌}
use Rattle.linear_system.proofs.Rows.{push_row, zero_row, zero_system}
use Rattle.linear_system.proofs.system.CellSystem.new.Goals as goal

swapped : (n m : ℕ) → n * (m + 1) ≡ (m + 1) * n
swapped n m = grind arith

pub loop-row-preserved : goal.loop-row-preserved
loop-row-preserved c =
    let made = c.in_ok-made in
    push_row c.args.links.now c.args.dim c.args.degree c.loop-row.row c.loop-row.rows.items _ made.made _
    c.loop-row.invariant
    c.in_ok-push.ensures.items
    (zero_row made.made.columns.items made.made.numbers.items _ _ _ made.ensures.columns made.ensures.numbers
    (swapped (length made.made.columns.items) c.args.degree))
    made.ensures.numbers made.ensures.places

pub returns-clause-zero : goal.returns-clause-zero
returns-clause-zero c =
    let e : c.loop-row.row ≡ c.args.dim = omega arith in
    zero_system c.args.links.now c.args.dim c.args.degree c.loop-row.rows.items (rw e at c.loop-row.invariant)
