use Rattle.std.proofs.Common.{◌≡◌, length, arith, inl, inr}
use Rattle.std.proofs.lemmas.Bool.{cases_lt}
use Rattle.std.proofs.Math.Nat.{max-le}
use Rattle.linear_system.specs.StoredSystem.{row_of}
use Rattle.taylor_step.proofs.Tops.{is_greatest, zero_of_greater}
use Rattle.taylor_step.proofs.degree.top_power.Goals as goal

pub loop-i-preserved : goal.loop-i-preserved
loop-i-preserved c = record {
  above = λ j b. elim (cases_lt j c.loop-i.i) [
    | inl l ↦ zero_of_greater (row_of c.args.sys.now j).numbers c.loop-i.top c.top_of_row.result c.max-top.result
        (length (row_of c.args.sys.now j).columns) c.max-top.ensures (inl (c.loop-i.invariant.above j l))
    | inr l ↦ (let q : j ≡ c.loop-i.i = omega arith in
        zero_of_greater (row_of c.args.sys.now j).numbers c.loop-i.top c.top_of_row.result c.max-top.result
        (length (row_of c.args.sys.now j).columns) c.max-top.ensures
        (inr (rw q (rw (c.columns.ensures, c.numbers.ensures) at c.top_of_row.ensures.above))))
  ];
  least = λ m zeros. rw c.max-top.ensures (max-le (c.loop-i.invariant.least m zeros)
      (c.top_of_row.ensures.least m
      (rw (c.columns.ensures, c.numbers.ensures)
      (zeros c.loop-i.i (omega (arith, c.loop-i-test.true, c.dim-i-end.ensures))))));
}

pub returns : goal.returns
returns c = is_greatest c.args.sys.now c.degree-degree.ensures.system c.loop-i.top
    (λ row b. c.loop-i.invariant.above row (omega (arith, c.loop-i-test.false, c.dim-i-end.ensures, b)))
    c.loop-i.invariant.least
