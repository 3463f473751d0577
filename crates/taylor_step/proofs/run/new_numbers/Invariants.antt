use Rattle.std.proofs.Common.{◌≡◌, ◌<◌, ◌≤◌, ◌*◌, ◌+◌, ◌^◌, ℕ, pos, get_or}
use Rattle.taylor_step.proofs.run.new_numbers.Given as goal
use Rattle.taylor_step.specs.Strips.{products_of, contents}
use Rattle.frac_laws.specs.Rounding.{floor_of}

abbrev pub invariant-loop-i : goal.invariant-loop-i
invariant-loop-i l = record {
  done : (j : ℕ) → j < l.i → get_or l.newest j (pos 0) ≡ floor_of
      (products_of l.sys l.start (contents l.strips) l.k j) (pos (2 ^ 64 * (l.k + 1)));
  left : (j : ℕ) → l.i ≤ j → get_or l.newest j (pos 0) ≡ get_or l.initial.newest j (pos 0);
}
