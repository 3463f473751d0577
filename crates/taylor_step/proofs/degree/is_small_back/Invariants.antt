use Rattle.std.proofs.Common.{◌≡◌, ℕ, ◌-◌, ◌*◌, ◌^◌, ◌<◌, ◌≤◌, get_or}
use Rattle.taylor_step.proofs.degree.is_small_back.Given as goal

abbrev pub invariant-loop-m : goal.invariant-loop-m
invariant-loop-m l = record {
  bound : l.bound ≡ 64 * 8 ^ l.m;
  small : (j : ℕ) → j < l.m → get_or l.sizes (l.k - j) 0 ≤ 64 * 8 ^ j;
}
