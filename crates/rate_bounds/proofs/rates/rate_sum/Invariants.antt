use Rattle.std.proofs.Common.{◌≡◌, ◌*◌, ◌^◌, ◌≤◌, take}
use Rattle.std.specs.Prelude.{map, unsigned_abs}
use Rattle.rate_bounds.specs.MonthRates.{rate_sum}
use Rattle.rate_bounds.proofs.rates.rate_sum.Given as goal

-- the sum over the exits so far, and its size
abbrev pub invariant-loop-exit : goal.invariant-loop-exit
invariant-loop-exit l =
    (l.sum ≡ rate_sum l.product l.month (map (λ exit. exit.transition) (take l.exit-index l.exits)))
    × (unsigned_abs l.sum ≤ l.exit-index * 2 ^ 100)
