use Rattle.std.proofs.Common.{◌≡◌, take}
use Rattle.std.specs.Prelude.{map}
use Rattle.rate_bounds.specs.MonthPay.{plan_named, exits_pay}
use Rattle.rate_bounds.proofs.pay.exits_pay.Given as goal

-- what the exits so far pay
abbrev pub invariant-loop-exit : goal.invariant-loop-exit
invariant-loop-exit l =
    l.sum
    ≡ exits_pay l.product (plan_named l.which l.product) l.month
    (map (λ exit. exit.transition) (take l.exit-index l.exits))
