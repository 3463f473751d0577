use Rattle.std.proofs.Common.{◌≡◌, take}
use Rattle.std.specs.Prelude.{map, unsigned_abs}
use Rattle.whole_laws.specs.Whole.{greatest_natural}
use Rattle.rate_bounds.proofs.lumps.greatest_of.Given as goal

-- the greatest size of the lumps so far
abbrev pub invariant-loop-amount : goal.invariant-loop-amount
invariant-loop-amount l = l.most ≡ greatest_natural (map (λ x. unsigned_abs x.1) (take l.amount-index l.lumps))
