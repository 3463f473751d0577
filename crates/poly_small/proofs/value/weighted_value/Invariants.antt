use Rattle.std.proofs.Common.{◌≡◌, drop}
use Rattle.poly_small.specs.WholePolynomials.{whole_value_at, weighted}
use Rattle.poly_small.proofs.value.weighted_value.Given as goal

-- the value of the coefficients from i on
abbrev pub invariant-loop-i : goal.invariant-loop-i
invariant-loop-i l = l.sum ≡ whole_value_at (drop l.i (weighted l.p l.weights)) l.x
