-- What is not negative, for `hlevel signs` and `search signs`.
use Rattle.std.specs.Prelude.{ℕ, pos, [], ◌∷◌}
use Rattle.std.proofs.Common.{refl}
use Rattle.frac_laws.specs.Fraction.{Fraction, whole, ◌+ℚ◌, ◌*ℚ◌, ◌≤ℚ◌}
use Rattle.frac_laws.specs.Sums.{sum_to}
use Rattle.frac_laws.proofs.Linear.{linear, claims, natural, ◌⊞◌, ◌⊠◌}
use Rattle.frac_laws.proofs.Sizes.{size_natural}
use Rattle.frac_laws.proofs.Sums.{sum_to_natural}
use Rattle.frac_laws.proofs.Powers.{power_natural}

pub add_natural : {x y : Fraction} → whole (pos 0) ≤ℚ x → whole (pos 0) ≤ℚ y → whole (pos 0) ≤ℚ x +ℚ y
add_natural {x} {y} h k = linear (x ∷ y ∷ []) (h ⊞ k) (hlevel claims) refl

pub mul_natural : {x y : Fraction} → whole (pos 0) ≤ℚ x → whole (pos 0) ≤ℚ y → whole (pos 0) ≤ℚ x *ℚ y
mul_natural {x} {y} h k = linear (x ∷ y ∷ []) (h ⊠ k) (hlevel claims) refl

pub sum_natural : (n : ℕ) (f : ℕ → Fraction) → ((k : ℕ) → whole (pos 0) ≤ℚ f k) → whole (pos 0) ≤ℚ sum_to n f
sum_natural n f h = sum_to_natural n (λ k b. h k)

pub ruleset signs = (add_natural, mul_natural, size_natural, natural, power_natural, sum_natural)
