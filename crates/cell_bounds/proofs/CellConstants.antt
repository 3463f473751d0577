-- The lists K, J and Lam: signs and sums.
use Rattle.std.specs.Prelude.{ℕ, zero, suc, pos, ◌*◌, ◌^◌, [], ◌∷◌}
use Rattle.std.proofs.Common.{refl}
use Rattle.frac_laws.specs.Fraction.{Fraction, over, whole, ◌+ℚ◌, ◌*ℚ◌, ◌-ℚ◌, ◌≤ℚ◌, opposite, is_not_negative}
use Rattle.frac_laws.specs.Sums.{sum_to}
use Rattle.frac_laws.proofs.Linear.{linear, claims, natural, ◌⊞◌, ◌⊠◌}
use Rattle.frac_laws.proofs.Signs.{mul_natural}
use Rattle.frac_laws.proofs.Powers.{power_natural}
use Rattle.frac_laws.specs.Bernstein.{binomial}
use Rattle.frac_laws.proofs.Convolutions.{convolution_natural}
use Rattle.cell_laws.specs.Tame.{weighted}
use Rattle.curve_laws.specs.PartLaws.{coefficient_bound}
use Rattle.cell_bounds.specs.CellBounds.{rate_bound, interest_bound, load_bound, paid_bound, twice_paid_bound}
use Rattle.cell_bounds.specs.CellBounds.{first_bound, later_bound, square_bound}

bound_natural : (h most apart : Fraction) → whole (pos 0) ≤ℚ h → whole (pos 0) ≤ℚ most → whole (pos 0) ≤ℚ apart
    → (m : ℕ) → whole (pos 0) ≤ℚ coefficient_bound 5 h most apart m
bound_natural h most apart a b c zero = b
bound_natural h most apart a b c (suc m) =
    mul_natural (mul_natural (natural (binomial 5 (suc m) * 2 ^ m) 1) (power_natural (suc m) a)) c

pub rate_natural : (m : ℕ) → whole (pos 0) ≤ℚ rate_bound m
rate_natural m = bound_natural _ _ _ (natural 1 32) (natural 1 1) (natural 1 1) m

pub interest_natural : (m : ℕ) → whole (pos 0) ≤ℚ interest_bound m
interest_natural m = bound_natural _ _ _ (natural 1 32) (natural 1 1) (natural 2 1) m

pub load_natural : (m : ℕ) → whole (pos 0) ≤ℚ load_bound m
load_natural m = bound_natural _ _ _ (natural 1 32) (natural 1 1) (natural 2 9) m

pub paid_natural : (m : ℕ) → whole (pos 0) ≤ℚ paid_bound m
paid_natural m = convolution_natural rate_natural load_natural m

pub first_natural : (m : ℕ) → whole (pos 0) ≤ℚ first_bound m
first_natural zero = natural 1 1
first_natural (suc m) = natural 0 1

pub later_natural : (m : ℕ) → whole (pos 0) ≤ℚ later_bound m
later_natural m = bound_natural _ _ _ (natural 1 32) (natural 0 1) (natural 1 1) m

pub square_natural : (p q : ℕ → Fraction) → ((m : ℕ) → whole (pos 0) ≤ℚ p m) → ((m : ℕ) → whole (pos 0) ≤ℚ q m)
    → (m : ℕ) → whole (pos 0) ≤ℚ square_bound p q m
square_natural p q hp hq m = convolution_natural (λ k. convolution_natural rate_natural hp k) hq m

pub twice_paid_natural : (m : ℕ) → whole (pos 0) ≤ℚ twice_paid_bound m
twice_paid_natural m =
    let ff = square_natural first_bound first_bound first_natural first_natural m in
    let fl = square_natural first_bound later_bound first_natural later_natural m in
    let lf = square_natural later_bound first_bound later_natural first_natural m in
    let ll = square_natural later_bound later_bound later_natural later_natural m in
    linear (square_bound first_bound first_bound m ∷ square_bound first_bound later_bound m
    ∷ square_bound later_bound first_bound m ∷ square_bound later_bound later_bound m ∷ [])
    (ff ⊞ fl ⊠ natural 1 16 ⊞ lf ⊠ natural 1 16 ⊞ ll ⊠ natural 4 81) (hlevel claims) refl

-- sums over the six powers of curves
pub rates_total : sum_to 6 rate_bound ≤ℚ over (pos 5) 4
unfolding ◌+ℚ◌ ◌*ℚ◌ ◌-ℚ◌ opposite is_not_negative
rates_total = record { le = refl }

pub rates_weighted : sum_to 6 (weighted rate_bound) ≤ℚ over (pos 9) 2
unfolding ◌+ℚ◌ ◌*ℚ◌ ◌-ℚ◌ opposite is_not_negative
rates_weighted = record { le = refl }

pub interest_total : sum_to 6 interest_bound ≤ℚ over (pos 3) 2
unfolding ◌+ℚ◌ ◌*ℚ◌ ◌-ℚ◌ opposite is_not_negative
interest_total = record { le = refl }

pub interest_weighted : sum_to 6 (weighted interest_bound) ≤ℚ whole (pos 8)
unfolding ◌+ℚ◌ ◌*ℚ◌ ◌-ℚ◌ opposite is_not_negative
interest_weighted = record { le = refl }

-- over the nine powers of a curve times a payment
pub paid_total : sum_to 9 paid_bound ≤ℚ over (pos 5) 4
unfolding ◌+ℚ◌ ◌*ℚ◌ ◌-ℚ◌ opposite is_not_negative
paid_total = record { le = refl }

pub paid_weighted : sum_to 9 (weighted paid_bound) ≤ℚ over (pos 15) 2
unfolding ◌+ℚ◌ ◌*ℚ◌ ◌-ℚ◌ opposite is_not_negative
paid_weighted = record { le = refl }

pub loads_weighted : sum_to 9 (weighted load_bound) ≤ℚ over (pos 7) 4
unfolding ◌+ℚ◌ ◌*ℚ◌ ◌-ℚ◌ opposite is_not_negative
loads_weighted = record { le = refl }

-- over the twelve powers of a curve times a payment twice
pub twice_paid_total : sum_to 12 twice_paid_bound ≤ℚ over (pos 21) 16
unfolding ◌+ℚ◌ ◌*ℚ◌ ◌-ℚ◌ opposite is_not_negative
twice_paid_total = record { le = refl }

pub twice_paid_weighted : sum_to 12 (weighted twice_paid_bound) ≤ℚ whole (pos 9)
unfolding ◌+ℚ◌ ◌*ℚ◌ ◌-ℚ◌ opposite is_not_negative
twice_paid_weighted = record { le = refl }
