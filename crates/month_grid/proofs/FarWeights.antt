-- The powers of Thiele's matrices in a month's last cell, with the weights 48^m.
use Rattle.std.specs.Prelude.{ℕ, pos, [], ◌∷◌, ◌<◌, ◌^◌}
use Rattle.std.proofs.Common.{refl, ap, ◌∙◌, arith}
use Rattle.frac_laws.specs.Fraction.{Fraction, over, whole, ◌+ℚ◌, ◌*ℚ◌, ◌≤ℚ◌}
use Rattle.frac_laws.specs.Sums.{power}
use Rattle.frac_laws.specs.Bernstein.{binomial}
use Rattle.frac_laws.specs.Norms.{Sup}
use Rattle.frac_laws.proofs.Convolutions.{sum_to_within}
use Rattle.frac_laws.proofs.FractionTerms.{ring, terms}
use Rattle.frac_laws.proofs.Linear.{linear, claims, natural, ◌⊞◌, ◌⊠◌}
use Rattle.frac_laws.proofs.Order.{le_trans}
use Rattle.frac_laws.proofs.Powers.{power_natural}
use Rattle.frac_laws.proofs.Signs.{mul_natural}
use Rattle.cell_laws.specs.Tame.{matrix_norm_at}
use Rattle.cell_laws.proofs.TameSums.{matrix_norms_natural, matrix_norm_past}
use Rattle.model_specs.specs.Cells.{CellCurves}
use Rattle.model_specs.specs.Systems.{thiele_system}
use Rattle.polynomial_runs.specs.FarDecay.{HasFarWeight}

-- the bound of a power's norm
abbrev limit : ℕ → Fraction
limit m = over (pos 17) 1536 *ℚ over (pos (binomial 5 m)) (16 ^ m)

pub far_weight : (cell : CellCurves)
    → ((m : ℕ) → m < 6 → matrix_norm_at Sup (thiele_system cell).matrices m
    ≤ℚ over (pos 17) 1536 *ℚ over (pos (binomial 5 m)) (16 ^ m)) → HasFarWeight Sup (thiele_system cell)
far_weight cell small k = le_trans (sum_to_within 6 k
    (λ m. mul_natural (power_natural {x = whole (pos 48)} m (natural 48 1))
    (matrix_norms_natural Sup (thiele_system cell).matrices m))
    (λ m b. ap (λ z. power (whole (pos 48)) m *ℚ z) (matrix_norm_past Sup (thiele_system cell).matrices m b)
    ∙ ring (power (whole (pos 48)) m ∷ []) (hlevel terms) refl))
    (combine (a 0) (a 1) (a 2) (a 3) (a 4) (a 5) (small 0 (omega arith)) (small 1 (omega arith))
    (small 2 (omega arith)) (small 3 (omega arith)) (small 4 (omega arith)) (small 5 (omega arith)))
  where
    a : ℕ → Fraction
    a m = matrix_norm_at Sup (thiele_system cell).matrices m

    combine : (a0 a1 a2 a3 a4 a5 : Fraction) → a0 ≤ℚ limit 0 → a1 ≤ℚ limit 1 → a2 ≤ℚ limit 2 → a3 ≤ℚ limit 3
        → a4 ≤ℚ limit 4 → a5 ≤ℚ limit 5
        → whole (pos 0) +ℚ power (whole (pos 48)) 0 *ℚ a0 +ℚ power (whole (pos 48)) 1 *ℚ a1
        +ℚ power (whole (pos 48)) 2 *ℚ a2 +ℚ power (whole (pos 48)) 3 *ℚ a3 +ℚ power (whole (pos 48)) 4 *ℚ a4
        +ℚ power (whole (pos 48)) 5 *ℚ a5 ≤ℚ over (pos 34) 3
    combine a0 a1 a2 a3 a4 a5 h0 h1 h2 h3 h4 h5 = linear (a0 ∷ a1 ∷ a2 ∷ a3 ∷ a4 ∷ a5 ∷ [])
        (h0 ⊞ natural 48 1 ⊠ h1 ⊞ natural (48 ^ 2) 1 ⊠ h2 ⊞ natural (48 ^ 3) 1 ⊠ h3 ⊞ natural (48 ^ 4) 1 ⊠ h4
        ⊞ natural (48 ^ 5) 1 ⊠ h5) (hlevel claims) refl
