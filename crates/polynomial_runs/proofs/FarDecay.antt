-- The coefficients of a system that decays far.
use Rattle.std.specs.Prelude.{◌≡◌, ℕ, zero, suc, pos, [], ◌∷◌, length, ◌<◌, ◌≤◌, ◌⊎◌}
use Rattle.std.proofs.Common.{refl, ap, ◌∙◌, inl, inr, arith}
use Rattle.std.proofs.lemmas.List.{get_or_past}
use Rattle.frac_laws.specs.Fraction.{Fraction, over, whole, ◌+ℚ◌, ◌*ℚ◌, ◌≤ℚ◌}
use Rattle.frac_laws.specs.Sums.{power}
use Rattle.frac_laws.specs.Convolution.{convolution}
use Rattle.frac_laws.specs.Lists.{Vector}
use Rattle.frac_laws.specs.Norms.{Norm, norm_of_vector}
use Rattle.frac_laws.proofs.Linear.{linear, claims, natural, ◌⊞◌, ◌⊠◌, ◌·◌}
use Rattle.frac_laws.proofs.Powers.{power_natural}
use Rattle.frac_laws.proofs.Norms.{norm_natural}
use Rattle.cell_laws.specs.Systems.{System, coefficient}
use Rattle.cell_laws.specs.Tame.{matrix_norm_at, vector_norm_at}
use Rattle.cell_laws.proofs.Decay.{weighted_right_sides_are_small}
use Rattle.cell_laws.proofs.Recurrences.{norms_are_driven}
use Rattle.cell_laws.proofs.TameDecay.{coefficients_decay}
use Rattle.cell_laws.proofs.TameSums.{matrix_norms_natural, norm_of_none}
use Rattle.step_laws.proofs.Grown.{whole_numbers_le}
use Rattle.polynomial_runs.specs.FarDecay.{DecaysFar, FarCoefficientsDecay}
use Rattle.polynomial_runs.proofs.PowersOf12.{power_longer, power_of_48}
use Rattle.whole_laws.proofs.Numbers.{at_most_or_next}

-- the bound of 48^k |y_k|
abbrev pub far_bound : ℕ → Fraction
far_bound t = whole (pos 2) *ℚ power (whole (pos 6)) t

pub far_bound_natural : (t : ℕ) → whole (pos 0) ≤ℚ far_bound t
far_bound_natural t = linear (power (whole (pos 6)) t ∷ [])
    (natural 2 1 ⊠ power_natural {x = whole (pos 6)} t (natural 6 1)) (hlevel claims) refl

early_or_late : (n t : ℕ) → (n ≤ t) ⊎ (t < n)
early_or_late n t = grind arith

module _ (norm : Norm) (kappa40 : ℕ) (s : System) (y : Vector) (t : ℕ) (h : DecaysFar norm kappa40 s)
    (start : norm_of_vector norm y ≤ℚ whole (pos 2)) (late : 544 ≤ t) where
  abbrev v : ℕ → Fraction
  v k = norm_of_vector norm (coefficient s y k)

  early : (k : ℕ) → k ≤ t → power (whole (pos 48)) k *ℚ v k ≤ℚ far_bound t
  early k b = rw (power_of_48 k)
      (linear (power (whole (pos 6)) k ∷ power (whole (pos 8)) k ∷ v k ∷ power (whole (pos 6)) t ∷ [])
      (coefficients_decay norm kappa40 s y h.tame start k ⊠ power_natural {x = whole (pos 6)} k (natural 6 1)
      ⊞ natural 2 1 ⊠ power_longer {x = whole (pos 6)} k t (linear [] (natural 5 1) (hlevel claims) refl) b)
      (hlevel claims) refl)

  no_free : (k : ℕ) → 9 ≤ k → vector_norm_at norm s.free k ≡ whole (pos 0)
  no_free k b = let past : length s.free ≤ k = (let c : length s.free ≤ 9 = h.short in omega arith) in
      ap (norm_of_vector norm) (get_or_past s.free k [] past) ∙ norm_of_none norm

  step : (k : ℕ) → t ≤ k → ((j : ℕ) → j ≤ k → power (whole (pos 48)) j *ℚ v j ≤ℚ far_bound t)
      → power (whole (pos 48)) (suc k) *ℚ v (suc k) ≤ℚ far_bound t
  step k b so_far = combine (power (whole (pos 48)) k) (whole (pos (suc k))) (v (suc k))
      (convolution (matrix_norm_at norm s.matrices) v k) (vector_norm_at norm s.free k) (far_bound t)
      (power_natural {x = whole (pos 48)} k (natural 48 1)) (norm_natural norm (coefficient s y (suc k)))
      (whole_numbers_le 544 (suc k) (omega arith))
      ((norms_are_driven norm s y (suc k)).step k (omega arith))
      (no_free k (omega arith))
      (weighted_right_sides_are_small (whole (pos 48)) (over (pos 34) 3) (far_bound t)
      (matrix_norm_at norm s.matrices) v k (natural 48 1) (far_bound_natural t)
      (matrix_norms_natural norm s.matrices) (h.far (suc k)) so_far)
    where
      combine : (p w x c f bound : Fraction) → whole (pos 0) ≤ℚ p → whole (pos 0) ≤ℚ x → whole (pos 544) ≤ℚ w
          → w *ℚ x ≤ℚ c +ℚ f → f ≡ whole (pos 0) → p *ℚ c ≤ℚ over (pos 34) 3 *ℚ bound
          → whole (pos 48) *ℚ p *ℚ x ≤ℚ bound
      combine p w x c f bound hp hx hw h1 e h2 = linear (p ∷ w ∷ x ∷ c ∷ f ∷ bound ∷ [])
          (natural 48 544 ⊠ h2 ⊞ natural 48 544 ⊠ (hp ⊠ h1) ⊞ natural 48 544 ⊠ ((hp ⊠ hx) ⊠ hw)
          ⊞ (over (pos 48) 544 *ℚ p) · e) (hlevel claims) refl

  upto : (n j : ℕ) → j ≤ n → power (whole (pos 48)) j *ℚ v j ≤ℚ far_bound t
  upto zero j b = early j (omega arith)
  upto (suc n) j b = elim (at_most_or_next j n b) [
    | inl c ↦ upto n j c
    | inr e ↦ rw e (elim (early_or_late (suc n) t) [
      | inl c ↦ early (suc n) c
      | inr c ↦ step n (omega arith) (upto n)
    ])
  ]

pub far_coefficients_decay : FarCoefficientsDecay
far_coefficients_decay norm kappa40 s y t k h start late = upto norm kappa40 s y t h start late k k (omega arith)
