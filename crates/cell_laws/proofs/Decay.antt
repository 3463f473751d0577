-- Driven sequences decay.
use Rattle.std.specs.Prelude.{◌≡◌, ℕ, suc, zero, pos, [], ◌∷◌, ◌⊎◌, ◌<◌, ◌≤◌, ◌+◌, ◌-◌}
use Rattle.std.proofs.Common.{refl, ap, ◌∙◌, arith, inl, inr}
use Rattle.frac_laws.specs.Fraction.{Fraction, whole, ◌+ℚ◌, ◌*ℚ◌, ◌≤ℚ◌}
use Rattle.frac_laws.specs.Sums.{sum_to, power}
use Rattle.frac_laws.specs.Convolution.{convolution}
use Rattle.frac_laws.proofs.Order.{le_trans}
use Rattle.frac_laws.proofs.Linear.{linear, claims, natural, ◌⊞◌, ◌⊠◌}
use Rattle.frac_laws.proofs.Powers.{power_add, power_natural}
use Rattle.frac_laws.proofs.Sums.{sum_to_scale, sum_to_scale_right, sum_to_mono}
use Rattle.cell_laws.specs.Tame.{weighted}
use Rattle.cell_laws.specs.Driven.{CanDecay}
use Rattle.cell_laws.specs.ScalarLaws.{WeightedRightSidesAreSmall}
use Rattle.cell_laws.specs.ScalarLaws.{DrivenSequencesDecay}
use Rattle.cell_laws.proofs.Cancelling.{cancel_suc, two_le_suc}

pub eights_natural : (k : ℕ) → whole (pos 0) ≤ℚ power (whole (pos 8)) k
eights_natural k = power_natural k (natural 8 1)

pub weighted_right_sides_are_small : WeightedRightSidesAreSmall
weighted_right_sides_are_small w alpha bound a v k hw hb ha total each =
    rw (← sum_to_scale (suc k) (power w k) (λ m. a m *ℚ v (k - m)))
    (le_trans (sum_to_mono (suc k) term) (rw (sum_to_scale_right (suc k) bound (λ m. power w m *ℚ a m))
    (linear (sum_to (suc k) (λ m. power w m *ℚ a m) ∷ alpha ∷ bound ∷ []) (total ⊠ hb)
    (hlevel claims) refl)))
  where
    parted : (m : ℕ) → m < suc k → power w k ≡ power w m *ℚ power w (k - m)
    parted m b = (let e : k ≡ m + (k - m) = omega arith in ap (power w) e) ∙ power_add w m (k - m)

    term : (m : ℕ) → m < suc k → power w k *ℚ (a m *ℚ v (k - m)) ≤ℚ power w m *ℚ a m *ℚ bound
    term m b = rw (parted m b) (linear (power w m ∷ power w (k - m) ∷ a m ∷ v (k - m) ∷ bound ∷ [])
        (power_natural m hw ⊠ (ha m ⊠ each (k - m) (omega arith))) (hlevel claims) refl)

module _ (n : ℕ) (a f v : ℕ → Fraction) (alpha first later start bound : Fraction)
    (p : CanDecay n a f v alpha first later start bound) where
  start_natural : whole (pos 0) ≤ℚ start
  start_natural = le_trans (p.driven.values 0) p.starts

  bound_natural : whole (pos 0) ≤ℚ bound
  bound_natural = le_trans start_natural p.within

  at_start : weighted v 0 ≤ℚ bound
  at_start = linear (v 0 ∷ start ∷ bound ∷ []) (p.starts ⊞ p.within) (hlevel claims) refl

  at_one : 0 < n → weighted v 1 ≤ℚ bound
  at_one b = linear (v 0 ∷ v 1 ∷ a 0 ∷ f 0 ∷ alpha ∷ start ∷ first ∷ bound ∷ [])
      (natural 8 1 ⊠ p.driven.step 0 b ⊞ natural 8 1 ⊠
      (p.factors 0 b ⊠ start_natural ⊞ p.driven.factors 0 ⊠ p.starts ⊞ p.first_free) ⊞ p.first_step)
      (hlevel claims) refl

  after : (j : ℕ) → suc j < n → ((i : ℕ) → i ≤ suc j → weighted v i ≤ℚ bound)
      → weighted v (suc (suc j)) ≤ℚ bound
  after j b h = cancel_suc (suc j) (weighted v (suc (suc j))) bound
      (combine (whole (pos (suc (suc j)))) (power (whole (pos 8)) (suc j)) (v (suc (suc j)))
      (convolution a v (suc j)) (f (suc j))
      (two_le_suc j) (eights_natural (suc j)) (p.driven.step (suc j) b)
      (weighted_right_sides_are_small (whole (pos 8)) alpha bound a v (suc j)
      (natural 8 1) bound_natural p.driven.factors (p.factors (suc j) b) h)
      (p.later_free (suc j) (omega arith) b))
    where
      combine : (w e x c g : Fraction) → whole (pos 2) ≤ℚ w → whole (pos 0) ≤ℚ e → w *ℚ x ≤ℚ c +ℚ g
          → e *ℚ c ≤ℚ alpha *ℚ bound → e *ℚ g ≤ℚ later
          → w *ℚ (whole (pos 8) *ℚ e *ℚ x) ≤ℚ w *ℚ bound
      combine w e x c g h1 h2 h3 h4 h5 = linear (w ∷ e ∷ x ∷ c ∷ g ∷ alpha ∷ later ∷ bound ∷ [])
          (natural 8 1 ⊠ (h2 ⊠ h3) ⊞ natural 8 1 ⊠ h4 ⊞ natural 8 1 ⊠ h5 ⊞ natural 2 1 ⊠ p.later_steps
          ⊞ h1 ⊠ bound_natural) (hlevel claims) refl

  next : (k : ℕ) → k < n → ((i : ℕ) → i ≤ k → weighted v i ≤ℚ bound) → weighted v (suc k) ≤ℚ bound
  next zero b h = at_one b
  next (suc j) b h = after j b h

  upto : (m : ℕ) → m ≤ n → (k : ℕ) → k ≤ m → weighted v k ≤ℚ bound
  upto zero b k c = let e : k ≡ 0 = omega arith in rw e at_start
  upto (suc m) b k c = elim (which k m c) [
    | inl d ↦ upto m (omega arith) k d
    | inr e ↦ rw e (next m (omega arith) (upto m (omega arith)))
  ]
    where
      which : (k m : ℕ) → k ≤ suc m → (k ≤ m) ⊎ (k ≡ suc m)
      which k m b = grind arith

pub driven_sequences_decay : DrivenSequencesDecay
driven_sequences_decay n a f v alpha first later start bound p k b =
    upto n a f v alpha first later start bound p n (omega arith) k b
