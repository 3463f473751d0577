-- Terms of a right side that are divided by k + 1: past the first power they count for half.
use Rattle.std.specs.Prelude.{◌≡◌, ℕ, suc, zero, pos, [], ◌∷◌, ◌≤◌, ◌-◌, ◌^◌}
use Rattle.std.proofs.Common.{refl, arith}
use Rattle.frac_laws.specs.Fraction.{Fraction, over, whole, ◌*ℚ◌, ◌≤ℚ◌}
use Rattle.frac_laws.specs.Sums.{sum_to, power}
use Rattle.frac_laws.specs.Convolution.{convolution}
use Rattle.frac_laws.proofs.FractionTerms.{ring, terms}
use Rattle.frac_laws.proofs.Linear.{linear, claims, natural, ◌⊠◌}
use Rattle.frac_laws.proofs.Order.{le_refl, le_trans, le_of_equal}
use Rattle.frac_laws.proofs.Sums.{sum_to_mono, sum_to_scale}
use Rattle.frac_laws.proofs.Signs.{mul_natural}
use Rattle.frac_laws.proofs.Convolutions.{sum_to_within}
use Rattle.cell_laws.specs.Driven.{IsNatural}
use Rattle.cell_laws.specs.ScalarLaws.{multiplied}
use Rattle.cell_laws.specs.Tame.{weighted}
use Rattle.cell_laws.proofs.Cancelling.{one_le_suc, two_le_suc}
use Rattle.cell_laws.proofs.Decay.{eights_natural}
use Rattle.cell_laws.proofs.TameSums.{weighted_natural}

-- a_0, and half of each later a_m
abbrev pub halved : (ℕ → Fraction) → ℕ → Fraction
halved a zero = a 0
halved a (suc m) = over (pos 1) 2 *ℚ a (suc m)

pub halved_natural : (a : ℕ → Fraction) → IsNatural a → IsNatural (halved a)
halved_natural a h zero = h 0
halved_natural a h (suc m) = mul_natural (natural 1 2) (h (suc m))

-- a_m <= (k + 1) times the halved a_m, up to k
halved_covers : (a : ℕ → Fraction) → IsNatural a → (k m : ℕ) → m ≤ k
    → a m ≤ℚ whole (pos (suc k)) *ℚ halved a m
halved_covers a h k zero b = linear (whole (pos (suc k)) ∷ a 0 ∷ []) (one_le_suc k ⊠ h 0) (hlevel claims) refl
halved_covers a h zero (suc m) b = absurd (omega arith)
halved_covers a h (suc k) (suc m) b = linear (whole (pos (suc (suc k))) ∷ a (suc m) ∷ [])
    (natural 1 2 ⊠ (two_le_suc k ⊠ h (suc m))) (hlevel claims) refl

pub halved_term : (a : ℕ → Fraction) → IsNatural a → (k : ℕ) → a k ≤ℚ multiplied (halved a) k
halved_term a h k = halved_covers a h k k (omega arith)

pub halved_convolution : (a v : ℕ → Fraction) → IsNatural a → IsNatural v → (k : ℕ)
    → convolution a v k ≤ℚ multiplied (convolution (halved a) v) k
halved_convolution a v ha hv k =
    le_trans (sum_to_mono (suc k) (λ m b. each m (omega arith)))
    (le_of_equal (sum_to_scale (suc k) (whole (pos (suc k))) (λ m. halved a m *ℚ v (k - m))))
  where
    each : (m : ℕ) → m ≤ k → a m *ℚ v (k - m) ≤ℚ whole (pos (suc k)) *ℚ (halved a m *ℚ v (k - m))
    each m b = linear (a m ∷ v (k - m) ∷ whole (pos (suc k)) ∷ halved a m ∷ [])
        (halved_covers a ha k m b ⊠ hv (k - m)) (hlevel claims) refl

-- a sequence of at most r at each of the powers up to 11, and 0 beyond
pub record IsShort (r : Fraction) (a : ℕ → Fraction) : Type 0 where
  pub natural_terms : IsNatural a
  pub small : (m : ℕ) → a m ≤ℚ r
  pub past : (m : ℕ) → 12 ≤ m → a m ≡ whole (pos 0)

-- its total is at most 12 r, and its halved total at most 13/2 r
pub short_total : (r : Fraction) (a : ℕ → Fraction) → IsShort r a → (n : ℕ) → sum_to n a ≤ℚ whole (pos 12) *ℚ r
short_total r a s n = le_trans (sum_to_within 12 n s.natural_terms s.past)
    (le_trans (sum_to_mono 12 (λ m b. s.small m))
    (linear (r ∷ []) (le_refl (whole (pos 0))) (hlevel claims) refl))

-- weighted by 8^m it is at most (8^12 - 1) / 7 times r
pub weighted_short_total : (r : Fraction) (a : ℕ → Fraction) → IsShort r a → (n : ℕ)
    → sum_to n (weighted a) ≤ℚ over (pos (8 ^ 12)) 7 *ℚ r
weighted_short_total r a s n = le_trans (sum_to_within 12 n (weighted_natural a s.natural_terms) past)
    (le_trans (sum_to_mono 12 {g = weighted (λ m. r)} (λ m b. each m))
    (linear (r ∷ []) (natural 1 7 ⊠ le_trans (s.natural_terms 0) (s.small 0)) (hlevel claims) refl))
  where
    past : (m : ℕ) → 12 ≤ m → weighted a m ≡ whole (pos 0)
    past m b = rw (s.past m b) (ring (power (whole (pos 8)) m ∷ []) (hlevel terms) refl)

    each : (m : ℕ) → weighted a m ≤ℚ weighted (λ m. r) m
    each m = linear (power (whole (pos 8)) m ∷ a m ∷ r ∷ []) (eights_natural m ⊠ s.small m) (hlevel claims) refl

pub halved_total : (r : Fraction) (a : ℕ → Fraction) → IsShort r a → (n : ℕ)
    → sum_to n (halved a) ≤ℚ over (pos 13) 2 *ℚ r
halved_total r a s n = le_trans (sum_to_within 12 n (halved_natural a s.natural_terms) past)
    (le_trans (sum_to_mono 12 {g = halved (λ m. r)} (λ m b. each m))
    (linear (r ∷ []) (le_refl (whole (pos 0))) (hlevel claims) refl))
  where
    past : (m : ℕ) → 12 ≤ m → halved a m ≡ whole (pos 0)
    past zero b = absurd (omega arith)
    past (suc m) b = rw (s.past (suc m) b) (ring [] (hlevel terms) refl)

    each : (m : ℕ) → halved a m ≤ℚ halved (λ m. r) m
    each zero = s.small 0
    each (suc m) = linear (a (suc m) ∷ r ∷ []) (natural 1 2 ⊠ s.small (suc m)) (hlevel claims) refl
