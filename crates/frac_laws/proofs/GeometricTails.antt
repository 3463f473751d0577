-- A sequence that falls at least as fast as the powers of 1/q has a small sum from any place on.
use Rattle.std.specs.Prelude.{◌≡◌, ℕ, zero, suc, pos, ◌+◌, ◌<◌, [], ◌∷◌}
use Rattle.std.proofs.Common.{refl, sym, arith}
use Rattle.frac_laws.specs.Fraction.{Fraction, over, whole, ◌+ℚ◌, ◌-ℚ◌, ◌*ℚ◌, ◌≤ℚ◌}
use Rattle.frac_laws.specs.Sums.{sum_to, power}
use Rattle.frac_laws.proofs.FractionTerms.{ring, terms}
use Rattle.frac_laws.proofs.Linear.{linear, claims, natural, ◌⊞◌, ◌⊠◌, ◌·◌}
use Rattle.frac_laws.proofs.Order.{le_of_equal}
use Rattle.frac_laws.proofs.Powers.{power_add, power_natural, power_inverse}

module _ (q p bound : Fraction) (v : ℕ → Fraction) (inverse : q *ℚ p ≡ whole (pos 1))
    (q_large : whole (pos 1) ≤ℚ q) (p_natural : whole (pos 0) ≤ℚ p) where
  one_more : (first sum term up down : Fraction) → up *ℚ down ≡ whole (pos 1) → whole (pos 0) ≤ℚ down
      → (q -ℚ whole (pos 1)) *ℚ first *ℚ sum +ℚ q *ℚ bound *ℚ down ≤ℚ q *ℚ bound
      → first *ℚ up *ℚ term ≤ℚ bound
      → (q -ℚ whole (pos 1)) *ℚ first *ℚ (sum +ℚ term) +ℚ q *ℚ bound *ℚ (p *ℚ down) ≤ℚ q *ℚ bound
  one_more first sum term up down e h so_far next =
      linear (q ∷ p ∷ bound ∷ first ∷ sum ∷ term ∷ up ∷ down ∷ [])
      (so_far ⊞ next ⊠ (q_large ⊠ h) ⊞ ((bound *ℚ down) · inverse)
      ⊞ (((q -ℚ whole (pos 1)) *ℚ first *ℚ term) · sym e)) (hlevel claims) refl

  with_rest : (s r : ℕ) → ((i : ℕ) → i < r → power q (s + i) *ℚ v (s + i) ≤ℚ bound)
      → (q -ℚ whole (pos 1)) *ℚ power q s *ℚ sum_to r (λ i. v (s + i)) +ℚ q *ℚ bound *ℚ power p r
      ≤ℚ q *ℚ bound
  with_rest s zero h = le_of_equal (ring (q ∷ bound ∷ power q s ∷ []) (hlevel terms) refl)
  with_rest s (suc r) h = one_more (power q s) (sum_to r (λ i. v (s + i))) (v (s + r)) (power q r) (power p r)
      (power_inverse q p r inverse) (power_natural r p_natural) (with_rest s r (λ i b. h i (omega arith)))
      (rw (power_add q s r) at (h r (omega arith)))

  -- (q - 1) q^s (v s + .. + v (s + r - 1)) is at most q times the bound of q^k (v k)
  pub tail_sum : (s r : ℕ) → whole (pos 0) ≤ℚ bound
      → ((i : ℕ) → i < r → power q (s + i) *ℚ v (s + i) ≤ℚ bound)
      → (q -ℚ whole (pos 1)) *ℚ power q s *ℚ sum_to r (λ i. v (s + i)) ≤ℚ q *ℚ bound
  tail_sum s r b h = linear (q ∷ p ∷ bound ∷ power q s ∷ sum_to r (λ i. v (s + i)) ∷ power p r ∷ [])
      (with_rest s r h ⊞ (q_large ⊠ (b ⊠ power_natural {x = p} r p_natural))
      ⊞ (b ⊠ power_natural {x = p} r p_natural))
      (hlevel claims) refl

-- the same for eighths: 7 8^s (v s + .. + v (s + r - 1)) <= 8 bound
pub tail_of_eighths : (bound : Fraction) (v : ℕ → Fraction) (s r : ℕ) → whole (pos 0) ≤ℚ bound
    → ((i : ℕ) → i < r → power (whole (pos 8)) (s + i) *ℚ v (s + i) ≤ℚ bound)
    → whole (pos 7) *ℚ power (whole (pos 8)) s *ℚ sum_to r (λ i. v (s + i)) ≤ℚ whole (pos 8) *ℚ bound
tail_of_eighths bound v s r b h =
    linear (bound ∷ power (whole (pos 8)) s ∷ sum_to r (λ i. v (s + i)) ∷ [])
    (tail_sum (whole (pos 8)) (over (pos 1) 8) bound v (ring [] (hlevel terms) refl)
    (linear [] (natural 7 1) (hlevel claims) refl) (natural 1 8) s r b h) (hlevel claims) refl
