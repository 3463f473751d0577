-- Totals of driven sequences, and of their parts in which two factors or more act.
use Rattle.std.specs.Prelude.{◌≡◌, ℕ, suc, zero, pos, [], ◌∷◌, ◌<◌, ◌-◌}
use Rattle.std.proofs.Common.{refl, ap, sym, ◌∙◌, arith}
use Rattle.frac_laws.specs.Fraction.{Fraction, over, whole, ◌+ℚ◌, ◌*ℚ◌, ◌-ℚ◌, ◌≤ℚ◌}
use Rattle.frac_laws.specs.Sums.{sum_to}
use Rattle.frac_laws.specs.Convolution.{convolution}
use Rattle.frac_laws.proofs.FractionTerms.{ring, terms}
use Rattle.frac_laws.proofs.Order.{le_refl, le_trans, le_of_equal}
use Rattle.frac_laws.proofs.Linear.{linear, claims, natural, ◌⊞◌, ◌⊠◌}
use Rattle.frac_laws.proofs.Sums.{sum_to_ext, sum_to_add, sum_to_scale, sum_to_scale_right, sum_to_mono}
use Rattle.frac_laws.proofs.Sums.{sum_to_first, sum_to_longer, sum_to_zero}
use Rattle.frac_laws.proofs.Signs.{sum_natural}
use Rattle.frac_laws.proofs.Convolutions.{convolution_natural, convolution_total_le}
use Rattle.cell_laws.specs.Driven.{IsNatural, IsDriven}
use Rattle.cell_laws.specs.ScalarLaws.{ConvolutionsStayWithin, multiplied, DrivenTotals}
use Rattle.cell_laws.specs.ScalarLaws.{DrivenTotalsAt64, DrivenTotalsAt32, SecondOrderPartsAreSmall}
use Rattle.cell_laws.proofs.Cancelling.{cancel_suc, two_le_suc}

pub convolutions_stay_within : ConvolutionsStayWithin
convolutions_stay_within n a b ha hb = convolution_total_le n ha hb

-- the sequence with 0 in the place of its start
abbrev pub after_start : (ℕ → Fraction) → ℕ → Fraction
after_start v zero = whole (pos 0)
after_start v (suc k) = v (suc k)

after_start_natural : (v : ℕ → Fraction) → IsNatural v → IsNatural (after_start v)
after_start_natural v h zero = le_refl _
after_start_natural v h (suc k) = h (suc k)

after_start_is : (v : ℕ → Fraction) (j : ℕ) → 0 < j → after_start v j ≡ v j
after_start_is v zero b = absurd (omega arith)
after_start_is v (suc j) b = refl

-- a convolution without the start's term
pub convolution_after_start : (a v : ℕ → Fraction) (k : ℕ)
    → convolution a (after_start v) k ≡ sum_to k (λ m. a m *ℚ v (k - m))
convolution_after_start a v k = let e : k - k ≡ 0 = omega arith in
    rw (e, sum_to_ext k (λ m b. ap (λ z. a m *ℚ z) (after_start_is v (k - m) (omega arith))))
    (ring (a k ∷ sum_to k (λ m. a m *ℚ v (k - m)) ∷ []) (hlevel terms) refl)

convolution_is : (a v : ℕ → Fraction) (k : ℕ)
    → convolution a v k ≡ convolution a (after_start v) k +ℚ a k *ℚ v 0
convolution_is a v k = let e : k - k ≡ 0 = omega arith in rw (convolution_after_start a v k, e) refl

module _ (n : ℕ) (a v : ℕ → Fraction) (f : Fraction) (ha : IsNatural a) (hv : IsNatural v)
    (total : sum_to n a ≤ℚ f) where
  -- v_1 + .. + v_n
  abbrev pub rest : Fraction
  rest = sum_to n (λ k. v (suc k))

  rest_natural : whole (pos 0) ≤ℚ rest
  rest_natural = sum_natural n _ (λ k. hv (suc k))

  -- the convolutions without the start add up to at most F times the rest
  pub later_convolutions : sum_to n (convolution a (after_start v)) ≤ℚ f *ℚ rest
  later_convolutions = le_trans (convolution_total_le n ha (after_start_natural v hv))
      (le_trans (widen (sum_to n a) (sum_to n (after_start v)) (sum_natural n _ ha) below)
      (linear (sum_to n a ∷ f ∷ rest ∷ []) (total ⊠ rest_natural) (hlevel claims) refl))
    where
      below : sum_to n (after_start v) ≤ℚ rest
      below = le_trans (sum_to_longer n (suc n) (λ k b. after_start_natural v hv k) (omega arith))
          (le_of_equal (sum_to_first n (after_start v) ∙ ring (rest ∷ []) (hlevel terms) refl))

      widen : (s t : Fraction) → whole (pos 0) ≤ℚ s → t ≤ℚ rest → s *ℚ t ≤ℚ s *ℚ rest
      widen s t hs h = linear (s ∷ t ∷ rest ∷ []) (hs ⊠ h) (hlevel claims) refl

  f_natural : whole (pos 0) ≤ℚ f
  f_natural = le_trans (sum_natural n _ ha) total

-- from (k + 1) x <= b + c, with c = 0 at k = 0, twice x is at most 2 b + c
twice_term : (k : ℕ) (x b : Fraction) (c : ℕ → Fraction) → whole (pos 0) ≤ℚ b → whole (pos 0) ≤ℚ c k
    → c 0 ≡ whole (pos 0)
    → whole (pos (suc k)) *ℚ x ≤ℚ b +ℚ c k → whole (pos 2) *ℚ x ≤ℚ whole (pos 2) *ℚ b +ℚ c k
twice_term zero x b c hb hc e h =
    linear (x ∷ b ∷ c 0 ∷ []) (natural 2 1 ⊠ h ⊞ le_of_equal e) (hlevel claims) refl
twice_term (suc k) x b c hb hc e h =
    cancel_suc (suc k) (whole (pos 2) *ℚ x) (whole (pos 2) *ℚ b +ℚ c (suc k))
    (combine (whole (pos (suc (suc k)))) x b (c (suc k)) (two_le_suc k) hb hc h)
  where
    combine : (w x b c : Fraction) → whole (pos 2) ≤ℚ w → whole (pos 0) ≤ℚ b → whole (pos 0) ≤ℚ c
        → w *ℚ x ≤ℚ b +ℚ c
        → w *ℚ (whole (pos 2) *ℚ x) ≤ℚ w *ℚ (whole (pos 2) *ℚ b +ℚ c)
    combine w x b c hw hb hc h = linear (w ∷ x ∷ b ∷ c ∷ [])
        (natural 2 1 ⊠ h ⊞ hw ⊠ hc ⊞ natural 2 1 ⊠ (hw ⊠ hb) ⊞ natural 2 1 ⊠ hb) (hlevel claims) refl

no_later : (a v : ℕ → Fraction) → convolution a (after_start v) 0 ≡ whole (pos 0)
no_later a v = ring (a 0 ∷ []) (hlevel terms) refl

pub driven_totals : DrivenTotals
driven_totals n a phi v f d total = linear
    (rest n a v f d.factors d.values total ∷ f ∷ v 0 ∷ sum_to n a ∷ sum_to n phi ∷ sum_to n
    (convolution a (after_start v)) ∷ [])
    (summed ⊞ later_convolutions n a v f d.factors d.values total ⊞ natural 2 1 ⊠ (total ⊠ d.values 0))
    (hlevel claims) refl
  where
    each : (k : ℕ) → k < n → whole (pos 2) *ℚ v (suc k) ≤ℚ whole (pos 2) *ℚ (a k *ℚ v 0) +ℚ convolution a
        (after_start v) k +ℚ whole (pos 2) *ℚ phi k
    each k b = linear (v (suc k) ∷ phi k ∷ a k ∷ v 0 ∷ convolution a (after_start v) k ∷ [])
        (twice_term k (v (suc k) -ℚ phi k) (a k *ℚ v 0) (convolution a (after_start v))
        (linear (a k ∷ v 0 ∷ []) (d.factors k ⊠ d.values 0) (hlevel claims) refl)
        (convolution_natural d.factors (after_start_natural v d.values) k) (no_later a v)
        (linear (whole (pos (suc k)) ∷ v (suc k) ∷ phi k ∷ a k ∷ v 0 ∷ convolution a
        (after_start v) k ∷ convolution a v k ∷ [])
        (d.step k b ⊞ le_of_equal (convolution_is a v k)) (hlevel claims) refl))
        (hlevel claims) refl

    summed : whole (pos 2) *ℚ sum_to n (λ k. v (suc k)) ≤ℚ whole (pos 2) *ℚ
        (sum_to n a *ℚ v 0) +ℚ sum_to n (convolution a (after_start v)) +ℚ whole (pos 2) *ℚ sum_to n phi
    summed = rw (
      ← sum_to_scale n (whole (pos 2)) (λ k. v (suc k)),
      ← sum_to_scale_right n
          (v 0) a,
      ← sum_to_scale n (whole (pos 2)) (λ k. a k *ℚ v 0),
      ← sum_to_scale n (whole (pos 2)) phi,
      ← sum_to_add n (λ k. whole (pos 2) *ℚ (a k *ℚ v 0))
          (convolution a (after_start v)),
      ← sum_to_add n
          (λ k. whole (pos 2) *ℚ (a k *ℚ v 0) +ℚ convolution a (after_start v) k)
          (λ k. whole (pos 2) *ℚ phi k),
    )
        (sum_to_mono n each)

pub driven_totals_at_64 : DrivenTotalsAt64
driven_totals_at_64 n a phi v d total = linear (sum_to n (λ k. v (suc k)) ∷ v 0 ∷ sum_to n phi ∷ [])
    (natural 64 1 ⊠ driven_totals n a phi v (over (pos 1) 64) d total) (hlevel claims) refl

pub driven_totals_at_32 : DrivenTotalsAt32
driven_totals_at_32 n a phi v d total = linear (sum_to n (λ k. v (suc k)) ∷ v 0 ∷ sum_to n phi ∷ [])
    (natural 32 1 ⊠ driven_totals n a phi v (over (pos 1) 32) d total) (hlevel claims) refl

pub second_order_parts_are_small : SecondOrderPartsAreSmall
second_order_parts_are_small n a v h f d hh step total small =
    combine (rest n a v f d.factors d.values total) (sum_to n (λ k. h (suc k))) (v 0)
    summed (driven_totals n a (λ k. whole (pos 0)) v f no_free total)
    (f_natural n a v f d.factors d.values total)
  where
    no_free : IsDriven n a (multiplied (λ k. whole (pos 0))) v
    no_free = record {
      factors = d.factors;
      values = d.values;
      step = λ k b. le_trans (d.step k b)
          (linear (whole (pos (suc k)) ∷ convolution a v k ∷ []) (le_refl (whole (pos 0)))
          (hlevel claims) refl);
    }

    each : (k : ℕ) → k < n → whole (pos 2) *ℚ h (suc k) ≤ℚ convolution a (after_start v) k
    each k b =
        le_trans (twice_term k (h (suc k)) (whole (pos 0)) (convolution a (after_start v)) (le_refl _)
        (convolution_natural d.factors (after_start_natural v d.values) k) (no_later a v)
        (le_trans (step k b) (le_trans (le_of_equal (sym (convolution_after_start a v k)))
        (linear (convolution a (after_start v) k ∷ []) (le_refl (whole (pos 0)))
        (hlevel claims) refl))))
        (linear (convolution a (after_start v) k ∷ []) (le_refl (whole (pos 0))) (hlevel claims) refl)

    summed : whole (pos 2) *ℚ sum_to n (λ k. h (suc k)) ≤ℚ f *ℚ sum_to n (λ k. v (suc k))
    summed = le_trans (rw (← sum_to_scale n (whole (pos 2)) (λ k. h (suc k))) (sum_to_mono n each))
        (later_convolutions n a v f d.factors d.values total)

    combine : (u r x : Fraction) → whole (pos 2) *ℚ r ≤ℚ f *ℚ u
        → (whole (pos 2) -ℚ f) *ℚ u ≤ℚ whole (pos 2) *ℚ f *ℚ x +ℚ whole (pos 2) *ℚ sum_to n
        (λ k. whole (pos 0))
        → whole (pos 0) ≤ℚ f → (whole (pos 2) -ℚ f) *ℚ r ≤ℚ f *ℚ f *ℚ x
    combine u r x h k hf = linear (u ∷ r ∷ x ∷ f ∷ [])
        (natural 1 2 ⊠ (small ⊠ h) ⊞ natural 1 2 ⊠ (hf ⊠ rw (sum_to_zero n) at k)) (hlevel claims) refl
