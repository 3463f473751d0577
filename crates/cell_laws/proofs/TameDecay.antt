-- The coefficients of tame systems and pairs decay.
use Rattle.std.specs.Prelude.{ℕ, suc, pos, [], ◌∷◌, ◌+◌, ◌*◌, ◌^◌}
use Rattle.std.proofs.Common.{refl, sym, arith}
use Rattle.frac_laws.specs.Fraction.{Fraction, over, whole, ◌+ℚ◌, ◌*ℚ◌, ◌≤ℚ◌}
use Rattle.frac_laws.specs.Sums.{sum_to, power}
use Rattle.frac_laws.specs.Convolution.{convolution}
use Rattle.frac_laws.specs.Lists.{Vector, vector_at}
use Rattle.frac_laws.specs.Norms.{Norm, Sup, norm_of_vector}
use Rattle.frac_laws.proofs.FractionTerms.{terms}
use Rattle.frac_laws.proofs.Order.{le_refl, le_trans, le_of_equal, add_mono}
use Rattle.frac_laws.proofs.Linear.{linear, claims, natural, ◌⊞◌, ◌⊠◌}
use Rattle.frac_laws.proofs.GeometricTails.{tail_of_eighths}
use Rattle.frac_laws.proofs.Norms.{norm_natural, norm-add_lists}
use Rattle.cell_laws.specs.Systems.{System, sum_of_images, coefficients, coefficient}
use Rattle.cell_laws.specs.Pairs.{CoupledPair, received, second_coefficient}
use Rattle.cell_laws.specs.Tame.{matrix_norm_at, vector_norm_at, weighted, IsTame, IsTamePair}
use Rattle.cell_laws.specs.DecayLaws.{norms, DecaysBelow, StartsWithin, CoefficientsDecay}
use Rattle.cell_laws.specs.DecayLaws.{StoredCoefficientsDecay, FirstHalvesDecay, SecondHalvesDecay}
use Rattle.cell_laws.specs.DecayLaws.{StoredFirstHalvesDecay, StoredSecondHalvesDecay, TailsAreBelowAUnit}
use Rattle.cell_laws.specs.DecayLaws.{StoredTailsAreBelowAUnit, SecondTailsAreBelowAUnit}
use Rattle.cell_laws.specs.DecayLaws.{StoredSecondTailsAreBelowAUnit}
use Rattle.cell_laws.proofs.Runs.{norms_driven, norm_of_images-run}
use Rattle.cell_laws.proofs.Decay.{eights_natural, driven_sequences_decay, weighted_right_sides_are_small}
use Rattle.cell_laws.proofs.TameSums.{matrix_norms_natural, weighted_within, free_within}
use Rattle.cell_laws.proofs.TameSums.{first_weighted}

-- a tame system from a start within some bounds
module _ (norm : Norm) (kappa40 : ℕ) (s : System) (y : Vector) (t : IsTame norm kappa40 s) where
  pub single_decay : (start bound : Fraction) → norm_of_vector norm y ≤ℚ start → start ≤ℚ bound
      → whole (pos 8) *ℚ (over (pos 1) 16 *ℚ start +ℚ over (pos 1) 8) ≤ℚ bound
      → whole (pos 4) *ℚ (over (pos 1) 16 *ℚ bound +ℚ over (pos 1) 8) ≤ℚ bound
      → DecaysBelow norm bound (coefficient s y)
  single_decay start bound h w e1 e2 k = driven_sequences_decay k (matrix_norm_at norm s.matrices)
      (vector_norm_at norm s.free) (norms norm (coefficient s y))
      (over (pos 1) 16) (over (pos 1) 8) (over (pos 1) 8) start bound
      (record {
        driven = norms_driven s.matrices (vector_at s.free) y norm k;
        factors = λ j b. le_trans (weighted_within norm s.matrices (suc j)) t.matrices;
        first_free = le_trans (le_of_equal (sym (first_weighted (vector_norm_at norm s.free))))
            (le_trans (free_within norm s.free 0) t.free);
        later_free = λ j a b. le_trans (free_within norm s.free j) t.free;
        starts = h;
        within = w;
        first_step = e1;
        later_steps = e2;
      }) k (omega arith)

pub coefficients_decay : CoefficientsDecay
coefficients_decay norm kappa40 s y t h =
    single_decay norm kappa40 s y t (whole (pos 2)) (whole (pos 2)) h (le_refl _)
    (linear [] (le_refl (whole (pos 0))) (hlevel claims) refl)
    (linear [] (le_refl (whole (pos 0))) (hlevel claims) refl)

pub stored_coefficients_decay : StoredCoefficientsDecay
stored_coefficients_decay norm kappa40 s y t h =
    single_decay norm kappa40 s y t (over (pos 17) 8) (over (pos 17) 8) h (le_refl _)
    (linear [] (le_refl (whole (pos 0))) (hlevel claims) refl)
    (linear [] (le_refl (whole (pos 0))) (hlevel claims) refl)

-- a tame pair, whose first half decays below a bound
module _ (kappa40 : ℕ) (c : Fraction) (p : CoupledPair) (w z : Vector) (t : IsTamePair kappa40 c p) where
  received_norm : (k : ℕ) → norm_of_vector Sup (received p w k)
      ≤ℚ convolution (matrix_norm_at Sup p.coupling)
      (norms Sup (coefficient p.first w)) k +ℚ vector_norm_at Sup p.second.free k
  received_norm k = le_trans (norm-add_lists Sup (sum_of_images p.coupling (coefficients p.first w k))
      (vector_at p.second.free k))
      (add_mono (norm_of_images-run p.first.matrices (vector_at p.first.free) w Sup p.coupling k)
      (le_refl _))

  first_received : (start : Fraction) → norm_of_vector Sup w ≤ℚ start
      → norm_of_vector Sup (received p w 0) ≤ℚ over (pos 5) 32 *ℚ start +ℚ over (pos 1) 32
  first_received start h = combine (matrix_norm_at Sup p.coupling 0) (norm_of_vector Sup w)
      (vector_norm_at Sup p.second.free 0) (norm_of_vector Sup (received p w 0))
      (received_norm 0) (le_trans (weighted_within Sup p.coupling 1) t.coupling)
      (le_trans (free_within Sup p.second.free 0) t.second_free)
      (norm_natural Sup w) (matrix_norms_natural Sup p.coupling 0) h
    where
      combine : (a v g x : Fraction) → x ≤ℚ whole (pos 0) +ℚ a *ℚ v +ℚ g
          → whole (pos 0) +ℚ whole (pos 1) *ℚ a ≤ℚ over (pos 5) 32 → whole (pos 1) *ℚ g ≤ℚ over (pos 1) 32
          → whole (pos 0) ≤ℚ v → whole (pos 0) ≤ℚ a → v ≤ℚ start
          → x ≤ℚ over (pos 5) 32 *ℚ start +ℚ over (pos 1) 32
      combine a v g x h1 h2 h3 hv ha hs =
          linear (a ∷ v ∷ g ∷ x ∷ start ∷ []) (h1 ⊞ h2 ⊠ hv ⊞ natural 5 32 ⊠ hs ⊞ h3) (hlevel claims) refl

  later_received : (bound : Fraction) → DecaysBelow Sup bound (coefficient p.first w) → (k : ℕ)
      → weighted (norms Sup (received p w)) k ≤ℚ over (pos 5) 32 *ℚ bound +ℚ over (pos 1) 32
  later_received bound h k = combine (power (whole (pos 8)) k)
      (convolution (matrix_norm_at Sup p.coupling) (norms Sup (coefficient p.first w)) k)
      (vector_norm_at Sup p.second.free k) (norm_of_vector Sup (received p w k))
      (eights_natural k) (received_norm k)
      (weighted_right_sides_are_small (whole (pos 8)) (over (pos 5) 32) bound
      (matrix_norm_at Sup p.coupling) (norms Sup (coefficient p.first w)) k (natural 8 1)
      (le_trans (norm_natural Sup w) (le_trans (le_of_equal
      (sym (first_weighted (norms Sup (coefficient p.first w))))) (h 0)))
      (matrix_norms_natural Sup p.coupling)
      (le_trans (weighted_within Sup p.coupling (suc k)) t.coupling) (λ j b. h j))
      (le_trans (free_within Sup p.second.free k) t.second_free)
    where
      combine : (e v g x : Fraction) → whole (pos 0) ≤ℚ e → x ≤ℚ v +ℚ g
          → e *ℚ v ≤ℚ over (pos 5) 32 *ℚ bound → e *ℚ g ≤ℚ over (pos 1) 32
          → e *ℚ x ≤ℚ over (pos 5) 32 *ℚ bound +ℚ over (pos 1) 32
      combine e v g x he h1 h2 h3 =
          linear (e ∷ v ∷ g ∷ x ∷ bound ∷ []) (he ⊠ h1 ⊞ h2 ⊞ h3) (hlevel claims) refl

  second_decay : (start first bound : Fraction) → StartsWithin start w z
      → DecaysBelow Sup first (coefficient p.first w) → start ≤ℚ bound
      → whole (pos 8) *ℚ (over (pos 1) 16 *ℚ start +ℚ (over (pos 5) 32 *ℚ start +ℚ over (pos 1) 32))
      ≤ℚ bound
      → whole (pos 4) *ℚ (over (pos 1) 16 *ℚ bound +ℚ (over (pos 5) 32 *ℚ first +ℚ over (pos 1) 32))
      ≤ℚ bound
      → DecaysBelow Sup bound (second_coefficient p w z)
  second_decay start first bound h d i e1 e2 k = driven_sequences_decay k
      (matrix_norm_at Sup p.second.matrices) (norms Sup (received p w))
      (norms Sup (second_coefficient p w z))
      (over (pos 1) 16) (over (pos 5) 32 *ℚ start +ℚ over (pos 1) 32)
      (over (pos 5) 32 *ℚ first +ℚ over (pos 1) 32) start bound
      (record {
        driven = norms_driven p.second.matrices (received p w) z Sup k;
        factors = λ j b. le_trans (weighted_within Sup p.second.matrices (suc j)) t.second.matrices;
        first_free = first_received start h.0;
        later_free = λ j a b. later_received first d j;
        starts = h.1;
        within = i;
        first_step = e1;
        later_steps = e2;
      }) k (omega arith)

pub first_halves_decay : FirstHalvesDecay
first_halves_decay kappa40 c p w z t h =
    single_decay Sup kappa40 p.first w t.first (whole (pos 1)) (over (pos 3) 2) h.0
    (linear [] (le_refl (whole (pos 0))) (hlevel claims) refl)
    (linear [] (le_refl (whole (pos 0))) (hlevel claims) refl)
    (linear [] (le_refl (whole (pos 0))) (hlevel claims) refl)

pub second_halves_decay : SecondHalvesDecay
second_halves_decay kappa40 c p w z t h = second_decay kappa40 c p w z t (whole (pos 1)) (over (pos 3) 2)
    (whole (pos 2)) h (first_halves_decay kappa40 c p w z t h)
    (linear [] (le_refl (whole (pos 0))) (hlevel claims) refl)
    (linear [] (le_refl (whole (pos 0))) (hlevel claims) refl)
    (linear [] (le_refl (whole (pos 0))) (hlevel claims) refl)

pub stored_first_halves_decay : StoredFirstHalvesDecay
stored_first_halves_decay kappa40 c p w z t h =
    single_decay Sup kappa40 p.first w t.first (over (pos 17) 16) (over (pos 49) 32) h.0
    (linear [] (le_refl (whole (pos 0))) (hlevel claims) refl)
    (linear [] (le_refl (whole (pos 0))) (hlevel claims) refl)
    (linear [] (le_refl (whole (pos 0))) (hlevel claims) refl)

pub stored_second_halves_decay : StoredSecondHalvesDecay
stored_second_halves_decay kappa40 c p w z t h = second_decay kappa40 c p w z t (over (pos 17) 16)
    (over (pos 49) 32) (over (pos 17) 8) h (stored_first_halves_decay kappa40 c p w z t h)
    (linear [] (le_refl (whole (pos 0))) (hlevel claims) refl)
    (linear [] (le_refl (whole (pos 0))) (hlevel claims) refl)
    (linear [] (le_refl (whole (pos 0))) (hlevel claims) refl)

-- what follows power 24
tail_of : (norm : Norm) (bound : Fraction) (y : ℕ → Vector) → whole (pos 0) ≤ℚ bound
    → DecaysBelow norm bound y → (terms : ℕ)
    → whole (pos 7) *ℚ power (whole (pos 8)) 25 *ℚ sum_to terms (λ i. norm_of_vector norm (y (25 + i)))
    ≤ℚ whole (pos 8) *ℚ bound
tail_of norm bound y z h terms = tail_of_eighths bound (norms norm y) 25 terms z (λ i b. h (25 + i))

tail_below_896 : (x : Fraction) → whole (pos 7) *ℚ power (whole (pos 8)) 25 *ℚ x ≤ℚ whole (pos 8) *ℚ whole
    (pos 2) → x ≤ℚ over (pos 1) (896 * 2 ^ 64)
tail_below_896 x h = linear (x ∷ []) (natural 1 (7 * 8 ^ 25) ⊠ h) (hlevel claims) refl

tail_below_400 : (x : Fraction) → whole (pos 7) *ℚ power (whole (pos 8)) 25 *ℚ x ≤ℚ whole (pos 8) *ℚ over
    (pos 17) 8 → x ≤ℚ over (pos 1) (400 * 2 ^ 64)
tail_below_400 x h = linear (x ∷ []) (natural 1 (7 * 8 ^ 25) ⊠ h) (hlevel claims) refl

pub tails_are_below_a_unit : TailsAreBelowAUnit
tails_are_below_a_unit norm kappa40 s y t h n = tail_below_896 _
    (tail_of norm (whole (pos 2)) (coefficient s y) (natural 2 1)
    (coefficients_decay norm kappa40 s y t h) n)

pub stored_tails_are_below_a_unit : StoredTailsAreBelowAUnit
stored_tails_are_below_a_unit norm kappa40 s y t h n = tail_below_400 _
    (tail_of norm (over (pos 17) 8) (coefficient s y) (natural 17 8)
    (stored_coefficients_decay norm kappa40 s y t h) n)

pub second_tails_are_below_a_unit : SecondTailsAreBelowAUnit
second_tails_are_below_a_unit kappa40 c p w z t h n = tail_below_896 _
    (tail_of Sup (whole (pos 2)) (second_coefficient p w z) (natural 2 1)
    (second_halves_decay kappa40 c p w z t h) n)

pub stored_second_tails_are_below_a_unit : StoredSecondTailsAreBelowAUnit
stored_second_tails_are_below_a_unit kappa40 c p w z t h n = tail_below_400 _
    (tail_of Sup (over (pos 17) 8) (second_coefficient p w z) (natural 17 8)
    (stored_second_halves_decay kappa40 c p w z t h) n)
