-- A rounded step of a stored pair that stands for a tame one.
use Rattle.std.specs.Prelude.{◌≡◌, ℕ, suc, pos, [], ◌∷◌, length, ◌<◌, ◌≤◌, ◌+◌, ◌-◌, ◌*◌, ◌^◌}
use Rattle.std.proofs.Common.{refl, ap, sym, ◌∙◌, subst, arith}
use Rattle.frac_laws.specs.Fraction.{Fraction, over, whole, ◌+ℚ◌, ◌*ℚ◌, ◌≤ℚ◌}
use Rattle.frac_laws.specs.Sums.{sum_to, power}
use Rattle.frac_laws.specs.Convolution.{convolution}
use Rattle.frac_laws.specs.Lists.{Vector, number_at, vector_at, matrix_at, add_lists, subtract_lists}
use Rattle.frac_laws.specs.Norms.{Sup, norm_of_vector}
use Rattle.frac_laws.proofs.FractionTerms.{ring, terms}
use Rattle.frac_laws.proofs.Linear.{linear, claims, natural, ◌⊞◌, ◌⊠◌}
use Rattle.frac_laws.proofs.Order.{le_trans, le_of_equal}
use Rattle.frac_laws.proofs.Lengths.{add_lists_fits}
use Rattle.frac_laws.proofs.Signs.{sum_natural}
use Rattle.frac_laws.proofs.Sums.{sum_to_first, sum_to_add, sum_to_longer}
use Rattle.frac_laws.proofs.Convolutions.{convolution_total_le, convolution_natural}
use Rattle.frac_laws.proofs.Vectors.{number_at-add_lists, number_at-subtract_lists}
use Rattle.frac_laws.proofs.Norms.{norm_natural, norm-same, norm-add_lists}
use Rattle.cell_laws.specs.Systems.{coefficient}
use Rattle.cell_laws.specs.Pairs.{CoupledPair, second_coefficient, second_taylor_value}
use Rattle.cell_laws.specs.Tame.{weighted, weighted_norm, IsTamePair}
use Rattle.cell_laws.specs.Driven.{IsNatural}
use Rattle.cell_laws.specs.ScalarLaws.{multiplied}
use Rattle.cell_laws.specs.Recurrence.{convolved}
use Rattle.cell_laws.specs.DecayLaws.{norms}
use Rattle.cell_laws.specs.ErrorLaws.{distance}
use Rattle.cell_laws.proofs.Cancelling.{one_le_suc}
use Rattle.cell_laws.proofs.Decay.{eights_natural}
use Rattle.cell_laws.proofs.Recurrences.{second_coefficients_recur, second_taylor_value_sums}
use Rattle.cell_laws.proofs.TameSums.{total_within}
use Rattle.cell_laws.proofs.TameDecay.{stored_second_halves_decay}
use Rattle.cell_laws.proofs.Errors.{stored_second_later_degrees_are_close}
use Rattle.step_laws.specs.StandsFor.{units, PairStandsFor}
use Rattle.step_laws.specs.RoundedRuns.{IsRoundedDown, IsRoundedStep, IsSecondRoundedStep, IsEarly}
use Rattle.step_laws.specs.RoundedRuns.{HasWindow, AreEmptyAbove, VectorsAreEmptyAbove, PairMayStop}
use Rattle.step_laws.specs.RoundedRuns.PairMayStop.{at_last, after_window}
use Rattle.step_laws.proofs.Images.{images, number_at-images, changes, stored_factors, changes_natural}
use Rattle.step_laws.proofs.Images.{stored_factors_natural, images_are_near}
use Rattle.step_laws.proofs.Halves.{halved, halved_natural, halved_term, halved_convolution, halved_total}
use Rattle.step_laws.proofs.Halves.{IsShort}
use Rattle.step_laws.proofs.Residues.{spread, images_fit}
use Rattle.step_laws.proofs.Errors.{RunsBeside, no_first_error, errors_total}
use Rattle.step_laws.proofs.Distances.{triangle, distance_of_sums}
use Rattle.step_laws.proofs.StoredNorms.{changes_are_short, stored_total, weighted_stored_total, free_changes}
use Rattle.step_laws.proofs.StoredNorms.{free_changes_are_short, decaying_total}
use Rattle.step_laws.proofs.StoredNorms.{plain_within_weighted}
use Rattle.step_laws.proofs.Steps.{numbers_of_units, spread_units_natural, sizes_total, rounding_total}
use Rattle.step_laws.proofs.Steps.{small_images, no_free, small_rests}
use Rattle.step_laws.proofs.Tails.{cut, cut_total, convolved_cut, window_norms, norms_past, window_convolution}
use Rattle.step_laws.proofs.Tails.{low_factors, low_natural, low_none, low_total, low_images, cut_rest}
use Rattle.step_laws.proofs.Tails.{rest_after, rests, rests_leave, rests_total}

-- a step of the pair from mid and mid2 alone, against the Taylor values of a degree n
module _ (kappa40 degree n : ℕ) (c : Fraction) (stored exact : CoupledPair) (mid new mid2 new2 : Vector)
    (w z : ℕ → Vector) (stands : PairStandsFor stored exact) (dimension : exact.first.dimension ≤ 12)
    (tame : IsTamePair kappa40 c exact) (first : IsRoundedStep degree stored.first mid new w)
    (second : IsSecondRoundedStep degree stored w mid2 new2 z)
    (start : norm_of_vector Sup mid ≤ℚ over (pos 17) 16) (start2 : norm_of_vector Sup mid2 ≤ℚ over (pos 17) 16)
    (least : 8 ≤ degree) (most : degree ≤ 24) (late : degree ≤ n) where
  -- the exact coefficients of both halves
  abbrev exact_first : ℕ → Vector
  exact_first = coefficient exact.first mid

  abbrev exact_second : ℕ → Vector
  exact_second = second_coefficient exact mid mid2

  -- what each half's second run receives, exact and stored
  abbrev receives : ℕ → Vector
  receives k = add_lists (images exact.coupling exact_first k) (vector_at exact.second.free k)

  abbrev pub stored_receives : ℕ → Vector
  stored_receives k = add_lists (images stored.coupling (cut degree w) k) (vector_at stored.second.free k)

  number_received : (k i : ℕ) → number_at (receives k) i ≡ convolved exact.coupling exact_first k i +ℚ number_at
      (vector_at exact.second.free k) i
  number_received k i = number_at-add_lists (images exact.coupling exact_first k) (vector_at exact.second.free k) i
      ∙ ap (λ t. t +ℚ number_at (vector_at exact.second.free k) i)
      (number_at-images exact.coupling exact_first k i)

  number_stored : (k i : ℕ) → number_at (stored_receives k) i ≡ convolved stored.coupling (cut degree w) k i
      +ℚ number_at (vector_at stored.second.free k) i
  number_stored k i = number_at-add_lists (images stored.coupling (cut degree w) k) (vector_at stored.second.free k) i
      ∙ ap (λ t. t +ℚ number_at (vector_at stored.second.free k) i)
      (number_at-images stored.coupling (cut degree w) k i)

  halves_fit : stored.second.dimension ≡ exact.second.dimension
  halves_fit = stands.second.dimension

  -- and as the rounded run meets it
  number_met : (k i : ℕ) → k ≤ degree → number_at (stored_receives k) i ≡ convolved stored.coupling w k i
      +ℚ number_at (vector_at stored.second.free k) i
  number_met k i b = number_stored k i
      ∙ ap (λ t. t +ℚ number_at (vector_at stored.second.free k) i) (convolved_cut degree w stored.coupling k i b)

  second_fits : (k : ℕ) → k ≤ degree → length (z k) ≤ exact.second.dimension
  second_fits k b = subst (λ d. length (z k) ≤ d) halves_fit (second.fits k b)

  -- what the recurrence of the second half's rounded run leaves
  abbrev pub second_rests : ℕ → Fraction
  second_rests = cut_rest Sup degree exact.second.dimension stored.second.matrices stored_receives z

  beside : RunsBeside Sup n exact.second.matrices stored.second.matrices receives stored_receives exact_second
      (cut degree z) (rests Sup degree exact.second.dimension stored.second.matrices stored_receives z)
  beside = record {
    solves = λ k i b. second_coefficients_recur exact mid mid2 k i
        ∙ ap (λ t. convolved exact.second.matrices exact_second k i +ℚ t) (sym (number_received k i));
    leaves = λ k b. rests_leave Sup degree exact.second.dimension stored.second.matrices stored_receives z least
        stands.second.matrices.stored_fit.rows
        (λ k. add_lists_fits exact.second.dimension (images stored.coupling (cut degree w) k)
        (vector_at stored.second.free k)
        (images_fit exact.second.dimension stored.coupling (cut degree w) k
        (λ m. subst (λ d. length (matrix_at stored.coupling m) ≤ d)
        (sym stands.halves) (stands.coupling.stored_fit.rows m)))
        (stands.second.free.stored_fit.numbers k))
        second_fits
        (λ k i b l. subst
        (λ t. IsRoundedDown (convolved stored.second.matrices z k i +ℚ t) (suc k) (number_at (z (suc k)) i))
        (sym (number_met k i (omega arith)))
        (second.rounded k i b (subst (λ d. i < d) (sym halves_fit) l))) k;
    starts = λ i. sym (second.starts i);
  }

  -- |w_k - w'_k| of the first half, and its total
  abbrev first_errors : ℕ → Fraction
  first_errors k = distance Sup (exact_first k) (cut degree w k)

  first_start : norm_of_vector Sup mid ≤ℚ over (pos 17) 8
  first_start = linear (norm_of_vector Sup mid ∷ []) (start ⊞ natural 17 16) (hlevel claims) refl

  first_sizes : sum_to n (norms Sup exact_first) ≤ℚ over (pos 17) 7
  first_sizes = sizes_total Sup kappa40 degree n stored.first exact.first mid new w stands.first
      (omega (arith, dimension)) tame.first first first_start least most late

  second_sizes : sum_to n (norms Sup exact_second) ≤ℚ over (pos 17) 7
  second_sizes = linear (sum_to n (norms Sup exact_second) ∷ [])
      (natural 1 7 ⊠ decaying_total n (over (pos 17) 8) (norms Sup exact_second) (natural 17 8)
      (stored_second_halves_decay kappa40 c exact mid mid2 tame (start, start2))) (hlevel claims) refl

  -- how far apart the received vectors are
  abbrev coupling_changes : ℕ → Fraction
  coupling_changes = changes Sup exact.coupling stored.coupling

  abbrev coupling_factors : ℕ → Fraction
  coupling_factors = stored_factors Sup exact.coupling stored.coupling

  abbrev second_free_changes : ℕ → Fraction
  second_free_changes = free_changes Sup 3 exact.second.dimension stored.second.free exact.second.free
      stands.second.free

  short_free : IsShort (whole (pos 1) *ℚ units 3) second_free_changes
  short_free = free_changes_are_short Sup 3 exact.second.dimension stored.second.free exact.second.free
      stands.second.free

  short_coupling : IsShort (whole (pos 12) *ℚ units 3) coupling_changes
  short_coupling = changes_are_short Sup 3 exact.first.dimension stored.coupling exact.coupling stands.coupling
      (whole (pos 12) *ℚ units 3) (numbers_of_units exact.first.dimension 12 3 dimension)

  -- divided by k + 1
  abbrev gaps : ℕ → Fraction
  gaps k = convolution coupling_factors first_errors k
      +ℚ convolution (halved coupling_changes) (norms Sup exact_first) k +ℚ halved second_free_changes k

  received_near : (k : ℕ) → distance Sup (receives k) (stored_receives k) ≤ℚ multiplied gaps k
  received_near k = join (distance Sup (receives k) (stored_receives k))
      (distance Sup (images exact.coupling exact_first k) (images stored.coupling (cut degree w) k))
      (second_free_changes k) (convolution coupling_factors first_errors k)
      (convolution coupling_changes (norms Sup exact_first) k)
      (convolution (halved coupling_changes) (norms Sup exact_first) k)
      (halved second_free_changes k) (whole (pos (suc k)))
      split (images_are_near Sup exact.coupling stored.coupling exact_first (cut degree w) k)
      (halved_convolution coupling_changes (norms Sup exact_first)
      (changes_natural Sup exact.coupling stored.coupling) (λ j. norm_natural Sup (exact_first j)) k)
      (halved_term second_free_changes short_free.natural_terms k)
      (one_le_suc k)
      (convolution_natural (stored_factors_natural Sup exact.coupling stored.coupling)
      (λ j. norm_natural Sup (subtract_lists (exact_first j) (cut degree w j))) k)
    where
      split : distance Sup (receives k) (stored_receives k)
          ≤ℚ distance Sup (images exact.coupling exact_first k) (images stored.coupling (cut degree w) k) +ℚ
          second_free_changes k
      split = le_trans (le_of_equal (norm-same Sup (subtract_lists (receives k) (stored_receives k))
          (add_lists (subtract_lists (images exact.coupling exact_first k) (images stored.coupling (cut degree w) k))
          (subtract_lists (vector_at exact.second.free k) (vector_at stored.second.free k))) numbers))
          (norm-add_lists Sup
          (subtract_lists (images exact.coupling exact_first k) (images stored.coupling (cut degree w) k))
          (subtract_lists (vector_at exact.second.free k) (vector_at stored.second.free k)))
        where
          numbers : (i : ℕ) → number_at (subtract_lists (receives k) (stored_receives k)) i
              ≡ number_at (add_lists
              (subtract_lists (images exact.coupling exact_first k) (images stored.coupling (cut degree w) k))
              (subtract_lists (vector_at exact.second.free k) (vector_at stored.second.free k))) i
          numbers i = rw (
            number_at-subtract_lists (receives k) (stored_receives k) i,
            number_at-add_lists (images exact.coupling exact_first k) (vector_at exact.second.free k) i,
            number_at-add_lists (images stored.coupling (cut degree w) k) (vector_at stored.second.free k) i,
            number_at-add_lists
                (subtract_lists (images exact.coupling exact_first k) (images stored.coupling (cut degree w) k))
                (subtract_lists (vector_at exact.second.free k) (vector_at stored.second.free k)) i,
            number_at-subtract_lists (images exact.coupling exact_first k) (images stored.coupling (cut degree w) k) i,
            number_at-subtract_lists (vector_at exact.second.free k) (vector_at stored.second.free k) i,
          ) (ring (number_at (images exact.coupling exact_first k) i ∷ number_at
              (images stored.coupling (cut degree w) k) i ∷ number_at (vector_at exact.second.free k) i ∷ number_at
              (vector_at stored.second.free k) i ∷ []) (hlevel terms) refl)

      join : (x a g e v h f n : Fraction) → x ≤ℚ a +ℚ g → a ≤ℚ e +ℚ v → v ≤ℚ n *ℚ h → g ≤ℚ n *ℚ f
          → whole (pos 1) ≤ℚ n → whole (pos 0) ≤ℚ e → x ≤ℚ n *ℚ (e +ℚ h +ℚ f)
      join x a g e v h f n h1 h2 h3 h4 hn he = linear (x ∷ a ∷ g ∷ e ∷ v ∷ h ∷ f ∷ n ∷ [])
          (h1 ⊞ h2 ⊞ h3 ⊞ h4 ⊞ hn ⊠ he) (hlevel claims) refl

  -- where little is left after the degree in both halves
  module _ (small_first : (k : ℕ) → degree ≤ k → k < n → power (whole (pos 8)) k
      *ℚ cut_rest Sup degree exact.first.dimension stored.first.matrices (vector_at stored.first.free) w k
      ≤ℚ spread Sup exact.first.dimension *ℚ units 8 *ℚ power (whole (pos 8)) degree)
      (small_second : (k : ℕ) → degree ≤ k → k < n
      → power (whole (pos 8)) k *ℚ second_rests k ≤ℚ units 20 *ℚ power (whole (pos 8)) degree) where
    first_total : sum_to (suc n) first_errors ≤ℚ units 928
    first_total = rounding_total Sup kappa40 degree n stored.first exact.first mid new w stands.first
        (omega (arith, dimension)) tame.first first first_start least most late small_first

    -- their total: 5/32 of 928, 13/2 of 36 times 17/7, and 13/2 of 3
    gaps_total : sum_to n gaps ≤ℚ units 733
    gaps_total = join (sum_to n gaps) (sum_to n (convolution coupling_factors first_errors))
        (sum_to n (convolution (halved coupling_changes) (norms Sup exact_first)))
        (sum_to n (halved second_free_changes)) (sum_to n coupling_factors) (sum_to n first_errors)
        (sum_to n (halved coupling_changes)) (sum_to n (norms Sup exact_first))
        (sum_to_add n (λ k. convolution coupling_factors first_errors k
        +ℚ convolution (halved coupling_changes) (norms Sup exact_first) k) (halved second_free_changes)
        ∙ ap (λ t. t +ℚ sum_to n (halved second_free_changes))
        (sum_to_add n (convolution coupling_factors first_errors)
        (convolution (halved coupling_changes) (norms Sup exact_first))))
        (convolution_total_le n (stored_factors_natural Sup exact.coupling stored.coupling) errors_natural)
        (stored_total Sup 3 exact.first.dimension stored.coupling exact.coupling stands.coupling
        (whole (pos 12) *ℚ units 3) (numbers_of_units exact.first.dimension 12 3 dimension) n (over (pos 5) 32)
        (le_trans (plain_within_weighted Sup exact.coupling n) tame.coupling))
        (le_trans (sum_to_longer n (suc n) (λ k b. errors_natural k) (omega arith)) first_total)
        (sum_natural n first_errors errors_natural)
        (convolution_total_le n (halved_natural coupling_changes
        (changes_natural Sup exact.coupling stored.coupling)) (λ j. norm_natural Sup (exact_first j)))
        (halved_total (whole (pos 12) *ℚ units 3) coupling_changes short_coupling n) first_sizes
        (sum_natural n (norms Sup exact_first) (λ j. norm_natural Sup (exact_first j)))
        (halved_total (whole (pos 1) *ℚ units 3) second_free_changes short_free n)
      where
        errors_natural : IsNatural first_errors
        errors_natural k = norm_natural Sup (subtract_lists (exact_first k) (cut degree w k))

        join : (t p q f a e h s : Fraction) → t ≡ (p +ℚ q) +ℚ f → p ≤ℚ a *ℚ e
            → a ≤ℚ over (pos 5) 32 +ℚ whole (pos 12) *ℚ (whole (pos 12) *ℚ units 3) → e ≤ℚ units 928
            → whole (pos 0) ≤ℚ e → q ≤ℚ h *ℚ s → h ≤ℚ over (pos 13) 2 *ℚ (whole (pos 12) *ℚ units 3)
            → s ≤ℚ over (pos 17) 7 → whole (pos 0) ≤ℚ s → f ≤ℚ over (pos 13) 2 *ℚ (whole (pos 1) *ℚ units 3)
            → t ≤ℚ units 733
        join t p q f a e h s e0 h1 h2 h3 he h4 h5 h6 hs h7 = linear (t ∷ p ∷ q ∷ f ∷ a ∷ e ∷ h ∷ s ∷ [])
            (le_of_equal e0 ⊞ h1 ⊞ h2 ⊠ he ⊞ (natural 5 32 ⊞ natural 432 (2 ^ 64)) ⊠ h3 ⊞ h4 ⊞ h5 ⊠ hs
            ⊞ natural 234 (2 ^ 64) ⊠ h6 ⊞ h7) (hlevel claims) refl

    abbrev second_errors : ℕ → Fraction
    second_errors k = distance Sup (exact_second k) (cut degree z k)

    few_units : whole (pos exact.second.dimension) *ℚ units 1 ≤ℚ whole (pos 12) *ℚ units 1
    few_units = numbers_of_units exact.second.dimension 12 1 (subst (λ d. d ≤ 12) (sym stands.halves) dimension)

    later_errors : sum_to n (λ k. second_errors (suc k)) ≤ℚ units 965
    later_errors = join (sum_to n (λ k. second_errors (suc k)))
        (errors_total Sup n exact.second.matrices stored.second.matrices receives stored_receives exact_second
        (cut degree z) _ beside (whole (pos 12) *ℚ units 1) (over (pos 17) 7) (units 733)
        (whole (pos 24) *ℚ (whole (pos 1) *ℚ units 1) +ℚ over (pos 8) 63 *ℚ units 20) gaps
        (changes_are_short Sup 1 exact.second.dimension stored.second.matrices exact.second.matrices
        stands.second.matrices (whole (pos 12) *ℚ units 1) few_units)
        (le_trans (stored_total Sup 1 exact.second.dimension stored.second.matrices exact.second.matrices
        stands.second.matrices (whole (pos 12) *ℚ units 1) few_units n (over (pos 1) 64)
        (le_trans (total_within Sup exact.second.matrices n) tame.second.total))
        (linear [] (natural 1 128) (hlevel claims) refl))
        second_sizes (λ k b. received_near k) gaps_total
        (rests_total Sup degree exact.second.dimension stored.second.matrices stored_receives z most (units 20)
        (natural 20 (2 ^ 64)) (spread_units_natural Sup exact.second.dimension 1) n late small_second))
      where
        join : (t : Fraction) → whole (pos 63) *ℚ t ≤ℚ whole (pos 64) *ℚ
            (over (pos 13) 2 *ℚ (whole (pos 12) *ℚ units 1) *ℚ over (pos 17) 7 +ℚ units 733
            +ℚ (whole (pos 24) *ℚ (whole (pos 1) *ℚ units 1) +ℚ over (pos 8) 63 *ℚ units 20)) → t ≤ℚ units 965
        join t h = linear (t ∷ []) (natural 1 63 ⊠ h) (hlevel claims) refl

    pub rounding_is_small : distance Sup (second_taylor_value exact mid mid2 n) new2 ≤ℚ units 965
    rounding_is_small = le_trans (distance_of_sums Sup (suc n) exact_second (cut degree z)
        (second_taylor_value exact mid mid2 n) new2 (second_taylor_value_sums exact mid mid2 n)
        (λ i. second.total i ∙ cut_total degree z n i late))
        (le_trans (le_of_equal (sum_to_first n second_errors))
        (linear (second_errors 0 ∷ sum_to n (λ k. second_errors (suc k)) ∷ [])
        (no_first_error Sup n exact.second.matrices stored.second.matrices receives stored_receives exact_second
        (cut degree z) _ beside ⊞ later_errors) (hlevel claims) refl))

-- little is left after the degree in the second half where the coefficients of both before it are small
module _ (kappa40 degree d : ℕ) (c : Fraction) (stored exact : CoupledPair) (w z : ℕ → Vector)
    (stands : PairStandsFor stored exact) (dimension : exact.first.dimension ≤ 12)
    (tame : IsTamePair kappa40 c exact)
    (first_fits : (k : ℕ) → k ≤ degree → length (w k) ≤ exact.first.dimension)
    (second_fits : (k : ℕ) → k ≤ degree → length (z k) ≤ exact.second.dimension)
    (early : IsEarly degree d) (empty : AreEmptyAbove d stored.second.matrices)
    (free_empty : VectorsAreEmptyAbove d stored.second.free) (coupling_empty : AreEmptyAbove d stored.coupling)
    (first_window : HasWindow degree d w) (window : HasWindow degree d z) where
  -- the weighted sum of the stored coupling is at most 3/16
  coupling_weighted : (n : ℕ) → sum_to n (weighted (low_factors Sup exact.first.dimension d exact.coupling
      stored.coupling stands.coupling.stored_fit coupling_empty)) ≤ℚ over (pos 3) 16
  coupling_weighted n = le_trans (low_total Sup exact.first.dimension d exact.coupling stored.coupling
      stands.coupling.stored_fit coupling_empty n)
      (le_trans (weighted_stored_total Sup 3 exact.first.dimension stored.coupling exact.coupling stands.coupling
      (whole (pos 12) *ℚ units 3) (numbers_of_units exact.first.dimension 12 3 dimension) n)
      (linear (weighted_norm Sup exact.coupling ∷ []) (tame.coupling ⊞ natural 1 64) (hlevel claims) refl))

  few : exact.second.dimension ≤ 24
  few = omega (arith, subst (λ d. d ≤ 12) (sym stands.halves) dimension)

  coupling_images : (k : ℕ) → degree ≤ k
      → power (whole (pos 8)) k *ℚ norm_of_vector Sup (images stored.coupling (cut degree w) k)
      ≤ℚ units 12 *ℚ power (whole (pos 8)) degree
  coupling_images k late = join (power (whole (pos 8)) k) (power (whole (pos 8)) degree)
      (norm_of_vector Sup (images stored.coupling (cut degree w) k)) _
      (eights_natural k)
      (low_images Sup exact.first.dimension d exact.coupling stored.coupling stands.coupling.stored_fit
      coupling_empty (cut degree w) k)
      (window_convolution degree d (low_factors Sup exact.first.dimension d exact.coupling stored.coupling
      stands.coupling.stored_fit coupling_empty) (norms Sup (cut degree w)) (over (pos 3) 16)
      (whole (pos 1) *ℚ units 64)
      (low_natural Sup exact.first.dimension d exact.coupling stored.coupling stands.coupling.stored_fit
      coupling_empty)
      (spread_units_natural Sup exact.first.dimension 64)
      (low_none Sup exact.first.dimension d exact.coupling stored.coupling stands.coupling.stored_fit
      coupling_empty)
      (norms_past degree w Sup) (window_norms degree w Sup exact.first.dimension d first_fits first_window) k
      (coupling_weighted (suc k)) late)
    where
      join : (p q x c : Fraction) → whole (pos 0) ≤ℚ p → x ≤ℚ c
          → p *ℚ c ≤ℚ over (pos 3) 16 *ℚ (whole (pos 1) *ℚ units 64 *ℚ q) → p *ℚ x ≤ℚ units 12 *ℚ q
      join p q x c hp h k = linear (p ∷ q ∷ x ∷ c ∷ []) (hp ⊠ h ⊞ k) (hlevel claims) refl

  pub small_second_rests : (h : ℕ → Vector)
      → ((k : ℕ) → h k ≡ add_lists (images stored.coupling (cut degree w) k) (vector_at stored.second.free k))
      → (k : ℕ) → degree ≤ k
      → power (whole (pos 8)) k *ℚ cut_rest Sup degree exact.second.dimension stored.second.matrices h z k
      ≤ℚ units 20 *ℚ power (whole (pos 8)) degree
  small_second_rests h e k late = join (power (whole (pos 8)) k) (power (whole (pos 8)) degree) _ _ _ _ _
      (eights_natural k)
      (rest_after Sup degree exact.second.dimension stored.second.matrices h z k late)
      (rw (e k) (norm-add_lists Sup (images stored.coupling (cut degree w) k) (vector_at stored.second.free k)))
      (small_images Sup kappa40 degree d stored.second exact.second z stands.second few tame.second second_fits
      early empty free_empty window k late)
      (coupling_images k late)
      (no_free Sup kappa40 degree d stored.second exact.second z stands.second few tame.second second_fits
      early empty free_empty window k late)
    where
      join : (p q x y r i g : Fraction) → whole (pos 0) ≤ℚ p → x ≤ℚ y +ℚ r → r ≤ℚ i +ℚ g
          → p *ℚ y ≤ℚ whole (pos 1) *ℚ units 8 *ℚ q → p *ℚ i ≤ℚ units 12 *ℚ q → g ≤ℚ whole (pos 0)
          → p *ℚ x ≤ℚ units 20 *ℚ q
      join p q x y r i g hp h1 h2 h3 h4 h5 = linear (p ∷ q ∷ x ∷ y ∷ r ∷ i ∷ g ∷ [])
          (hp ⊠ h1 ⊞ hp ⊠ h2 ⊞ h3 ⊞ h4 ⊞ hp ⊠ h5) (hlevel claims) refl

-- the second half's Taylor value of each degree from that of the step on
module _ (kappa40 degree : ℕ) (c : Fraction) (stored exact : CoupledPair) (mid new mid2 new2 : Vector)
    (w z : ℕ → Vector) (stands : PairStandsFor stored exact) (dimension : exact.first.dimension ≤ 12)
    (tame : IsTamePair kappa40 c exact) (first : IsRoundedStep degree stored.first mid new w)
    (second : IsSecondRoundedStep degree stored w mid2 new2 z)
    (start : norm_of_vector Sup mid ≤ℚ over (pos 17) 16) (start2 : norm_of_vector Sup mid2 ≤ℚ over (pos 17) 16)
  where
    last_rounding_is_small : degree ≡ 24 → (n : ℕ) → degree ≤ n
        → distance Sup (second_taylor_value exact mid mid2 n) new2 ≤ℚ units 966
    last_rounding_is_small last n b = let e : n ≡ 24 + (n - 24) = omega arith in rw e
        (join (distance Sup (second_taylor_value exact mid mid2 (24 + (n - 24))) new2)
        (distance Sup (second_taylor_value exact mid mid2 (24 + (n - 24))) (second_taylor_value exact mid mid2 24))
        (distance Sup (second_taylor_value exact mid mid2 24) new2)
        (triangle Sup (second_taylor_value exact mid mid2 (24 + (n - 24)))
        (second_taylor_value exact mid mid2 24) new2)
        (stored_second_later_degrees_are_close kappa40 c exact mid mid2 (n - 24) tame (start, start2))
        (rounding_is_small kappa40 degree 24 c stored exact mid new mid2 new2 w z stands dimension tame first second
        start start2 (omega arith) (omega arith) (omega arith) (λ k c l. absurd (omega arith))
        (λ k c l. absurd (omega arith))))
      where
        join : (x y t : Fraction) → x ≤ℚ y +ℚ t → y ≤ℚ over (pos 1) (400 * 2 ^ 64) → t ≤ℚ units 965
            → x ≤ℚ units 966
        join x y t h1 h2 h3 = linear (x ∷ y ∷ t ∷ []) (h1 ⊞ h2 ⊞ h3) (hlevel claims) refl

    pub later_rounding_is_small : PairMayStop degree stored w z → (n : ℕ) → degree ≤ n
        → distance Sup (second_taylor_value exact mid mid2 n) new2 ≤ℚ units 966
    later_rounding_is_small (at_last e) n b = last_rounding_is_small e n b
    later_rounding_is_small (after_window d early empty free_empty second_empty second_free_empty coupling_empty
        first_window window) n b = linear (distance Sup (second_taylor_value exact mid mid2 n) new2 ∷ [])
        (rounding_is_small kappa40 degree n c stored exact mid new mid2 new2 w z stands dimension tame first second
        start start2 early.least early.most b
        (λ k c l. small_rests Sup kappa40 degree d stored.first exact.first w stands.first
        (omega (arith, dimension)) tame.first first_fits early empty free_empty first_window k c)
        (λ k l m. small_second_rests kappa40 degree d c stored exact w z stands dimension tame first_fits second_fits
        early second_empty second_free_empty coupling_empty first_window window _ (λ k. refl) k l)
        ⊞ natural 1 (2 ^ 64)) (hlevel claims) refl
      where
        first_fits : (k : ℕ) → k ≤ degree → length (w k) ≤ exact.first.dimension
        first_fits k b = subst (λ d. length (w k) ≤ d) stands.first.dimension (first.fits k b)

        second_fits : (k : ℕ) → k ≤ degree → length (z k) ≤ exact.second.dimension
        second_fits k b = subst (λ d. length (z k) ≤ d) stands.second.dimension (second.fits k b)
