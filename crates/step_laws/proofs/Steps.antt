-- A rounded step of a stored system that stands for a tame one.
use Rattle.std.specs.Prelude.{◌≡◌, ℕ, suc, pos, List, [], ◌∷◌, length, ◌<◌, ◌≤◌, ◌+◌, ◌-◌, ◌*◌, ◌^◌}
use Rattle.std.proofs.Common.{refl, ap, sym, ◌∙◌, subst, arith}
use Rattle.frac_laws.specs.Fraction.{Fraction, over, whole, ◌+ℚ◌, ◌*ℚ◌, ◌-ℚ◌, ◌≤ℚ◌}
use Rattle.frac_laws.specs.Sums.{sum_to, power}
use Rattle.frac_laws.specs.Lists.{Vector, Matrix, SameNumbers, number_at, vector_at, subtract_lists}
use Rattle.frac_laws.specs.Norms.{Norm, Sup, Sum, norm_of_vector}
use Rattle.frac_laws.specs.Ledger.{grow}
use Rattle.frac_laws.proofs.Linear.{linear, claims, natural, ◌⊞◌, ◌⊠◌}
use Rattle.frac_laws.proofs.Order.{le_trans, le_of_equal}
use Rattle.frac_laws.proofs.Signs.{mul_natural}
use Rattle.frac_laws.proofs.Sums.{sum_to_first}
use Rattle.frac_laws.proofs.Vectors.{number_at-subtract_lists}
use Rattle.frac_laws.proofs.Norms.{norm-same, norm_natural}
use Rattle.cell_laws.specs.Systems.{System, coefficient, taylor_value}
use Rattle.cell_laws.specs.Tame.{growth_of, weighted, weighted_norm, IsTame}
use Rattle.cell_laws.specs.DecayLaws.{norms}
use Rattle.cell_laws.specs.GrowthLaws.{later_powers}
use Rattle.cell_laws.specs.ErrorLaws.{distance}
use Rattle.cell_laws.proofs.Decay.{eights_natural}
use Rattle.cell_laws.proofs.Recurrences.{coefficients_recur, taylor_value_sums}
use Rattle.cell_laws.proofs.TameSums.{total_within, norm_of_none}
use Rattle.cell_laws.proofs.TameDecay.{stored_coefficients_decay}
use Rattle.cell_laws.proofs.Errors.{errors_grow, stored_later_degrees_are_close}
use Rattle.step_laws.specs.StandsFor.{units, StandsFor, MatricesStandFor}
use Rattle.step_laws.specs.RoundedRuns.{IsRoundedRun, IsRoundedStep, IsEarly, HasWindow, AreEmptyAbove}
use Rattle.step_laws.specs.RoundedRuns.{VectorsAreEmptyAbove, MayStop, at_last, after_window}
use Rattle.step_laws.specs.StepLaws.{most_numbers, IsStartNear, StepsStayWithinTheirRadius}
use Rattle.step_laws.proofs.Halves.{halved, halved_term, halved_total, IsShort}
use Rattle.step_laws.proofs.Images.{images}
use Rattle.step_laws.proofs.Residues.{spread}
use Rattle.step_laws.proofs.Errors.{RunsBeside, errors, no_first_error, errors_total}
use Rattle.step_laws.proofs.Distances.{triangle, norm_by_distance, distance_of_sums}
use Rattle.step_laws.proofs.Grown.{units_are, whole_numbers_le, grown}
use Rattle.step_laws.proofs.StoredNorms.{changes_are_short, stored_total, weighted_stored_total, free_changes}
use Rattle.step_laws.proofs.StoredNorms.{free_changes_are_short, no_norm_past, later_powers_small}
use Rattle.step_laws.proofs.StoredNorms.{later_norm_small, decaying_total}
use Rattle.step_laws.proofs.Tails.{cut, cut_total, window_norms, norms_past, window_convolution, low_factors}
use Rattle.step_laws.proofs.Tails.{low_natural, low_none, low_total, low_images, cut_rest, rest_after, rests}
use Rattle.step_laws.proofs.Tails.{rests_leave, rests_total}

-- some numbers, each at most some units away
pub numbers_of_units : (d most error : ℕ) → d ≤ most
    → whole (pos d) *ℚ units error ≤ℚ whole (pos most) *ℚ units error
numbers_of_units d most error h = linear (whole (pos d) ∷ whole (pos most) ∷ units error ∷ [])
    (whole_numbers_le d most h ⊠ natural error (2 ^ 64)) (hlevel claims) refl

pub spread_units_natural : (norm : Norm) (d n : ℕ) → whole (pos 0) ≤ℚ spread norm d *ℚ units n
spread_units_natural Sup d n = mul_natural (natural 1 1) (natural n (2 ^ 64))
spread_units_natural Sum d n = mul_natural (natural d 1) (natural n (2 ^ 64))

-- in both norms a bound of each number counts at most twelve times
spread_at_most : (norm : Norm) (d : ℕ) → d ≤ most_numbers norm → spread norm d ≤ℚ whole (pos 12)
spread_at_most Sup d h = linear [] (natural 11 1) (hlevel claims) refl
spread_at_most Sum d h = whole_numbers_le d 12 h

at_most_24 : (norm : Norm) (d : ℕ) → d ≤ most_numbers norm → d ≤ 24
at_most_24 Sup d h = h
at_most_24 Sum d h = omega arith

-- a radius of at most 2^45 units
pub radius_at_most : (rad : ℕ) → rad ≤ 2 ^ 45 → units rad ≤ℚ over (pos 1) (2 ^ 19)
radius_at_most rad h = le_trans (le_of_equal (units_are rad))
    (linear (whole (pos rad) ∷ []) (whole_numbers_le rad (2 ^ 45) h ⊠ natural 1 (2 ^ 64)) (hlevel claims) refl)

-- the step from mid alone, against the Taylor value of a degree n
module _ (norm : Norm) (kappa40 degree n : ℕ) (stored exact : System) (mid new : Vector) (z : ℕ → Vector)
    (stands : StandsFor stored exact) (dimension : exact.dimension ≤ most_numbers norm)
    (tame : IsTame norm kappa40 exact) (step : IsRoundedStep degree stored mid new z)
    (start : norm_of_vector norm mid ≤ℚ over (pos 17) 8) (least : 8 ≤ degree) (most : degree ≤ 24)
    (late : degree ≤ n) where
  step_fits : (k : ℕ) → k ≤ degree → length (z k) ≤ exact.dimension
  step_fits k b = subst (λ d. length (z k) ≤ d) stands.dimension (step.fits k b)

  -- what the recurrence of the rounded run leaves
  abbrev pub step_rests : ℕ → Fraction
  step_rests = cut_rest norm degree exact.dimension stored.matrices (vector_at stored.free) z

  pub beside : RunsBeside norm n exact.matrices stored.matrices (vector_at exact.free) (vector_at stored.free)
      (coefficient exact mid) (cut degree z)
      (rests norm degree exact.dimension stored.matrices (vector_at stored.free) z)
  beside = record {
    solves = λ k i b. coefficients_recur exact mid k i;
    leaves = λ k b. rests_leave norm degree exact.dimension stored.matrices (vector_at stored.free) z least
        stands.matrices.stored_fit.rows stands.free.stored_fit.numbers step_fits
        (λ k i b c. step.rounded k i b (subst (λ d. i < d) (sym stands.dimension) c)) k;
    starts = λ i. sym (step.starts i);
  }

  -- |y_k - z_k|
  abbrev pub step_errors : ℕ → Fraction
  step_errors = errors norm n exact.matrices stored.matrices (vector_at exact.free) (vector_at stored.free)
      (coefficient exact mid) (cut degree z)
      (rests norm degree exact.dimension stored.matrices (vector_at stored.free) z) beside

  pub sizes_total : sum_to n (norms norm (coefficient exact mid)) ≤ℚ over (pos 17) 7
  sizes_total = linear (sum_to n (norms norm (coefficient exact mid)) ∷ [])
      (natural 1 7 ⊠ decaying_total n (over (pos 17) 8) (norms norm (coefficient exact mid)) (natural 17 8)
      (stored_coefficients_decay norm kappa40 exact mid tame start)) (hlevel claims) refl

  stored_factors_total : whole (pos exact.dimension) *ℚ units 1 ≤ℚ whole (pos 24) *ℚ units 1
  stored_factors_total = numbers_of_units exact.dimension 24 1 (at_most_24 norm exact.dimension dimension)

  abbrev pub unit_bound : Fraction
  unit_bound = spread norm exact.dimension *ℚ units 8

  -- where little is left after the degree
  module _ (small : (k : ℕ) → degree ≤ k → k < n
      → power (whole (pos 8)) k *ℚ step_rests k ≤ℚ unit_bound *ℚ power (whole (pos 8)) degree) where
    later_errors : sum_to n (λ k. step_errors (suc k)) ≤ℚ units 928
    later_errors = join (sum_to n (λ k. step_errors (suc k))) (spread norm exact.dimension)
        (errors_total norm n exact.matrices stored.matrices (vector_at exact.free)
        (vector_at stored.free) (coefficient exact mid) (cut degree z) _ beside (whole (pos 24) *ℚ units 1)
        (over (pos 17) 7) (over (pos 13) 2 *ℚ (spread norm exact.dimension *ℚ units 3))
        (whole (pos 24) *ℚ (spread norm exact.dimension *ℚ units 1) +ℚ over (pos 8) 63 *ℚ unit_bound)
        (halved (free_changes norm 3 exact.dimension stored.free exact.free stands.free))
        (changes_are_short norm 1 exact.dimension stored.matrices exact.matrices stands.matrices
        (whole (pos 24) *ℚ units 1) stored_factors_total)
        (le_trans (stored_total norm 1 exact.dimension stored.matrices exact.matrices stands.matrices
        (whole (pos 24) *ℚ units 1) stored_factors_total n (over (pos 1) 64)
        (le_trans (total_within norm exact.matrices n) tame.total))
        (linear [] (natural 1 128) (hlevel claims) refl))
        sizes_total
        (λ k b. halved_term (free_changes norm 3 exact.dimension stored.free exact.free stands.free)
        short_free.natural_terms k)
        (halved_total (spread norm exact.dimension *ℚ units 3) _ short_free n)
        (rests_total norm degree exact.dimension stored.matrices (vector_at stored.free) z most unit_bound
        (spread_units_natural norm exact.dimension 8) (spread_units_natural norm exact.dimension 1) n late small))
        (spread_at_most norm exact.dimension dimension)
      where
        short_free : IsShort (spread norm exact.dimension *ℚ units 3)
            (free_changes norm 3 exact.dimension stored.free exact.free stands.free)
        short_free = free_changes_are_short norm 3 exact.dimension stored.free exact.free stands.free

        join : (t s : Fraction) → whole (pos 63) *ℚ t ≤ℚ whole (pos 64) *ℚ
            (over (pos 13) 2 *ℚ (whole (pos 24) *ℚ units 1) *ℚ over (pos 17) 7
            +ℚ over (pos 13) 2 *ℚ (s *ℚ units 3)
            +ℚ (whole (pos 24) *ℚ (s *ℚ units 1) +ℚ over (pos 8) 63 *ℚ (s *ℚ units 8)))
            → s ≤ℚ whole (pos 12) → t ≤ℚ units 928
        join t s h k = linear (t ∷ s ∷ []) (natural 1 63 ⊠ h ⊞ natural (64 * 5609) (63 * 126 * 2 ^ 64) ⊠ k)
            (hlevel claims) refl

    -- all of them, from the start on
    pub rounding_total : sum_to (suc n) step_errors ≤ℚ units 928
    rounding_total = le_trans (le_of_equal (sum_to_first n step_errors))
        (linear (step_errors 0 ∷ sum_to n (λ k. step_errors (suc k)) ∷ [])
        (no_first_error norm n exact.matrices stored.matrices (vector_at exact.free)
        (vector_at stored.free) (coefficient exact mid) (cut degree z) _ beside ⊞ later_errors) (hlevel claims) refl)

    pub rounding_is_small : distance norm (taylor_value exact mid n) new ≤ℚ units 928
    rounding_is_small = le_trans (distance_of_sums norm (suc n) (coefficient exact mid) (cut degree z)
        (taylor_value exact mid n) new (taylor_value_sums exact mid n)
        (λ i. step.total i ∙ cut_total degree z n i late)) rounding_total

-- little is left after the degree where the coefficients before it are small, and above a power nothing is stored
module _ (norm : Norm) (kappa40 degree d : ℕ) (stored exact : System) (z : ℕ → Vector)
    (stands : StandsFor stored exact) (dimension : exact.dimension ≤ most_numbers norm)
    (tame : IsTame norm kappa40 exact) (fits : (k : ℕ) → k ≤ degree → length (z k) ≤ exact.dimension)
    (early : IsEarly degree d) (empty : AreEmptyAbove d stored.matrices)
    (free_empty : VectorsAreEmptyAbove d stored.free) (window : HasWindow degree d z) where
  -- the weighted sum of the stored norms is at most 1/8
  pub low_weighted : (n : ℕ) → sum_to n (weighted (low_factors norm exact.dimension d exact.matrices
      stored.matrices stands.matrices.stored_fit empty)) ≤ℚ over (pos 1) 8
  low_weighted n = le_trans (low_total norm exact.dimension d exact.matrices stored.matrices
      stands.matrices.stored_fit empty n)
      (le_trans (weighted_stored_total norm 1 exact.dimension stored.matrices exact.matrices stands.matrices
      (whole (pos 24) *ℚ units 1) (numbers_of_units exact.dimension 24 1 (at_most_24 norm exact.dimension dimension)) n)
      (linear (weighted_norm norm exact.matrices ∷ []) (tame.matrices ⊞ natural 1 32) (hlevel claims) refl))

  pub small_images : (k : ℕ) → degree ≤ k
      → power (whole (pos 8)) k *ℚ norm_of_vector norm (images stored.matrices (cut degree z) k)
      ≤ℚ spread norm exact.dimension *ℚ units 8 *ℚ power (whole (pos 8)) degree
  small_images k late = join (power (whole (pos 8)) k) (power (whole (pos 8)) degree)
      (norm_of_vector norm (images stored.matrices (cut degree z) k)) _ (spread norm exact.dimension)
      (eights_natural k)
      (low_images norm exact.dimension d exact.matrices stored.matrices stands.matrices.stored_fit empty
      (cut degree z) k)
      (window_convolution degree d (low_factors norm exact.dimension d exact.matrices stored.matrices
      stands.matrices.stored_fit empty) (norms norm (cut degree z)) (over (pos 1) 8)
      (spread norm exact.dimension *ℚ units 64)
      (low_natural norm exact.dimension d exact.matrices stored.matrices stands.matrices.stored_fit empty)
      (spread_units_natural norm exact.dimension 64)
      (low_none norm exact.dimension d exact.matrices stored.matrices stands.matrices.stored_fit empty)
      (norms_past degree z norm) (window_norms degree z norm exact.dimension d fits window) k
      (low_weighted (suc k)) late)
    where
      join : (p q x c s : Fraction) → whole (pos 0) ≤ℚ p → x ≤ℚ c
          → p *ℚ c ≤ℚ over (pos 1) 8 *ℚ (s *ℚ units 64 *ℚ q) → p *ℚ x ≤ℚ s *ℚ units 8 *ℚ q
      join p q x c s hp h k = linear (p ∷ q ∷ x ∷ c ∷ s ∷ []) (hp ⊠ h ⊞ k) (hlevel claims) refl

  -- a free vector above the power has norm 0
  pub no_free : (k : ℕ) → degree ≤ k → norm_of_vector norm (vector_at stored.free k) ≤ℚ whole (pos 0)
  no_free k late = le_trans (le_of_equal (norm-same norm (vector_at stored.free k) []
      (λ i. free_empty k i (let a = early.above in omega (arith, a, late))))) (le_of_equal (norm_of_none norm))

  pub small_rests : (k : ℕ) → degree ≤ k → power (whole (pos 8)) k
      *ℚ cut_rest norm degree exact.dimension stored.matrices (vector_at stored.free) z k
      ≤ℚ spread norm exact.dimension *ℚ units 8 *ℚ power (whole (pos 8)) degree
  small_rests k late = join (power (whole (pos 8)) k) _ _ _
      (spread norm exact.dimension *ℚ units 8 *ℚ power (whole (pos 8)) degree) (eights_natural k)
      (rest_after norm degree exact.dimension stored.matrices (vector_at stored.free) z k late)
      (small_images k late) (no_free k late)
    where
      join : (p x y g q : Fraction) → whole (pos 0) ≤ℚ p → x ≤ℚ y +ℚ g → p *ℚ y ≤ℚ q → g ≤ℚ whole (pos 0)
          → p *ℚ x ≤ℚ q
      join p x y g q hp h k l = linear (p ∷ x ∷ y ∷ g ∷ q ∷ []) (hp ⊠ h ⊞ k ⊞ hp ⊠ l) (hlevel claims) refl

-- the Taylor value of each degree from that of the step on
module _ (norm : Norm) (kappa40 degree : ℕ) (stored exact : System) (mid new : Vector) (z : ℕ → Vector)
    (stands : StandsFor stored exact) (dimension : exact.dimension ≤ most_numbers norm)
    (tame : IsTame norm kappa40 exact) (step : IsRoundedStep degree stored mid new z)
    (start : norm_of_vector norm mid ≤ℚ over (pos 17) 8) where
  pub last_rounding_is_small : degree ≡ 24 → (n : ℕ) → degree ≤ n
      → distance norm (taylor_value exact mid n) new ≤ℚ units 929
  last_rounding_is_small last n b = let e : n ≡ 24 + (n - 24) = omega arith in rw e
      (join (distance norm (taylor_value exact mid (24 + (n - 24))) new)
      (distance norm (taylor_value exact mid (24 + (n - 24))) (taylor_value exact mid 24))
      (distance norm (taylor_value exact mid 24) new)
      (triangle norm (taylor_value exact mid (24 + (n - 24))) (taylor_value exact mid 24) new)
      (stored_later_degrees_are_close norm kappa40 exact mid (n - 24) tame start)
      (rounding_is_small norm kappa40 degree 24 stored exact mid new z stands dimension tame step start
      (omega arith) (omega arith) (omega arith) (λ k c l. absurd (omega arith))))
    where
      join : (x y t : Fraction) → x ≤ℚ y +ℚ t → y ≤ℚ over (pos 1) (400 * 2 ^ 64) → t ≤ℚ units 928
          → x ≤ℚ units 929
      join x y t h1 h2 h3 = linear (x ∷ y ∷ t ∷ []) (h1 ⊞ h2 ⊞ h3) (hlevel claims) refl

  pub early_rounding_is_small : (d : ℕ) → IsEarly degree d → AreEmptyAbove d stored.matrices
      → VectorsAreEmptyAbove d stored.free → HasWindow degree d z → (n : ℕ) → degree ≤ n
      → distance norm (taylor_value exact mid n) new ≤ℚ units 929
  early_rounding_is_small d early empty free_empty window n b = linear
      (distance norm (taylor_value exact mid n) new ∷ [])
      (rounding_is_small norm kappa40 degree n stored exact mid new z stands dimension tame step start
      early.least early.most b (λ k c l. small_rests norm kappa40 degree d stored exact z stands dimension tame
      (λ k c. subst (λ t. length (z k) ≤ t) stands.dimension (step.fits k c)) early empty free_empty window k c)
      ⊞ natural 1 (2 ^ 64)) (hlevel claims) refl

  pub later_rounding_is_small : MayStop degree stored z → (n : ℕ) → degree ≤ n
      → distance norm (taylor_value exact mid n) new ≤ℚ units 929
  later_rounding_is_small (at_last e) n b = last_rounding_is_small e n b
  later_rounding_is_small (after_window d early empty free_empty window) n b =
      early_rounding_is_small d early empty free_empty window n b

-- the powers above the degree hold at most a unit in each number, so that a radius of at most 2^45 grows by less
-- than one unit more
module _ (norm : Norm) (dim degree : ℕ) (stored exact : List Matrix) (stands : MatricesStandFor 1 dim stored exact)
    (few : dim ≤ 24) where
  pub powers_after_last : degree ≡ 24 → (n : ℕ) → degree ≤ n
      → later_powers norm exact n ≤ℚ whole (pos 288) *ℚ units 1
  powers_after_last last n b = le_trans (later_powers_small norm dim exact stands.exact_fit (whole (pos 0)) n
      (λ m c. le_of_equal (no_norm_past norm dim exact stands.exact_fit m (omega arith))))
      (linear [] (natural 288 (2 ^ 64)) (hlevel claims) refl)

  pub powers_after_window : (d : ℕ) → IsEarly degree d → AreEmptyAbove d stored → (n : ℕ) → degree ≤ n
      → later_powers norm exact n ≤ℚ whole (pos 288) *ℚ units 1
  powers_after_window d early empty n b = linear (later_powers norm exact n ∷ [])
      (later_powers_small norm dim exact stands.exact_fit (whole (pos 24) *ℚ units 1) n
      (λ m c. le_trans (later_norm_small norm dim d stored exact stands empty m
      (let a = early.above in omega (arith, a, b, c)))
      (numbers_of_units dim 24 1 few))) (hlevel claims) refl

powers_after_stop : (norm : Norm) (dim degree : ℕ) (stored : System) (exact : List Matrix) (z : ℕ → Vector)
    → MatricesStandFor 1 dim stored.matrices exact → dim ≤ 24 → MayStop degree stored z → (n : ℕ) → degree ≤ n
    → later_powers norm exact n ≤ℚ whole (pos 288) *ℚ units 1
powers_after_stop norm dim degree stored exact z stands few (at_last e) n b =
    powers_after_last norm dim degree stored.matrices exact stands few e n b
powers_after_stop norm dim degree stored exact z stands few (after_window d early empty free_empty window) n b =
    powers_after_window norm dim degree stored.matrices exact stands few d early empty n b

-- a run starts from its first coefficient, which has the numbers of its start
pub from_first : {degree d : ℕ} {sums : (k i : ℕ) → Fraction} {start new : Vector} {z : ℕ → Vector}
    → IsRoundedRun degree d sums start new z → IsRoundedRun degree d sums (z 0) new z
from_first r = record { starts = λ i. refl; fits = r.fits; rounded = r.rounded; total = r.total }

pub near_first : (norm : Norm) (d rad : ℕ) (most : Fraction) (y mid first : Vector) → SameNumbers first mid
    → IsStartNear norm d most rad y mid → IsStartNear norm d most rad y first
near_first norm d rad most y mid first h s = record {
  fits = s.fits;
  small = s.small;
  near = le_trans (le_of_equal (norm-same norm (subtract_lists y first) (subtract_lists y mid) (λ i.
      number_at-subtract_lists y first i ∙ ap (λ t. number_at y i -ℚ t) (h i)
      ∙ sym (number_at-subtract_lists y mid i)))) s.near;
  radius = s.radius;
}

-- a stored start is of norm at most 17/8
stored_start : (norm : Norm) (d rad : ℕ) (y mid : Vector) → IsStartNear norm d (whole (pos 2)) rad y mid
    → norm_of_vector norm mid ≤ℚ over (pos 17) 8
stored_start norm d rad y mid s = join (norm_of_vector norm mid) (norm_of_vector norm y) (distance norm y mid)
    (units rad) (norm_by_distance norm y mid) s.small s.near (radius_at_most rad s.radius)
  where
    join : (m x e r : Fraction) → m ≤ℚ x +ℚ e → x ≤ℚ whole (pos 2) → e ≤ℚ r → r ≤ℚ over (pos 1) (2 ^ 19)
        → m ≤ℚ over (pos 17) 8
    join m x e r h1 h2 h3 h4 = linear (m ∷ x ∷ e ∷ r ∷ []) (h1 ⊞ h2 ⊞ h3 ⊞ h4) (hlevel claims) refl

-- with a further term of at most 288 units times the distance of the starts
pub within_grown : (x p q g l e r w : Fraction) → x ≤ℚ p +ℚ q → p ≤ℚ (whole (pos 1) +ℚ g +ℚ l) *ℚ e
    → l ≤ℚ whole (pos 288) *ℚ units 1 → whole (pos 0) ≤ℚ e → e ≤ℚ r → r ≤ℚ over (pos 1) (2 ^ 19)
    → q ≤ℚ units 929 → whole (pos 0) ≤ℚ g → (whole (pos 1) +ℚ g) *ℚ r +ℚ units 1023 ≤ℚ w → x ≤ℚ w
within_grown x p q g l e r w h1 h2 hl he h4 hr h5 hg h6 = linear (x ∷ p ∷ q ∷ g ∷ l ∷ e ∷ r ∷ w ∷ [])
    (h1 ⊞ h2 ⊞ hl ⊠ he ⊞ h4 ⊞ hg ⊠ h4 ⊞ natural 288 (2 ^ 64) ⊠ (h4 ⊞ hr) ⊞ h5 ⊞ h6) (hlevel claims) refl

steps_from : (norm : Norm) (kappa40 rad degree n : ℕ) (stored exact : System) (y mid new : Vector)
    (z : ℕ → Vector) → StandsFor stored exact → exact.dimension ≤ most_numbers norm → IsTame norm kappa40 exact
    → IsRoundedStep degree stored mid new z → MayStop degree stored z
    → IsStartNear norm exact.dimension (whole (pos 2)) rad y mid → degree ≤ n
    → length mid ≤ exact.dimension
    → distance norm (taylor_value exact y n) new ≤ℚ units (grow rad kappa40 1023)
steps_from norm kappa40 rad degree n stored exact y mid new z stands dimension tame step stops start b fits =
    within_grown (distance norm (taylor_value exact y n) new)
    (distance norm (taylor_value exact y n) (taylor_value exact mid n))
    (distance norm (taylor_value exact mid n) new) (growth_of kappa40)
    (later_powers norm exact.matrices n) (distance norm y mid) (units rad) (units (grow rad kappa40 1023))
    (triangle norm (taylor_value exact y n) (taylor_value exact mid n) new)
    (errors_grow norm kappa40 exact y mid n tame start.fits fits)
    (powers_after_stop norm exact.dimension degree stored exact.matrices z stands.matrices
    (at_most_24 norm exact.dimension dimension) stops n b)
    (norm_natural norm (subtract_lists y mid)) start.near (radius_at_most rad start.radius)
    (later_rounding_is_small norm kappa40 degree stored exact mid new z stands dimension tame step
    (stored_start norm exact.dimension rad y mid start) stops n b)
    (natural kappa40 (2 ^ 40)) (grown rad kappa40 1023)

pub steps_stay_within_their_radius : StepsStayWithinTheirRadius
steps_stay_within_their_radius norm kappa40 rad degree n stored exact y mid new z stands dimension tame step stops
    start b =
    steps_from norm kappa40 rad degree n stored exact y (z 0) new z stands dimension tame (from_first step) stops
    (near_first norm exact.dimension rad (whole (pos 2)) y mid (z 0) step.starts start) b
    (subst (λ d. length (z 0) ≤ d) stands.dimension (step.fits 0 (omega arith)))
