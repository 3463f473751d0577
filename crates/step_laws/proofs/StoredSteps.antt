-- A step of stored numbers by power, row and column is a rounded step of the system that lists them.
use Rattle.std.specs.Prelude.{◌≡◌, ℕ, suc, pos, [], ◌∷◌, length, ◌<◌, ◌≤◌, ◌-◌, ◌^◌}
use Rattle.std.proofs.Common.{refl, sym, ◌∙◌, subst, inl, inr}
use mathlib.Core.Path.{ap₂}
use Rattle.std.proofs.lemmas.Bool.{cases_lt}
use Rattle.frac_laws.specs.Fraction.{Fraction, whole, ◌+ℚ◌, ◌≤ℚ◌, size}
use Rattle.frac_laws.specs.Sums.{sum_to, power}
use Rattle.frac_laws.specs.Lists.{Vector, SameNumbers, number_at, vector_at, matrix_at}
use Rattle.frac_laws.proofs.Linear.{linear, claims, natural, ◌⊠◌}
use Rattle.frac_laws.proofs.Norms.{size_zero}
use Rattle.frac_laws.proofs.Sums.{sum_to_ext, sum_to_zeros}
use Rattle.frac_laws.proofs.Lengths.{number_at-past}
use Rattle.cell_laws.specs.Systems.{System}
use Rattle.cell_laws.proofs.Decay.{eights_natural}
use Rattle.step_laws.specs.StandsFor.{StandsFor, MatricesStandFor, VectorsStandFor}
use Rattle.step_laws.specs.RoundedRuns.{IsRoundedDown, IsRoundedRun, IsRoundedStep, unrounded, window_bound}
use Rattle.step_laws.specs.RoundedRuns.{HasWindow, AreEmptyAbove, VectorsAreEmptyAbove, MayStop, at_last}
use Rattle.step_laws.specs.RoundedRuns.{after_window}
use Rattle.step_laws.specs.StepLaws.{most_numbers}
use Rattle.step_laws.specs.StoredSteps.{StoredNumbers, StoredStandFor, IsStoredStep, stored_sum}
use Rattle.step_laws.specs.StoredSteps.{StoredStepsStayWithinTheirRadius, StoredMayStop}
use Rattle.step_laws.specs.StoredSteps.StoredMayStop.{at_last as stored_at_last, after_window as stored_after_window}
use Rattle.step_laws.proofs.Differences.{entry_past_rows}
use Rattle.step_laws.proofs.Steps.{steps_stay_within_their_radius}
use Rattle.step_laws.proofs.Listed.{vector_of, matrices_of, vectors_of, number_at-vector_of, vector_of_fits}
use Rattle.step_laws.proofs.Listed.{convolved_is, free_is, matrices_stand, vectors_stand, entry_is}
use Rattle.step_laws.proofs.Listed.{matrices_fit, vectors_fit, matrix_columns}

-- vectors of at most d numbers that agree up to d have the same numbers
pub same_up_to : (d : ℕ) (u v : Vector) → length u ≤ d → length v ≤ d
    → ((i : ℕ) → i < d → number_at u i ≡ number_at v i) → SameNumbers u v
same_up_to d u v hu hv h i = elim (cases_lt i d) [
  | inl b ↦ h i b
  | inr b ↦ number_at-past u d i hu b ∙ sym (number_at-past v d i hv b)
]

-- a run given by its numbers is a run of the vectors that list them
pub listed_run : (degree d : ℕ) (sums own : (k row : ℕ) → Fraction) (mid new : Vector) (z : (k row : ℕ) → Fraction)
    → length mid ≤ d → length new ≤ d → ((row : ℕ) → row < d → z 0 row ≡ number_at mid row)
    → ((k row : ℕ) → row < d → sums k row ≡ own k row)
    → ((k row : ℕ) → k < degree → row < d → IsRoundedDown (own k row) (suc k) (z (suc k) row))
    → ((row : ℕ) → row < d → number_at new row ≡ sum_to (suc degree) (λ k. z k row))
    → IsRoundedRun degree d sums mid new (λ k. vector_of d (z k))
listed_run degree d sums own mid new z hm hn starts same rounded total = record {
  starts = same_up_to d (vector_of d (z 0)) mid (vector_of_fits d (z 0)) hm
      (λ i b. number_at-vector_of d (z 0) i b ∙ starts i b);
  fits = λ k b. vector_of_fits d (z k);
  rounded = λ k i b c. subst (λ q. IsRoundedDown (sums k i) (suc k) q)
      (sym (number_at-vector_of d (z (suc k)) i c))
      (subst (λ x. IsRoundedDown x (suc k) (z (suc k) i)) (sym (same k i c)) (rounded k i b c));
  total = λ i. elim (cases_lt i d) [
    | inl b ↦ total i b ∙ sym (sum_to_ext (suc degree) (λ k l. number_at-vector_of d (z k) i b))
    | inr b ↦ number_at-past new d i hn b
        ∙ sym (sum_to_zeros (suc degree) (λ k l. number_at-past (vector_of d (z k)) d i (vector_of_fits d (z k)) b))
  ];
}

-- the system that lists the numbers
abbrev pub system_of : StoredNumbers → System
system_of s = record {
  dimension = s.dimension;
  matrices = matrices_of s.dimension s.numbers;
  free = vectors_of s.dimension s.free;
}

pub listed_stands : (s : StoredNumbers) (exact : System) → StoredStandFor s exact → StandsFor (system_of s) exact
listed_stands s exact h = record {
  dimension = sym h.dimension;
  matrices = subst (λ d. MatricesStandFor 1 d (matrices_of s.dimension s.numbers) exact.matrices)
      (sym h.dimension) (matrices_stand 1 s.dimension s.numbers exact.matrices h.matrices);
  free = subst (λ d. VectorsStandFor 3 d (vectors_of s.dimension s.free) exact.free) (sym h.dimension)
      (vectors_stand 3 s.dimension s.free exact.free h.free);
}

listed_step : (degree : ℕ) (s : StoredNumbers) (exact : System) (mid new : Vector) (z : (k row : ℕ) → Fraction)
    → StoredStandFor s exact → IsStoredStep degree s mid new z
    → IsRoundedStep degree (system_of s) mid new (λ k. vector_of s.dimension (z k))
listed_step degree s exact mid new z h step = listed_run degree s.dimension
    (unrounded (system_of s) (λ k. vector_of s.dimension (z k))) (stored_sum s z) mid new z step.mid_fits
    step.new_fits step.starts
    (λ k row b. ap₂ ◌+ℚ◌ (convolved_is s.dimension s.numbers h.matrices.no_more z k row b)
    (free_is s.dimension s.free h.free.no_more k row b))
    step.rounded step.total

-- numbers that are 0 above a power are listed so, and a window of numbers is one of the vectors that list them
pub empty_matrices : (dim d : ℕ) (f : (m row col : ℕ) → Fraction)
    → ((m row col : ℕ) → row < dim → col < dim → d < m → f m row col ≡ whole (pos 0))
    → ((m row col : ℕ) → row < dim → col < dim → 12 ≤ m → f m row col ≡ whole (pos 0))
    → AreEmptyAbove d (matrices_of dim f)
empty_matrices dim d f h none m row col b = elim (cases_lt row dim) [
  | inl r ↦ elim (cases_lt col dim) [
    | inl c ↦ entry_is dim f none m row col r c ∙ h m row col r c b
    | inr c ↦ number_at-past (vector_at (matrix_at (matrices_of dim f) m) row) dim col (matrix_columns dim f m row) c
  ]
  | inr r ↦ entry_past_rows (matrices_of dim f) dim m row col ((matrices_fit dim f).rows m) r
]

pub empty_vectors : (dim d : ℕ) (f : (m row : ℕ) → Fraction)
    → ((m row : ℕ) → row < dim → d < m → f m row ≡ whole (pos 0))
    → ((m row : ℕ) → row < dim → 12 ≤ m → f m row ≡ whole (pos 0))
    → VectorsAreEmptyAbove d (vectors_of dim f)
empty_vectors dim d f h none m row b = elim (cases_lt row dim) [
  | inl r ↦ free_is dim f none m row r ∙ h m row r b
  | inr r ↦ number_at-past (vector_at (vectors_of dim f) m) dim row ((vectors_fit dim f).numbers m) r
]

pub listed_window : (dim degree d : ℕ) (z : (k row : ℕ) → Fraction)
    → ((m row : ℕ) → row < dim → m ≤ d → size (z (degree - m) row) ≤ℚ window_bound m)
    → HasWindow degree d (λ k. vector_of dim (z k))
listed_window dim degree d z h m i b = elim (cases_lt i dim) [
  | inl c ↦ rw (number_at-vector_of dim (z (degree - m)) i c) (h m i c b)
  | inr c ↦ rw (
    number_at-past (vector_of dim (z (degree - m))) dim i (vector_of_fits dim (z (degree - m))) c,
    size_zero,
  )
      (linear (power (whole (pos 8)) m ∷ []) (natural 64 (2 ^ 64) ⊠ eights_natural m) (hlevel claims) refl)
]

listed_stops : (degree : ℕ) (s : StoredNumbers) (exact : System) (z : (k row : ℕ) → Fraction)
    → StoredStandFor s exact → StoredMayStop degree s z
    → MayStop degree (system_of s) (λ k. vector_of s.dimension (z k))
listed_stops degree s exact z h (stored_at_last e) = at_last e
listed_stops degree s exact z h (stored_after_window d stop) = after_window d stop.early
    (empty_matrices s.dimension d s.numbers stop.numbers h.matrices.no_more)
    (empty_vectors s.dimension d s.free stop.free h.free.no_more)
    (listed_window s.dimension degree d z stop.window)

pub stored_steps_stay_within_their_radius : StoredStepsStayWithinTheirRadius
stored_steps_stay_within_their_radius norm kappa40 rad degree n s exact y mid new z h dimension tame step stops
    start b =
    steps_stay_within_their_radius norm kappa40 rad degree n (system_of s) exact y mid new
    (λ k. vector_of s.dimension (z k)) (listed_stands s exact h)
    (subst (λ d. d ≤ most_numbers norm) (sym h.dimension) dimension) tame
    (listed_step degree s exact mid new z h step) (listed_stops degree s exact z h stops) start b
