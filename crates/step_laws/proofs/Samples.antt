-- The sample, computed.
use Rattle.std.specs.Prelude.{◌≡◌, ℕ, suc, zero, pos, Bool, true, false, cond, List, [], ◌∷◌, length}
use Rattle.std.specs.Prelude.{◌<◌, ◌≤◌, ◌^◌, nat_le}
use Rattle.std.proofs.Common.{refl, sym, arith}
use mathlib.Core.Quot.{sound}
use Rattle.frac_laws.specs.Fraction.{Fraction, whole, ◌+ℚ◌, ◌*ℚ◌, ◌-ℚ◌, ◌≤ℚ◌, opposite, is_not_negative}
use Rattle.frac_laws.specs.Fraction.{size, greater}
use Rattle.frac_laws.specs.Sums.{sum_to}
use Rattle.frac_laws.specs.Norms.{Sup}
use Rattle.frac_laws.specs.Lists.{Matrix, number_at, vector_at, matrix_at}
use Rattle.frac_laws.proofs.Linear.{natural}
use Rattle.cell_laws.specs.Samples.{two}
use Rattle.step_laws.specs.StandsFor.{units, entry_at, MatricesFit, VectorsFit, MatricesStandFor}
use Rattle.step_laws.specs.StandsFor.{VectorsStandFor}
use Rattle.step_laws.specs.RoundedRuns.{unrounded, at_last, after_window, HasWindow, AreEmptyAbove}
use Rattle.step_laws.specs.RoundedRuns.{VectorsAreEmptyAbove, window_bound}
use Rattle.step_laws.specs.Samples.{exact_system, stored_system, sample_start, sample_mid, sample_new}
use Rattle.step_laws.specs.Samples.{sample_coefficients, sample_early, SampleStaysNear, SampleMayStop}
use Rattle.step_laws.specs.Samples.{SampleMayNotStopAtNine, SampleIsRoundedEarly, SampleStaysNearEarly}
use Rattle.step_laws.specs.Samples.{SampleStandsFor, SampleIsTame, SampleIsRounded, SampleStartIsNear}
use Rattle.whole_laws.specs.Whole.{holds_below}
use Rattle.whole_laws.proofs.Tests.{holds_at_each}
use Rattle.step_laws.proofs.Differences.{both_zero}
use Rattle.step_laws.proofs.Steps.{steps_stay_within_their_radius}

not_true : (b : Bool) → cond b false true ≡ true → b ≡ false
not_true true e = sym e
not_true false e = refl

-- two matrices of two rows and columns, and two vectors of two numbers, fit
module _ (a b c d e f g h : Fraction) where
  abbrev two_matrices : List Matrix
  two_matrices = (two a b ∷ two c d ∷ []) ∷ (two e f ∷ two g h ∷ []) ∷ []

  rows_fit : (m : ℕ) → length (matrix_at two_matrices m) ≤ 2
  rows_fit zero = omega arith
  rows_fit (suc zero) = omega arith
  rows_fit (suc (suc m)) = omega arith

  columns_fit : (m row : ℕ) → length (vector_at (matrix_at two_matrices m) row) ≤ 2
  columns_fit zero zero = omega arith
  columns_fit zero (suc zero) = omega arith
  columns_fit zero (suc (suc row)) = omega arith
  columns_fit (suc zero) zero = omega arith
  columns_fit (suc zero) (suc zero) = omega arith
  columns_fit (suc zero) (suc (suc row)) = omega arith
  columns_fit (suc (suc m)) row = omega arith

  no_more : (m row col : ℕ) → 12 ≤ m → entry_at two_matrices m row col ≡ whole (pos 0)
  no_more zero row col l = absurd (omega arith)
  no_more (suc zero) row col l = absurd (omega arith)
  no_more (suc (suc m)) row col l = refl

  two_matrices_fit : MatricesFit 2 two_matrices
  two_matrices_fit = record { rows = rows_fit; columns = columns_fit; no_more = no_more }

two_vectors_fit : (a b c d : Fraction) → VectorsFit 2 (two a b ∷ two c d ∷ [])
two_vectors_fit a b c d = record { numbers = numbers; no_more = no_more }
  where
    numbers : (m : ℕ) → length (vector_at (two a b ∷ two c d ∷ []) m) ≤ 2
    numbers zero = omega arith
    numbers (suc zero) = omega arith
    numbers (suc (suc m)) = omega arith

    no_more : (m row : ℕ) → 12 ≤ m → number_at (vector_at (two a b ∷ two c d ∷ []) m) row ≡ whole (pos 0)
    no_more zero row b = absurd (omega arith)
    no_more (suc zero) row b = absurd (omega arith)
    no_more (suc (suc m)) row b = refl

-- no number of the first two powers is more than its error away
abbrev matrix_test : (m row col : ℕ) → Bool
matrix_test m row col = is_not_negative (units 1 -ℚ size
    (entry_at exact_system.matrices m row col -ℚ entry_at stored_system.matrices m row col))

abbrev free_test : (m row : ℕ) → Bool
free_test m row = is_not_negative (units 3 -ℚ size
    (number_at (vector_at exact_system.free m) row -ℚ number_at (vector_at stored_system.free m) row))

matrices_near : holds_below 2 (λ m. holds_below 2 (λ row. holds_below 2 (matrix_test m row))) ≡ true
unfolding ◌+ℚ◌ ◌*ℚ◌ ◌-ℚ◌ opposite is_not_negative size
matrices_near = refl

free_near : holds_below 2 (λ m. holds_below 2 (free_test m)) ≡ true
unfolding ◌+ℚ◌ ◌*ℚ◌ ◌-ℚ◌ opposite is_not_negative size
free_near = refl

stored_matrices : MatricesStandFor 1 2 stored_system.matrices exact_system.matrices
stored_matrices = record {
  stored_fit = two_matrices_fit _ _ _ _ _ _ _ _;
  exact_fit = two_matrices_fit _ _ _ _ _ _ _ _;
  near = near;
}
  where
    at_power : (m row col : ℕ) → m < 2 → row < 2 → col < 2 → matrix_test m row col ≡ true
    at_power m row col a b c = holds_at_each 2 (matrix_test m row)
        (holds_at_each 2 (λ row. holds_below 2 (matrix_test m row))
        (holds_at_each 2 (λ m. holds_below 2 (λ row. holds_below 2 (matrix_test m row))) matrices_near m a) row b) col c

    near : (m row col : ℕ) → row < 2 → col < 2
        → size (entry_at exact_system.matrices m row col -ℚ entry_at stored_system.matrices m row col)
        ≤ℚ units 1
    near zero row col b c = record { le = at_power 0 row col (omega arith) b c }
    near (suc zero) row col b c = record { le = at_power 1 row col (omega arith) b c }
    near (suc (suc m)) row col b c = both_zero refl refl (natural 1 (2 ^ 64))

stored_free : VectorsStandFor 3 2 stored_system.free exact_system.free
stored_free = record {
  stored_fit = two_vectors_fit _ _ _ _;
  exact_fit = two_vectors_fit _ _ _ _;
  near = near;
}
  where
    at_power : (m row : ℕ) → m < 2 → row < 2 → free_test m row ≡ true
    at_power m row a b = holds_at_each 2 (free_test m)
        (holds_at_each 2 (λ m. holds_below 2 (free_test m)) free_near m a) row b

    near : (m row : ℕ) → row < 2
        → size (number_at (vector_at exact_system.free m) row -ℚ number_at (vector_at stored_system.free m) row)
        ≤ℚ units 3
    near zero row b = record { le = at_power 0 row (omega arith) b }
    near (suc zero) row b = record { le = at_power 1 row (omega arith) b }
    near (suc (suc m)) row b = both_zero refl refl (natural 3 (2 ^ 64))

pub sample_stands_for : SampleStandsFor
sample_stands_for = record { dimension = refl; matrices = stored_matrices; free = stored_free }

pub sample_is_tame : SampleIsTame
unfolding ◌+ℚ◌ ◌*ℚ◌ ◌-ℚ◌ opposite is_not_negative size greater
sample_is_tame = record {
  total = record { le = refl };
  matrices = record { le = refl };
  free = record { le = refl };
  growth = record { le = refl };
}

pub sample_start_is_near : SampleStartIsNear
unfolding ◌+ℚ◌ ◌*ℚ◌ ◌-ℚ◌ opposite is_not_negative size greater
sample_start_is_near = record {
  fits = omega arith;
  small = record { le = refl };
  near = record { le = refl };
  radius = omega arith;
}

-- each coefficient is rounded down by less than a unit
abbrev sample_sum : (k row : ℕ) → Fraction
sample_sum k row = unrounded stored_system sample_coefficients k row

abbrev below_test : (k row : ℕ) → Bool
below_test k row = is_not_negative
    (sample_sum k row -ℚ whole (pos (suc k)) *ℚ number_at (sample_coefficients (suc k)) row)

abbrev above_test : (k row : ℕ) → Bool
above_test k row = is_not_negative
    (sample_sum k row -ℚ whole (pos (suc k)) *ℚ (number_at (sample_coefficients (suc k)) row +ℚ units 1))

all_below : holds_below 24 (λ k. holds_below 2 (below_test k)) ≡ true
unfolding ◌+ℚ◌ ◌*ℚ◌ ◌-ℚ◌ opposite is_not_negative
all_below = refl

all_within : holds_below 24 (λ k. holds_below 2 (λ row. cond (above_test k row) false true)) ≡ true
unfolding ◌+ℚ◌ ◌*ℚ◌ ◌-ℚ◌ opposite is_not_negative
all_within = refl

all_fit : holds_below 25 (λ k. nat_le (length (sample_coefficients k)) 2) ≡ true
all_fit = refl

sample_total : (row : ℕ) → number_at sample_new row ≡ sum_to 25 (λ k. number_at (sample_coefficients k) row)
unfolding ◌+ℚ◌
sample_total zero = sound refl
sample_total (suc zero) = sound refl
sample_total (suc (suc row)) = sound refl

pub sample_is_rounded : SampleIsRounded
sample_is_rounded = record {
  starts = λ row. refl;
  fits = λ k b. fits (length (sample_coefficients k))
      (holds_at_each 25 (λ k. nat_le (length (sample_coefficients k)) 2) all_fit k (omega arith));
  rounded = λ k row b c. record {
    below = record {
      le = holds_at_each 2 (below_test k) (holds_at_each 24 (λ k. holds_below 2 (below_test k)) all_below k b) row c;
    };
    within = record {
      lt = not_true (above_test k row) (holds_at_each 2 (λ row. cond (above_test k row) false true)
          (holds_at_each 24 (λ k. holds_below 2 (λ row. cond (above_test k row) false true)) all_within k b) row c);
    };
  };
  total = sample_total;
}
  where
    fits : (n : ℕ) → nat_le n 2 ≡ true → n ≤ 2
    fits n e = grind arith

pub sample_stays_near : SampleStaysNear
sample_stays_near n b = steps_stay_within_their_radius Sup 3249759265 1 24 n stored_system exact_system sample_start
    sample_mid sample_new sample_coefficients sample_stands_for (omega arith) sample_is_tame sample_is_rounded
    (at_last refl) sample_start_is_near b

-- the run stops early
early_total : (row : ℕ) → number_at sample_early row ≡ sum_to 11 (λ k. number_at (sample_coefficients k) row)
unfolding ◌+ℚ◌
early_total zero = sound refl
early_total (suc zero) = sound refl
early_total (suc (suc row)) = sound refl

pub sample_is_rounded_early : SampleIsRoundedEarly
sample_is_rounded_early = record {
  starts = λ row. refl;
  fits = λ k b. sample_is_rounded.fits k (omega arith);
  rounded = λ k row b c. sample_is_rounded.rounded k row (omega arith) c;
  total = early_total;
}

small : HasWindow 10 1 sample_coefficients
unfolding ◌+ℚ◌ ◌*ℚ◌ ◌-ℚ◌ opposite is_not_negative size
small zero zero b = record { le = refl }
small zero (suc zero) b = record { le = refl }
small zero (suc (suc i)) b = record { le = refl }
small (suc zero) zero b = record { le = refl }
small (suc zero) (suc zero) b = record { le = refl }
small (suc zero) (suc (suc i)) b = record { le = refl }
small (suc (suc m)) i b = absurd (omega arith)

pub sample_may_stop : SampleMayStop
sample_may_stop = after_window 1 (record { least = omega arith; most = omega arith; above = omega arith })
    empty free_empty small
  where
    empty : AreEmptyAbove 1 stored_system.matrices
    empty zero row col b = absurd (omega arith)
    empty (suc zero) row col b = absurd (omega arith)
    empty (suc (suc m)) row col b = refl

    free_empty : VectorsAreEmptyAbove 1 stored_system.free
    free_empty zero row b = absurd (omega arith)
    free_empty (suc zero) row b = absurd (omega arith)
    free_empty (suc (suc m)) row b = refl

pub sample_may_not_stop_at_nine : SampleMayNotStopAtNine
unfolding ◌+ℚ◌ ◌*ℚ◌ ◌-ℚ◌ opposite is_not_negative size
sample_may_not_stop_at_nine window =
    let small : size (number_at (sample_coefficients 8) 1) ≤ℚ window_bound 1 = window 1 1 (omega arith) in
    absurd (let impossible : false ≡ true = small.le in cc)

pub sample_stays_near_early : SampleStaysNearEarly
sample_stays_near_early n b = steps_stay_within_their_radius Sup 3249759265 1 10 n stored_system exact_system
    sample_start sample_mid sample_early sample_coefficients sample_stands_for (omega arith) sample_is_tame
    sample_is_rounded_early sample_may_stop sample_start_is_near b
