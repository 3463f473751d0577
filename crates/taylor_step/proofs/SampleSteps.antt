-- Sample systems, stored exactly: what they stand for, and that a step may be taken.
use Rattle.std.specs.Prelude.{◌≡◌, ℕ, suc, zero, ◌+◌, ◌^◌, ◌<◌, ◌≤◌, ◌&&◌, ℤ, pos, negsuc, List, [], ◌∷◌}
use Rattle.std.specs.Prelude.{length, cond, refl}
use Rattle.std.specs.Prelude.{Bool, true, false, not, nat_lt, nat_le, unsigned_abs}
use Rattle.std.specs.Prelude.{slice_index_or}
use Rattle.std.proofs.Common.{ap, sym, ◌∙◌, arith, subst, lit≤}
use Rattle.std.specs.List.{list_all}
use mathlib.Core.Quot.{sound}
use Rattle.frac_laws.specs.Fraction.{over, whole, size, ◌+ℚ◌, ◌*ℚ◌, ◌-ℚ◌, opposite}
use Rattle.frac_laws.specs.Fraction.{is_not_negative, greater}
use Rattle.frac_laws.specs.Lists.{number_at, vector_at, matrix_at}
use Rattle.frac_laws.specs.Norms.{Sup, Sum}
use Rattle.cell_laws.specs.Samples.{backward_system, forward_system, second_system, sample_pair}
use Rattle.cell_laws.specs.Systems.{System}
use Rattle.cell_laws.specs.Tame.{IsTame}
use Rattle.cell_laws.proofs.Samples.{backward_system_is_tame, sample_pair_is_tame}
use Rattle.linear_system.specs.Setting.{is_same_place}
use Rattle.linear_system.specs.StandsFor.{units, MatricesStandNear, VectorsStandNear, StandsFor}
use Rattle.linear_system.specs.StandsFor.{StandsForPair}
use Rattle.linear_system.specs.StoredSystem.{StoredSystem, dim_of, stored_number, stored_free}
use Rattle.linear_system.proofs.NumbersInUnits.{equal_is_near}
use Rattle.taylor_step.specs.CanStep.{CanStep, in_sup, in_sum, in_pair}
use Rattle.taylor_step.specs.ListedNumbers.{Entry, listed}
use Rattle.taylor_step.proofs.Scaled.{no_units}
use Rattle.whole_laws.proofs.Tests.{passes_both}

abbrev pub backward_entries : List Entry
backward_entries =
    (0, 0, 0, negsuc 36028797018963967) ∷
    (0, 1, 0, pos 40532396646334464) ∷
    (1, 0, 0, pos 36028797018963968) ∷
    (1, 1, 0, negsuc 31525197391593471) ∷
    (0, 0, 1, negsuc 4503599627370495) ∷
    (0, 1, 1, pos 4503599627370496) ∷
    (1, 0, 1, pos 2251799813685248) ∷
    (1, 1, 1, negsuc 2251799813685247) ∷
    (0, 2, 0, pos 288230376151711744) ∷
    (1, 2, 0, negsuc 144115188075855871) ∷
    (0, 2, 1, pos 18014398509481984) ∷ []

abbrev pub forward_entries : List Entry
forward_entries =
    (0, 0, 0, negsuc 108086391056891903) ∷
    (0, 1, 0, pos 36028797018963968) ∷
    (1, 0, 0, pos 108086391056891904) ∷
    (1, 1, 0, negsuc 36028797018963967) ∷
    (0, 0, 1, pos 4503599627370496) ∷
    (0, 1, 1, negsuc 2251799813685247) ∷
    (1, 0, 1, negsuc 4503599627370495) ∷
    (1, 1, 1, pos 2251799813685248) ∷
    (0, 2, 0, pos 288230376151711744) ∷
    (1, 2, 0, negsuc 144115188075855871) ∷
    (0, 2, 1, pos 18014398509481984) ∷ []

abbrev pub pair_entries : List Entry
pair_entries =
    (0, 0, 0, negsuc 36028797018963967) ∷
    (0, 1, 0, pos 40532396646334464) ∷
    (1, 0, 0, pos 36028797018963968) ∷
    (1, 1, 0, negsuc 31525197391593471) ∷
    (2, 0, 0, pos 144115188075855872) ∷
    (2, 1, 0, pos 72057594037927936) ∷
    (2, 2, 0, negsuc 36028797018963967) ∷
    (2, 3, 0, pos 45035996273704960) ∷
    (3, 1, 0, pos 144115188075855872) ∷
    (3, 2, 0, pos 36028797018963968) ∷
    (3, 3, 0, negsuc 27021597764222975) ∷
    (0, 0, 1, negsuc 4503599627370495) ∷
    (0, 1, 1, pos 4503599627370496) ∷
    (1, 0, 1, pos 2251799813685248) ∷
    (1, 1, 1, negsuc 2251799813685247) ∷
    (2, 1, 1, pos 9007199254740992) ∷
    (0, 4, 0, pos 288230376151711744) ∷
    (1, 4, 0, negsuc 144115188075855871) ∷
    (2, 4, 0, pos 72057594037927936) ∷
    (3, 4, 0, pos 36028797018963968) ∷
    (0, 4, 1, pos 18014398509481984) ∷ []

same_is : (row col m row2 col2 m2 : ℕ) → is_same_place row col m row2 col2 m2 ≡ true
    → (row2 ≡ row) × (col2 ≡ col) × (m2 ≡ m)
same_is row col m row2 col2 m2 h = (grind arith, grind arith, grind arith)

-- where a test holds of no entry, nothing is listed
none_at : (test : ℕ → ℕ → ℕ → Bool) (entries : List Entry) (row col m : ℕ)
    → list_all (λ e. not (test e.0 e.1 e.2)) entries ≡ true → test row col m ≡ true
    → listed entries row col m ≡ pos 0
none_at test [] row col m h k = refl
none_at test (e ∷ entries) row col m h k =
    by_place (is_same_place e.0 e.1 e.2 row col m) refl (rest _ _ h) (λ t. none_at test entries row col m t k)
  where
    rest : (a b : Bool) → (not a && b) ≡ true → (a ≡ false) × (b ≡ true)
    rest true b h = absurd (cc)
    rest false b h = (refl, h)

    by_place : (b : Bool) → b ≡ is_same_place e.0 e.1 e.2 row col m
        → (test e.0 e.1 e.2 ≡ false) × (list_all (λ e. not (test e.0 e.1 e.2)) entries ≡ true)
        → (list_all (λ e. not (test e.0 e.1 e.2)) entries ≡ true → listed entries row col m ≡ pos 0)
        → cond b e.3 (listed entries row col m) ≡ pos 0
    by_place true q n g =
        let s = same_is e.0 e.1 e.2 row col m (sym q) in
        absurd (let t : test row col m ≡ false = rw (s.0, s.1, s.2) n.0 in cc)
    by_place false q n g = g n.1

late : (m : ℕ) → nat_le 2 (suc (suc m)) ≡ true
late m = grind arith

from_two : (i : ℕ) → nat_le 2 (2 + i) ≡ true
from_two i = grind arith

later : (m : ℕ) → nat_le 1 (suc m) ≡ true
later m = grind arith

backward_rows : (m : ℕ) → length (matrix_at backward_system.matrices m) ≤ 2
backward_rows zero = omega arith
backward_rows (suc zero) = omega arith
backward_rows (suc (suc m)) = omega arith

backward_columns : (m row : ℕ) → length (vector_at (matrix_at backward_system.matrices m) row) ≤ 2
backward_columns zero zero = omega arith
backward_columns zero (suc zero) = omega arith
backward_columns zero (suc (suc row)) = omega arith
backward_columns (suc zero) zero = omega arith
backward_columns (suc zero) (suc zero) = omega arith
backward_columns (suc zero) (suc (suc row)) = omega arith
backward_columns (suc (suc m)) row = omega arith

backward_no_more : (m row col : ℕ) → 12 ≤ m → number_at (vector_at (matrix_at backward_system.matrices m) row)
    col ≡ whole (pos 0)
backward_no_more zero row col h = absurd (omega arith)
backward_no_more (suc zero) row col h = absurd (omega arith)
backward_no_more (suc (suc m)) row col h = refl

forward_rows : (m : ℕ) → length (matrix_at forward_system.matrices m) ≤ 2
forward_rows zero = omega arith
forward_rows (suc zero) = omega arith
forward_rows (suc (suc m)) = omega arith

forward_columns : (m row : ℕ) → length (vector_at (matrix_at forward_system.matrices m) row) ≤ 2
forward_columns zero zero = omega arith
forward_columns zero (suc zero) = omega arith
forward_columns zero (suc (suc row)) = omega arith
forward_columns (suc zero) zero = omega arith
forward_columns (suc zero) (suc zero) = omega arith
forward_columns (suc zero) (suc (suc row)) = omega arith
forward_columns (suc (suc m)) row = omega arith

forward_no_more : (m row col : ℕ) → 12 ≤ m → number_at (vector_at (matrix_at forward_system.matrices m) row)
    col ≡ whole (pos 0)
forward_no_more zero row col h = absurd (omega arith)
forward_no_more (suc zero) row col h = absurd (omega arith)
forward_no_more (suc (suc m)) row col h = refl

second_rows : (m : ℕ) → length (matrix_at second_system.matrices m) ≤ 2
second_rows zero = omega arith
second_rows (suc m) = omega arith

second_columns : (m row : ℕ) → length (vector_at (matrix_at second_system.matrices m) row) ≤ 2
second_columns zero zero = omega arith
second_columns zero (suc zero) = omega arith
second_columns zero (suc (suc row)) = omega arith
second_columns (suc m) row = omega arith

second_no_more : (m row col : ℕ) → 12 ≤ m → number_at (vector_at (matrix_at second_system.matrices m) row) col
    ≡ whole (pos 0)
second_no_more zero row col h = absurd (omega arith)
second_no_more (suc m) row col h = refl

coupling_rows : (m : ℕ) → length (matrix_at sample_pair.coupling m) ≤ 2
coupling_rows zero = omega arith
coupling_rows (suc zero) = omega arith
coupling_rows (suc (suc m)) = omega arith

coupling_columns : (m row : ℕ) → length (vector_at (matrix_at sample_pair.coupling m) row) ≤ 2
coupling_columns zero zero = omega arith
coupling_columns zero (suc zero) = omega arith
coupling_columns zero (suc (suc row)) = omega arith
coupling_columns (suc zero) zero = omega arith
coupling_columns (suc zero) (suc zero) = omega arith
coupling_columns (suc zero) (suc (suc row)) = omega arith
coupling_columns (suc (suc m)) row = omega arith

coupling_no_more : (m row col : ℕ) → 12 ≤ m → number_at (vector_at (matrix_at sample_pair.coupling m) row) col
    ≡ whole (pos 0)
coupling_no_more zero row col h = absurd (omega arith)
coupling_no_more (suc zero) row col h = absurd (omega arith)
coupling_no_more (suc (suc m)) row col h = refl

backward_free_rows : (m : ℕ) → length (vector_at backward_system.free m) ≤ 2
backward_free_rows zero = omega arith
backward_free_rows (suc zero) = omega arith
backward_free_rows (suc (suc m)) = omega arith

backward_free_no_more : (m row : ℕ) → 12 ≤ m → number_at (vector_at backward_system.free m) row ≡ whole
    (pos 0)
backward_free_no_more zero row h = absurd (omega arith)
backward_free_no_more (suc zero) row h = absurd (omega arith)
backward_free_no_more (suc (suc m)) row h = refl

second_free_rows : (m : ℕ) → length (vector_at second_system.free m) ≤ 2
second_free_rows zero = omega arith
second_free_rows (suc m) = omega arith

second_free_no_more : (m row : ℕ) → 12 ≤ m → number_at (vector_at second_system.free m) row ≡ whole (pos 0)
second_free_no_more zero row h = absurd (omega arith)
second_free_no_more (suc m) row h = refl

backward_matrices_equal : (m row col : ℕ) → row < 2 → col < 2
    → number_at (vector_at (matrix_at backward_system.matrices m) row) col ≡ units
    (listed backward_entries (row) (col) m)
backward_matrices_equal zero zero zero b c = sound refl
backward_matrices_equal zero zero (suc zero) b c = sound refl
backward_matrices_equal zero zero (suc (suc col)) b c = absurd (omega arith)
backward_matrices_equal zero (suc zero) zero b c = sound refl
backward_matrices_equal zero (suc zero) (suc zero) b c = sound refl
backward_matrices_equal zero (suc zero) (suc (suc col)) b c = absurd (omega arith)
backward_matrices_equal zero (suc (suc row)) col b c = absurd (omega arith)
backward_matrices_equal (suc zero) zero zero b c = sound refl
backward_matrices_equal (suc zero) zero (suc zero) b c = sound refl
backward_matrices_equal (suc zero) zero (suc (suc col)) b c = absurd (omega arith)
backward_matrices_equal (suc zero) (suc zero) zero b c = sound refl
backward_matrices_equal (suc zero) (suc zero) (suc zero) b c = sound refl
backward_matrices_equal (suc zero) (suc zero) (suc (suc col)) b c = absurd (omega arith)
backward_matrices_equal (suc zero) (suc (suc row)) col b c = absurd (omega arith)
backward_matrices_equal (suc (suc m)) row col b c =
    sym (ap units (none_at (λ i j k. nat_le 2 k) backward_entries (row) (col) (suc (suc m)) refl (late m)) ∙
    no_units)

backward_matrices_near : (error : ℕ) (stored : ℕ → ℕ → ℕ → ℤ)
    → ((row col m : ℕ) → row < 2 → col < 2 → stored row col m ≡ listed backward_entries (row) (col) m)
    → MatricesStandNear error 2 stored backward_system.matrices
backward_matrices_near error stored h = record {
  near = λ row col m b c. equal_is_near _ _ error (backward_matrices_equal m row col b c ∙ ap units
      (sym (h row col m b c)));
  rows = backward_rows;
  columns = backward_columns;
  no_more = λ row col m b. backward_no_more m row col b;
}

backward_vectors_equal : (m row : ℕ) → row < 2 → number_at (vector_at backward_system.free m) row ≡ units
    (listed backward_entries (row) 2 m)
backward_vectors_equal zero zero b = sound refl
backward_vectors_equal zero (suc zero) b = sound refl
backward_vectors_equal zero (suc (suc row)) b = absurd (omega arith)
backward_vectors_equal (suc zero) zero b = sound refl
backward_vectors_equal (suc zero) (suc zero) b = sound refl
backward_vectors_equal (suc zero) (suc (suc row)) b = absurd (omega arith)
backward_vectors_equal (suc (suc m)) row b =
    sym (ap units (none_at (λ i j k. nat_le 2 k) backward_entries (row) 2 (suc (suc m)) refl (late m)) ∙
    no_units)

backward_vectors_near : (stored : ℕ → ℕ → ℤ) → ((row m : ℕ) → row < 2
    → stored row m ≡ listed backward_entries (row) 2 m)
    → VectorsStandNear 3 2 stored backward_system.free
backward_vectors_near stored h = record {
  near = λ row m b. equal_is_near _ _ 3 (backward_vectors_equal m row b ∙ ap units (sym (h row m b)));
  rows = backward_free_rows;
  no_more = λ row m b. backward_free_no_more m row b;
}

forward_matrices_equal : (m row col : ℕ) → row < 2 → col < 2
    → number_at (vector_at (matrix_at forward_system.matrices m) row) col ≡ units
    (listed forward_entries (row) (col) m)
forward_matrices_equal zero zero zero b c = sound refl
forward_matrices_equal zero zero (suc zero) b c = sound refl
forward_matrices_equal zero zero (suc (suc col)) b c = absurd (omega arith)
forward_matrices_equal zero (suc zero) zero b c = sound refl
forward_matrices_equal zero (suc zero) (suc zero) b c = sound refl
forward_matrices_equal zero (suc zero) (suc (suc col)) b c = absurd (omega arith)
forward_matrices_equal zero (suc (suc row)) col b c = absurd (omega arith)
forward_matrices_equal (suc zero) zero zero b c = sound refl
forward_matrices_equal (suc zero) zero (suc zero) b c = sound refl
forward_matrices_equal (suc zero) zero (suc (suc col)) b c = absurd (omega arith)
forward_matrices_equal (suc zero) (suc zero) zero b c = sound refl
forward_matrices_equal (suc zero) (suc zero) (suc zero) b c = sound refl
forward_matrices_equal (suc zero) (suc zero) (suc (suc col)) b c = absurd (omega arith)
forward_matrices_equal (suc zero) (suc (suc row)) col b c = absurd (omega arith)
forward_matrices_equal (suc (suc m)) row col b c =
    sym (ap units (none_at (λ i j k. nat_le 2 k) forward_entries (row) (col) (suc (suc m)) refl (late m)) ∙
    no_units)

forward_matrices_near : (error : ℕ) (stored : ℕ → ℕ → ℕ → ℤ)
    → ((row col m : ℕ) → row < 2 → col < 2 → stored row col m ≡ listed forward_entries (row) (col) m)
    → MatricesStandNear error 2 stored forward_system.matrices
forward_matrices_near error stored h = record {
  near = λ row col m b c. equal_is_near _ _ error (forward_matrices_equal m row col b c ∙ ap units
      (sym (h row col m b c)));
  rows = forward_rows;
  columns = forward_columns;
  no_more = λ row col m b. forward_no_more m row col b;
}

first_matrices_equal : (m row col : ℕ) → row < 2 → col < 2
    → number_at (vector_at (matrix_at backward_system.matrices m) row) col ≡ units
    (listed pair_entries (row) (col) m)
first_matrices_equal zero zero zero b c = sound refl
first_matrices_equal zero zero (suc zero) b c = sound refl
first_matrices_equal zero zero (suc (suc col)) b c = absurd (omega arith)
first_matrices_equal zero (suc zero) zero b c = sound refl
first_matrices_equal zero (suc zero) (suc zero) b c = sound refl
first_matrices_equal zero (suc zero) (suc (suc col)) b c = absurd (omega arith)
first_matrices_equal zero (suc (suc row)) col b c = absurd (omega arith)
first_matrices_equal (suc zero) zero zero b c = sound refl
first_matrices_equal (suc zero) zero (suc zero) b c = sound refl
first_matrices_equal (suc zero) zero (suc (suc col)) b c = absurd (omega arith)
first_matrices_equal (suc zero) (suc zero) zero b c = sound refl
first_matrices_equal (suc zero) (suc zero) (suc zero) b c = sound refl
first_matrices_equal (suc zero) (suc zero) (suc (suc col)) b c = absurd (omega arith)
first_matrices_equal (suc zero) (suc (suc row)) col b c = absurd (omega arith)
first_matrices_equal (suc (suc m)) row col b c =
    sym (ap units (none_at (λ i j k. nat_le 2 k) pair_entries (row) (col) (suc (suc m)) refl (late m)) ∙
    no_units)

first_matrices_near : (error : ℕ) (stored : ℕ → ℕ → ℕ → ℤ)
    → ((row col m : ℕ) → row < 2 → col < 2 → stored row col m ≡ listed pair_entries (row) (col) m)
    → MatricesStandNear error 2 stored backward_system.matrices
first_matrices_near error stored h = record {
  near = λ row col m b c. equal_is_near _ _ error (first_matrices_equal m row col b c ∙ ap units
      (sym (h row col m b c)));
  rows = backward_rows;
  columns = backward_columns;
  no_more = λ row col m b. backward_no_more m row col b;
}

first_vectors_equal : (m row : ℕ) → row < 2 → number_at (vector_at backward_system.free m) row ≡ units
    (listed pair_entries (row) 4 m)
first_vectors_equal zero zero b = sound refl
first_vectors_equal zero (suc zero) b = sound refl
first_vectors_equal zero (suc (suc row)) b = absurd (omega arith)
first_vectors_equal (suc zero) zero b = sound refl
first_vectors_equal (suc zero) (suc zero) b = sound refl
first_vectors_equal (suc zero) (suc (suc row)) b = absurd (omega arith)
first_vectors_equal (suc (suc m)) row b =
    sym (ap units (none_at (λ i j k. nat_le 2 k) pair_entries (row) 4 (suc (suc m)) refl (late m)) ∙ no_units)

first_vectors_near : (stored : ℕ → ℕ → ℤ) → ((row m : ℕ) → row < 2
    → stored row m ≡ listed pair_entries (row) 4 m)
    → VectorsStandNear 3 2 stored backward_system.free
first_vectors_near stored h = record {
  near = λ row m b. equal_is_near _ _ 3 (first_vectors_equal m row b ∙ ap units (sym (h row m b)));
  rows = backward_free_rows;
  no_more = λ row m b. backward_free_no_more m row b;
}

second_matrices_equal : (m row col : ℕ) → row < 2 → col < 2
    → number_at (vector_at (matrix_at second_system.matrices m) row) col ≡ units
    (listed pair_entries (2 + row) (2 + col) m)
second_matrices_equal zero zero zero b c = sound refl
second_matrices_equal zero zero (suc zero) b c = sound refl
second_matrices_equal zero zero (suc (suc col)) b c = absurd (omega arith)
second_matrices_equal zero (suc zero) zero b c = sound refl
second_matrices_equal zero (suc zero) (suc zero) b c = sound refl
second_matrices_equal zero (suc zero) (suc (suc col)) b c = absurd (omega arith)
second_matrices_equal zero (suc (suc row)) col b c = absurd (omega arith)
second_matrices_equal (suc m) row col b c =
    sym (ap units (none_at (λ i j k. nat_le 2 i && (nat_le 2 j && nat_le 1 k)) pair_entries (2 + row)
    (2 + col) (suc m) refl (passes_both _ _ (from_two row) (passes_both _ _ (from_two col) (later m)))) ∙
    no_units)

second_matrices_near : (error : ℕ) (stored : ℕ → ℕ → ℕ → ℤ)
    → ((row col m : ℕ) → row < 2 → col < 2 → stored row col m ≡ listed pair_entries (2 + row) (2 + col) m)
    → MatricesStandNear error 2 stored second_system.matrices
second_matrices_near error stored h = record {
  near = λ row col m b c. equal_is_near _ _ error (second_matrices_equal m row col b c ∙ ap units
      (sym (h row col m b c)));
  rows = second_rows;
  columns = second_columns;
  no_more = λ row col m b. second_no_more m row col b;
}

second_vectors_equal : (m row : ℕ) → row < 2 → number_at (vector_at second_system.free m) row ≡ units
    (listed pair_entries (2 + row) 4 m)
second_vectors_equal zero zero b = sound refl
second_vectors_equal zero (suc zero) b = sound refl
second_vectors_equal zero (suc (suc row)) b = absurd (omega arith)
second_vectors_equal (suc m) row b =
    sym (ap units (none_at (λ i j k. nat_le 2 i && (nat_le 2 j && nat_le 1 k)) pair_entries (2 + row) 4
    (suc m) refl (passes_both _ _ (from_two row) (later m))) ∙ no_units)

second_vectors_near : (stored : ℕ → ℕ → ℤ) → ((row m : ℕ) → row < 2
    → stored row m ≡ listed pair_entries (2 + row) 4 m)
    → VectorsStandNear 3 2 stored second_system.free
second_vectors_near stored h = record {
  near = λ row m b. equal_is_near _ _ 3 (second_vectors_equal m row b ∙ ap units (sym (h row m b)));
  rows = second_free_rows;
  no_more = λ row m b. second_free_no_more m row b;
}

coupling_matrices_equal : (m row col : ℕ) → row < 2 → col < 2
    → number_at (vector_at (matrix_at sample_pair.coupling m) row) col ≡ units
    (listed pair_entries (2 + row) (col) m)
coupling_matrices_equal zero zero zero b c = sound refl
coupling_matrices_equal zero zero (suc zero) b c = sound refl
coupling_matrices_equal zero zero (suc (suc col)) b c = absurd (omega arith)
coupling_matrices_equal zero (suc zero) zero b c = sound refl
coupling_matrices_equal zero (suc zero) (suc zero) b c = sound refl
coupling_matrices_equal zero (suc zero) (suc (suc col)) b c = absurd (omega arith)
coupling_matrices_equal zero (suc (suc row)) col b c = absurd (omega arith)
coupling_matrices_equal (suc zero) zero zero b c = sound refl
coupling_matrices_equal (suc zero) zero (suc zero) b c = sound refl
coupling_matrices_equal (suc zero) zero (suc (suc col)) b c = absurd (omega arith)
coupling_matrices_equal (suc zero) (suc zero) zero b c = sound refl
coupling_matrices_equal (suc zero) (suc zero) (suc zero) b c = sound refl
coupling_matrices_equal (suc zero) (suc zero) (suc (suc col)) b c = absurd (omega arith)
coupling_matrices_equal (suc zero) (suc (suc row)) col b c = absurd (omega arith)
coupling_matrices_equal (suc (suc m)) row col b c =
    sym (ap units (none_at (λ i j k. nat_le 2 k) pair_entries (2 + row) (col) (suc (suc m)) refl (late m)) ∙
    no_units)

coupling_matrices_near : (error : ℕ) (stored : ℕ → ℕ → ℕ → ℤ)
    → ((row col m : ℕ) → row < 2 → col < 2 → stored row col m ≡ listed pair_entries (2 + row) (col) m)
    → MatricesStandNear error 2 stored sample_pair.coupling
coupling_matrices_near error stored h = record {
  near = λ row col m b c. equal_is_near _ _ error (coupling_matrices_equal m row col b c ∙ ap units
      (sym (h row col m b c)));
  rows = coupling_rows;
  columns = coupling_columns;
  no_more = λ row col m b. coupling_no_more m row col b;
}

abbrev Has : StoredSystem → List Entry → Type 0
Has s entries = (row col m : ℕ) → stored_number s row col m ≡ listed entries row col m

-- the forward system with the free numbers of the backward one
abbrev fed_system : System
fed_system = record { dimension = 2; matrices = forward_system.matrices; free = backward_system.free }

fed_system_is_tame : IsTame Sum 82932358 fed_system
unfolding ◌+ℚ◌ ◌*ℚ◌ ◌-ℚ◌ opposite is_not_negative size greater
fed_system_is_tame = record {
  total = record { le = refl };
  matrices = record { le = refl };
  free = record { le = refl };
  growth = record { le = refl };
}

fed_vectors_equal : (m row : ℕ) → row < 2 → number_at (vector_at fed_system.free m) row ≡ units
    (listed forward_entries row 2 m)
fed_vectors_equal zero zero b = sound refl
fed_vectors_equal zero (suc zero) b = sound refl
fed_vectors_equal zero (suc (suc row)) b = absurd (omega arith)
fed_vectors_equal (suc zero) zero b = sound refl
fed_vectors_equal (suc zero) (suc zero) b = sound refl
fed_vectors_equal (suc zero) (suc (suc row)) b = absurd (omega arith)
fed_vectors_equal (suc (suc m)) row b =
    sym (ap units (none_at (λ i j k. nat_le 2 k) forward_entries row 2 (suc (suc m)) refl (late m)) ∙ no_units)

fed_vectors_near : (stored : ℕ → ℕ → ℤ) → ((row m : ℕ) → row < 2
    → stored row m ≡ listed forward_entries row 2 m)
    → VectorsStandNear 3 2 stored fed_system.free
fed_vectors_near stored h = record {
  near = λ row m b. equal_is_near _ _ 3 (fed_vectors_equal m row b ∙ ap units (sym (h row m b)));
  rows = backward_free_rows;
  no_more = λ row m b. backward_free_no_more m row b;
}

free_numbers : (s : StoredSystem) (entries : List Entry) (dim : ℕ) → dim_of s ≡ dim → Has s entries
    → (row m : ℕ) → stored_free s row m ≡ listed entries row dim m
free_numbers s entries dim d h row m = h row (dim_of s) m ∙ ap (λ col. listed entries row col m) d

backward_stands : (s : StoredSystem) → dim_of s ≡ 2 → Has s backward_entries → StandsFor s backward_system
backward_stands s d h = record {
  dimension = sym d;
  matrices = rw d (backward_matrices_near 1 (stored_number s) (λ row col m b c. h row col m));
  free = subst (λ n. VectorsStandNear 3 n (stored_free s) backward_system.free) (sym d)
      (backward_vectors_near (stored_free s) (λ row m b. free_numbers s backward_entries 2 d h row m));
}

fed_stands : (s : StoredSystem) → dim_of s ≡ 2 → Has s forward_entries → StandsFor s fed_system
fed_stands s d h = record {
  dimension = sym d;
  matrices = rw d (forward_matrices_near 1 (stored_number s) (λ row col m b c. h row col m));
  free = subst (λ n. VectorsStandNear 3 n (stored_free s) fed_system.free) (sym d)
      (fed_vectors_near (stored_free s) (λ row m b. free_numbers s forward_entries 2 d h row m));
}

no_feedback : (row col m : ℕ) → row < 2 → 2 ≤ col → col < 4 → listed pair_entries row col m ≡ pos 0
no_feedback row col m b c d =
    none_at (λ i j k. nat_lt i 2 && (nat_le 2 j && nat_lt j 4)) pair_entries row col m refl
    (passes_both _ _ (below row 2 b) (passes_both _ _ (at_most 2 col c) (below col 4 d)))
  where
    below : (i n : ℕ) → i < n → nat_lt i n ≡ true
    below i n h = grind arith

    at_most : (i n : ℕ) → i ≤ n → nat_le i n ≡ true
    at_most i n h = grind arith

pair_stands : (s : StoredSystem) → dim_of s ≡ 4 → Has s pair_entries → StandsForPair s 2 sample_pair
pair_stands s d h = record {
  halves = d;
  first_dimension = refl;
  second_dimension = refl;
  first = first_matrices_near 1 (stored_number s) (λ row col m b c. h row col m);
  first_free = first_vectors_near (stored_free s) (λ row m b. free_numbers s pair_entries 4 d h row m);
  second = second_matrices_near 1 (λ row col m. stored_number s (2 + row) (2 + col) m)
      (λ row col m b c. h (2 + row) (2 + col) m);
  second_free = second_vectors_near (λ row m. stored_free s (2 + row) m)
      (λ row m b. free_numbers s pair_entries 4 d h (2 + row) m);
  coupling = coupling_matrices_near 3 (λ row col m. stored_number s (2 + row) col m)
      (λ row col m b c. h (2 + row) col m);
  one_way = λ row col m b c e. h row col m ∙ no_feedback row col m b c (rw d at e);
}

-- one unknown and no numbers
abbrev still_system : System
still_system = record { dimension = 1; matrices = []; free = [] }

still_is_tame : IsTame Sup 0 still_system
unfolding ◌+ℚ◌ ◌*ℚ◌ ◌-ℚ◌ opposite is_not_negative size greater
still_is_tame = record {
  total = record { le = refl };
  matrices = record { le = refl };
  free = record { le = refl };
  growth = record { le = refl };
}

still_stands : (s : StoredSystem) → dim_of s ≡ 1 → Has s [] → StandsFor s still_system
still_stands s d h = record {
  dimension = sym d;
  matrices = record {
    near = λ row col m b c. equal_is_near _ _ 1 (sym (ap units (h row col m) ∙ no_units));
    rows = λ m. omega arith;
    columns = λ m row. omega arith;
    no_more = λ row col m b. refl;
  };
  free = record {
    near = λ row m b. equal_is_near _ _ 3 (sym (ap units (h row (dim_of s) m) ∙ no_units));
    rows = λ m. omega arith;
    no_more = λ row m b. refl;
  };
}

-- ---- a step may be taken

pub still_can_step : (s : StoredSystem) → dim_of s ≡ 1
    → ((row col m : ℕ) → stored_number s row col m ≡ listed [] row col m)
    → CanStep s (pos 18446744073709551616 ∷ [])
still_can_step s d h = in_sup still_system 0 (still_stands s d h) still_is_tame small
  where
    small : (i : ℕ) → unsigned_abs (slice_index_or (pos 18446744073709551616 ∷ []) i (pos 0)) ≤ 2 ^ 65
    small zero = lit≤ tt
    small (suc i) = lit≤ tt

pub backward_can_step : (s : StoredSystem) → dim_of s ≡ 2
    → ((row col m : ℕ) → stored_number s row col m ≡ listed backward_entries row col m)
    → CanStep s (pos 18446744073709551616 ∷ negsuc 9223372036854775807 ∷ [])
backward_can_step s d h = in_sup backward_system 280319832 (backward_stands s d h) backward_system_is_tame
    small
  where
    small : (i : ℕ) → unsigned_abs (slice_index_or (pos 18446744073709551616 ∷ negsuc 9223372036854775807 ∷
        []) i (pos 0)) ≤ 2 ^ 65
    small zero = lit≤ tt
    small (suc zero) = lit≤ tt
    small (suc (suc i)) = lit≤ tt

pub forward_can_step : (s : StoredSystem) → dim_of s ≡ 2
    → ((row col m : ℕ) → stored_number s row col m ≡ listed forward_entries row col m)
    → CanStep s (pos 13835058055282163712 ∷ pos 4611686018427387904 ∷ [])
forward_can_step s d h = in_sum fed_system 82932358 (fed_stands s d h) fed_system_is_tame (lit≤ tt)

pub pair_can_step : (s : StoredSystem) → dim_of s ≡ 4
    → ((row col m : ℕ) → stored_number s row col m ≡ listed pair_entries row col m)
    → CanStep s (pos 18446744073709551616 ∷ negsuc 9223372036854775807 ∷ pos 4611686018427387904 ∷ pos
    9223372036854775808 ∷ [])
pair_can_step s d h = in_pair 2 sample_pair 547534606 (over (pos 5) 384) (pair_stands s d h)
    sample_pair_is_tame small
  where
    small : (i : ℕ) → unsigned_abs (slice_index_or (pos 18446744073709551616 ∷ negsuc 9223372036854775807 ∷
        pos 4611686018427387904 ∷ pos 9223372036854775808 ∷ []) i (pos 0)) ≤ 2 ^ 64 + 2 ^ 45
    small zero = lit≤ tt
    small (suc zero) = lit≤ tt
    small (suc (suc zero)) = lit≤ tt
    small (suc (suc (suc zero))) = lit≤ tt
    small (suc (suc (suc (suc i)))) = lit≤ tt
