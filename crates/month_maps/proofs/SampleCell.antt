-- A sample of two states that is constant in x, stored exactly: a map of its month may be made.
use Rattle.std.specs.Prelude.{◌≡◌, ℕ, suc, zero, ◌^◌, ◌<◌, ◌≤◌, ◌&&◌, ℤ, pos, negsuc, List, [], ◌∷◌, length, refl}
use Rattle.std.specs.Prelude.{Bool, true, false, cond, nat_eq}
use Rattle.std.proofs.Common.{ap, sym, ◌∙◌, subst, arith, lit≤}
use Rattle.std.proofs.lemmas.Bool.Decides.{nat_tests}
use mathlib.Core.Quot.{sound}
use Rattle.frac_laws.specs.Fraction.{Fraction, whole, size, ◌-ℚ◌, ◌≤ℚ◌}
use Rattle.frac_laws.specs.Lists.{number_at, vector_at, matrix_at}
use Rattle.frac_laws.proofs.FractionTerms.{ring, terms}
use Rattle.frac_laws.proofs.Linear.{natural}
use Rattle.frac_laws.proofs.Norms.{size_zero}
use Rattle.cell_laws.specs.Samples.{second_system}
use Rattle.cell_laws.proofs.Samples.{sample_pair_is_tame}
use Rattle.linear_system.specs.DegreeLimit.{greatest_power_to}
use Rattle.linear_system.specs.StandsFor.{units, StandsFor}
use Rattle.linear_system.specs.StoredSystem.{StoredSystem, dim_of, stored_number}
use Rattle.taylor_step.specs.ConstantSteps.{IsConstantInX}
use Rattle.taylor_step.specs.ListedNumbers.{Entry, listed}
use Rattle.taylor_step.proofs.Scaled.{no_units}
use Rattle.month_maps.specs.MadeMaps.{CanMake, can_make}

abbrev pub sample_entries : List Entry
sample_entries =
    (0, 0, 0, negsuc 36028797018963967) ∷
    (0, 1, 0, pos 45035996273704960) ∷
    (1, 0, 0, pos 36028797018963968) ∷
    (1, 1, 0, negsuc 27021597764222975) ∷
    (0, 2, 0, pos 72057594037927936) ∷
    (1, 2, 0, pos 36028797018963968) ∷ []

-- above power 0 no entry is at the place
nothing_later : (row col m : ℕ) → listed sample_entries row col (suc m) ≡ pos 0
nothing_later row col m =
    skip (nat_eq row 0) (nat_eq col 0) _ _ (skip (nat_eq row 0) (nat_eq col 1) _ _
    (skip (nat_eq row 1) (nat_eq col 0) _ _ (skip (nat_eq row 1) (nat_eq col 1) _ _
    (skip (nat_eq row 0) (nat_eq col 2) _ _ (skip (nat_eq row 1) (nat_eq col 2) _ _ refl)))))
  where
    skip : (a b : Bool) (v rest : ℤ) → rest ≡ pos 0 → cond (a && (b && nat_eq (suc m) 0)) v rest ≡ pos 0
    skip a b v rest e = let later : nat_eq (suc m) 0 ≡ false = grind (arith, nat_tests) in rw later (cases a b)
      where
        cases : (a b : Bool) → cond (a && (b && false)) v rest ≡ pos 0
        cases true true = e
        cases true false = e
        cases false b = e

-- each exact number is the listed one
matrices_equal : (row col m : ℕ) → row < 2 → col < 2
    → number_at (vector_at (matrix_at second_system.matrices m) row) col ≡ units (listed sample_entries row col m)
matrices_equal zero zero zero b c = sound refl
matrices_equal zero (suc zero) zero b c = sound refl
matrices_equal (suc zero) zero zero b c = sound refl
matrices_equal (suc zero) (suc zero) zero b c = sound refl
matrices_equal row (suc (suc col)) zero b c = absurd (omega arith)
matrices_equal (suc (suc row)) col zero b c = absurd (omega arith)
matrices_equal row col (suc m) b c = sym (ap units (nothing_later row col m) ∙ no_units)

free_equal : (row m : ℕ) → row < 2
    → number_at (vector_at second_system.free m) row ≡ units (listed sample_entries row 2 m)
free_equal zero zero b = sound refl
free_equal (suc zero) zero b = sound refl
free_equal (suc (suc row)) zero b = absurd (omega arith)
free_equal row (suc m) b = sym (ap units (nothing_later row 2 m) ∙ no_units)

-- an equal number is near
near_equal : (error : ℕ) {x y : Fraction} → x ≡ y → size (x -ℚ y) ≤ℚ units (pos error)
near_equal error {x} {y} e = rw (e, nothing y, size_zero) (natural error (2 ^ 64))
  where
    nothing : (y : Fraction) → y -ℚ y ≡ whole (pos 0)
    nothing y = ring (y ∷ []) (hlevel terms) refl

-- no matrix and no vector is larger than the dimension
keeps_two : (m : ℕ) → (length (matrix_at second_system.matrices m) ≤ 2)
    × ((row : ℕ) → length (vector_at (matrix_at second_system.matrices m) row) ≤ 2)
    × (length (vector_at second_system.free m) ≤ 2)
keeps_two zero = (omega arith, columns, omega arith)
  where
    columns : (row : ℕ) → length (vector_at (matrix_at second_system.matrices 0) row) ≤ 2
    columns zero = omega arith
    columns (suc zero) = omega arith
    columns (suc (suc row)) = omega arith
keeps_two (suc m) = (omega arith, λ row. omega arith, omega arith)

sample_is_constant : IsConstantInX second_system
sample_is_constant = record { matrices = λ row col m b. no_matrix row col m b; free = λ row m b. no_free row m b }
  where
    no_matrix : (row col m : ℕ) → 1 ≤ m → number_at (vector_at (matrix_at second_system.matrices m) row) col
        ≡ whole (pos 0)
    no_matrix row col zero b = absurd (omega arith)
    no_matrix row col (suc m) b = refl

    no_free : (row m : ℕ) → 1 ≤ m → number_at (vector_at second_system.free m) row ≡ whole (pos 0)
    no_free row zero b = absurd (omega arith)
    no_free row (suc m) b = refl

sample_stands : (s : StoredSystem) → dim_of s ≡ 2
    → ((row col m : ℕ) → stored_number s row col m ≡ listed sample_entries row col m) → StandsFor s second_system
sample_stands s d h = record {
  dimension = sym d;
  matrices = record {
    near = λ row col m b c. near_equal 1 (matrices_equal row col m (subst (λ n. row < n) d b)
        (subst (λ n. col < n) d c) ∙ ap units (sym (h row col m)));
    rows = λ m. rw d (keeps_two m).0;
    columns = λ m row. rw d ((keeps_two m).1 row);
    no_more = λ row col m b. sample_is_constant.matrices row col m (omega (arith, b));
  };
  free = record {
    near = λ row m b. near_equal 3 (free_equal row m (subst (λ n. row < n) d b)
        ∙ ap units (sym (h row (dim_of s) m ∙ ap (λ n. listed sample_entries row n m) d)));
    rows = λ m. rw d (keeps_two m).2;
    no_more = λ row m b. sample_is_constant.free row m (omega (arith, b));
  };
}

pub sample_can_make : (s : StoredSystem) → dim_of s ≡ 2 → s.degree ≡ 0
    → ((row col m : ℕ) → stored_number s row col m ≡ listed sample_entries row col m) → CanMake s
sample_can_make s d degree h = can_make 547534606 second_system (ap (greatest_power_to s) degree) (record {
  few = lit≤ tt;
  stands = sample_stands s d h;
  tame = sample_pair_is_tame.second;
  constant = sample_is_constant;
  growth = lit≤ tt;
})
