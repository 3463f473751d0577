-- The coefficients of a step that starts anew, one by one.
use Rattle.std.proofs.Common.{◌≡◌, ℕ, zero, suc, ◌*◌, ℤ, pos, ◌+ℤ◌, ◌*ℤ◌, List, [], ◌∷◌, get_or}
use Rattle.std.proofs.Common.{FitsSigned, arith, refl}
use Rattle.std.specs.Int.{w64}
use Rattle.frac_laws.specs.Rounding.{floor_of}
use Rattle.file_changes.specs.ContinuousAsks.{AreWords}
use Rattle.file_changes.specs.ContinuousCharges.{numerators_later, coefficients_later}

-- the numerators, from their terms
pub given_numerators : (months : ℕ) (c : List ℤ) (t1 t2 t3 t4 t5 t6 t7 t8 t9 : ℤ)
    → t1 ≡ pos 1728 *ℤ get_or c 0 (pos 0) → t2 ≡ pos (144 * months) *ℤ get_or c 1 (pos 0)
    → t3 ≡ pos (12 * (months * months)) *ℤ get_or c 2 (pos 0)
    → t4 ≡ pos (months * months * months) *ℤ get_or c 3 (pos 0) → t5 ≡ pos 144 *ℤ get_or c 1 (pos 0)
    → t6 ≡ pos (24 * months) *ℤ get_or c 2 (pos 0) → t7 ≡ pos (3 * (months * months)) *ℤ get_or c 3 (pos 0)
    → t8 ≡ pos 12 *ℤ get_or c 2 (pos 0) → t9 ≡ pos (3 * months) *ℤ get_or c 3 (pos 0)
    → (t1 +ℤ t2 +ℤ t3 +ℤ t4) ∷ (t5 +ℤ t6 +ℤ t7) ∷ (t8 +ℤ t9) ∷ [] ≡ numerators_later months c
given_numerators months c t1 t2 t3 t4 t5 t6 t7 t8 t9 h1 h2 h3 h4 h5 h6 h7 h8 h9 =
    rw (h1, h2, h3, h4, h5, h6, h7, h8, h9) refl

-- the numbers of a list of four have 64 bits where each has
pub four_words : (a b c d : ℤ) → FitsSigned w64 a → FitsSigned w64 b → FitsSigned w64 c → FitsSigned w64 d
    → AreWords (a ∷ b ∷ c ∷ d ∷ [])
four_words a b c d ha hb hc hd zero none below = ha
four_words a b c d ha hb hc hd (suc zero) none below = hb
four_words a b c d ha hb hc hd (suc (suc zero)) none below = hc
four_words a b c d ha hb hc hd (suc (suc (suc zero))) none below = hd
four_words a b c d ha hb hc hd (suc (suc (suc (suc k)))) none below = absurd (omega (arith, below))

-- the coefficients, from the numerators
pub given_coefficients : (months : ℕ) (c numerators : List ℤ) (a b d e : ℤ) → numerators ≡ numerators_later months c
    → a ≡ floor_of (get_or numerators 0 (pos 0)) (pos 1728) → b ≡ floor_of (get_or numerators 1 (pos 0)) (pos 144)
    → d ≡ floor_of (get_or numerators 2 (pos 0)) (pos 12) → e ≡ get_or c 3 (pos 0)
    → a ∷ b ∷ d ∷ e ∷ [] ≡ coefficients_later months c
given_coefficients months c numerators a b d e h ha hb hd he = rw (ha, hb, hd, he, h) refl

-- coefficients of 64 bits have each number of 64 bits
module _ (months : ℕ) (c numerators : List ℤ) (are : numerators ≡ numerators_later months c)
    (all : AreWords (coefficients_later months c)) where
  pub first_is_word : FitsSigned w64 (floor_of (get_or numerators 0 (pos 0)) (pos 1728))
  first_is_word = rw are (all 0 (pos 0) (omega arith))

  pub second_is_word : FitsSigned w64 (floor_of (get_or numerators 1 (pos 0)) (pos 144))
  second_is_word = rw are (all 1 (pos 0) (omega arith))

  pub third_is_word : FitsSigned w64 (floor_of (get_or numerators 2 (pos 0)) (pos 12))
  third_is_word = rw are (all 2 (pos 0) (omega arith))
