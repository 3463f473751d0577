-- The coefficients of a step some months later, as fractions, and whether they are whole.
use Rattle.std.proofs.Common.{◌≡◌, ℕ, ◌*◌, ◌≤◌, ℤ, pos, ◌+ℤ◌, ◌*ℤ◌, List, [], ◌∷◌, length, get_or}
use Rattle.std.proofs.Common.{arith, refl, ap, sym, ◌∙◌}
use mathlib.Core.Path.{ap₂}
use Rattle.std.specs.Int.{int_rem_euclid}
use Rattle.std.proofs.lemmas.Int.{ints}
use Rattle.frac_laws.specs.Fraction.{Fraction, over, whole, ◌+ℚ◌, ◌*ℚ◌}
use Rattle.frac_laws.specs.Polynomials.{all_over, shifted}
use Rattle.frac_laws.specs.Rounding.{floor_of}
use Rattle.frac_laws.proofs.FractionTerms.{ring, terms}
use Rattle.frac_laws.proofs.Quotients.{over_add, over_is, over_mul, over_equal_of_cross}
use Rattle.frac_laws.proofs.Quotients.{cross_of_over_equal, whole_mul}
use Rattle.frac_laws.proofs.RoundingLaws.{quotient_and_remainder}
use Rattle.whole_laws.proofs.ShortLists.{four_are_all}
use Rattle.file_changes.specs.ContinuousAsks.{AreWholeLater}
use Rattle.file_changes.specs.ContinuousCharges.{numerators_later}

-- ---- whole quotients

no_rest : (a product rest : ℤ) → a ≡ product +ℤ rest → rest ≡ pos 0 → product ≡ a *ℤ pos 1
no_rest a product rest is none = omega (arith, ints, is, none)

rest_of : (a product rest : ℤ) → a ≡ product +ℤ rest → product ≡ a *ℤ pos 1 → rest ≡ pos 0
rest_of a product rest is none = omega (arith, ints, is, none)

pub quotient_is_whole : (n : ℤ) (d : ℕ) → 1 ≤ d → int_rem_euclid n (pos d) ≡ pos 0
    → whole (floor_of n (pos d)) ≡ over n d
quotient_is_whole n d some none = over_equal_of_cross (floor_of n (pos d)) n 1 d (omega arith) some
    (no_rest n (floor_of n (pos d) *ℤ pos d) (int_rem_euclid n (pos d))
    (quotient_and_remainder n (pos d) (omega (arith, ints, some))) none)

pub no_remainder : (n : ℤ) (d : ℕ) → 1 ≤ d → whole (floor_of n (pos d)) ≡ over n d → int_rem_euclid n (pos d) ≡ pos 0
no_remainder n d some is = rest_of n (floor_of n (pos d) *ℤ pos d) (int_rem_euclid n (pos d))
    (quotient_and_remainder n (pos d) (omega (arith, ints, some)))
    (cross_of_over_equal (floor_of n (pos d)) n 1 d (omega arith) some is)

-- ---- the coefficients

-- c(t + x), for c = a + b t + c t^2 + d t^3
shifted_four : (x a b c d : Fraction) → shifted x (a ∷ b ∷ c ∷ d ∷ [])
    ≡ (a +ℚ x *ℚ b +ℚ (x *ℚ x) *ℚ c +ℚ (x *ℚ x *ℚ x) *ℚ d)
    ∷ (b +ℚ whole (pos 2) *ℚ (x *ℚ c) +ℚ whole (pos 3) *ℚ ((x *ℚ x) *ℚ d))
    ∷ (c +ℚ whole (pos 3) *ℚ (x *ℚ d)) ∷ d ∷ []
shifted_four x a b c d =
    ap₂ (λ y p. y ∷ p) (ring (x ∷ a ∷ b ∷ c ∷ d ∷ []) (hlevel terms) refl)
    (ap₂ (λ y p. y ∷ p) (ring (x ∷ b ∷ c ∷ d ∷ []) (hlevel terms) refl)
    (ap₂ (λ y p. y ∷ p) (ring (x ∷ c ∷ d ∷ []) (hlevel terms) refl)
    (ap (λ y. y ∷ []) (ring (x ∷ d ∷ []) (hlevel terms) refl))))

-- a term over the numerator's denominator
term_is : (w p m d e : ℕ) (c : ℤ) → 1 ≤ d → 1 ≤ e → w * e ≡ m * d
    → over (pos (w * p) *ℤ c) d ≡ whole (pos m) *ℚ (over (pos p) e *ℚ whole c)
term_is w p m d e c some positive same =
    over_is (pos (w * p) *ℤ c) d
    ∙ ap (λ y. y *ℚ over (pos 1) d) (whole_mul (pos (w * p)) c ∙ ap (λ y. y *ℚ whole c) (whole_mul (pos w) (pos p)))
    ∙ weight_first (whole (pos w)) (whole (pos p)) (whole c) (over (pos 1) d)
    ∙ ap (λ y. y *ℚ (whole (pos p) *ℚ whole c)) (sym (over_is (pos w) d)
    ∙ over_equal_of_cross (pos w) (pos m) d e some positive (ap pos same) ∙ over_is (pos m) e)
    ∙ weight_out (whole (pos m)) (whole (pos p)) (whole c) (over (pos 1) e)
    ∙ ap (λ y. whole (pos m) *ℚ (y *ℚ whole c)) (sym (over_is (pos p) e))
  where
    weight_first : (w p c i : Fraction) → ((w *ℚ p) *ℚ c) *ℚ i ≡ (w *ℚ i) *ℚ (p *ℚ c)
    weight_first w p c i = ring (w ∷ p ∷ c ∷ i ∷ []) (hlevel terms) refl

    weight_out : (m p c i : Fraction) → (m *ℚ i) *ℚ (p *ℚ c) ≡ m *ℚ ((p *ℚ i) *ℚ c)
    weight_out m p c i = ring (m ∷ p ∷ c ∷ i ∷ []) (hlevel terms) refl

-- the sums of such terms
first_sum : (x xx xxx a b c d : Fraction) → xx ≡ x *ℚ x → xxx ≡ x *ℚ x *ℚ x
    → whole (pos 1) *ℚ (whole (pos 1) *ℚ a) +ℚ whole (pos 1) *ℚ (x *ℚ b) +ℚ whole (pos 1) *ℚ (xx *ℚ c)
    +ℚ whole (pos 1) *ℚ (xxx *ℚ d)
    ≡ a +ℚ x *ℚ b +ℚ (x *ℚ x) *ℚ c +ℚ (x *ℚ x *ℚ x) *ℚ d
first_sum x xx xxx a b c d square cube = rw (square, cube) (ring (x ∷ a ∷ b ∷ c ∷ d ∷ []) (hlevel terms) refl)

second_sum : (x xx b c d : Fraction) → xx ≡ x *ℚ x
    → whole (pos 1) *ℚ (whole (pos 1) *ℚ b) +ℚ whole (pos 2) *ℚ (x *ℚ c) +ℚ whole (pos 3) *ℚ (xx *ℚ d)
    ≡ b +ℚ whole (pos 2) *ℚ (x *ℚ c) +ℚ whole (pos 3) *ℚ ((x *ℚ x) *ℚ d)
second_sum x xx b c d square = rw square (ring (x ∷ b ∷ c ∷ d ∷ []) (hlevel terms) refl)

third_sum : (x c d : Fraction) → whole (pos 1) *ℚ (whole (pos 1) *ℚ c) +ℚ whole (pos 3) *ℚ (x *ℚ d)
    ≡ c +ℚ whole (pos 3) *ℚ (x *ℚ d)
third_sum x c d = ring (x ∷ c ∷ d ∷ []) (hlevel terms) refl

module _ (months : ℕ) (a b c d : ℤ) where
  abbrev x : Fraction
  x = over (pos months) 12

  square_is : over (pos (months * months)) 144 ≡ x *ℚ x
  square_is = sym (over_mul (pos months) (pos months) 12 12 (omega arith) (omega arith))

  cube_is : over (pos (months * months * months)) 1728 ≡ x *ℚ x *ℚ x
  cube_is = sym (over_mul (pos (months * months)) (pos months) 144 12 (omega arith) (omega arith))
      ∙ ap (λ y. y *ℚ x) square_is

  first_is : over (pos 1728 *ℤ a +ℤ pos (144 * months) *ℤ b +ℤ pos (12 * (months * months)) *ℤ c
      +ℤ pos (months * months * months) *ℤ d) 1728
      ≡ whole a +ℚ x *ℚ whole b +ℚ (x *ℚ x) *ℚ whole c +ℚ (x *ℚ x *ℚ x) *ℚ whole d
  first_is =
      let one : months * months * months ≡ 1 * (months * months * months) = omega arith in
      over_add _ (pos (months * months * months) *ℤ d) 1728
      ∙ ap₂ (λ y z. y +ℚ z)
      (over_add _ (pos (12 * (months * months)) *ℤ c) 1728 ∙ ap₂ (λ y z. y +ℚ z)
      (over_add (pos 1728 *ℤ a) (pos (144 * months) *ℤ b) 1728 ∙ ap₂ (λ y z. y +ℚ z)
      (term_is 1728 1 1 1728 1 a (omega arith) (omega arith) refl)
      (term_is 144 months 1 1728 12 b (omega arith) (omega arith) refl))
      (term_is 12 (months * months) 1 1728 144 c (omega arith) (omega arith) refl))
      (ap (λ n. over (pos n *ℤ d) 1728) one
      ∙ term_is 1 (months * months * months) 1 1728 1728 d (omega arith) (omega arith) refl)
      ∙ first_sum x _ _ (whole a) (whole b) (whole c) (whole d) square_is cube_is

  second_is : over (pos 144 *ℤ b +ℤ pos (24 * months) *ℤ c +ℤ pos (3 * (months * months)) *ℤ d) 144
      ≡ whole b +ℚ whole (pos 2) *ℚ (x *ℚ whole c) +ℚ whole (pos 3) *ℚ ((x *ℚ x) *ℚ whole d)
  second_is =
      over_add _ (pos (3 * (months * months)) *ℤ d) 144
      ∙ ap₂ (λ y z. y +ℚ z)
      (over_add (pos 144 *ℤ b) (pos (24 * months) *ℤ c) 144 ∙ ap₂ (λ y z. y +ℚ z)
      (term_is 144 1 1 144 1 b (omega arith) (omega arith) refl)
      (term_is 24 months 2 144 12 c (omega arith) (omega arith) refl))
      (term_is 3 (months * months) 3 144 144 d (omega arith) (omega arith) refl)
      ∙ second_sum x _ (whole b) (whole c) (whole d) square_is

  third_is : over (pos 12 *ℤ c +ℤ pos (3 * months) *ℤ d) 12 ≡ whole c +ℚ whole (pos 3) *ℚ (x *ℚ whole d)
  third_is =
      over_add (pos 12 *ℤ c) (pos (3 * months) *ℤ d) 12
      ∙ ap₂ (λ y z. y +ℚ z) (term_is 12 1 1 12 1 c (omega arith) (omega arith) refl)
      (term_is 3 months 3 12 12 d (omega arith) (omega arith) refl)
      ∙ third_sum x (whole c) (whole d)

  four_are : shifted x (whole a ∷ whole b ∷ whole c ∷ whole d ∷ [])
      ≡ over (get_or (numerators_later months (a ∷ b ∷ c ∷ d ∷ [])) 0 (pos 0)) 1728
      ∷ over (get_or (numerators_later months (a ∷ b ∷ c ∷ d ∷ [])) 1 (pos 0)) 144
      ∷ over (get_or (numerators_later months (a ∷ b ∷ c ∷ d ∷ [])) 2 (pos 0)) 12 ∷ whole d ∷ []
  four_are = shifted_four x (whole a) (whole b) (whole c) (whole d)
      ∙ sym (ap₂ (λ y p. y ∷ p) first_is (ap₂ (λ y p. y ∷ p) second_is (ap (λ y. y ∷ whole d ∷ []) third_is)))

-- the coefficients some months later are the numerators over their denominators
pub later_are : (months : ℕ) (c : List ℤ) → length c ≡ 4
    → shifted (over (pos months) 12) (all_over 1 c)
    ≡ over (get_or (numerators_later months c) 0 (pos 0)) 1728
    ∷ over (get_or (numerators_later months c) 1 (pos 0)) 144
    ∷ over (get_or (numerators_later months c) 2 (pos 0)) 12 ∷ whole (get_or c 3 (pos 0)) ∷ []
later_are months c four =
    ap (λ cs. shifted (over (pos months) 12) (all_over 1 cs)) (four_are_all c four)
    ∙ four_are months (get_or c 0 (pos 0)) (get_or c 1 (pos 0)) (get_or c 2 (pos 0)) (get_or c 3 (pos 0))

-- ---- whether they are whole

-- the quotient of a numerator at a place is whole
abbrev pub IsWholeAt : (months place denominator : ℕ) → List ℤ → Type 0
IsWholeAt months place denominator c =
    let n = get_or (numerators_later months c) place (pos 0) in
    whole (floor_of n (pos denominator)) ≡ over n denominator

module _ (months : ℕ) (c : List ℤ) (four : length c ≡ 4) where
  pub all_whole : IsWholeAt months 0 1728 c → IsWholeAt months 1 144 c → IsWholeAt months 2 12 c
      → AreWholeLater months c
  all_whole first second third =
      ap₂ (λ y p. y ∷ p) first (ap₂ (λ y p. y ∷ p) second (ap (λ y. y ∷ whole (get_or c 3 (pos 0)) ∷ []) third))
      ∙ sym (later_are months c four)

  pub first_whole : AreWholeLater months c → IsWholeAt months 0 1728 c
  first_whole all = let same = all ∙ later_are months c four in cc

  pub second_whole : AreWholeLater months c → IsWholeAt months 1 144 c
  second_whole all = let same = all ∙ later_are months c four in cc

  pub third_whole : AreWholeLater months c → IsWholeAt months 2 12 c
  third_whole all = let same = all ∙ later_are months c four in cc
