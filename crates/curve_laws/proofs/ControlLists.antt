-- Control lists: sequences of which the numbers 0 to n count, as Bernstein coefficients of degree n, and the
-- polynomials that they give.
use Rattle.std.proofs.Common.{◌≡◌, ℕ, zero, suc, pos, List, [], ◌∷◌, length, refl, ap, sym, ◌∙◌, arith}
use mathlib.Core.Path.{ap₂, fun_ext}
use Rattle.frac_laws.specs.Fraction.{Fraction, whole, ◌+ℚ◌, ◌-ℚ◌, ◌*ℚ◌}
use Rattle.frac_laws.specs.Lists.{add_lists, scale_list}
use Rattle.frac_laws.specs.Polynomials.{shifted, stretched}
use Rattle.frac_laws.specs.Bernstein.{bernstein_coefficient}
use Rattle.frac_laws.proofs.FractionTerms.{ring, terms}
use Rattle.frac_laws.proofs.ListAlgebra.{add_lists-assoc, add_lists-exchange, scale_list-add_lists, scale_list-swap}
use Rattle.frac_laws.proofs.Polynomials.{shifted-add_lists, stretched-add_lists}
use Rattle.frac_laws.proofs.Polynomials.{stretched-scale_list, zero-times_linear}
use Rattle.curve_laws.specs.PartLaws.{part_of}

-- the differences of neighbours, and the numbers a part s of the way from each to the next
abbrev pub differences : (ℕ → Fraction) → ℕ → Fraction
differences b j = b (suc j) -ℚ b j

abbrev pub mixed : Fraction → (ℕ → Fraction) → ℕ → Fraction
mixed s b j = b j +ℚ s *ℚ differences b j

-- the polynomial of a control list of degree n
abbrev pub power_form : ℕ → (ℕ → Fraction) → List Fraction
power_form zero b = b 0 ∷ []
power_form (suc n) b = add_lists (power_form n b) (whole (pos 0) ∷ power_form n (differences b))

-- the polynomial of the part from s on of length d
abbrev pub part_form : ℕ → Fraction → Fraction → (ℕ → Fraction) → List Fraction
part_form zero s d b = b 0 ∷ []
part_form (suc n) s d b =
    add_lists (part_form n s d (mixed s b)) (whole (pos 0) ∷ scale_list d (part_form n s d (differences b)))

-- linear in the control list
abbrev pub combined : (ℕ → Fraction) → Fraction → (ℕ → Fraction) → ℕ → Fraction
combined b e c j = b j +ℚ e *ℚ c j

mixed-combined : (s e : Fraction) (b c : ℕ → Fraction) → mixed s (combined b e c) ≡ combined (mixed s b) e (mixed s c)
mixed-combined s e b c =
    fun_ext (λ j. ring (s ∷ e ∷ b j ∷ b (suc j) ∷ c j ∷ c (suc j) ∷ []) (hlevel terms) refl)

differences-combined : (e : Fraction) (b c : ℕ → Fraction)
    → differences (combined b e c) ≡ combined (differences b) e (differences c)
differences-combined e b c =
    fun_ext (λ j. ring (e ∷ b j ∷ b (suc j) ∷ c j ∷ c (suc j) ∷ []) (hlevel terms) refl)

pub part_form-combined : (n : ℕ) (s d e : Fraction) (b c : ℕ → Fraction)
    → part_form n s d (combined b e c) ≡ add_lists (part_form n s d b) (scale_list e (part_form n s d c))
part_form-combined zero s d e b c = refl
part_form-combined (suc n) s d e b c =
    ap₂ (λ x y. add_lists x (whole (pos 0) ∷ scale_list d y))
    (ap (part_form n s d) (mixed-combined s e b c) ∙ part_form-combined n s d e (mixed s b) (mixed s c))
    (ap (part_form n s d) (differences-combined e b c)
    ∙ part_form-combined n s d e (differences b) (differences c))
    ∙ ap (λ y. add_lists (add_lists mb (scale_list e mc)) (whole (pos 0) ∷ y))
    (scale_list-add_lists d db (scale_list e dc) ∙ ap (add_lists (scale_list d db)) (scale_list-swap d e dc))
    ∙ ap (λ z. add_lists (add_lists mb (scale_list e mc)) (z ∷ add_lists (scale_list d db) (scale_list e
    (scale_list d dc))))
    (ring (e ∷ []) (hlevel terms) refl)
    ∙ add_lists-exchange mb (scale_list e mc) (whole (pos 0) ∷ scale_list d db)
    ((e *ℚ whole (pos 0)) ∷ scale_list e (scale_list d dc))
    ∙ ap (add_lists (add_lists mb (whole (pos 0) ∷ scale_list d db)))
    (sym (scale_list-add_lists e mc (whole (pos 0) ∷ scale_list d dc)))
  where
    mb : List Fraction
    mb = part_form n s d (mixed s b)

    mc : List Fraction
    mc = part_form n s d (mixed s c)

    db : List Fraction
    db = part_form n s d (differences b)

    dc : List Fraction
    dc = part_form n s d (differences c)

-- the part of a sum, and of x p
part_of-add_lists : (s d : Fraction) (p q : List Fraction)
    → part_of s d (add_lists p q) ≡ add_lists (part_of s d p) (part_of s d q)
part_of-add_lists s d p q =
    ap (stretched d) (shifted-add_lists s p q) ∙ stretched-add_lists d (shifted s p) (shifted s q)

part_of-next : (s d : Fraction) (p : List Fraction)
    → part_of s d (whole (pos 0) ∷ p)
    ≡ add_lists (scale_list s (part_of s d p)) (whole (pos 0) ∷ scale_list d (part_of s d p))
part_of-next s d p =
    ap (stretched d) (zero-times_linear s (shifted s p))
    ∙ stretched-add_lists d (scale_list s (shifted s p)) (whole (pos 0) ∷ shifted s p)
    ∙ ap (λ z. add_lists z (whole (pos 0) ∷ scale_list d (stretched d (shifted s p))))
    (stretched-scale_list d s (shifted s p))

-- the part of a control list's polynomial
pub part_of-power_form : (n : ℕ) (s d : Fraction) (b : ℕ → Fraction)
    → part_of s d (power_form n b) ≡ part_form n s d b
part_of-power_form zero s d b = ap (λ z. z ∷ []) (ring (b 0 ∷ []) (hlevel terms) refl)
part_of-power_form (suc n) s d b =
    part_of-add_lists s d (power_form n b) (whole (pos 0) ∷ power_form n (differences b))
    ∙ ap₂ add_lists (part_of-power_form n s d b)
    (part_of-next s d (power_form n (differences b))
    ∙ ap (λ q. add_lists (scale_list s q) (whole (pos 0) ∷ scale_list d q)) (part_of-power_form n s d (differences b)))
    ∙ sym (add_lists-assoc (part_form n s d b) (scale_list s (part_form n s d (differences b)))
    (whole (pos 0) ∷ scale_list d (part_form n s d (differences b))))
    ∙ ap (λ q. add_lists q (whole (pos 0) ∷ scale_list d (part_form n s d (differences b))))
    (sym (part_form-combined n s d s b (differences b)))

-- the Bernstein coefficients of degree five give the polynomial back
six_power_form : (a0 a1 a2 a3 a4 a5 : Fraction)
    → power_form 5 (bernstein_coefficient (a0 ∷ a1 ∷ a2 ∷ a3 ∷ a4 ∷ a5 ∷ [])) ≡ a0 ∷ a1 ∷ a2 ∷ a3 ∷ a4 ∷ a5 ∷ []
six_power_form a0 a1 a2 a3 a4 a5 =
    ap₂ (λ z w. z ∷ w) (ring (a0 ∷ a1 ∷ a2 ∷ a3 ∷ a4 ∷ a5 ∷ []) (hlevel terms) refl)
    (ap₂ (λ z w. z ∷ w) (ring (a0 ∷ a1 ∷ a2 ∷ a3 ∷ a4 ∷ a5 ∷ []) (hlevel terms) refl)
    (ap₂ (λ z w. z ∷ w) (ring (a0 ∷ a1 ∷ a2 ∷ a3 ∷ a4 ∷ a5 ∷ []) (hlevel terms) refl)
    (ap₂ (λ z w. z ∷ w) (ring (a0 ∷ a1 ∷ a2 ∷ a3 ∷ a4 ∷ a5 ∷ []) (hlevel terms) refl)
    (ap₂ (λ z w. z ∷ w) (ring (a0 ∷ a1 ∷ a2 ∷ a3 ∷ a4 ∷ a5 ∷ []) (hlevel terms) refl)
    (ap (λ z. z ∷ []) (ring (a0 ∷ a1 ∷ a2 ∷ a3 ∷ a4 ∷ a5 ∷ []) (hlevel terms) refl))))))

pub bernstein-power_form : (p : List Fraction) → length p ≡ 6 → power_form 5 (bernstein_coefficient p) ≡ p
bernstein-power_form [] h = absurd (omega arith)
bernstein-power_form (a ∷ []) h = absurd (omega arith)
bernstein-power_form (a ∷ b ∷ []) h = absurd (omega arith)
bernstein-power_form (a ∷ b ∷ c ∷ []) h = absurd (omega arith)
bernstein-power_form (a ∷ b ∷ c ∷ d ∷ []) h = absurd (omega arith)
bernstein-power_form (a ∷ b ∷ c ∷ d ∷ e ∷ []) h = absurd (omega arith)
bernstein-power_form (a ∷ b ∷ c ∷ d ∷ e ∷ f ∷ []) h = six_power_form a b c d e f
bernstein-power_form (a ∷ b ∷ c ∷ d ∷ e ∷ f ∷ g ∷ p) h = absurd (omega arith)

-- so a part of a polynomial is a part of its Bernstein coefficients
pub part_of-bernstein : (p : List Fraction) (s d : Fraction) → length p ≡ 6
    → part_of s d p ≡ part_form 5 s d (bernstein_coefficient p)
part_of-bernstein p s d h =
    ap (part_of s d) (sym (bernstein-power_form p h)) ∙ part_of-power_form 5 s d (bernstein_coefficient p)
