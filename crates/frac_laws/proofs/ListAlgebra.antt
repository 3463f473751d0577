-- Sums and multiples of lists of fractions, as equations of lists.
use Rattle.std.specs.Prelude.{◌≡◌, suc, pos, List, [], ◌∷◌, length, refl}
use Rattle.std.proofs.Common.{ap, sym, ◌∙◌}
use mathlib.Core.Path.{ap₂}
use Rattle.frac_laws.specs.Fraction.{Fraction, whole, ◌+ℚ◌, ◌*ℚ◌}
use Rattle.frac_laws.specs.Lists.{add_lists, scale_list}
use Rattle.frac_laws.proofs.FractionTerms.{ring, terms}

pub add_lists-none : (u : List Fraction) → add_lists u [] ≡ u
add_lists-none [] = refl
add_lists-none (x ∷ u) = refl

pub add_lists-comm : (u v : List Fraction) → add_lists u v ≡ add_lists v u
add_lists-comm [] v = sym (add_lists-none v)
add_lists-comm (x ∷ u) [] = refl
add_lists-comm (x ∷ u) (y ∷ v) =
    ap₂ (λ z w. z ∷ w) (ring (x ∷ y ∷ []) (hlevel terms) refl) (add_lists-comm u v)

pub add_lists-assoc : (u v w : List Fraction)
    → add_lists (add_lists u v) w ≡ add_lists u (add_lists v w)
add_lists-assoc [] v w = refl
add_lists-assoc (x ∷ u) [] w = refl
add_lists-assoc (x ∷ u) (y ∷ v) [] = refl
add_lists-assoc (x ∷ u) (y ∷ v) (z ∷ w) =
    ap₂ (λ a b. a ∷ b) (ring (x ∷ y ∷ z ∷ []) (hlevel terms) refl) (add_lists-assoc u v w)

-- the two middle ones of four change places
pub add_lists-exchange : (a b c d : List Fraction)
    → add_lists (add_lists a b) (add_lists c d) ≡ add_lists (add_lists a c) (add_lists b d)
add_lists-exchange a b c d =
    add_lists-assoc a b (add_lists c d)
    ∙ ap (add_lists a) (sym (add_lists-assoc b c d) ∙ ap (λ z. add_lists z d) (add_lists-comm b c)
    ∙ add_lists-assoc c b d)
    ∙ sym (add_lists-assoc a c (add_lists b d))

pub scale_list-add_lists : (c : Fraction) (u v : List Fraction)
    → scale_list c (add_lists u v) ≡ add_lists (scale_list c u) (scale_list c v)
scale_list-add_lists c [] v = refl
scale_list-add_lists c (x ∷ u) [] = refl
scale_list-add_lists c (x ∷ u) (y ∷ v) =
    ap₂ (λ a b. a ∷ b) (ring (c ∷ x ∷ y ∷ []) (hlevel terms) refl) (scale_list-add_lists c u v)

pub scale_list-scale_list : (c d : Fraction) (u : List Fraction)
    → scale_list c (scale_list d u) ≡ scale_list (c *ℚ d) u
scale_list-scale_list c d [] = refl
scale_list-scale_list c d (x ∷ u) =
    ap₂ (λ a b. a ∷ b) (ring (c ∷ d ∷ x ∷ []) (hlevel terms) refl) (scale_list-scale_list c d u)

pub scale_list-swap : (c d : Fraction) (u : List Fraction)
    → scale_list c (scale_list d u) ≡ scale_list d (scale_list c u)
scale_list-swap c d [] = refl
scale_list-swap c d (x ∷ u) =
    ap₂ (λ a b. a ∷ b) (ring (c ∷ d ∷ x ∷ []) (hlevel terms) refl) (scale_list-swap c d u)

pub scale_list-sum : (c d : Fraction) (u : List Fraction)
    → scale_list (c +ℚ d) u ≡ add_lists (scale_list c u) (scale_list d u)
scale_list-sum c d [] = refl
scale_list-sum c d (x ∷ u) =
    ap₂ (λ a b. a ∷ b) (ring (c ∷ d ∷ x ∷ []) (hlevel terms) refl) (scale_list-sum c d u)

pub scale_list-one : (u : List Fraction) → scale_list (whole (pos 1)) u ≡ u
scale_list-one [] = refl
scale_list-one (x ∷ u) = ap₂ (λ a b. a ∷ b) (ring (x ∷ []) (hlevel terms) refl) (scale_list-one u)

pub length-scale_list : (c : Fraction) (u : List Fraction) → length (scale_list c u) ≡ length u
length-scale_list c [] = refl
length-scale_list c (x ∷ u) = ap suc (length-scale_list c u)
