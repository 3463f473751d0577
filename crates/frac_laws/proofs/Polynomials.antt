-- The laws of polynomials as lists: values, shifts, stretches, multiples.
use Rattle.std.specs.Prelude.{◌≡◌, ℕ, suc, ℤ, pos, negsuc, List, [], ◌∷◌, length, refl}
use Rattle.std.proofs.Common.{ap, sym, ◌∙◌}
use mathlib.Core.Path.{ap₂}
use Rattle.frac_laws.specs.Fraction.{Fraction, over, whole, opposite, ◌+ℚ◌, ◌*ℚ◌}
use Rattle.frac_laws.specs.Lists.{add_lists, scale_list}
use Rattle.frac_laws.specs.Polynomials.{value_at, times_linear, shifted, stretched, reflected, all_over}
use Rattle.frac_laws.proofs.FractionTerms.{ring, terms}
use Rattle.frac_laws.proofs.Quotients.{over_is}
use Rattle.frac_laws.proofs.ListAlgebra.{add_lists-none, add_lists-assoc}
use Rattle.frac_laws.proofs.ListAlgebra.{add_lists-exchange, scale_list-add_lists, scale_list-scale_list}
use Rattle.frac_laws.proofs.ListAlgebra.{scale_list-swap, scale_list-sum, length-scale_list}

-- values
pub value_at-add_lists : (p q : List Fraction) (x : Fraction)
    → value_at (add_lists p q) x ≡ value_at p x +ℚ value_at q x
value_at-add_lists [] q x = ring (value_at q x ∷ []) (hlevel terms) refl
value_at-add_lists (c ∷ p) [] x = ring (c ∷ x ∷ value_at p x ∷ []) (hlevel terms) refl
value_at-add_lists (c ∷ p) (d ∷ q) x = rw (value_at-add_lists p q x)
    (ring (c ∷ d ∷ x ∷ value_at p x ∷ value_at q x ∷ []) (hlevel terms) refl)

pub value_at-scale_list : (c : Fraction) (p : List Fraction) (x : Fraction)
    → value_at (scale_list c p) x ≡ c *ℚ value_at p x
value_at-scale_list c [] x = ring (c ∷ []) (hlevel terms) refl
value_at-scale_list c (d ∷ p) x = rw (value_at-scale_list c p x)
    (ring (c ∷ d ∷ x ∷ value_at p x ∷ []) (hlevel terms) refl)

value_at-times_linear : (b : Fraction) (p : List Fraction) (x : Fraction)
    → value_at (times_linear b p) x ≡ (b +ℚ x) *ℚ value_at p x
value_at-times_linear b p x =
    value_at-add_lists (scale_list b p) (whole (pos 0) ∷ p) x
    ∙ ap (λ z. z +ℚ (whole (pos 0) +ℚ x *ℚ value_at p x)) (value_at-scale_list b p x)
    ∙ ring (b ∷ x ∷ value_at p x ∷ []) (hlevel terms) refl

pub value_at-shifted : (b : Fraction) (p : List Fraction) (x : Fraction)
    → value_at (shifted b p) x ≡ value_at p (b +ℚ x)
value_at-shifted b [] x = refl
value_at-shifted b (c ∷ p) x =
    value_at-add_lists (c ∷ []) (times_linear b (shifted b p)) x
    ∙ ap (λ z. c +ℚ x *ℚ whole (pos 0) +ℚ z) (value_at-times_linear b (shifted b p) x
    ∙ ap (λ z. (b +ℚ x) *ℚ z) (value_at-shifted b p x))
    ∙ ring (b ∷ c ∷ x ∷ value_at p (b +ℚ x) ∷ []) (hlevel terms) refl

pub value_at-stretched : (h : Fraction) (p : List Fraction) (x : Fraction)
    → value_at (stretched h p) x ≡ value_at p (h *ℚ x)
value_at-stretched h [] x = refl
value_at-stretched h (c ∷ p) x =
    ap (λ z. c +ℚ x *ℚ z) (value_at-scale_list h (stretched h p) x
    ∙ ap (λ z. h *ℚ z) (value_at-stretched h p x))
    ∙ ring (h ∷ c ∷ x ∷ value_at p (h *ℚ x) ∷ []) (hlevel terms) refl

pub value_at-reflected : (p : List Fraction) (x : Fraction)
    → value_at (reflected p) x ≡ value_at p (opposite x)
value_at-reflected p x = value_at-stretched (whole (negsuc 0)) p x
    ∙ ap (value_at p) (ring (x ∷ []) (hlevel terms) refl)

-- products with b + x
pub times_linear-add_lists : (b : Fraction) (p q : List Fraction)
    → times_linear b (add_lists p q) ≡ add_lists (times_linear b p) (times_linear b q)
times_linear-add_lists b p q =
    ap₂ (λ z w. add_lists z (w ∷ add_lists p q)) (scale_list-add_lists b p q) (ring [] (hlevel terms) refl)
    ∙ add_lists-exchange (scale_list b p) (scale_list b q) (whole (pos 0) ∷ p) (whole (pos 0) ∷ q)

pub times_linear-scale_list : (b c : Fraction) (p : List Fraction)
    → times_linear b (scale_list c p) ≡ scale_list c (times_linear b p)
times_linear-scale_list b c p =
    ap₂ (λ z w. add_lists z (w ∷ scale_list c p)) (scale_list-swap b c p) (ring (c ∷ []) (hlevel terms) refl)
    ∙ sym (scale_list-add_lists c (scale_list b p) (whole (pos 0) ∷ p))

-- a product with b + x has a first coefficient, to which 0 adds nothing
pub zero-times_linear : (b : Fraction) (p : List Fraction)
    → add_lists (whole (pos 0) ∷ []) (times_linear b p) ≡ times_linear b p
zero-times_linear b [] = ap (λ z. z ∷ []) (ring [] (hlevel terms) refl)
zero-times_linear b (c ∷ p) =
    ap (λ z. z ∷ add_lists (scale_list b p) (c ∷ p)) (ring (b ∷ c ∷ []) (hlevel terms) refl)

-- shifts
pub shifted-add_lists : (b : Fraction) (p q : List Fraction)
    → shifted b (add_lists p q) ≡ add_lists (shifted b p) (shifted b q)
shifted-add_lists b [] q = refl
shifted-add_lists b (c ∷ p) [] = sym (add_lists-none (shifted b (c ∷ p)))
shifted-add_lists b (c ∷ p) (d ∷ q) =
    ap (λ z. add_lists ((c +ℚ d) ∷ []) z) (ap (times_linear b) (shifted-add_lists b p q)
    ∙ times_linear-add_lists b (shifted b p) (shifted b q))
    ∙ add_lists-exchange (c ∷ []) (d ∷ []) (times_linear b (shifted b p)) (times_linear b (shifted b q))

pub shifted-scale_list : (b c : Fraction) (p : List Fraction)
    → shifted b (scale_list c p) ≡ scale_list c (shifted b p)
shifted-scale_list b c [] = refl
shifted-scale_list b c (d ∷ p) =
    ap (λ z. add_lists ((c *ℚ d) ∷ []) z) (ap (times_linear b) (shifted-scale_list b c p)
    ∙ times_linear-scale_list b c (shifted b p))
    ∙ sym (scale_list-add_lists c (d ∷ []) (times_linear b (shifted b p)))

pub shifted-times_linear : (a b : Fraction) (p : List Fraction)
    → shifted a (times_linear b p) ≡ times_linear (b +ℚ a) (shifted a p)
shifted-times_linear a b p =
    shifted-add_lists a (scale_list b p) (whole (pos 0) ∷ p)
    ∙ ap₂ add_lists (shifted-scale_list a b p) (zero-times_linear a (shifted a p))
    ∙ sym (add_lists-assoc (scale_list b (shifted a p)) (scale_list a (shifted a p))
    (whole (pos 0) ∷ shifted a p))
    ∙ ap (λ z. add_lists z (whole (pos 0) ∷ shifted a p)) (sym (scale_list-sum b a (shifted a p)))

pub shifted-shifted : (a b : Fraction) (p : List Fraction) → shifted a (shifted b p) ≡ shifted (b +ℚ a) p
shifted-shifted a b [] = refl
shifted-shifted a b (c ∷ p) =
    shifted-add_lists a (c ∷ []) (times_linear b (shifted b p))
    ∙ ap₂ (λ z w. add_lists (z ∷ []) w) (ring (c ∷ []) (hlevel terms) refl)
    (shifted-times_linear a b (shifted b p) ∙ ap (times_linear (b +ℚ a)) (shifted-shifted a b p))

-- stretches
pub stretched-scale_list : (h c : Fraction) (p : List Fraction)
    → stretched h (scale_list c p) ≡ scale_list c (stretched h p)
stretched-scale_list h c [] = refl
stretched-scale_list h c (d ∷ p) =
    ap (λ z. (c *ℚ d) ∷ z) (ap (scale_list h) (stretched-scale_list h c p) ∙ scale_list-swap h c (stretched h p))

pub stretched-add_lists : (h : Fraction) (p q : List Fraction)
    → stretched h (add_lists p q) ≡ add_lists (stretched h p) (stretched h q)
stretched-add_lists h [] q = refl
stretched-add_lists h (c ∷ p) [] = refl
stretched-add_lists h (c ∷ p) (d ∷ q) =
    ap (λ z. (c +ℚ d) ∷ z) (ap (scale_list h) (stretched-add_lists h p q)
    ∙ scale_list-add_lists h (stretched h p) (stretched h q))

pub stretched-stretched : (g h : Fraction) (p : List Fraction)
    → stretched g (stretched h p) ≡ stretched (g *ℚ h) p
stretched-stretched g h [] = refl
stretched-stretched g h (c ∷ p) =
    ap (λ z. c ∷ z) (ap (scale_list g) (stretched-scale_list g h (stretched h p))
    ∙ scale_list-scale_list g h (stretched g (stretched h p))
    ∙ ap (scale_list (g *ℚ h)) (stretched-stretched g h p))

pub stretched-times_linear : (h b : Fraction) (p : List Fraction)
    → stretched h (times_linear (h *ℚ b) p) ≡ times_linear b (scale_list h (stretched h p))
stretched-times_linear h b p =
    stretched-add_lists h (scale_list (h *ℚ b) p) (whole (pos 0) ∷ p)
    ∙ ap (λ z. add_lists z (whole (pos 0) ∷ scale_list h (stretched h p)))
    (stretched-scale_list h (h *ℚ b) p ∙ sym (scale_list-scale_list h b (stretched h p))
    ∙ scale_list-swap h b (stretched h p))

pub shifted-stretched : (s h : Fraction) (p : List Fraction)
    → shifted s (stretched h p) ≡ stretched h (shifted (h *ℚ s) p)
shifted-stretched s h [] = refl
shifted-stretched s h (c ∷ p) =
    ap (λ z. add_lists (c ∷ []) (times_linear s z)) (shifted-scale_list s h (stretched h p)
    ∙ ap (scale_list h) (shifted-stretched s h p))
    ∙ ap (add_lists (c ∷ [])) (sym (stretched-times_linear h s (shifted (h *ℚ s) p)))
    ∙ sym (stretched-add_lists h (c ∷ []) (times_linear (h *ℚ s) (shifted (h *ℚ s) p)))

-- lengths
length-times_linear : (b : Fraction) (p : List Fraction) → length (times_linear b p) ≡ suc (length p)
length-times_linear b [] = refl
length-times_linear b (c ∷ p) = ap suc (length-added b c p)
  where
    length-added : (b c : Fraction) (p : List Fraction)
        → length (add_lists (scale_list b p) (c ∷ p)) ≡ suc (length p)
    length-added b c [] = refl
    length-added b c (d ∷ p) = ap suc (length-added b d p)

pub length-shifted : (b : Fraction) (p : List Fraction) → length (shifted b p) ≡ length p
length-shifted b [] = refl
length-shifted b (c ∷ p) = length-constant c b (shifted b p) ∙ ap suc (length-shifted b p)
  where
    length-constant : (c b : Fraction) (p : List Fraction)
        → length (add_lists (c ∷ []) (times_linear b p)) ≡ suc (length p)
    length-constant c b [] = refl
    length-constant c b (d ∷ p) = length-times_linear b (d ∷ p)

pub length-stretched : (h : Fraction) (p : List Fraction) → length (stretched h p) ≡ length p
length-stretched h [] = refl
length-stretched h (c ∷ p) =
    ap suc (length-scale_list h (stretched h p) ∙ length-stretched h p)

-- denominators
pub all_over-factor : (d : ℕ) (ns : List ℤ)
    → all_over d ns ≡ scale_list (over (pos 1) d) (all_over 1 ns)
all_over-factor d [] = refl
all_over-factor d (n ∷ ns) = ap₂ (λ z w. z ∷ w) (over_is n d
    ∙ ring (whole n ∷ over (pos 1) d ∷ []) (hlevel terms) refl) (all_over-factor d ns)
