-- The inner form of an order: a gap that is not negative. `Linear` has the form that other files use.
use Rattle.std.specs.Prelude.{◌≡◌, ℕ, pos, Bool, true, false, List, [], ◌∷◌, refl, ◌&&◌, ◌||◌}
use Rattle.std.proofs.Common.{ap, sym, ◌∙◌}
use mathlib.Core.Path.{ap₂}
use mathlib.Core.Quot.{mk}
use Rattle.frac_base.specs.Pair.{Pair, is_natural}
use Rattle.frac_base.proofs.Ring.{Poly, none, more, worth, worth_of, normal_form, sound, all_nil, solve}
use Rattle.frac_base.proofs.Ring.{pick, ◌⊖◌, ◌⊕◌, mul_nil}
use Rattle.frac_base.proofs.WholeRing.{is_zero}
use Rattle.frac_laws.specs.Fraction.{Fraction, whole, opposite, is_not_negative}
use Rattle.frac_laws.specs.Fraction.{◌+ℚ◌ as ◌+◌, ◌*ℚ◌ as ◌*◌, ◌-ℚ◌ as ◌-◌, ◌≤ℚ◌ as ◌≤◌}
use Rattle.frac_laws.proofs.FractionRing.{fraction_ring, add_sign, mul_sign, mk-zero, mul_comm, mul_one}
use Rattle.frac_laws.proofs.FractionTerms.{ring, terms, Term, expr, eval-expr}

pub record NotNegative (x : Fraction) : Type 0 where
  pub sign : is_not_negative x ≡ true

pub gap : {x y : Fraction} → x ≤ y → NotNegative (y - x)
gap h = record { sign = h.le }

pub by_gap : {x y : Fraction} → NotNegative (y - x) → x ≤ y
by_gap h = record { le = h.sign }

pub add_gaps : {x y : Fraction} → NotNegative x → NotNegative y → NotNegative (x + y)
add_gaps {x} {y} h k = record { sign = add_sign x y h.sign k.sign }

pub mul_gaps : {x y : Fraction} → NotNegative x → NotNegative y → NotNegative (x * y)
mul_gaps {x} {y} h k = record { sign = mul_sign x y h.sign k.sign }

pub of_equal : {x y : Fraction} → x ≡ y → NotNegative y → NotNegative x
of_equal e h = rw e h

-- a numeral
pub of_natural : (p : Pair) → is_natural p.top ≡ true → NotNegative (mk p)
unfolding is_not_negative
of_natural p h = record { sign = h }

pub of_zero : NotNegative (whole (pos 0))
of_zero = of_natural _ refl

-- from 0 ≤ x and back
pub above_zero : {x : Fraction} → whole (pos 0) ≤ x → NotNegative x
above_zero {x} h = of_equal (ring (x ∷ []) (hlevel terms) refl) (gap h)

pub zero_below : {x : Fraction} → NotNegative x → whole (pos 0) ≤ x
zero_below {x} h = by_gap (of_equal (ring (x ∷ []) (hlevel terms) refl) h)

-- the polynomial has no terms but a constant that is not negative
abbrev pub is_constant : List ℕ → Bool
is_constant [] = true
is_constant (x ∷ xs) = false

abbrev pub is_natural_constant : Poly Pair → Bool
is_natural_constant none = true
is_natural_constant (more k m p) =
    (is_zero k.top || is_constant m && is_natural k.top) && is_natural_constant p

parts : (a b : Bool) → a && b ≡ true → (a ≡ true) × (b ≡ true)
parts true b h = (refl, h)
parts false b h = cc

constant : (k : Pair) (m : List ℕ) (values : ℕ → Fraction) → is_constant m && is_natural k.top ≡ true
    → NotNegative (mk k * worth_of fraction_ring values m)
unfolding worth_of
constant k [] values h = of_equal (mul_one _) (of_natural k h)
constant k (x ∷ xs) values h = cc

one_term : (z : Bool) (k : Pair) (m : List ℕ) (values : ℕ → Fraction) → is_zero k.top ≡ z
    → z || is_constant m && is_natural k.top ≡ true → NotNegative (mk k * worth_of fraction_ring values m)
one_term true k m values e h =
    of_equal (ap (λ x. x * worth_of fraction_ring values m) (mk-zero k e) ∙ mul_comm _ _
    ∙ mul_nil fraction_ring _) of_zero
one_term false k m values e h = constant k m values h

pub worth_natural : (values : ℕ → Fraction) (p : Poly Pair) → is_natural_constant p ≡ true
    → NotNegative (worth fraction_ring values p)
unfolding worth
worth_natural values none h = of_zero
worth_natural values (more k m p) h =
    let b = parts (is_zero k.top || is_constant m && is_natural k.top) (is_natural_constant p) h in
    add_gaps (one_term (is_zero k.top) k m values refl b.0) (worth_natural values p b.1)

-- how a, b and s are written
pub data Gaps (xs : List Fraction) : Fraction → Fraction → Fraction → Type 0 where
  gaps : {a b s : Fraction} → Term xs a → Term xs b → Term xs s → Gaps xs a b s

pub ruleset sides_of = (gaps, terms)

abbrev pub is_enough : {xs : List Fraction} {a b s : Fraction} → Gaps xs a b s → Bool
is_enough (gaps a b s) = is_natural_constant (normal_form fraction_ring (expr b ⊖ (expr a ⊕ expr s)))

rest : (xs : List Fraction) {a b s : Fraction} (u : Term xs a) (v : Term xs b) (t : Term xs s)
    → b - a ≡ worth fraction_ring (pick (whole (pos 0)) xs)
    (normal_form fraction_ring (expr v ⊖ (expr u ⊕ expr t))) + s
rest xs {a} {b} {s} u v t = ring (a ∷ b ∷ s ∷ []) (hlevel terms) refl
    ∙ ap (λ z. z + s) (sym (sound fraction_ring (pick (whole (pos 0)) xs) (expr v ⊖ (expr u ⊕ expr t))
    ∙ ap₂ (λ x y. x + opposite y) (eval-expr v) (ap₂ ◌+◌ (eval-expr u) (eval-expr t))))

-- a ≤ b from a gap s, where b - a - s is a numeral that is not negative
pub le_by_gap : (xs : List Fraction) {a b s : Fraction} → NotNegative s → (w : Gaps xs a b s)
    → is_enough w ≡ true → a ≤ b
le_by_gap xs {a} {b} {s} f (gaps u v t) h = by_gap (of_equal (rest xs u v t)
    (add_gaps (worth_natural (pick (whole (pos 0)) xs)
    (normal_form fraction_ring (expr v ⊖ (expr u ⊕ expr t))) h) f))

abbrev pub is_rest : {xs : List Fraction} {a b s : Fraction} → Gaps xs a b s → Bool
is_rest (gaps a b s) = all_nil fraction_ring (normal_form fraction_ring (expr b ⊖ (expr a ⊕ expr s)))

-- a ≡ b where s is 0 and b - a - s is 0 as a polynomial
pub equal_by_rest : (xs : List Fraction) {a b s : Fraction} → s ≡ whole (pos 0) → (w : Gaps xs a b s)
    → is_rest w ≡ true → a ≡ b
equal_by_rest xs {a} f (gaps u v t) h = sym (sym (eval-expr v)
    ∙ solve fraction_ring (pick (whole (pos 0)) xs) (expr v) (expr u ⊕ expr t) h
    ∙ ap₂ ◌+◌ (eval-expr u) (eval-expr t ∙ f) ∙ ring (a ∷ []) (hlevel terms) refl)
