-- Ring identities between fractions in one line: the list of the terms that count as variables, then
-- `ring xs (hlevel terms) refl`.
use Rattle.std.specs.Prelude.{◌≡◌, Bool, true, List, ◌∷◌, pos}
use Rattle.std.proofs.Common.{refl, ap, sym, ◌∙◌}
use mathlib.Core.Path.{ap₂}
use mathlib.Core.Quot.{mk}
use Rattle.frac_base.specs.Pair.{Pair}
use Rattle.frac_base.proofs.Ring.{Expr, con, var, ◌⊕◌, ◌⊗◌, ◌⊖◌, minus, normal_form, all_nil, eval, solve}
use Rattle.frac_base.proofs.Ring.{pick}
use Rattle.frac_laws.specs.Fraction.{Fraction, whole, opposite, ◌+ℚ◌ as ◌+◌, ◌*ℚ◌ as ◌*◌, ◌-ℚ◌ as ◌-◌}
use Rattle.frac_laws.proofs.FractionRing.{fraction_ring}

-- the way in which a fraction is written over a list of variables
pub data Term : List Fraction → Fraction → Type 0 where
  v0 : {a : Fraction} {xs : List Fraction} → Term (a ∷ xs) a
  v1 : {a x0 : Fraction} {xs : List Fraction} → Term (x0 ∷ a ∷ xs) a
  v2 : {a x0 x1 : Fraction} {xs : List Fraction} → Term (x0 ∷ x1 ∷ a ∷ xs) a
  v3 : {a x0 x1 x2 : Fraction} {xs : List Fraction} → Term (x0 ∷ x1 ∷ x2 ∷ a ∷ xs) a
  v4 : {a x0 x1 x2 x3 : Fraction} {xs : List Fraction} → Term (x0 ∷ x1 ∷ x2 ∷ x3 ∷ a ∷ xs) a
  v5 : {a x0 x1 x2 x3 x4 : Fraction} {xs : List Fraction} → Term (x0 ∷ x1 ∷ x2 ∷ x3 ∷ x4 ∷ a ∷ xs) a
  v6 : {a x0 x1 x2 x3 x4 x5 : Fraction} {xs : List Fraction} → Term (x0 ∷ x1 ∷ x2 ∷ x3 ∷ x4 ∷ x5 ∷ a ∷ xs) a
  v7 : {a x0 x1 x2 x3 x4 x5 x6 : Fraction} {xs : List Fraction}
      → Term (x0 ∷ x1 ∷ x2 ∷ x3 ∷ x4 ∷ x5 ∷ x6 ∷ a ∷ xs) a
  v8 : {a x0 x1 x2 x3 x4 x5 x6 x7 : Fraction} {xs : List Fraction}
      → Term (x0 ∷ x1 ∷ x2 ∷ x3 ∷ x4 ∷ x5 ∷ x6 ∷ x7 ∷ a ∷ xs) a
  v9 : {a x0 x1 x2 x3 x4 x5 x6 x7 x8 : Fraction} {xs : List Fraction}
      → Term (x0 ∷ x1 ∷ x2 ∷ x3 ∷ x4 ∷ x5 ∷ x6 ∷ x7 ∷ x8 ∷ a ∷ xs) a
  v10 : {a x0 x1 x2 x3 x4 x5 x6 x7 x8 x9 : Fraction} {xs : List Fraction}
      → Term (x0 ∷ x1 ∷ x2 ∷ x3 ∷ x4 ∷ x5 ∷ x6 ∷ x7 ∷ x8 ∷ x9 ∷ a ∷ xs) a
  v11 : {a x0 x1 x2 x3 x4 x5 x6 x7 x8 x9 x10 : Fraction} {xs : List Fraction}
      → Term (x0 ∷ x1 ∷ x2 ∷ x3 ∷ x4 ∷ x5 ∷ x6 ∷ x7 ∷ x8 ∷ x9 ∷ x10 ∷ a ∷ xs) a
  add : {xs : List Fraction} {a b : Fraction} → Term xs a → Term xs b → Term xs (a + b)
  sub : {xs : List Fraction} {a b : Fraction} → Term xs a → Term xs b → Term xs (a - b)
  mul : {xs : List Fraction} {a b : Fraction} → Term xs a → Term xs b → Term xs (a * b)
  neg : {xs : List Fraction} {a : Fraction} → Term xs a → Term xs (opposite a)
  num : {xs : List Fraction} (p : Pair) → Term xs (mk p)

-- the two sides of an identity
pub data Sides (xs : List Fraction) : Fraction → Fraction → Type 0 where
  sides : {a b : Fraction} → Term xs a → Term xs b → Sides xs a b

pub ruleset terms = (sides, v0, v1, v2, v3, v4, v5, v6, v7, v8, v9, v10, v11, add, sub, mul, neg, num)

-- the same as an expression of the solver
abbrev pub expr : {xs : List Fraction} {a : Fraction} → Term xs a → Expr Pair
expr v0 = var 0
expr v1 = var 1
expr v2 = var 2
expr v3 = var 3
expr v4 = var 4
expr v5 = var 5
expr v6 = var 6
expr v7 = var 7
expr v8 = var 8
expr v9 = var 9
expr v10 = var 10
expr v11 = var 11
expr (num p) = con p
expr (add s t) = expr s ⊕ expr t
expr (sub s t) = expr s ⊖ expr t
expr (mul s t) = expr s ⊗ expr t
expr (neg s) = minus (expr s)

abbrev pub is_same : {xs : List Fraction} {a b : Fraction} → Sides xs a b → Bool
is_same (sides s t) = all_nil fraction_ring (normal_form fraction_ring (expr s ⊖ expr t))

pub eval-expr : {xs : List Fraction} {a : Fraction} (t : Term xs a)
    → eval fraction_ring (pick (whole (pos 0)) xs) (expr t) ≡ a
unfolding ◌-◌
eval-expr v0 = refl
eval-expr v1 = refl
eval-expr v2 = refl
eval-expr v3 = refl
eval-expr v4 = refl
eval-expr v5 = refl
eval-expr v6 = refl
eval-expr v7 = refl
eval-expr v8 = refl
eval-expr v9 = refl
eval-expr v10 = refl
eval-expr v11 = refl
eval-expr (num p) = refl
eval-expr (add s t) = ap₂ ◌+◌ (eval-expr s) (eval-expr t)
eval-expr (sub s t) = ap₂ ◌-◌ (eval-expr s) (eval-expr t)
eval-expr (mul s t) = ap₂ ◌*◌ (eval-expr s) (eval-expr t)
eval-expr (neg s) = ap opposite (eval-expr s)

-- an identity that holds in each commutative ring
pub ring : (xs : List Fraction) {a b : Fraction} (w : Sides xs a b) → is_same w ≡ true → a ≡ b
ring xs (sides s t) h =
    sym (eval-expr s) ∙ solve fraction_ring (pick (whole (pos 0)) xs) (expr s) (expr t) h ∙ eval-expr t
