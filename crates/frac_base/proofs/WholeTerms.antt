-- Ring identities between whole numbers in one line: the list of the terms that count as variables, then
-- `ring xs (hlevel terms) refl`.
use Rattle.std.specs.Prelude.{◌≡◌, ℕ, ℤ, pos, ◌+ℤ◌, ◌-ℤ◌, ◌*ℤ◌, neg_ℤ, Bool, true, List, ◌∷◌}
use Rattle.std.proofs.Common.{refl, ap, sym, ◌∙◌}
use mathlib.Core.Path.{ap₂}
use Rattle.frac_base.proofs.Ring.{Expr, con, var, ◌⊕◌, ◌⊗◌, ◌⊖◌, minus, normal_form, all_nil, eval, pick}
use Rattle.frac_base.proofs.WholeRing.{whole_ring, same_value}

-- the way in which a whole number is written over a list of variables
pub data Term : List ℤ → ℤ → Type 0 where
  v0 : {a : ℤ} {xs : List ℤ} → Term (a ∷ xs) a
  v1 : {a x0 : ℤ} {xs : List ℤ} → Term (x0 ∷ a ∷ xs) a
  v2 : {a x0 x1 : ℤ} {xs : List ℤ} → Term (x0 ∷ x1 ∷ a ∷ xs) a
  v3 : {a x0 x1 x2 : ℤ} {xs : List ℤ} → Term (x0 ∷ x1 ∷ x2 ∷ a ∷ xs) a
  v4 : {a x0 x1 x2 x3 : ℤ} {xs : List ℤ} → Term (x0 ∷ x1 ∷ x2 ∷ x3 ∷ a ∷ xs) a
  v5 : {a x0 x1 x2 x3 x4 : ℤ} {xs : List ℤ} → Term (x0 ∷ x1 ∷ x2 ∷ x3 ∷ x4 ∷ a ∷ xs) a
  v6 : {a x0 x1 x2 x3 x4 x5 : ℤ} {xs : List ℤ} → Term (x0 ∷ x1 ∷ x2 ∷ x3 ∷ x4 ∷ x5 ∷ a ∷ xs) a
  v7 : {a x0 x1 x2 x3 x4 x5 x6 : ℤ} {xs : List ℤ} → Term (x0 ∷ x1 ∷ x2 ∷ x3 ∷ x4 ∷ x5 ∷ x6 ∷ a ∷ xs) a
  v8 : {a x0 x1 x2 x3 x4 x5 x6 x7 : ℤ} {xs : List ℤ} → Term (x0 ∷ x1 ∷ x2 ∷ x3 ∷ x4 ∷ x5 ∷ x6 ∷ x7 ∷ a ∷ xs) a
  v9 : {a x0 x1 x2 x3 x4 x5 x6 x7 x8 : ℤ} {xs : List ℤ}
      → Term (x0 ∷ x1 ∷ x2 ∷ x3 ∷ x4 ∷ x5 ∷ x6 ∷ x7 ∷ x8 ∷ a ∷ xs) a
  v10 : {a x0 x1 x2 x3 x4 x5 x6 x7 x8 x9 : ℤ} {xs : List ℤ}
      → Term (x0 ∷ x1 ∷ x2 ∷ x3 ∷ x4 ∷ x5 ∷ x6 ∷ x7 ∷ x8 ∷ x9 ∷ a ∷ xs) a
  v11 : {a x0 x1 x2 x3 x4 x5 x6 x7 x8 x9 x10 : ℤ} {xs : List ℤ}
      → Term (x0 ∷ x1 ∷ x2 ∷ x3 ∷ x4 ∷ x5 ∷ x6 ∷ x7 ∷ x8 ∷ x9 ∷ x10 ∷ a ∷ xs) a
  num : {xs : List ℤ} (n : ℕ) → Term xs (pos n)
  add : {xs : List ℤ} {a b : ℤ} → Term xs a → Term xs b → Term xs (a +ℤ b)
  sub : {xs : List ℤ} {a b : ℤ} → Term xs a → Term xs b → Term xs (a -ℤ b)
  mul : {xs : List ℤ} {a b : ℤ} → Term xs a → Term xs b → Term xs (a *ℤ b)
  neg : {xs : List ℤ} {a : ℤ} → Term xs a → Term xs (neg_ℤ a)

-- the same as an expression of the solver
abbrev pub expr : {xs : List ℤ} {a : ℤ} → Term xs a → Expr ℤ
expr v0 = var 0
expr v1 = var 1
expr v2 = var 2
expr v3 = var 3
expr v4 = var 4
expr v5 = var 5
expr v6 = var 6
expr v7 = var 7
expr v8 = var 8
expr v9 = var 9
expr v10 = var 10
expr v11 = var 11
expr (num n) = con (pos n)
expr (add s t) = expr s ⊕ expr t
expr (sub s t) = expr s ⊖ expr t
expr (mul s t) = expr s ⊗ expr t
expr (neg s) = minus (expr s)

eval-expr : {xs : List ℤ} {a : ℤ} (t : Term xs a) → eval whole_ring (pick (pos 0) xs) (expr t) ≡ a
eval-expr v0 = refl
eval-expr v1 = refl
eval-expr v2 = refl
eval-expr v3 = refl
eval-expr v4 = refl
eval-expr v5 = refl
eval-expr v6 = refl
eval-expr v7 = refl
eval-expr v8 = refl
eval-expr v9 = refl
eval-expr v10 = refl
eval-expr v11 = refl
eval-expr (num n) = refl
eval-expr (add s t) = ap₂ ◌+ℤ◌ (eval-expr s) (eval-expr t)
eval-expr (sub s t) = ap₂ ◌-ℤ◌ (eval-expr s) (eval-expr t)
eval-expr (mul s t) = ap₂ ◌*ℤ◌ (eval-expr s) (eval-expr t)
eval-expr (neg s) = ap neg_ℤ (eval-expr s)

-- the two sides of an identity
pub data Sides (xs : List ℤ) : ℤ → ℤ → Type 0 where
  sides : {a b : ℤ} → Term xs a → Term xs b → Sides xs a b

pub ruleset terms = (sides, v0, v1, v2, v3, v4, v5, v6, v7, v8, v9, v10, v11, num, sub, add, mul, neg)

abbrev pub is_same : {xs : List ℤ} {a b : ℤ} → Sides xs a b → Bool
is_same (sides s t) = all_nil whole_ring (normal_form whole_ring (expr s ⊖ expr t))

-- an identity that holds in each commutative ring
pub ring : (xs : List ℤ) {a b : ℤ} (w : Sides xs a b) → is_same w ≡ true → a ≡ b
ring xs (sides s t) h = sym (eval-expr s) ∙ same_value xs (expr s) (expr t) h ∙ eval-expr t
