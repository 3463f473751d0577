-- Positive factors may be cancelled.
use Rattle.std.specs.Prelude.{ℕ, suc, pos, [], ◌∷◌}
use Rattle.std.proofs.Common.{inl, inr, refl, arith}
use Rattle.frac_laws.specs.Fraction.{Fraction, over, whole, ◌*ℚ◌, ◌-ℚ◌, ◌≤ℚ◌}
use Rattle.frac_laws.proofs.Linear.{linear, claims, natural, ◌⊞◌, ◌⊠◌, ◌·◌}
use Rattle.frac_laws.proofs.Order.{le_total}
use Rattle.frac_laws.proofs.Quotients.{inverse, whole_suc}
use Rattle.cell_laws.specs.Tame.{twice_the_rest}

pub cancel_suc : (k : ℕ) (x y : Fraction) → whole (pos (suc k)) *ℚ x ≤ℚ whole (pos (suc k)) *ℚ y → x ≤ℚ y
cancel_suc k x y h = linear (x ∷ y ∷ whole (pos (suc k)) ∷ over (pos 1) (suc k) ∷ [])
    (h ⊠ natural 1 (suc k) ⊞ (y -ℚ x) · inverse (suc k) (omega arith)) (hlevel claims) refl

pub one_le_suc : (k : ℕ) → whole (pos 1) ≤ℚ whole (pos (suc k))
one_le_suc k = rw (whole_suc k) (linear (whole (pos k) ∷ []) (natural k 1) (hlevel claims) refl)

pub two_le_suc : (k : ℕ) → whole (pos 2) ≤ℚ whole (pos (suc (suc k)))
two_le_suc k =
    rw (whole_suc (suc k)) (linear (whole (pos (suc k)) ∷ []) (one_le_suc k) (hlevel claims) refl)

-- 2 (1 - F) is positive where F is at most 1/64
pub cancel_rest : (f x y : Fraction) → f ≤ℚ over (pos 1) 64
    → twice_the_rest f *ℚ x ≤ℚ twice_the_rest f *ℚ y → x ≤ℚ y
cancel_rest f x y small h = elim (le_total x y) [
  | inl k ↦ k
  | inr k ↦ linear (f ∷ x ∷ y ∷ []) (natural 32 63 ⊠ h ⊞ natural 64 63 ⊠ (small ⊠ k)) (hlevel claims) refl
]
