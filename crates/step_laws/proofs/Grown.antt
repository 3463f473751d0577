-- A radius in units, grown by the ledger's formula.
use Rattle.std.specs.Prelude.{◌≡◌, ℕ, pos, [], ◌∷◌, ◌+ℤ◌, ◌*ℤ◌, ◌≤ℤ◌, ◌+◌, ◌*◌, ◌^◌, ◌≤◌}
use Rattle.std.specs.Int.{div_ceil}
use Rattle.std.proofs.Common.{refl, ap, sym, ◌∙◌, arith}
use Rattle.std.proofs.lemmas.Int.{ints}
use Rattle.frac_laws.specs.Fraction.{Fraction, over, whole, ◌+ℚ◌, ◌*ℚ◌, ◌≤ℚ◌}
use Rattle.frac_laws.specs.Ledger.{grow}
use Rattle.frac_laws.proofs.Linear.{linear, claims, natural, ◌⊠◌}
use Rattle.frac_laws.proofs.Order.{le_of_equal, le_trans}
use Rattle.frac_laws.proofs.Quotients.{over_is, whole_add, whole_mul, whole_le}
use Rattle.frac_laws.proofs.LedgerFacts.{rounded_up_le}
use Rattle.cell_laws.specs.Tame.{growth_of}
use Rattle.step_laws.specs.StandsFor.{units}

pub units_are : (n : ℕ) → units n ≡ whole (pos n) *ℚ units 1
units_are n = over_is (pos n) (2 ^ 64)

pub whole_numbers_le : (n m : ℕ) → n ≤ m → whole (pos n) ≤ℚ whole (pos m)
whole_numbers_le n m h = whole_le (order n m h)
  where
    order : (n m : ℕ) → n ≤ m → pos n ≤ℤ pos m
    order n m h = omega (arith, ints)

pub whole_sum : (n m : ℕ) → whole (pos (n + m)) ≡ whole (pos n) +ℚ whole (pos m)
whole_sum n m = ap whole (sum n m) ∙ whole_add (pos n) (pos m)
  where
    sum : (n m : ℕ) → pos (n + m) ≡ pos n +ℤ pos m
    sum n m = omega (arith, ints)

whole_product : (n m : ℕ) → whole (pos (n * m)) ≡ whole (pos n) *ℚ whole (pos m)
whole_product n m = ap whole (product n m) ∙ whole_mul (pos n) (pos m)
  where
    product : (n m : ℕ) → pos (n * m) ≡ pos n *ℤ pos m
    product n m = omega (arith, ints)

-- (1 + kappa) rad and what the cell adds are within the grown radius
pub grown : (rad kappa40 more : ℕ)
    → (whole (pos 1) +ℚ growth_of kappa40) *ℚ units rad +ℚ units more ≤ℚ units (grow rad kappa40 more)
grown rad kappa40 more = join (whole (pos rad)) (whole (pos kappa40)) (whole (pos more)) (growth_of kappa40)
    (whole (pos (div_ceil (rad * kappa40) (2 ^ 40)))) (units rad) (units more) (units (grow rad kappa40 more))
    (over_is (pos kappa40) (2 ^ 40)) (units_are rad) (units_are more)
    (units_are (grow rad kappa40 more) ∙ ap (λ t. t *ℚ units 1)
    (whole_sum (rad + div_ceil (rad * kappa40) (2 ^ 40)) more
    ∙ ap (λ t. t +ℚ whole (pos more)) (whole_sum rad (div_ceil (rad * kappa40) (2 ^ 40)))))
    (le_trans (le_of_equal (sym (over_is (pos (rad * kappa40)) (2 ^ 40)
    ∙ ap (λ t. t *ℚ over (pos 1) (2 ^ 40)) (whole_product rad kappa40))))
    (rounded_up_le (rad * kappa40) (2 ^ 40) (omega arith)))
  where
    join : (r k m g c x y z : Fraction) → g ≡ k *ℚ over (pos 1) (2 ^ 40) → x ≡ r *ℚ units 1 → y ≡ m *ℚ units 1
        → z ≡ (r +ℚ c +ℚ m) *ℚ units 1 → r *ℚ k *ℚ over (pos 1) (2 ^ 40) ≤ℚ c
        → (whole (pos 1) +ℚ g) *ℚ x +ℚ y ≤ℚ z
    join r k m g c x y z e1 e2 e3 e4 h = rw (e1, e2, e3, e4) (linear (r ∷ k ∷ m ∷ c ∷ [])
        (natural 1 (2 ^ 64) ⊠ h) (hlevel claims) refl)
