-- What is stored of fine numbers that are cut.
use Rattle.std.specs.Prelude.{◌≡◌, ℕ, suc, pos, negsuc, ◌+◌, ◌/◌, ◌^◌, ◌≤◌, ℤ, ◌+ℤ◌, ◌-ℤ◌, ◌*ℤ◌, ◌≤ℤ◌, neg_ℤ}
use Rattle.std.specs.Prelude.{unsigned_abs, [], ◌∷◌}
use Rattle.std.proofs.Common.{refl, ap, sym, ◌∙◌, arith}
use Rattle.std.proofs.lemmas.Int.{ints}
use Rattle.frac_laws.specs.Fraction.{Fraction, whole, over, size, opposite, ◌+ℚ◌, ◌-ℚ◌, ◌*ℚ◌, ◌≤ℚ◌}
use Rattle.frac_laws.proofs.FractionTerms.{ring, terms}
use Rattle.frac_laws.proofs.Linear.{linear, claims, natural, ◌⊞◌}
use Rattle.frac_laws.proofs.Norms.{size_zero}
use Rattle.frac_laws.proofs.Order.{le_trans, le_of_equal}
use Rattle.frac_laws.proofs.Quotients.{over_is, over_add, whole_mul}
use Rattle.frac_laws.proofs.Sizes.{size_add, size-opposite}
use Rattle.frac_laws.proofs.SizeFacts.{size-over, abs_of_size}
use Rattle.frac_laws.proofs.QuotientFacts.{over-zero}
use Rattle.linear_system.specs.StandsFor.{units}
use Rattle.product_cells.proofs.CurveCells.{over_mono}
use Rattle.cell_coeffs.specs.Cut.{cut_of, IsStoredCut}
use Rattle.cell_coeffs.specs.Near.{IsNear}
use Rattle.cell_coeffs.proofs.Near.{near_mono, near_add}

-- what is cut off is less than a unit
abbrev rest_of : ℤ → ℤ
rest_of z = z -ℤ (cut_of z *ℤ pos 64)

rest_small : (z : ℤ) → unsigned_abs (rest_of z) ≤ 63
rest_small (pos n) = omega (arith, ints)
rest_small (negsuc n) = omega (arith, ints)

parted : (z : ℤ) → z ≡ rest_of z +ℤ (cut_of z *ℤ pos 64)
parted z = omega (arith, ints)

-- a unit is 64 fine ones
fine_units : (c : ℤ) → over (c *ℤ pos 64) (2 ^ 70) ≡ units c
fine_units c =
    over_is (c *ℤ pos 64) (2 ^ 70) ∙ ap (λ w. w *ℚ over (pos 1) (2 ^ 70)) (whole_mul c (pos 64))
    ∙ ring (whole c ∷ []) (hlevel terms) refl ∙ sym (over_is c (2 ^ 64))

cut_near : (k : ℕ) (x : Fraction) (z : ℤ) → k ≤ 126 → IsNear k x z → size (x -ℚ units (cut_of z)) ≤ℚ units (pos 2)
cut_near k x z few near =
    let r = rest_of z in
    let split : over z (2 ^ 70) ≡ over r (2 ^ 70) +ℚ units (cut_of z) =
    ap (λ (w : ℤ). over w (2 ^ 70)) (parted z) ∙ over_add r (cut_of z *ℤ pos 64) (2 ^ 70)
    ∙ ap (λ w. over r (2 ^ 70) +ℚ w) (fine_units (cut_of z)) in
    let apart : x -ℚ units (cut_of z) ≡ (x -ℚ over z (2 ^ 70)) +ℚ over r (2 ^ 70) =
    joined x (over z (2 ^ 70)) (over r (2 ^ 70)) (units (cut_of z)) split in
    let small : size (over r (2 ^ 70)) ≤ℚ over (pos 63) (2 ^ 70) =
    le_trans (le_of_equal (size-over r (2 ^ 70)))
    (over_mono (pos (unsigned_abs r)) (pos 63) (2 ^ 70) (order (unsigned_abs r) (rest_small z))) in
    rw apart (le_trans (size_add (x -ℚ over z (2 ^ 70)) (over r (2 ^ 70)))
    (linear (size (x -ℚ over z (2 ^ 70)) ∷ size (over r (2 ^ 70)) ∷ []) (near_mono k 126 x z few near ⊞ small)
    (hlevel claims) refl))
  where
    joined : (x q r c : Fraction) → q ≡ r +ℚ c → x -ℚ c ≡ (x -ℚ q) +ℚ r
    joined x q r c is = rw is (ring (x ∷ r ∷ c ∷ []) (hlevel terms) refl)

    order : (n : ℕ) → n ≤ 63 → pos n ≤ℤ pos 63
    order n h = omega (arith, ints)

cut_none : (k : ℕ) (x : Fraction) (z : ℤ) → k ≤ 126 → IsNear k x z → x ≡ whole (pos 0) → cut_of z ≡ pos 0
cut_none k x z few near none =
    let small : size (over z (2 ^ 70)) ≤ℚ over (pos 63) (2 ^ 70) =
    le_trans (le_of_equal (sym (size-opposite (over z (2 ^ 70)))
    ∙ ap size (ring (over z (2 ^ 70) ∷ []) (hlevel terms) refl ∙ ap (λ w. w -ℚ over z (2 ^ 70)) (sym none))))
    (le_trans (near_mono k 126 x z few near) (linear [] (natural 0 1) (hlevel claims) refl)) in
    nothing z (abs_of_size z 63 (2 ^ 70) (omega arith) small)
  where
    nothing : (z : ℤ) → unsigned_abs z ≤ 63 → cut_of z ≡ pos 0
    nothing (pos n) h =
        let none : n / 64 ≡ 0 = omega (arith, h) in
        ap pos none
    nothing (negsuc n) h =
        let none : suc n / 64 ≡ 0 = omega (arith, h) in
        ap (λ q. neg_ℤ (pos q)) none

pub stored_cut : (k : ℕ) (x : Fraction) (z : ℤ) → k ≤ 126 → IsNear k x z → IsStoredCut x (cut_of z)
stored_cut k x z few near = record { near = cut_near k x z few near; none = cut_none k x z few near }

-- and of twice a number
pub stored_twice : (k : ℕ) (h x : Fraction) (z : ℤ) → k ≤ 63 → IsNear k (h *ℚ x) z
    → IsStoredCut (h *ℚ (whole (pos 2) *ℚ x)) (cut_of (pos 2 *ℤ z))
stored_twice k h x z few near =
    let number : h *ℚ (whole (pos 2) *ℚ x) ≡ h *ℚ x +ℚ h *ℚ x = ring (h ∷ x ∷ []) (hlevel terms) refl in
    let twice : pos 2 *ℤ z ≡ z +ℤ z = omega (arith, ints) in
    rw (number, twice) (stored_cut (k + k) (h *ℚ x +ℚ h *ℚ x) (z +ℤ z) (omega (arith, few))
    (near_add k k (h *ℚ x) (h *ℚ x) z z near near))

-- a number that is stored, or none
pub cut_zero : (x : Fraction) (z : ℤ) → x ≡ whole (pos 0) → z ≡ pos 0 → IsStoredCut x z
cut_zero x z nothing none = record {
  near = rw (none, nothing) (le_trans (le_of_equal (ap size over_nothing ∙ size_zero)) (natural 2 (2 ^ 64)));
  none = λ is. none;
}
  where
    over_nothing : whole (pos 0) -ℚ units (pos 0) ≡ whole (pos 0)
    over_nothing = ap (λ y. whole (pos 0) -ℚ y) (over-zero (2 ^ 64)) ∙ ring [] (hlevel terms) refl

-- the size of a number near a small fraction
pub cut_size : (x : Fraction) (z : ℤ) → IsNear 126 x z → size x ≤ℚ over (pos 1) 256 → unsigned_abs z ≤ 2 ^ 65
cut_size x z near small =
    abs_of_size z (2 ^ 65) (2 ^ 70) (omega arith)
    (le_trans (le_of_equal (ap size (ring (x ∷ over z (2 ^ 70) ∷ []) (hlevel terms) refl)))
    (le_trans (size_add x (opposite (x -ℚ over z (2 ^ 70))))
    (rw (size-opposite (x -ℚ over z (2 ^ 70)))
    (linear (size x ∷ size (x -ℚ over z (2 ^ 70)) ∷ []) (near ⊞ small) (hlevel claims) refl))))
