-- Numbers near fractions: floors, sums, opposites, and what is stored of them.
use Rattle.std.specs.Prelude.{◌≡◌, ℕ, pos, negsuc, ◌+◌, ◌-◌, ◌^◌, ◌≤◌, ℤ, ◌+ℤ◌, ◌*ℤ◌, neg_ℤ, unsigned_abs}
use Rattle.std.specs.Prelude.{[], ◌∷◌}
use Rattle.std.proofs.Common.{refl, ap, sym, ◌∙◌, arith}
use Rattle.std.proofs.lemmas.Int.{ints}
use Rattle.frac_laws.specs.Fraction.{Fraction, whole, over, opposite, size, ◌+ℚ◌, ◌-ℚ◌, ◌*ℚ◌, ◌≤ℚ◌}
use Rattle.frac_laws.specs.Rounding.{floor_of}
use Rattle.frac_laws.proofs.FractionTerms.{ring, terms}
use Rattle.frac_laws.proofs.Linear.{linear, claims, natural, ◌⊞◌, ◌⊠◌, ◌·◌}
use Rattle.frac_laws.proofs.Order.{le_trans, le_of_equal, le_of_lt}
use Rattle.frac_laws.proofs.Floors.{floor_le, lt_next}
use Rattle.frac_laws.proofs.Quotients.{over_is, over_mul, over_add, over-opposite, inverse, whole_mul}
use Rattle.frac_laws.proofs.Quotients.{whole_le}
use Rattle.frac_laws.proofs.Sizes.{size_le_of_between, le_of_size_le, opposite_le_of_size_le, size_add, size-opposite}
use Rattle.frac_laws.proofs.SizeFacts.{abs_of_size}
use Rattle.linear_system.specs.StandsFor.{units}
use Rattle.cell_coeffs.specs.Near.{IsNear, IsWithinUnit, IsStored, nearest_of}
use Rattle.frac_base.proofs.WholeRing.{mul_one}

floor_gap_low : (part f one u : Fraction) → f ≤ℚ part *ℚ one → one *ℚ u ≡ whole (pos 1) → whole (pos 0) ≤ℚ u
    → f *ℚ u ≤ℚ part
floor_gap_low part f one u below inverse some =
    linear (part ∷ f ∷ one ∷ u ∷ []) (below ⊠ some ⊞ part · inverse) (hlevel claims) refl

floor_gap_high : (part f one u : Fraction) → part *ℚ one ≤ℚ f +ℚ whole (pos 1) → one *ℚ u ≡ whole (pos 1)
    → whole (pos 0) ≤ℚ u → part -ℚ f *ℚ u ≤ℚ u
floor_gap_high part f one u above inverse some =
    linear (part ∷ f ∷ one ∷ u ∷ []) (above ⊠ some ⊞ part · sym inverse) (hlevel claims) refl

-- a quotient in some units, rounded down, is within a unit
pub floor_near : (units : ℕ) (z : ℤ) (d : ℕ) → 1 ≤ units → 1 ≤ d
    → size (over z d -ℚ over (floor_of (z *ℤ pos units) (pos d)) units) ≤ℚ over (pos 1) units
floor_near units z d many some =
    let f = floor_of (z *ℤ pos units) (pos d) in
    let one = whole (pos units) in
    let unit = over (pos 1) units in
    let product : over (z *ℤ pos units) d ≡ over z d *ℚ one =
    over_is (z *ℤ pos units) d ∙ ap (λ x. x *ℚ over (pos 1) d) (whole_mul z (pos units))
    ∙ ring (whole z ∷ one ∷ over (pos 1) d ∷ []) (hlevel terms) refl ∙ ap (λ x. x *ℚ one)
    (sym (over_is z d)) in
    let stored : over f units ≡ whole f *ℚ unit = over_is f units in
    let low = floor_gap_low (over z d) (whole f) one unit
    (le_trans (floor_le (z *ℤ pos units) d some) (le_of_equal product)) (inverse units many)
    (natural 1 units) in
    let high = floor_gap_high (over z d) (whole f) one unit
    (le_trans (le_of_equal (sym product)) (le_of_lt (lt_next (z *ℤ pos units) d some)))
    (inverse units many) (natural 1 units) in
    rw stored (size_le_of_between
    (linear (over z d ∷ whole f ∷ unit ∷ []) (low ⊞ natural 1 units) (hlevel claims) refl) high)

-- sums and opposites
half_units : (k : ℕ) → over (pos k) (2 ^ 71) ≡ whole (pos k) *ℚ over (pos 1) (2 ^ 71)
half_units k = over_is (pos k) (2 ^ 71)

pub near_add : (j k : ℕ) (x y : Fraction) (z w : ℤ) → IsNear j x z → IsNear k y w → IsNear (j + k) (x +ℚ y) (z +ℤ w)
near_add j k x y z w first second =
    let split : (x +ℚ y) -ℚ over (z +ℤ w) (2 ^ 70) ≡ (x -ℚ over z (2 ^ 70)) +ℚ (y -ℚ over w (2 ^ 70)) =
    ap (λ s. (x +ℚ y) -ℚ s) (over_add z w (2 ^ 70))
    ∙ ring (x ∷ y ∷ over z (2 ^ 70) ∷ over w (2 ^ 70) ∷ []) (hlevel terms) refl in
    let sum : over (pos (j + k)) (2 ^ 71) ≡ over (pos j) (2 ^ 71) +ℚ over (pos k) (2 ^ 71) =
    over_add (pos j) (pos k) (2 ^ 71) in
    rw (split, sum) (le_trans (size_add (x -ℚ over z (2 ^ 70)) (y -ℚ over w (2 ^ 70)))
    (linear (size (x -ℚ over z (2 ^ 70)) ∷ size (y -ℚ over w (2 ^ 70)) ∷ over (pos j) (2 ^ 71) ∷ over (pos k)
    (2 ^ 71) ∷ [])
    (first ⊞ second) (hlevel claims) refl))

pub near_opposite : (k : ℕ) (x : Fraction) (z : ℤ) → IsNear k x z → IsNear k (opposite x) (neg_ℤ z)
near_opposite k x z near =
    let turned : opposite x -ℚ over (neg_ℤ z) (2 ^ 70) ≡ opposite (x -ℚ over z (2 ^ 70)) =
    ap (λ s. opposite x -ℚ s) (over-opposite z (2 ^ 70))
    ∙ ring (x ∷ over z (2 ^ 70) ∷ []) (hlevel terms) refl in
    rw turned (le_trans (le_of_equal (size-opposite (x -ℚ over z (2 ^ 70)))) near)

pub near_mono : (j k : ℕ) (x : Fraction) (z : ℤ) → j ≤ k → IsNear j x z → IsNear k x z
near_mono j k x z order near =
    le_trans near (le_trans (le_of_equal (half_units j))
    (le_trans (more (whole (pos j)) (whole (pos k)) (over (pos 1) (2 ^ 71))
    (whole_order j k order) (natural 1 (2 ^ 71))) (le_of_equal (sym (half_units k)))))
  where
    more : (a b u : Fraction) → a ≤ℚ b → whole (pos 0) ≤ℚ u → a *ℚ u ≤ℚ b *ℚ u
    more a b u h some = linear (a ∷ b ∷ u ∷ []) (h ⊠ some) (hlevel claims) refl

    whole_order : (a b : ℕ) → a ≤ b → whole (pos a) ≤ℚ whole (pos b)
    whole_order a b h = whole_le (omega (arith, ints, h))

-- the size of a number near a fraction of at most 5/256
pub near_size : (x : Fraction) (z : ℤ) → IsNear 62 x z → size x ≤ℚ over (pos 5) 256 → unsigned_abs z ≤ 2 ^ 65 - 64
near_size x z near small =
    abs_of_size z (2 ^ 65 - 64) (2 ^ 70) (omega arith)
    (le_trans (le_of_equal (ap size (ring (x ∷ over z (2 ^ 70) ∷ []) (hlevel terms) refl)))
    (le_trans (size_add x (opposite (x -ℚ over z (2 ^ 70))))
    (rw (size-opposite (x -ℚ over z (2 ^ 70)))
    (linear (size x ∷ size (x -ℚ over z (2 ^ 70)) ∷ []) (near ⊞ small) (hlevel claims) refl))))

-- what is stored of a number near a fraction
stored_near : (k : ℕ) (x : Fraction) (z : ℤ) → k ≤ 62 → IsNear k x z → IsWithinUnit x (nearest_of z)
stored_near k x z few near =
    let u = over (pos 1) (2 ^ 64) in
    let q = over z 64 in
    let f = nearest_of z in
    let fine : over z (2 ^ 70) ≡ q *ℚ u =
    ap (λ w. over w (2 ^ 70)) (sym (mul_one z)) ∙ sym (over_mul z (pos 1) 64 (2 ^ 64) (omega arith) (omega arith)) in
    let half : over (z +ℤ pos 32) 64 ≡ q +ℚ over (pos 32) 64 = over_add z (pos 32) 64 in
    let below = le_trans (floor_le (z +ℤ pos 32) 64 (omega arith)) (le_of_equal half) in
    let above = le_trans (le_of_equal (sym half)) (le_of_lt (lt_next (z +ℤ pos 32) 64 (omega arith))) in
    let near62 = near_mono k 62 x z few near in
    let close : size (x -ℚ q *ℚ u) ≤ℚ over (pos 62) 128 *ℚ u =
    le_trans (le_of_equal (ap (λ w. size (x -ℚ w)) (sym fine)))
    (le_trans near62 (linear [] (natural 0 1) (hlevel claims) refl)) in
    let stored : units f ≡ whole f *ℚ u = over_is f (2 ^ 64) in
    rw stored (size_le_of_between
    (low x q (whole f) u (opposite_le_of_size_le close) below (natural 1 (2 ^ 64)))
    (high x q (whole f) u (le_of_size_le close) above (natural 1 (2 ^ 64))))
  where
    low : (x q f u : Fraction) → opposite (over (pos 62) 128 *ℚ u) ≤ℚ x -ℚ q *ℚ u → f ≤ℚ q +ℚ over (pos 32) 64
        → whole (pos 0) ≤ℚ u → opposite u ≤ℚ x -ℚ f *ℚ u
    low x q f u close below some =
        linear (x ∷ q ∷ f ∷ u ∷ []) (close ⊞ below ⊠ some ⊞ some ⊠ natural 2 128) (hlevel claims) refl

    high : (x q f u : Fraction) → x -ℚ q *ℚ u ≤ℚ over (pos 62) 128 *ℚ u → q +ℚ over (pos 32) 64 ≤ℚ f +ℚ whole (pos 1)
        → whole (pos 0) ≤ℚ u → x -ℚ f *ℚ u ≤ℚ u
    high x q f u close above some =
        linear (x ∷ q ∷ f ∷ u ∷ []) (close ⊞ above ⊠ some ⊞ some ⊠ natural 2 128) (hlevel claims) refl

stored_none : (k : ℕ) (x : Fraction) (z : ℤ) → k ≤ 62 → IsNear k x z → x ≡ whole (pos 0) → nearest_of z ≡ pos 0
stored_none k x z few near none =
    let near62 = near_mono k 62 x z few near in
    let small : size (over z (2 ^ 70)) ≤ℚ over (pos 31) (2 ^ 70) =
    le_trans (le_of_equal (sym (size-opposite (over z (2 ^ 70)))
    ∙ ap size (ring (over z (2 ^ 70) ∷ []) (hlevel terms) refl ∙ ap (λ w. w -ℚ over z (2 ^ 70)) (sym none))))
    (le_trans near62 (linear [] (natural 0 1) (hlevel claims) refl)) in
    rounds z (abs_of_size z 31 (2 ^ 70) (omega arith) small)
  where
    rounds : (z : ℤ) → unsigned_abs z ≤ 31 → nearest_of z ≡ pos 0
    rounds (pos n) h = ap pos (omega arith)
    rounds (negsuc n) h =
        let left : negsuc n +ℤ pos 32 ≡ pos (31 - n) = omega (arith, ints) in
        ap (λ w. floor_of w (pos 64)) left ∙ ap pos (omega arith)

pub stored_of_near : (k : ℕ) (x : Fraction) (z : ℤ) → k ≤ 62 → IsNear k x z → IsStored x (nearest_of z)
stored_of_near k x z few near = record { near = stored_near k x z few near; none = stored_none k x z few near }
