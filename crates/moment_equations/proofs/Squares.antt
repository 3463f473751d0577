-- Intervals of first moments, of their squares and of variances, in units of 2^-64.
use Rattle.std.specs.Prelude.{◌≡◌, ℕ, pos, negsuc, ◌+◌, ◌-◌, ◌*◌, ◌^◌, ◌≤◌}
use Rattle.std.specs.Prelude.{ℤ, ◌+ℤ◌, ◌-ℤ◌, ◌*ℤ◌, ◌≤ℤ◌, ◌<ℤ◌, neg_ℤ, unsigned_abs}
use Rattle.std.specs.Prelude.{[], ◌∷◌}
use Rattle.std.specs.Int.{w128, int_min, int_max}
use Rattle.std.proofs.Common.{refl, ap, ◌∙◌, arith, FitsSigned}
use Rattle.std.proofs.Math.Nat.{mul-le-mul}
use Rattle.std.proofs.lemmas.Int.{ints, clamps, unsigned_abs-mul, fits_signed_from_abs}
use Rattle.frac_base.proofs.WholeTerms as W
use Rattle.frac_laws.specs.Fraction.{Fraction, over, whole, opposite, size, ◌+ℚ◌, ◌-ℚ◌, ◌≤ℚ◌}
use Rattle.frac_laws.specs.Rounding.{floor_of, ceiling_of}
use Rattle.frac_laws.proofs.FractionTerms.{ring, terms}
use Rattle.frac_laws.proofs.Linear.{linear, claims, ◌⊞◌}
use Rattle.frac_laws.proofs.Quotients.{over_add, over-opposite}
use Rattle.frac_laws.proofs.RoundingLaws.{floor_low, floor_high, ceiling_low, ceiling_high}
use Rattle.frac_laws.proofs.Sizes.{le_of_size_le, opposite_le_of_size_le}
use Rattle.fixed_interval.specs.Intervals.{LiesIn}
use Rattle.fixed_interval.specs.declared.interval.Interval.{Interval}
use Rattle.whole_laws.proofs.Extremes.{lesser_whole-has, greater_whole-has}

-- 1, in units of 2^-64
abbrev pub one : ℤ
one = pos (2 ^ 64)

abbrev pub minus_one : ℤ
minus_one = negsuc (2 ^ 64 - 1)

-- ---- the met interval

pub met_ordered : (z : ℤ) (r : ℕ) → unsigned_abs z ≤ 2 ^ 64 + r
    → int_max (z -ℤ pos r) minus_one ≤ℤ int_min (z +ℤ pos r) one
met_ordered z r small = omega (arith, ints, clamps)

pub met_low : (z : ℤ) (r : ℕ) → unsigned_abs z ≤ 2 ^ 64 + r → unsigned_abs (int_max (z -ℤ pos r) minus_one) ≤ 2 ^ 64
met_low z r small = omega (arith, ints, clamps)

pub met_high : (z : ℤ) (r : ℕ) → unsigned_abs z ≤ 2 ^ 64 + r → unsigned_abs (int_min (z +ℤ pos r) one) ≤ 2 ^ 64
met_high z r small = omega (arith, ints, clamps)

pub met_narrow : (z : ℤ) (r : ℕ) → int_min (z +ℤ pos r) one ≤ℤ (int_max (z -ℤ pos r) minus_one +ℤ pos (2 * r))
met_narrow z r = omega (arith, ints, clamps)

-- ---- the products of its ends

-- of two numbers of size 1 at most that are not far apart
module _ (a b : ℤ) (r : ℕ) (low : unsigned_abs a ≤ 2 ^ 64) (high : unsigned_abs b ≤ 2 ^ 64) (order : a ≤ℤ b)
    (narrow : b ≤ℤ (a +ℤ pos (2 * r))) where
  abbrev least : ℤ
  least = int_min (int_min (a *ℤ a) (a *ℤ b)) (int_min (b *ℤ a) (b *ℤ b))

  abbrev greatest : ℤ
  greatest = int_max (int_max (a *ℤ a) (a *ℤ b)) (int_max (b *ℤ a) (b *ℤ b))

  abbrev apart : ℤ
  apart = b -ℤ a

  apart_small : unsigned_abs apart ≤ 2 * r
  apart_small = sized a b r order narrow
    where
      sized : (a b : ℤ) (r : ℕ) → a ≤ℤ b → b ≤ℤ (a +ℤ pos (2 * r)) → unsigned_abs (b -ℤ a) ≤ 2 * r
      sized a b r order narrow = omega (arith, ints)

  first_apart : unsigned_abs (a *ℤ apart) ≤ 2 ^ 64 * (2 * r)
  first_apart = omega (arith, unsigned_abs-mul a apart, mul-le-mul low apart_small)

  second_apart : unsigned_abs (apart *ℤ b) ≤ 2 * r * 2 ^ 64
  second_apart = omega (arith, unsigned_abs-mul apart b, mul-le-mul apart_small high)

  mixed : a *ℤ b ≡ (a *ℤ a) +ℤ (a *ℤ apart)
  mixed = W.ring (a ∷ b ∷ []) (hlevel W.terms) refl

  turned : b *ℤ a ≡ a *ℤ b
  turned = W.ring (a ∷ b ∷ []) (hlevel W.terms) refl

  last : b *ℤ b ≡ (a *ℤ b) +ℤ (apart *ℤ b)
  last = W.ring (a ∷ b ∷ []) (hlevel W.terms) refl

  products_narrow : greatest ≤ℤ (least +ℤ pos (4 * r * 2 ^ 64))
  products_narrow = four (a *ℤ a) (a *ℤ b) (b *ℤ a) (b *ℤ b) (a *ℤ apart) (apart *ℤ b) r mixed turned last
      first_apart second_apart
    where
      four : (p q s t x y : ℤ) (r : ℕ) → q ≡ p +ℤ x → s ≡ q → t ≡ q +ℤ y → unsigned_abs x ≤ 2 ^ 64 * (2 * r)
          → unsigned_abs y ≤ 2 * r * 2 ^ 64
          → int_max (int_max p q) (int_max s t) ≤ℤ (int_min (int_min p q) (int_min s t) +ℤ pos (4 * r * 2 ^ 64))
      four p q s t x y r is same sum hx hy = omega (arith, ints, clamps)

  products_small : (unsigned_abs least ≤ 2 ^ 128) × (unsigned_abs greatest ≤ 2 ^ 128)
  products_small =
      let aa : unsigned_abs (a *ℤ a) ≤ 2 ^ 128 = omega (arith, unsigned_abs-mul a a, mul-le-mul low low) in
      let ab : unsigned_abs (a *ℤ b) ≤ 2 ^ 128 = omega (arith, unsigned_abs-mul a b, mul-le-mul low high) in
      let ba : unsigned_abs (b *ℤ a) ≤ 2 ^ 128 = omega (arith, unsigned_abs-mul b a, mul-le-mul high low) in
      let bb : unsigned_abs (b *ℤ b) ≤ 2 ^ 128 = omega (arith, unsigned_abs-mul b b, mul-le-mul high high) in
      (lesser (a *ℤ a) (a *ℤ b) (b *ℤ a) (b *ℤ b) aa ab ba bb, larger (a *ℤ a) (a *ℤ b) (b *ℤ a) (b *ℤ b) aa ab ba bb)
    where
      lesser : (p q s t : ℤ) → unsigned_abs p ≤ 2 ^ 128 → unsigned_abs q ≤ 2 ^ 128 → unsigned_abs s ≤ 2 ^ 128
          → unsigned_abs t ≤ 2 ^ 128 → unsigned_abs (int_min (int_min p q) (int_min s t)) ≤ 2 ^ 128
      lesser p q s t hp hq hs ht = omega (arith, ints, clamps)

      larger : (p q s t : ℤ) → unsigned_abs p ≤ 2 ^ 128 → unsigned_abs q ≤ 2 ^ 128 → unsigned_abs s ≤ 2 ^ 128
          → unsigned_abs t ≤ 2 ^ 128 → unsigned_abs (int_max (int_max p q) (int_max s t)) ≤ 2 ^ 128
      larger p q s t hp hq hs ht = omega (arith, ints, clamps)

  some : pos 0 <ℤ one
  some = omega (arith, ints)

  pub square_narrow : ceiling_of greatest one ≤ℤ (floor_of least one +ℤ pos (4 * r + 2))
  square_narrow = rounded least greatest (floor_of least one) (ceiling_of greatest one) r products_narrow
      (floor_high least one some) (ceiling_low greatest one some)
    where
      rounded : (l g f c : ℤ) (r : ℕ) → g ≤ℤ (l +ℤ pos (4 * r * 2 ^ 64)) → l <ℤ ((f *ℤ one) +ℤ one)
          → ((c *ℤ one) -ℤ one) <ℤ g → c ≤ℤ (f +ℤ pos (4 * r + 2))
      rounded l g f c r wide low high = omega (arith, ints)

  pub square_low : unsigned_abs (floor_of least one) ≤ 2 ^ 66
  square_low = sized least (floor_of least one) products_small.0 (floor_low least one some) (floor_high least one some)
    where
      sized : (l f : ℤ) → unsigned_abs l ≤ 2 ^ 128 → (f *ℤ one) ≤ℤ l → l <ℤ ((f *ℤ one) +ℤ one)
          → unsigned_abs f ≤ 2 ^ 66
      sized l f small below above = omega (arith, ints)

  pub square_high : unsigned_abs (ceiling_of greatest one) ≤ 2 ^ 66
  square_high = sized greatest (ceiling_of greatest one) products_small.1 (ceiling_low greatest one some)
      (ceiling_high greatest one some)
    where
      sized : (l f : ℤ) → unsigned_abs l ≤ 2 ^ 128 → ((f *ℤ one) -ℤ one) <ℤ l → l ≤ℤ (f *ℤ one)
          → unsigned_abs f ≤ 2 ^ 66
      sized l f small below above = omega (arith, ints)

-- ---- what lies in them

near_low : (z : ℤ) (r : ℕ) (x : Fraction) → size (x -ℚ over z (2 ^ 64)) ≤ℚ over (pos r) (2 ^ 64)
    → over (z -ℤ pos r) (2 ^ 64) ≤ℚ x
near_low z r x near =
    let split : over (z -ℤ pos r) (2 ^ 64) ≡ over z (2 ^ 64) +ℚ opposite (over (pos r) (2 ^ 64)) =
    over_add z (neg_ℤ (pos r)) (2 ^ 64) ∙ ap (λ y. over z (2 ^ 64) +ℚ y) (over-opposite (pos r) (2 ^ 64)) in
    rw split
    (linear (x ∷ over z (2 ^ 64) ∷ over (pos r) (2 ^ 64) ∷ []) (opposite_le_of_size_le near) (hlevel claims) refl)

near_high : (z : ℤ) (r : ℕ) (x : Fraction) → size (x -ℚ over z (2 ^ 64)) ≤ℚ over (pos r) (2 ^ 64)
    → x ≤ℚ over (z +ℤ pos r) (2 ^ 64)
near_high z r x near =
    rw (over_add z (pos r) (2 ^ 64))
    (linear (x ∷ over z (2 ^ 64) ∷ over (pos r) (2 ^ 64) ∷ []) (le_of_size_le near) (hlevel claims) refl)

pub lies_met : (z : ℤ) (r : ℕ) (x : Fraction) (i : Interval) → i.lo ≡ int_max (z -ℤ pos r) minus_one
    → i.hi ≡ int_min (z +ℤ pos r) one → size x ≤ℚ whole (pos 1)
    → size (x -ℚ over z (2 ^ 64)) ≤ℚ over (pos r) (2 ^ 64) → LiesIn x i
lies_met z r x i low high small near = record {
  at_least = rw low (greater_whole-has (λ w. over w (2 ^ 64) ≤ℚ x) (z -ℤ pos r) minus_one (near_low z r x near)
      (linear (x ∷ []) (opposite_le_of_size_le small) (hlevel claims) refl));
  at_most = rw high (lesser_whole-has (λ w. x ≤ℚ over w (2 ^ 64)) (z +ℤ pos r) one (near_high z r x near)
      (linear (x ∷ []) (le_of_size_le small) (hlevel claims) refl));
}

pub lies_within : (z : ℤ) (r : ℕ) (x : Fraction) (i : Interval) → i.lo ≡ z -ℤ pos r → i.hi ≡ z +ℤ pos r
    → size (x -ℚ over z (2 ^ 64)) ≤ℚ over (pos r) (2 ^ 64) → LiesIn x i
lies_within z r x i low high near =
    record { at_least = rw low (near_low z r x near); at_most = rw high (near_high z r x near) }

-- differences
pub lies_between : (x y : Fraction) (i j k : Interval) → k.lo ≡ i.lo -ℤ j.hi → k.hi ≡ i.hi -ℤ j.lo → LiesIn x i
    → LiesIn y j → LiesIn (x -ℚ y) k
lies_between x y i j k low high hx hy = record {
  at_least = rw (low, less i.lo j.hi) (linear (x ∷ y ∷ over i.lo (2 ^ 64) ∷ over j.hi (2 ^ 64) ∷ [])
      (hx.at_least ⊞ hy.at_most) (hlevel claims) refl);
  at_most = rw (high, less i.hi j.lo) (linear (x ∷ y ∷ over i.hi (2 ^ 64) ∷ over j.lo (2 ^ 64) ∷ [])
      (hx.at_most ⊞ hy.at_least) (hlevel claims) refl);
}
  where
    less : (a b : ℤ) → over (a -ℤ b) (2 ^ 64) ≡ over a (2 ^ 64) -ℚ over b (2 ^ 64)
    less a b = over_add a (neg_ℤ b) (2 ^ 64) ∙ ap (λ y. over a (2 ^ 64) +ℚ y) (over-opposite b (2 ^ 64))
        ∙ ring (over a (2 ^ 64) ∷ over b (2 ^ 64) ∷ []) (hlevel terms) refl

-- ---- the ends of the variance

-- within a radius
pub end_small : (z : ℤ) (r : ℕ) → unsigned_abs z ≤ 2 ^ 65 → r ≤ 2 ^ 45
    → (unsigned_abs (z -ℤ pos r) ≤ 2 ^ 66) × (unsigned_abs (z +ℤ pos r) ≤ 2 ^ 66)
end_small z r small few = (omega (arith, ints), omega (arith, ints))

pub difference_small : (a b : ℤ) → unsigned_abs a ≤ 2 ^ 66 → unsigned_abs b ≤ 2 ^ 66 → unsigned_abs (a -ℤ b) ≤ 2 ^ 67
difference_small a b h k = omega (arith, ints)

pub difference_fits : (a b : ℤ) → unsigned_abs a ≤ 2 ^ 66 → unsigned_abs b ≤ 2 ^ 66 → FitsSigned w128 (a -ℤ b)
difference_fits a b h k = fits_signed_from_abs w128 (a -ℤ b) (omega (arith, difference_small a b h k))

pub differences_ordered : (a b x y : ℤ) → a ≤ℤ b → x ≤ℤ y → (a -ℤ y) ≤ℤ (b -ℤ x)
differences_ordered a b x y h k = omega (arith, ints)

pub differences_narrow : (z x y : ℤ) (r r2 : ℕ) → y ≤ℤ (x +ℤ pos (4 * r + 2))
    → ((z +ℤ pos r2) -ℤ x) ≤ℤ (((z -ℤ pos r2) -ℤ y) +ℤ pos (2 * r2 + 4 * r + 1024))
differences_narrow z x y r r2 h = omega (arith, ints)

-- the width of what is within a radius
pub twice_wide : (z lo hi : ℤ) (r : ℕ) → lo ≡ z -ℤ pos r → hi ≡ z +ℤ pos r → hi ≤ℤ (lo +ℤ pos (2 * r))
twice_wide z lo hi r low high = omega (arith, ints, low, high)

pub one_more : (lo hi : ℤ) (n : ℕ) → hi ≤ℤ (lo +ℤ pos (n + 1)) → hi ≤ℤ (lo +ℤ pos (n + 2))
one_more lo hi n h = omega (arith, ints)
