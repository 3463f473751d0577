-- The ends of quotients. Numbers and divisors are in units of 2^-64; m is a million.
use Rattle.std.proofs.Common.{◌≡◌, ℕ, ◌+◌, ◌*◌, ◌^◌, ◌≤◌, ℤ, pos, ◌+ℤ◌, ◌-ℤ◌, ◌*ℤ◌, ◌≤ℤ◌}
use Rattle.std.proofs.Common.{[], ◌∷◌, refl, ap, sym, inl, inr, arith}
use Rattle.std.specs.Prelude.{unsigned_abs}
use Rattle.std.proofs.lemmas.Int.{ints}
use Rattle.std.proofs.Math.IntN.{pos-*ℤ-pos}
use Rattle.frac_laws.specs.Fraction.{Fraction, whole, over, opposite, ◌+ℚ◌, ◌-ℚ◌, ◌*ℚ◌, ◌≤ℚ◌}
use Rattle.frac_laws.specs.Rounding.{floor_of, ceiling_of}
use Rattle.frac_laws.proofs.Floors.{floor_le, lt_next, le_ceiling, previous_lt}
use Rattle.frac_laws.proofs.FractionTerms.{ring, terms}
use Rattle.frac_laws.proofs.Linear.{linear, equal, claims, natural, ◌⊞◌, ◌⊠◌, ◌·◌}
use Rattle.frac_laws.proofs.Order.{le_trans, le_of_lt, sign_cases}
use Rattle.frac_laws.proofs.Quotients.{over_is, inverse, over_add, over_le_of_cross, whole_mul, whole_sub, whole_le}
use Rattle.frac_laws.proofs.Quotients.{whole-opposite}
use Rattle.frac_laws.proofs.WholeProducts.{product_le}

abbrev units : ℤ → Fraction
units n = over n (2 ^ 64)

-- a quotient times its divisor
quotient_times : (a : ℤ) (m d : ℕ) → 1 ≤ d
    → over (a *ℤ pos m) d *ℚ units (pos d) ≡ whole (pos m) *ℚ units a
quotient_times a m d some =
    rw (over_is (a *ℤ pos m) d, over_is (pos d) (2 ^ 64), over_is a (2 ^ 64), whole_mul a (pos m))
    (cancelled (whole a) (whole (pos m)) (over (pos 1) d) (whole (pos d)) (over (pos 1) (2 ^ 64)) (inverse d some))
  where
    cancelled : (a m part d u : Fraction) → d *ℚ part ≡ whole (pos 1) → a *ℚ m *ℚ part *ℚ (d *ℚ u) ≡ m *ℚ (a *ℚ u)
    cancelled a m part d u e =
        equal (a ∷ m ∷ part ∷ d ∷ u ∷ []) (ap (λ z. a *ℚ m *ℚ u *ℚ z) e) (hlevel claims) refl

-- ---- ends below and above each quotient

-- at one divisor
low_times : (lo a : ℤ) (m d : ℕ) → 1 ≤ d → lo ≤ℤ floor_of (a *ℤ pos m) (pos d)
    → whole lo *ℚ units (pos d) ≤ℚ whole (pos m) *ℚ units a
low_times lo a m d some h =
    rw (← quotient_times a m d some)
    (times (whole lo) (over (a *ℤ pos m) d) (units (pos d)) (natural d (2 ^ 64))
    (le_trans (whole_le h) (floor_le (a *ℤ pos m) d some)))
  where
    times : (x y z : Fraction) → whole (pos 0) ≤ℚ z → x ≤ℚ y → x *ℚ z ≤ℚ y *ℚ z
    times x y z s h = linear (x ∷ y ∷ z ∷ []) (h ⊠ s) (hlevel claims) refl

high_times : (hi a : ℤ) (m d : ℕ) → 1 ≤ d → ceiling_of (a *ℤ pos m) (pos d) ≤ℤ hi
    → whole (pos m) *ℚ units a ≤ℚ whole hi *ℚ units (pos d)
high_times hi a m d some h =
    rw (← quotient_times a m d some)
    (times (over (a *ℤ pos m) d) (whole hi) (units (pos d)) (natural d (2 ^ 64))
    (le_trans (le_ceiling (a *ℤ pos m) d some) (whole_le h)))
  where
    times : (x y z : Fraction) → whole (pos 0) ≤ℚ z → x ≤ℚ y → x *ℚ z ≤ℚ y *ℚ z
    times x y z s h = linear (x ∷ y ∷ z ∷ []) (h ⊠ s) (hlevel claims) refl

-- between two divisors, over plain fractions
low_between : (lo m b x y p q : Fraction) → whole (pos 0) ≤ℚ m → b ≤ℚ x → p ≤ℚ y → y ≤ℚ q
    → lo *ℚ p ≤ℚ m *ℚ b → lo *ℚ q ≤ℚ m *ℚ b → lo *ℚ y ≤ℚ m *ℚ x
low_between lo m b x y p q some above first last at_p at_q = elim (sign_cases lo) [
  | inl s ↦ linear (lo ∷ m ∷ b ∷ x ∷ y ∷ p ∷ q ∷ []) (at_q ⊞ s ⊠ last ⊞ some ⊠ above) (hlevel claims) refl
  | inr s ↦ linear (lo ∷ m ∷ b ∷ x ∷ y ∷ p ∷ q ∷ []) (at_p ⊞ s ⊠ first ⊞ some ⊠ above) (hlevel claims) refl
]

high_between : (hi m b x y p q : Fraction) → whole (pos 0) ≤ℚ m → x ≤ℚ b → p ≤ℚ y → y ≤ℚ q
    → m *ℚ b ≤ℚ hi *ℚ p → m *ℚ b ≤ℚ hi *ℚ q → m *ℚ x ≤ℚ hi *ℚ y
high_between hi m b x y p q some below first last at_p at_q = elim (sign_cases hi) [
  | inl s ↦ linear (hi ∷ m ∷ b ∷ x ∷ y ∷ p ∷ q ∷ []) (at_p ⊞ s ⊠ first ⊞ some ⊠ below) (hlevel claims) refl
  | inr s ↦ linear (hi ∷ m ∷ b ∷ x ∷ y ∷ p ∷ q ∷ []) (at_q ⊞ s ⊠ last ⊞ some ⊠ below) (hlevel claims) refl
]

pub low_encloses : (lo b : ℤ) (m p q : ℕ) (x y : Fraction) → 1 ≤ p → 1 ≤ q
    → lo ≤ℤ floor_of (b *ℤ pos m) (pos p) → lo ≤ℤ floor_of (b *ℤ pos m) (pos q)
    → units b ≤ℚ x → units (pos p) ≤ℚ y → y ≤ℚ units (pos q) → whole lo *ℚ y ≤ℚ whole (pos m) *ℚ x
low_encloses lo b m p q x y some some' at_p at_q above first last =
    low_between (whole lo) (whole (pos m)) (units b) x y (units (pos p)) (units (pos q)) (natural m 1) above first last
    (low_times lo b m p some at_p) (low_times lo b m q some' at_q)

pub high_encloses : (hi b : ℤ) (m p q : ℕ) (x y : Fraction) → 1 ≤ p → 1 ≤ q
    → ceiling_of (b *ℤ pos m) (pos p) ≤ℤ hi → ceiling_of (b *ℤ pos m) (pos q) ≤ℤ hi
    → x ≤ℚ units b → units (pos p) ≤ℚ y → y ≤ℚ units (pos q) → whole (pos m) *ℚ x ≤ℚ whole hi *ℚ y
high_encloses hi b m p q x y some some' at_p at_q below first last =
    high_between (whole hi) (whole (pos m)) (units b) x y (units (pos p)) (units (pos q)) (natural m 1) below first last
    (high_times hi b m p some at_p) (high_times hi b m q some' at_q)

-- ---- how far apart the ends lie

-- a divisor between two others, with a fact
pub record IsBetweenDivisors (p q : ℕ) (Says : ℕ → Type 0) : Type 0 where
  pub divisor : ℕ
  pub least : p ≤ divisor
  pub most : divisor ≤ q
  pub says : Says divisor

-- a product of numbers of at most two sizes
product_most : (x y most d : Fraction) → opposite most ≤ℚ x → x ≤ℚ most → y ≤ℚ d → opposite y ≤ℚ d
    → x *ℚ y ≤ℚ most *ℚ d
product_most x y most d low high y_low y_high =
    let half = natural 1 2 in
    linear (x ∷ y ∷ most ∷ d ∷ []) (half ⊠ (high ⊠ y_high) ⊞ half ⊠ (low ⊠ y_low)) (hlevel claims) refl

-- over plain fractions: l and g are the quotients that were rounded, of c and e by s and t; l (s - y) and g (y - t) are
-- at most d
between : (lo hi l g s t y d c e w : Fraction) → whole (pos 0) ≤ℚ y → hi -ℚ whole (pos 1) ≤ℚ g
    → l ≤ℚ lo +ℚ whole (pos 1) → l *ℚ s ≡ c → g *ℚ t ≡ e → e -ℚ c ≤ℚ w → l *ℚ (s -ℚ y) ≤ℚ d → g *ℚ (y -ℚ t) ≤ℚ d
    → (hi -ℚ lo) *ℚ y ≤ℚ w +ℚ whole (pos 2) *ℚ d +ℚ whole (pos 2) *ℚ y
between lo hi l g s t y d c e w some next_hi next_lo first second apart at_l at_g =
    linear (lo ∷ hi ∷ l ∷ g ∷ s ∷ t ∷ y ∷ d ∷ c ∷ e ∷ w ∷ [])
    (next_hi ⊠ some ⊞ next_lo ⊠ some ⊞ apart ⊞ whole (pos 1) · second ⊞ whole (pos 1) · sym first ⊞ at_l ⊞ at_g)
    (hlevel claims) refl

over_le : (a b : ℤ) (d : ℕ) → 1 ≤ d → a ≤ℤ b → over a d ≤ℚ over b d
over_le a b d some h = over_le_of_cross a b d d some some (product_le a b d h)

-- a divisor between p and q differs from a number between them by no more than q and p do
divisors_apart : (p q width d : ℕ) (y : Fraction) → p ≤ d → d ≤ q → q ≤ p + width → units (pos p) ≤ℚ y
    → y ≤ℚ units (pos q) → (y -ℚ units (pos d) ≤ℚ units (pos width)) × (units (pos d) -ℚ y ≤ℚ units (pos width))
divisors_apart p q width d y least most narrow first last =
    let high : units (pos q) ≤ℚ units (pos d) +ℚ units (pos width) =
    rw (← over_add (pos d) (pos width) (2 ^ 64))
    (over_le (pos q) (pos d +ℤ pos width) (2 ^ 64) (omega arith) (omega (arith, ints))) in
    let low : units (pos d) ≤ℚ units (pos p) +ℚ units (pos width) =
    rw (← over_add (pos p) (pos width) (2 ^ 64))
    (over_le (pos d) (pos p +ℤ pos width) (2 ^ 64) (omega arith) (omega (arith, ints))) in (
      below y (units (pos d)) (units (pos q)) (units (pos width)) last high,
      below (units (pos d)) y (units (pos p) +ℚ units (pos width)) (units (pos width)) low
          (more (units (pos p)) y (units (pos width)) first),
    )
  where
    below : (x y z w : Fraction) → x ≤ℚ z → z ≤ℚ y +ℚ w → x -ℚ y ≤ℚ w
    below x y z w h k = linear (x ∷ y ∷ z ∷ w ∷ []) (h ⊞ k) (hlevel claims) refl

    more : (x y w : Fraction) → x ≤ℚ y → x +ℚ w ≤ℚ y +ℚ w
    more x y w h = linear (x ∷ y ∷ w ∷ []) h (hlevel claims) refl

turned : (x y d : Fraction) → y -ℚ x ≤ℚ d → opposite (x -ℚ y) ≤ℚ d
turned x y d h = linear (x ∷ y ∷ d ∷ []) h (hlevel claims) refl

-- the width of the numbers, m times
numbers_apart : (b c : ℤ) (m width : ℕ) → c ≤ℤ (b +ℤ pos width)
    → whole (pos m) *ℚ units c -ℚ whole (pos m) *ℚ units b ≤ℚ whole (pos m) *ℚ units (pos width)
numbers_apart b c m width h =
    let high : units c ≤ℚ units b +ℚ units (pos width) =
    rw (← over_add b (pos width) (2 ^ 64)) (over_le c (b +ℤ pos width) (2 ^ 64) (omega arith) h) in
    times (whole (pos m)) (units b) (units c) (units (pos width)) (natural m 1) high
  where
    times : (m b c w : Fraction) → whole (pos 0) ≤ℚ m → c ≤ℚ b +ℚ w → m *ℚ c -ℚ m *ℚ b ≤ℚ m *ℚ w
    times m b c w some h = linear (m ∷ b ∷ c ∷ w ∷ []) (some ⊠ h) (hlevel claims) refl

-- both widths together
widths_are : (m width_b most width_p : ℕ)
    → whole (pos m) *ℚ units (pos width_b) +ℚ whole (pos 2) *ℚ (whole (pos most) *ℚ units (pos width_p))
    ≡ units (pos (m * width_b + 2 * most * width_p))
widths_are m width_b most width_p =
    let plain : pos (m * width_b + 2 * most * width_p)
    ≡ (pos m *ℤ pos width_b) +ℤ ((pos 2 *ℤ pos most) *ℤ pos width_p) =
    let twice = ap (λ z. z *ℤ pos width_p) (pos-*ℤ-pos 2 most) in
    omega (arith, ints, pos-*ℤ-pos m width_b, pos-*ℤ-pos (2 * most) width_p, twice) in
    rw (
      plain,
      over_add (pos m *ℤ pos width_b) ((pos 2 *ℤ pos most) *ℤ pos width_p) (2 ^ 64),
      over_is (pos m *ℤ pos width_b) (2 ^ 64),
      over_is ((pos 2 *ℤ pos most) *ℤ pos width_p) (2 ^ 64),
      over_is (pos width_b) (2 ^ 64),
      over_is (pos width_p) (2 ^ 64),
      whole_mul (pos m) (pos width_b),
      whole_mul (pos 2 *ℤ pos most) (pos width_p),
      whole_mul (pos 2) (pos most),
    )
    (sums (whole (pos m)) (whole (pos width_b)) (whole (pos most)) (whole (pos width_p)) (over (pos 1) (2 ^ 64)))
  where
    sums : (m b l p u : Fraction) → m *ℚ (b *ℚ u) +ℚ whole (pos 2) *ℚ (l *ℚ (p *ℚ u))
        ≡ m *ℚ b *ℚ u +ℚ whole (pos 2) *ℚ l *ℚ p *ℚ u
    sums m b l p u = ring (m ∷ b ∷ l ∷ p ∷ u ∷ []) (hlevel terms) refl

sized_low : (z : ℤ) (most : ℕ) → unsigned_abs z ≤ most → opposite (whole (pos most)) ≤ℚ whole z
sized_low z most h = rw (← whole-opposite (pos most)) (whole_le (omega (arith, ints)))

sized_high : (z : ℤ) (most : ℕ) → unsigned_abs z ≤ most → whole z ≤ℚ whole (pos most)
sized_high z most h = whole_le (omega (arith, ints))

-- an end that was rounded down from a quotient by s, and one that was rounded up from a quotient by t
pub rounded_apart : (b c lo hi : ℤ) (m p q width_b width_p most : ℕ) (y : Fraction) → 1 ≤ p → b ≤ℤ c
    → IsBetweenDivisors p q (λ d. (lo ≡ floor_of (b *ℤ pos m) (pos d)) × (ceiling_of (c *ℤ pos m) (pos d) ≤ℤ hi))
    → IsBetweenDivisors p q (λ d. (hi ≡ ceiling_of (c *ℤ pos m) (pos d)) × (lo ≤ℤ floor_of (b *ℤ pos m) (pos d)))
    → unsigned_abs lo ≤ most → unsigned_abs hi ≤ most → c ≤ℤ (b +ℤ pos width_b) → q ≤ p + width_p
    → units (pos p) ≤ℚ y → y ≤ℚ units (pos q)
    → whole (hi -ℤ lo) *ℚ y ≤ℚ units (pos (m * width_b + 2 * most * width_p)) +ℚ whole (pos 2) *ℚ y
rounded_apart b c lo hi m p q width_b width_p most y some order low high lo_size hi_size narrow_b narrow_p first last =
    let s = low.divisor in
    let t = high.divisor in
    let s_some : 1 ≤ low.divisor = omega (arith, low.least) in
    let t_some : 1 ≤ high.divisor = omega (arith, high.least) in
    let l = over (b *ℤ pos m) s in
    let g = over (c *ℤ pos m) t in
    let product = product_le b c m order in
    let lo_below : whole lo ≤ℚ l = rw low.says.0 (floor_le (b *ℤ pos m) s s_some) in
    let lo_next : l ≤ℚ whole lo +ℚ whole (pos 1) = rw low.says.0 (le_of_lt (lt_next (b *ℤ pos m) s s_some)) in
    let hi_above : g ≤ℚ whole hi = rw high.says.0 (le_ceiling (c *ℤ pos m) t t_some) in
    let hi_previous : whole hi -ℚ whole (pos 1) ≤ℚ g =
    rw high.says.0 (le_of_lt (previous_lt (c *ℤ pos m) t t_some)) in
    let l_high : l ≤ℚ whole hi =
    le_trans (over_le (b *ℤ pos m) (c *ℤ pos m) s s_some product)
    (le_trans (le_ceiling (c *ℤ pos m) s s_some) (whole_le low.says.1)) in
    let g_low : whole lo ≤ℚ g =
    le_trans (whole_le high.says.1)
    (le_trans (floor_le (b *ℤ pos m) t t_some) (over_le (b *ℤ pos m) (c *ℤ pos m) t t_some product)) in
    let s_apart = divisors_apart p q width_p s y low.least low.most narrow_p first last in
    let t_apart = divisors_apart p q width_p t y high.least high.most narrow_p first last in
    let at_l = product_most l (units (pos s) -ℚ y) (whole (pos most)) (units (pos width_p))
    (le_trans (sized_low lo most lo_size) lo_below) (le_trans l_high (sized_high hi most hi_size))
    s_apart.1 (turned (units (pos s)) y (units (pos width_p)) s_apart.0) in
    let at_g = product_most g (y -ℚ units (pos t)) (whole (pos most)) (units (pos width_p))
    (le_trans (sized_low lo most lo_size) g_low) (le_trans hi_above (sized_high hi most hi_size))
    t_apart.0 (turned y (units (pos t)) (units (pos width_p)) t_apart.1) in
    rw (whole_sub hi lo, ← widths_are m width_b most width_p)
    (between (whole lo) (whole hi) l g (units (pos s)) (units (pos t)) y (whole (pos most) *ℚ units (pos width_p))
    (whole (pos m) *ℚ units b) (whole (pos m) *ℚ units c) (whole (pos m) *ℚ units (pos width_b))
    (le_trans (natural p (2 ^ 64)) first) hi_previous lo_next
    (quotient_times b m s s_some) (quotient_times c m t t_some) (numbers_apart b c m width_b narrow_b) at_l at_g)
