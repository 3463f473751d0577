-- What is added to a second moment at a date: its size, and how near it is to the rule.
use Rattle.std.specs.Prelude.{◌≡◌, ℕ, pos, negsuc, ◌+◌, ◌-◌, ◌*◌, ◌^◌, ◌<◌, ◌≤◌, ◌==◌, ℤ, ◌+ℤ◌, ◌*ℤ◌, unsigned_abs}
use Rattle.std.specs.Prelude.{◌/◌, ◌<ℤ◌, Bool, true, false, cond, Option, Some, All, find, option_map, unwrap_or}
use Rattle.std.specs.Prelude.{List, [], ◌∷◌, length}
use Rattle.std.specs.Prelude.{slice_index_or}
use Rattle.std.specs.Int.{w128, int_shr}
use Rattle.std.proofs.Common.{refl, ap, sym, ◌∙◌, arith, pow_pos, FitsSigned, set, get_or-set_other}
use Rattle.std.proofs.lemmas.Int.{ints, unsigned_abs-mul, fits_signed_from_abs}
use Rattle.std.proofs.lemmas.List.Elements.{All-head, All-tail}
use Rattle.std.proofs.lemmas.Nat.{pow-add}
use Rattle.std.proofs.Math.Nat.{mul-le-mul, mul-le-mul_left, div-le_of_le-mul}
use Rattle.std.proofs.Math.IntN.{zero-*ℤ}
use mathlib.Core.Path.{ap₂}
use Rattle.frac_laws.specs.Fraction.{Fraction, whole, over, opposite, ◌+ℚ◌, ◌-ℚ◌, ◌*ℚ◌, ◌≤ℚ◌}
use Rattle.frac_laws.specs.Rounding.{floor_of}
use Rattle.frac_laws.proofs.FractionTerms.{ring, terms}
use Rattle.frac_laws.proofs.Linear.{linear, claims, natural, ◌⊞◌, ◌⊠◌, ◌·◌}
use Rattle.frac_laws.proofs.Order.{le_trans, le_of_equal, le_of_lt}
use Rattle.frac_laws.proofs.Floors.{floor_le, lt_next, shift-floor}
use Rattle.frac_laws.proofs.Quotients.{over_is, over_add, over_mul, inverse, whole_add, whole_mul}
use Rattle.frac_laws.proofs.RoundingLaws.{floor-multiple}
use Rattle.frac_laws.proofs.Sizes.{size_le_of_between}
use Rattle.linear_system.specs.StandsFor.{units}
use Rattle.cell_bounds.specs.ScaledSystems.{scaling}
use Rattle.cell_coeffs.proofs.Setting.{set_below}
use Rattle.cell_coeffs.specs.SecondLumps.{amount_in, second_with_lump, IsLumped, lumped_units}

-- ---- sizes

module _ (l w : ℤ) (g : ℕ) (few : g ≤ 56) (amount : unsigned_abs l ≤ 2 ^ g) (first : unsigned_abs w ≤ 2 ^ 65) where
  abbrev unit : ℤ
  unit = pos (2 ^ (64 - g))

  abbrev inner : ℤ
  inner = (pos 2 *ℤ w) +ℤ (l *ℤ unit)

  parts : 2 ^ g * 2 ^ (64 - g) ≡ 2 ^ 64
  parts =
      let sum : g + (64 - g) ≡ 64 = omega (arith, few) in
      sym (pow-add 2 g (64 - g)) ∙ ap (λ k. 2 ^ k) sum

  scale_most : 2 ^ g ≤ 2 ^ 56
  scale_most =
      let sum : g + (56 - g) ≡ 56 = omega (arith, few) in
      let split : 2 ^ g * 2 ^ (56 - g) ≡ 2 ^ 56 = sym (pow-add 2 g (56 - g)) ∙ ap (λ k. 2 ^ k) sum in
      omega (arith, split, mul-le-mul_left (2 ^ g) (pow_pos (56 - g)))

  pub unit_size : unsigned_abs (l *ℤ unit) ≤ 2 ^ 64
  unit_size =
      let same : 2 ^ (64 - g) ≤ 2 ^ (64 - g) = omega arith in
      omega (arith, unsigned_abs-mul l unit, mul-le-mul amount same, parts)

  pub twice_size : unsigned_abs (pos 2 *ℤ w) ≤ 2 ^ 66
  twice_size = omega (arith, unsigned_abs-mul (pos 2) w, first)

  pub inner_size : unsigned_abs inner ≤ 2 ^ 66 + 2 ^ 64
  inner_size = sum_size (pos 2 *ℤ w) (l *ℤ unit) twice_size unit_size
    where
      sum_size : (a b : ℤ) → unsigned_abs a ≤ 2 ^ 66 → unsigned_abs b ≤ 2 ^ 64 → unsigned_abs (a +ℤ b) ≤ 2 ^ 66 + 2 ^ 64
      sum_size a b h k = omega (arith, ints)

  product_most : unsigned_abs (l *ℤ inner) ≤ 2 ^ g * (2 ^ 66 + 2 ^ 64)
  product_most = omega (arith, unsigned_abs-mul l inner, mul-le-mul amount inner_size)

  pub product_size : unsigned_abs (l *ℤ inner) ≤ 2 ^ 123
  product_size =
      let same : 2 ^ 66 + 2 ^ 64 ≤ 2 ^ 66 + 2 ^ 64 = omega arith in
      let most : 2 ^ g * (2 ^ 66 + 2 ^ 64) ≤ 2 ^ 56 * (2 ^ 66 + 2 ^ 64) = mul-le-mul scale_most same in
      omega (arith, product_most, most)

  pub shifted_size : unsigned_abs (int_shr (l *ℤ inner) g) ≤ 2 ^ 67
  shifted_size = shifts (l *ℤ inner) product_most
    where
      quotient : (n m : ℕ) → n ≤ 2 ^ g * m → n / 2 ^ g ≤ m
      quotient n m h = div-le_of_le-mul (2 ^ g) h

      shifts : (z : ℤ) → unsigned_abs z ≤ 2 ^ g * (2 ^ 66 + 2 ^ 64) → unsigned_abs (int_shr z g) ≤ 2 ^ 67
      shifts (pos n) h = omega (arith, quotient n (2 ^ 66 + 2 ^ 64) h)
      shifts (negsuc n) h = omega (arith, quotient n (2 ^ 66 + 2 ^ 64) (omega (arith, h)))

  fits : (z : ℤ) → unsigned_abs z ≤ 2 ^ 123 → FitsSigned w128 z
  fits z small = fits_signed_from_abs w128 z (omega (arith, small))

  pub unit_fits : FitsSigned w128 (l *ℤ unit)
  unit_fits = fits (l *ℤ unit) (omega (arith, unit_size))

  pub twice_fits : FitsSigned w128 (pos 2 *ℤ w)
  twice_fits = fits (pos 2 *ℤ w) (omega (arith, twice_size))

  pub inner_fits : FitsSigned w128 inner
  inner_fits = fits inner (omega (arith, inner_size))

  pub product_fits : FitsSigned w128 (l *ℤ inner)
  product_fits = fits (l *ℤ inner) product_size

  pub shifted_fits : FitsSigned w128 (int_shr (l *ℤ inner) g)
  shifted_fits = fits (int_shr (l *ℤ inner) g) (omega (arith, shifted_size))

  pub shifted_value : int_shr (l *ℤ inner) g ≡ lumped_units g l w
  shifted_value = shift-floor (l *ℤ inner) g

  -- ---- near the rule

  abbrev h : Fraction
  h = scaling g

  abbrev u : Fraction
  u = over (pos 1) (2 ^ 64)

  -- a unit at the scale is 1 / G
  unit-scaled : whole unit *ℚ u ≡ h
  unit-scaled =
      let d = 2 ^ (64 - g) in
      ap (λ k. whole (pos d) *ℚ over (pos 1) k) (sym parts)
      ∙ ap (λ x. whole (pos d) *ℚ x) (sym (over_mul (pos 1) (pos 1) (2 ^ g) d (pow_pos g) (pow_pos (64 - g))))
      ∙ turned (whole (pos d)) (over (pos 1) d) h (inverse d (pow_pos (64 - g)))
    where
      turned : (d e h : Fraction) → d *ℚ e ≡ whole (pos 1) → d *ℚ (h *ℚ e) ≡ h
      turned d e h is =
          ring (d ∷ e ∷ h ∷ []) (hlevel terms) refl ∙ ap (λ x. x *ℚ h) is ∙ ring (h ∷ []) (hlevel terms) refl

  inner-is : whole inner ≡ whole (pos 2) *ℚ whole w +ℚ whole l *ℚ whole unit
  inner-is = whole_add (pos 2 *ℤ w) (l *ℤ unit) ∙ ap₂ ◌+ℚ◌ (whole_mul (pos 2) w) (whole_mul l unit)

  -- what is added is below the rule's by less than a unit
  pub lumped_near : (z : ℤ) → IsLumped g l w z (z +ℤ lumped_units g l w)
  lumped_near z =
      let f = lumped_units g l w in
      let x = l *ℤ inner in
      let product : over x (2 ^ g) ≡ whole l *ℚ (whole (pos 2) *ℚ whole w +ℚ whole l *ℚ whole unit) *ℚ h =
      over_is x (2 ^ g) ∙ ap (λ y. y *ℚ h) (whole_mul l inner ∙ ap (λ y. whole l *ℚ y) inner-is) in
      let new : units (z +ℤ f) ≡ units z +ℚ whole f *ℚ u =
      over_add z f (2 ^ 64) ∙ ap (λ y. units z +ℚ y) (over_is f (2 ^ 64)) in
      let below = le_trans (floor_le x (2 ^ g) (pow_pos g)) (le_of_equal product) in
      let above = le_trans (le_of_equal (sym product)) (le_of_lt (lt_next x (2 ^ g) (pow_pos g))) in
      rw (new, over_is w (2 ^ 64)) (size_le_of_between
      (low (units z) (whole f) (whole l) (whole w) (whole unit) h u above unit-scaled (natural 1 (2 ^ 64)))
      (high (units z) (whole f) (whole l) (whole w) (whole unit) h u below unit-scaled (natural 1 (2 ^ 64))))
    where
      low : (z f l w p h u : Fraction) → l *ℚ (whole (pos 2) *ℚ w +ℚ l *ℚ p) *ℚ h ≤ℚ f +ℚ whole (pos 1) → p *ℚ u ≡ h
          → whole (pos 0) ≤ℚ u → opposite u ≤ℚ (z +ℚ f *ℚ u) -ℚ second_with_lump (h *ℚ l) (w *ℚ u) z
      low z f l w p h u above is some =
          linear (z ∷ f ∷ l ∷ w ∷ p ∷ h ∷ u ∷ []) (above ⊠ some ⊞ (l *ℚ l *ℚ h) · sym is) (hlevel claims) refl

      high : (z f l w p h u : Fraction) → f ≤ℚ l *ℚ (whole (pos 2) *ℚ w +ℚ l *ℚ p) *ℚ h → p *ℚ u ≡ h
          → whole (pos 0) ≤ℚ u → (z +ℚ f *ℚ u) -ℚ second_with_lump (h *ℚ l) (w *ℚ u) z ≤ℚ u
      high z f l w p h u below is some =
          linear (z ∷ f ∷ l ∷ w ∷ p ∷ h ∷ u ∷ []) (below ⊠ some ⊞ (l *ℚ l *ℚ h) · is ⊞ some) (hlevel claims) refl

-- no amount adds nothing
pub none_lumped : (l w : ℤ) (g : ℕ) → l ≡ pos 0 → lumped_units g l w ≡ pos 0
none_lumped l w g none =
    let some : pos 0 <ℤ pos (2 ^ g) = omega (arith, ints, pow_pos g) in
    ap (λ (a : ℤ). lumped_units g a w) none
    ∙ ap (λ (z : ℤ). floor_of z (pos (2 ^ g)))
    (zero-*ℤ ((pos 2 *ℤ w) +ℤ (pos 0 *ℤ pos (2 ^ (64 - g)))) ∙ sym (zero-*ℤ (pos (2 ^ g))))
    ∙ floor-multiple (pos 0) (pos (2 ^ g)) some

-- the amount of what is found is one of them
abbrev IsSmall : ℕ → ℕ × ℤ → Type 0
IsSmall most lump = unsigned_abs lump.1 ≤ most

abbrev amount_found : Option (ℕ × ℤ) → ℤ
amount_found found = unwrap_or (option_map (λ (lump : ℕ × ℤ). lump.1) found) (pos 0)

pub amount_small : (lumps : List (ℕ × ℤ)) (state most : ℕ) → All (λ (lump : ℕ × ℤ). unsigned_abs lump.1 ≤ most) lumps
    → unsigned_abs (amount_in lumps state) ≤ most
amount_small [] state most all = omega arith
amount_small (x ∷ xs) state most all =
    choose (x.0 == state) (amount_small xs state most (All-tail (IsSmall most) x xs all))
  where
    choose : (b : Bool) → unsigned_abs (amount_found (find (λ lump. lump.0 == state) xs)) ≤ most
        → unsigned_abs (amount_found (cond b (Some x) (find (λ lump. lump.0 == state) xs))) ≤ most
    choose true later = All-head (IsSmall most) x xs all
    choose false later = later

-- one state more
module _ (old second first : List ℤ) (lumps : List (ℕ × ℤ)) (g k : ℕ) (v : ℤ) where
  abbrev Rule : List ℤ → ℕ → Type 0
  Rule new i = slice_index_or new i (pos 0)
      ≡ slice_index_or old i (pos 0) +ℤ lumped_units g (amount_in lumps i) (slice_index_or first i (pos 0))

  pub rule_more : k < length second → v ≡ slice_index_or second k (pos 0)
      +ℤ lumped_units g (amount_in lumps k) (slice_index_or first k (pos 0))
      → slice_index_or second k (pos 0) ≡ slice_index_or old k (pos 0) → ((i : ℕ) → i < k → Rule second i)
      → (i : ℕ) → i < k + 1 → Rule (set second k v) i
  rule_more inside is kept done = set_below second k v
      (λ i. slice_index_or old i (pos 0) +ℤ lumped_units g (amount_in lumps i) (slice_index_or first i (pos 0))) inside
      done (is ∙ ap (λ (z : ℤ). z +ℤ lumped_units g (amount_in lumps k) (slice_index_or first k (pos 0))) kept)

  pub kept_more : ((i : ℕ) → k ≤ i → slice_index_or second i (pos 0) ≡ slice_index_or old i (pos 0))
      → (i : ℕ) → k + 1 ≤ i → slice_index_or (set second k v) i (pos 0) ≡ slice_index_or old i (pos 0)
  kept_more kept i past =
      get_or-set_other second k i v (pos 0) (λ e. absurd (omega (arith, past, e))) ∙ kept i (omega (arith, past))
