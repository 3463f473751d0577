-- What a mark says of each number of its interval.
use Rattle.std.proofs.Common.{◌≡◌, ℕ, true, ℤ, pos, ◌+ℤ◌, ◌-ℤ◌, ◌≤ℤ◌, ◌<ℤ◌, [], ◌∷◌, refl, subst, arith, inl, inr}
use Rattle.std.specs.Prelude.{◌↔◌, ◌⊎◌}
use Rattle.std.proofs.lemmas.Int.{ints}
use lib.Signed.{le_z}
use Rattle.frac_laws.specs.Fraction.{Fraction, whole, opposite, ◌+ℚ◌, ◌-ℚ◌, ◌≤ℚ◌, ◌<ℚ◌}
use Rattle.frac_laws.proofs.Linear.{linear, linear_lt, claims, ◌⊞◌}
use Rattle.frac_laws.proofs.Order.{lt_le_trans, add_le_lt}
use Rattle.frac_laws.proofs.Quotients.{whole_add, whole_sub, whole_le, whole_lt}
use Rattle.frac_laws.proofs.Sizes.{le_size, opposite_le_size, size_le, size_le_of_between}
use Rattle.claim_audit.specs.declared.finding.Finding.{Finding}
use Rattle.claim_audit.specs.declared.finding.Finding.TheVariants as finding
use Rattle.claim_audit.specs.Marks.{IsNear, IsFar, ImpliesNearness, distance}

-- an order that holds is found to hold
pub order_is_found : (x y : ℤ) → x ≤ℤ y → le_z x y ≡ true
order_is_found x y order = grind (arith, ints)

-- ---- orders of whole numbers as orders of fractions

low_order : (a b c : ℤ) → (a -ℤ b) ≤ℤ c → whole a -ℚ whole b ≤ℚ whole c
low_order a b c order = subst (λ low. low ≤ℚ whole c) (whole_sub a b) (whole_le order)

high_order : (a b c : ℤ) → c ≤ℤ (a +ℤ b) → whole c ≤ℚ whole a +ℚ whole b
high_order a b c order = subst (λ high. whole c ≤ℚ high) (whole_add a b) (whole_le order)

-- ---- yes and no

pub near_is_near : (claim eps lo hi : ℤ) → IsNear claim eps lo hi → ImpliesNearness finding.Yes claim eps lo hi
near_is_near claim eps lo hi near x tolerance at_least at_most narrow =
    let low = low_order claim eps lo near.0 in
    let high = high_order claim eps hi near.1 in
    size_le (linear (whole claim ∷ whole eps ∷ whole lo ∷ x ∷ []) (low ⊞ at_least) (hlevel claims) refl)
    (linear (whole claim ∷ whole eps ∷ whole hi ∷ x ∷ []) (high ⊞ at_most) (hlevel claims) refl)

pub far_is_far : (claim eps lo hi : ℤ) → IsFar claim eps lo hi → ImpliesNearness finding.No claim eps lo hi
far_is_far claim eps lo hi far x tolerance at_least at_most narrow = elim far [
  | inl below ↦
      let low : whole hi <ℚ whole claim -ℚ whole eps =
      subst (λ low. whole hi <ℚ low) (whole_sub claim eps) (whole_lt below) in
      let under : whole eps <ℚ whole claim -ℚ x =
      linear_lt (whole claim ∷ whole eps ∷ whole hi ∷ x ∷ []) (add_le_lt at_most low) (hlevel claims) refl in
      lt_le_trans under (le_size (whole claim -ℚ x))
  | inr above ↦
      let high : whole claim +ℚ whole eps <ℚ whole lo =
      subst (λ high. high <ℚ whole lo) (whole_add claim eps) (whole_lt above) in
      let over : whole eps <ℚ opposite (whole claim -ℚ x) =
      linear_lt (whole claim ∷ whole eps ∷ whole lo ∷ x ∷ []) (add_le_lt at_least high) (hlevel claims) refl in
      lt_le_trans over (opposite_le_size (whole claim -ℚ x))
]

-- ---- neither

-- an interval that is not far from a claim reaches into the numbers near it, from both sides
pub record Reaches (claim eps lo hi : ℤ) : Type 0 where
  pub low : (claim -ℤ eps) ≤ℤ hi
  pub high : lo ≤ℤ (claim +ℤ eps)

not_far_reaches : (claim eps lo hi : ℤ) → ¬ IsFar claim eps lo hi → Reaches claim eps lo hi
not_far_reaches claim eps lo hi not_far = record {
  low = at_most hi (claim -ℤ eps) (λ below. not_far (inl below));
  high = at_most (claim +ℤ eps) lo (λ above. not_far (inr above));
}
  where
    at_most : (a b : ℤ) → ¬ (a <ℤ b) → b ≤ℤ a
    at_most a b not_below = grind (arith, ints)

-- and one that is not near it leaves them, on one side
not_near_leaves : (claim eps lo hi : ℤ) → ¬ IsNear claim eps lo hi
    → (lo ≤ℤ (claim -ℤ eps)) ⊎ ((claim +ℤ eps) ≤ℤ hi)
not_near_leaves claim eps lo hi not_near = grind (arith, ints)

-- so the distance of the claim is at most eps and what the ends are apart
close_above : (claim eps lo hi : ℤ) (tolerance : ℕ) (x : Fraction) → Reaches claim eps lo hi → whole lo ≤ℚ x
    → x ≤ℚ whole hi → whole hi ≤ℚ whole lo +ℚ whole (pos tolerance)
    → distance claim x ≤ℚ whole eps +ℚ whole (pos tolerance)
close_above claim eps lo hi tolerance x reaches at_least at_most apart =
    let low = low_order claim eps hi reaches.low in
    let high = high_order claim eps lo reaches.high in
    let above : whole claim -ℚ x ≤ℚ whole eps +ℚ whole (pos tolerance) =
    linear (whole claim ∷ whole eps ∷ whole lo ∷ whole hi ∷ whole (pos tolerance) ∷ x ∷ [])
    (low ⊞ at_least ⊞ apart) (hlevel claims) refl in
    let below : opposite (whole claim -ℚ x) ≤ℚ whole eps +ℚ whole (pos tolerance) =
    linear (whole claim ∷ whole eps ∷ whole lo ∷ whole hi ∷ whole (pos tolerance) ∷ x ∷ [])
    (high ⊞ at_most ⊞ apart) (hlevel claims) refl in
    size_le above below

-- and at least eps less that
close_below : (claim eps lo hi : ℤ) (tolerance : ℕ) (x : Fraction)
    → ((lo ≤ℤ (claim -ℤ eps)) ⊎ ((claim +ℤ eps) ≤ℤ hi)) → whole lo ≤ℚ x → x ≤ℚ whole hi
    → whole hi ≤ℚ whole lo +ℚ whole (pos tolerance) → whole eps ≤ℚ distance claim x +ℚ whole (pos tolerance)
close_below claim eps lo hi tolerance x leaves at_least at_most apart = elim leaves [
  | inl below ↦
      let under = subst (λ end. whole lo ≤ℚ end) (whole_sub claim eps) (whole_le below) in
      linear (whole claim ∷ whole eps ∷ whole lo ∷ whole hi ∷ whole (pos tolerance) ∷ x ∷ distance claim x ∷ [])
      (under ⊞ at_most ⊞ apart ⊞ le_size (whole claim -ℚ x)) (hlevel claims) refl
  | inr above ↦
      let over = subst (λ end. end ≤ℚ whole hi) (whole_add claim eps) (whole_le above) in
      linear (whole claim ∷ whole eps ∷ whole lo ∷ whole hi ∷ whole (pos tolerance) ∷ x ∷ distance claim x ∷ [])
      (over ⊞ at_least ⊞ apart ⊞ opposite_le_size (whole claim -ℚ x)) (hlevel claims) refl
]

pub neither_is_close : (claim eps lo hi : ℤ) → ¬ IsNear claim eps lo hi → ¬ IsFar claim eps lo hi
    → ImpliesNearness finding.Undecided claim eps lo hi
neither_is_close claim eps lo hi not_near not_far x tolerance at_least at_most narrow =
    let apart = high_order lo (pos tolerance) hi narrow in
    let close = close_above claim eps lo hi tolerance x (not_far_reaches claim eps lo hi not_far) at_least at_most apart
    in
    let wide = close_below claim eps lo hi tolerance x (not_near_leaves claim eps lo hi not_near) at_least at_most apart
    in
    size_le_of_between
    (linear (whole eps ∷ whole (pos tolerance) ∷ distance claim x ∷ []) wide (hlevel claims) refl)
    (linear (whole eps ∷ whole (pos tolerance) ∷ distance claim x ∷ []) close (hlevel claims) refl)

-- ---- each mark

-- a mark that is given exactly by the interval implies nearness
pub mark_implies_nearness : (mark : Finding) (claim eps lo hi : ℤ)
    → ((mark ≡ finding.Yes) ↔ IsNear claim eps lo hi) → ((mark ≡ finding.No) ↔ IsFar claim eps lo hi)
    → ImpliesNearness mark claim eps lo hi
mark_implies_nearness finding.Yes claim eps lo hi by_yes by_no = near_is_near claim eps lo hi (by_yes.0 refl)
mark_implies_nearness finding.No claim eps lo hi by_yes by_no = far_is_far claim eps lo hi (by_no.0 refl)
mark_implies_nearness finding.Undecided claim eps lo hi by_yes by_no = neither_is_close claim eps lo hi
    (λ near. absurd (let wrong = by_yes.1 near in cc)) (λ far. absurd (let wrong = by_no.1 far in cc))
