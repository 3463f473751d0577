-- The lumps of a date carry the differences of both moments as the second ledger counts them.
use Rattle.std.specs.Prelude.{◌≡◌, ℕ, pos, ◌+◌, ◌*◌, ◌^◌, ◌<◌, ◌≤◌, unsigned_abs, ℤ, List, [], ◌∷◌, length, map}
use Rattle.std.specs.Int.{div_ceil}
use Rattle.std.proofs.Common.{refl, ap, sym, ◌∙◌, arith, inl, inr, pow_pos}
use Rattle.std.proofs.lemmas.Bool.{cases_lt}
use Rattle.std.proofs.Math.IntN.{pos-*ℤ-pos}
use mathlib.Core.Path.{ap₂}
use Rattle.frac_laws.specs.Fraction.{Fraction, over, whole, size, ◌+ℚ◌, ◌-ℚ◌, ◌*ℚ◌, ◌≤ℚ◌}
use Rattle.frac_laws.specs.Sums.{power}
use Rattle.frac_laws.specs.Lists.{Vector, number_at, scale_list}
use Rattle.frac_laws.specs.Norms.{Sup}
use Rattle.frac_laws.proofs.FractionTerms.{ring, terms}
use Rattle.frac_laws.proofs.Linear.{linear, claims, natural, ◌⊞◌, ◌⊠◌}
use Rattle.frac_laws.proofs.LedgerFacts.{rounded_up_le}
use Rattle.frac_laws.proofs.Norms.{norm_natural, size_zero}
use Rattle.frac_laws.proofs.Order.{le_trans, le_of_equal, mul_mono}
use Rattle.frac_laws.proofs.Quotients.{whole_add, whole_mul}
use Rattle.frac_laws.proofs.Sizes.{size_add, size_mul, size_mul_natural, size_of_natural, size_natural}
use Rattle.frac_laws.proofs.Vectors.{number_at-scale_list}
use Rattle.cell_laws.specs.ErrorLaws.{distance}
use Rattle.cell_laws.proofs.Decay.{eights_natural}
use Rattle.model_specs.specs.Product.{Product}
use Rattle.model_specs.specs.Payments.{Plan, payment_plan, lump_at, lumps_at}
use Rattle.whole_laws.specs.Whole.{greatest_natural}
use Rattle.model_specs.specs.Ledgers.{date_adds, greatest_lump, scale}
use Rattle.model_specs.specs.Runs.{Moments, before_lumps}
use Rattle.whole_laws.proofs.ListsByPlace.{at-list_of, past-list_of}
use Rattle.product_cells.specs.EachCell.{plan_scaling}
use Rattle.moment_laws.proofs.LumpSizes.{lump_within, size-whole}
use Rattle.sweep_laws.proofs.PairSweeps.{distance_most, number_near}
use Rattle.limit_laws.specs.CellTails.{IsWithinRadius}
use Rattle.limit_laws.proofs.ModulusForms.{over_product}

-- a + 2 l d by the sizes of its parts
twice_product : (a d l s r t : Fraction) → size a ≤ℚ s → size d ≤ℚ r → size l ≤ℚ t
    → size (a +ℚ whole (pos 2) *ℚ l *ℚ d) ≤ℚ s +ℚ whole (pos 2) *ℚ t *ℚ r
twice_product a d l s r t ha hd hl =
    combine (size (a +ℚ whole (pos 2) *ℚ l *ℚ d)) (size a) (size (whole (pos 2) *ℚ l *ℚ d))
    (size_add a (whole (pos 2) *ℚ l *ℚ d)) ha
    (size_mul (whole (pos 2) *ℚ l) d ∙ ap (λ y. y *ℚ size d) (size_mul_natural l (natural 2 1)))
    (mul_mono hl hd (size_natural l) (le_trans (size_natural d) hd))
  where
    combine : (x y z : Fraction) → x ≤ℚ y +ℚ z → y ≤ℚ s → z ≡ whole (pos 2) *ℚ size l *ℚ size d
        → size l *ℚ size d ≤ℚ t *ℚ r → x ≤ℚ s +ℚ whole (pos 2) *ℚ t *ℚ r
    combine x y z split first is product = linear (x ∷ y ∷ z ∷ size l ∷ size d ∷ s ∷ r ∷ t ∷ [])
        (split ⊞ first ⊞ le_of_equal is ⊞ product ⊠ natural 2 1) (hlevel claims) refl

-- a date's numbers: z + 2 l w + l^2 of two runs
date_number : (z w z2 w2 l s r t : Fraction) → size (z2 -ℚ z) ≤ℚ s → size (w2 -ℚ w) ≤ℚ r → size l ≤ℚ t
    → size ((z2 +ℚ whole (pos 2) *ℚ l *ℚ w2 +ℚ l *ℚ l) -ℚ (z +ℚ whole (pos 2) *ℚ l *ℚ w +ℚ l *ℚ l))
    ≤ℚ s +ℚ whole (pos 2) *ℚ t *ℚ r
date_number z w z2 w2 l s r t hz hw hl = rw parts (twice_product (z2 -ℚ z) (w2 -ℚ w) l s r t hz hw hl)
  where
    parts : (z2 +ℚ whole (pos 2) *ℚ l *ℚ w2 +ℚ l *ℚ l) -ℚ (z +ℚ whole (pos 2) *ℚ l *ℚ w +ℚ l *ℚ l)
        ≡ (z2 -ℚ z) +ℚ whole (pos 2) *ℚ l *ℚ (w2 -ℚ w)
    parts = ring (z ∷ w ∷ z2 ∷ w2 ∷ l ∷ []) (hlevel terms) refl

-- the ledger covers what a date adds: nothing without lumps, and else 2 l w / G
date_ledger : (n w s G : ℕ) (ls : List (ℕ × ℤ)) (d f : Fraction) → 1 ≤ G
    → IsWithinRadius n w d → IsWithinRadius n s f
    → let l = greatest_natural (map (λ x. unsigned_abs x.1) ls) in
    IsWithinRadius n (s + date_adds ls l w G) (f +ℚ whole (pos 2) *ℚ (over (pos 1) G *ℚ whole (pos l)) *ℚ d)
date_ledger n w s G [] d f some first second =
    let e : s + 0 ≡ s = omega arith in
    rw e (linear (power (whole (pos 8)) n ∷ f ∷ d ∷ over (pos 1) G ∷ whole (pos s) ∷ []) second (hlevel claims) refl)
date_ledger n w s G (x ∷ ls) d f some first second =
    let l = greatest_natural (map (λ x. unsigned_abs x.1) (x ∷ ls)) in
    let dc = div_ceil (2 * l * w) G in
    let rounded = rounded_up_le (2 * l * w) G some in
    let top : over (pos (2 * l * w)) G ≡ whole (pos 2) *ℚ whole (pos l) *ℚ whole (pos w) *ℚ over (pos 1) G =
    over_product (2 * l) w G ∙ ap (λ z. z *ℚ whole (pos w) *ℚ over (pos 1) G)
    (ap whole (sym (pos-*ℤ-pos 2 l)) ∙ whole_mul (pos 2) (pos l)) in
    let all : whole (pos (s + (dc + 4))) ≡ whole (pos s) +ℚ (whole (pos dc) +ℚ whole (pos 4)) =
    whole_add (pos s) (pos (dc + 4)) ∙ ap (λ z. whole (pos s) +ℚ z) (whole_add (pos dc) (pos 4)) in
    rw all (combine (power (whole (pos 8)) n) (whole (pos w)) (whole (pos s)) (whole (pos l)) (over (pos 1) G)
    (whole (pos dc)) (natural l 1) (natural 1 G) first second (rw top at rounded))
  where
    combine : (e w s l h dc : Fraction) → whole (pos 0) ≤ℚ l → whole (pos 0) ≤ℚ h
        → whole (pos (2 ^ 13)) *ℚ (e *ℚ d) ≤ℚ w → whole (pos (2 ^ 13)) *ℚ (e *ℚ f) ≤ℚ s
        → whole (pos 2) *ℚ l *ℚ w *ℚ h ≤ℚ dc
        → whole (pos (2 ^ 13)) *ℚ (e *ℚ (f +ℚ whole (pos 2) *ℚ (h *ℚ l) *ℚ d)) ≤ℚ s +ℚ (dc +ℚ whole (pos 4))
    combine e w s l h dc hl hh first second rounded = linear (e ∷ w ∷ s ∷ l ∷ h ∷ dc ∷ d ∷ f ∷ [])
        (second ⊞ ((first ⊠ hl) ⊠ hh) ⊠ natural 2 1 ⊞ rounded) (hlevel claims) refl

-- what is less is within a radius too
less_within : (n w : ℕ) (x y : Fraction) → x ≤ℚ y → IsWithinRadius n w y → IsWithinRadius n w x
less_within n w x y h held = linear (power (whole (pos 8)) n ∷ x ∷ y ∷ whole (pos w) ∷ [])
    ((h ⊠ eights_natural n) ⊠ natural 8192 1 ⊞ held) (hlevel claims) refl

-- two runs at a date: v of degree n, and u of a later degree
module _ (product : Product) (date : ℕ) (v u : Moments) where
  abbrev plan : Plan
  plan = payment_plan product

  abbrev h : Fraction
  h = plan_scaling product plan

  abbrev states : ℕ
  states = length product.states

  abbrev l : ℕ → Fraction
  l i = whole (lump_at plan date i)

  abbrev with_lumps : Moments → Vector
  with_lumps m = scale_list (h *ℚ h) (before_lumps product plan date m).second

  abbrev most : Fraction
  most = whole (pos (greatest_lump product plan date))

  moved : (m : Moments) (i : ℕ) → i < states → number_at (with_lumps m) i
      ≡ number_at (scale_list (h *ℚ h) m.second) i
      +ℚ whole (pos 2) *ℚ (h *ℚ l i) *ℚ number_at (scale_list h m.first) i +ℚ (h *ℚ l i) *ℚ (h *ℚ l i)
  moved m i b = number_at-scale_list (h *ℚ h) (before_lumps product plan date m).second i
      ∙ ap (λ z. h *ℚ h *ℚ z) (at-list_of states (λ i. number_at m.second i
      +ℚ whole (pos 2) *ℚ l i *ℚ number_at m.first i +ℚ l i *ℚ l i) i (whole (pos 0)) b)
      ∙ ring (h ∷ number_at m.second i ∷ number_at m.first i ∷ l i ∷ []) (hlevel terms) refl
      ∙ sym (ap₂ (λ p q. p +ℚ whole (pos 2) *ℚ (h *ℚ l i) *ℚ q +ℚ (h *ℚ l i) *ℚ (h *ℚ l i))
      (number_at-scale_list (h *ℚ h) m.second i) (number_at-scale_list h m.first i))

  beyond : (m : Moments) (i : ℕ) → states ≤ i → number_at (with_lumps m) i ≡ whole (pos 0)
  beyond m i b = number_at-scale_list (h *ℚ h) (before_lumps product plan date m).second i
      ∙ ap (λ z. h *ℚ h *ℚ z) (past-list_of states (λ i. number_at m.second i
      +ℚ whole (pos 2) *ℚ l i *ℚ number_at m.first i +ℚ l i *ℚ l i) i (whole (pos 0)) b)
      ∙ ring (h ∷ []) (hlevel terms) refl

  lump_small : (i : ℕ) → i < states → size (h *ℚ l i) ≤ℚ h *ℚ most
  lump_small i b =
      let some_h = natural 1 (2 ^ scale product plan) in
      le_trans (le_of_equal (size_mul h (l i) ∙ ap (λ z. z *ℚ size (l i)) (size_of_natural some_h)))
      (linear (h ∷ size (l i) ∷ most ∷ [])
      (size-whole (lump_at plan date i) (greatest_lump product plan date) (lump_within product plan date i b) ⊠ some_h)
      (hlevel claims) refl)

  abbrev first_apart : Fraction
  first_apart = distance Sup (scale_list h u.first) (scale_list h v.first)

  abbrev second_apart : Fraction
  second_apart = distance Sup (scale_list (h *ℚ h) u.second) (scale_list (h *ℚ h) v.second)

  lumps_apart : distance Sup (with_lumps u) (with_lumps v)
      ≤ℚ second_apart +ℚ whole (pos 2) *ℚ (h *ℚ most) *ℚ first_apart
  lumps_apart =
      let some : whole (pos 0) ≤ℚ second_apart +ℚ whole (pos 2) *ℚ (h *ℚ most) *ℚ first_apart =
      positive second_apart h most first_apart (norm_natural Sup _) (natural 1 (2 ^ scale product plan))
      (natural (greatest_lump product plan date) 1) (norm_natural Sup _) in
      distance_most (with_lumps u) (with_lumps v) _ some (λ i. elim (cases_lt i states) [
        | inl b ↦ le_trans (le_of_equal (ap size (ap₂ ◌-ℚ◌ (moved u i b) (moved v i b))))
            (date_number (number_at (scale_list (h *ℚ h) v.second) i) (number_at (scale_list h v.first) i)
            (number_at (scale_list (h *ℚ h) u.second) i) (number_at (scale_list h u.first) i) (h *ℚ l i)
            second_apart first_apart (h *ℚ most)
            (number_near (scale_list (h *ℚ h) u.second) (scale_list (h *ℚ h) v.second) i)
            (number_near (scale_list h u.first) (scale_list h v.first) i) (lump_small i b))
        | inr b ↦ le_trans (le_of_equal (ap size (ap₂ ◌-ℚ◌ (beyond u i b) (beyond v i b) ∙ ring [] (hlevel terms) refl)
            ∙ size_zero)) some
      ])
    where
      positive : (s h m d : Fraction) → whole (pos 0) ≤ℚ s → whole (pos 0) ≤ℚ h → whole (pos 0) ≤ℚ m
          → whole (pos 0) ≤ℚ d → whole (pos 0) ≤ℚ s +ℚ whole (pos 2) *ℚ (h *ℚ m) *ℚ d
      positive s h m d hs hh hm hd =
          linear (s ∷ h ∷ m ∷ d ∷ []) (hs ⊞ ((hh ⊠ hm) ⊠ hd) ⊠ natural 2 1) (hlevel claims) refl

  pub date_carried : (n w s : ℕ) → IsWithinRadius n w first_apart → IsWithinRadius n s second_apart
      → IsWithinRadius n
      (s + date_adds (lumps_at states plan date) (greatest_lump product plan date) w (2 ^ scale product plan))
      (distance Sup (with_lumps u) (with_lumps v))
  date_carried n w s first second = less_within n _ (distance Sup (with_lumps u) (with_lumps v)) _ lumps_apart
      (date_ledger n w s (2 ^ scale product plan) (lumps_at states plan date) first_apart second_apart
      (pow_pos (scale product plan)) first second)
