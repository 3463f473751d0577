-- What the interval of a state encloses, and its printed ends.
use Rattle.std.specs.Prelude.{◌≡◌, ℕ, pos, ◌*◌, ◌^◌, ◌<◌, ◌≤◌, ◌==◌, if◌then◌else◌, Bool, true, false, ℤ, ◌+ℤ◌, ◌*ℤ◌}
use Rattle.std.specs.Prelude.{◌≤ℤ◌, ◌-ℤ◌, List, [], ◌∷◌, length, slice_index_or}
use Rattle.std.proofs.Common.{refl, ap, subst, ◌∙◌, arith}
use Rattle.std.proofs.lemmas.Int.{ints}
use mathlib.Core.Path.{ap₂}
use Rattle.frac_laws.specs.Fraction.{Fraction, over, whole, size, ◌-ℚ◌, ◌*ℚ◌, ◌≤ℚ◌}
use Rattle.frac_laws.specs.Rounding.{floor_of, ceiling_of}
use Rattle.frac_laws.proofs.FractionTerms.{ring, terms}
use Rattle.frac_laws.proofs.Quotients.{cross_of_over_le}
use Rattle.fixed_interval.specs.declared.interval.Interval.{Interval}
use Rattle.fixed_interval.specs.declared.printed.Printed.{Printed}
use Rattle.fixed_interval.specs.Intervals.{LiesIn, LiesInside}
use Rattle.fixed_interval.specs.Printing.{LiesBetween, AreSmallEnds, printed_width}
use Rattle.model_specs.specs.Product.{Product}
use Rattle.model_specs.specs.Ledgers.{radius_forward}
use Rattle.model_specs.specs.Runs.{probability, probabilities}
use Rattle.thiele_backward.proofs.WrittenDates.{ends_for}
use Rattle.kolmogorov_forward.specs.MonthRuns.{AreNearAt}
use Rattle.kolmogorov_forward.specs.Results.{whole_ends}
use Rattle.kolmogorov_forward.specs.Dates.{IsProbabilityAt}
use Rattle.kolmogorov_forward.proofs.NearNumbers.{state_near}
use Rattle.kolmogorov_forward.proofs.StartNumbers.{issue-is}

-- at a state the interval round its number encloses the probability of each degree
pub encloses_probability : (product : Product) (degree date rad state : ℕ) (mid : List ℤ) (i : Interval)
    → rad ≡ radius_forward product date → AreNearAt product degree date mid → state < length mid
    → ((x : Fraction) → size (x -ℚ over (slice_index_or mid state (pos 0)) (2 ^ 64)) ≤ℚ over (pos rad) (2 ^ 64)
    → LiesIn (whole (pos (2 ^ 0)) *ℚ x) i)
    → (n : ℕ) → degree ≤ n → LiesIn (probability product n date state) i
encloses_probability product degree date rad state mid i is near inside encloses n from =
    let p = probability product n date state in
    let same : whole (pos (2 ^ 0)) *ℚ p ≡ p = ring (p ∷ []) (hlevel terms) refl in
    subst (λ x. LiesIn x i) same
    (encloses p (rw is (state_near (probabilities product n date) mid (radius_forward product date) state
    (near n from) inside)))

-- ---- printed ends

inside_none : (x : Fraction) (i : Interval) → LiesIn x i → LiesInside 0 x i
inside_none x i lies = record { at_least = rw lo lies.at_least; at_most = rw hi lies.at_most }
  where
    lo : i.lo +ℤ pos 0 ≡ i.lo
    lo = omega (arith, ints)

    hi : i.hi -ℤ pos 0 ≡ i.hi
    hi = omega (arith, ints)

-- an end that is a whole number
whole_end : (z : ℤ) (k : ℕ) → over z (2 ^ 64) ≤ℚ whole (pos k) → whole (pos k) ≤ℚ over z (2 ^ 64)
    → z ≡ pos (k * 2 ^ 64)
whole_end z k below above =
    let most = cross_of_over_le z (pos k) (2 ^ 64) 1 (omega arith) (omega arith) below in
    let least = cross_of_over_le (pos k) z 1 (2 ^ 64) (omega arith) (omega arith) above in
    omega (arith, ints, most, least)

-- an interval that holds 1, or 0, and nothing else
module _ (i : Interval) (ends : Printed) (one : i.hi ≡ i.lo)
    (lo : ends.lo ≡ floor_of (i.lo *ℤ pos (10 ^ 6)) (pos (2 ^ 64)))
    (hi : ends.hi ≡ ceiling_of (i.hi *ℤ pos (10 ^ 6)) (pos (2 ^ 64))) where
  end_is : (k : ℕ) → LiesIn (whole (pos k)) i → i.lo ≡ pos (k * 2 ^ 64)
  end_is k lies = whole_end i.lo k lies.at_least (rw one at lies.at_most)

  ends_by : (k : ℕ) → floor_of (pos (k * 2 ^ 64) *ℤ pos (10 ^ 6)) (pos (2 ^ 64)) ≡ pos (k * 10 ^ 6)
      → ceiling_of (pos (k * 2 ^ 64) *ℤ pos (10 ^ 6)) (pos (2 ^ 64)) ≡ pos (k * 10 ^ 6) → LiesIn (whole (pos k)) i
      → ends ≡ whole_ends k
  ends_by k down up lies =
      let is = end_is k lies in
      let below : ends.lo ≡ pos (k * 10 ^ 6) =
      lo ∙ ap (λ (z : ℤ). floor_of (z *ℤ pos (10 ^ 6)) (pos (2 ^ 64))) is ∙ down in
      let above : ends.hi ≡ pos (k * 10 ^ 6) =
      hi ∙ ap (λ (z : ℤ). ceiling_of (z *ℤ pos (10 ^ 6)) (pos (2 ^ 64))) (one ∙ is) ∙ up in
      ap₂ (λ (l h : ℤ). record { lo = l; hi = h }) below above

  exact_ends : (b : Bool) → LiesIn (whole (pos (if b then 1 else 0))) i → ends ≡ whole_ends (if b then 1 else 0)
  exact_ends true = ends_by 1 refl refl
  exact_ends false = ends_by 0 refl refl

-- the printed ends of a state's interval
pub probability_ends : (product : Product) (degree date state : ℕ) (i : Interval) (ends : Printed)
    → state < length product.states → ((n : ℕ) → degree ≤ n → LiesIn (probability product n date state) i)
    → i.hi ≡ i.lo +ℤ pos (2 * radius_forward product date)
    → ends.lo ≡ floor_of (i.lo *ℤ pos (10 ^ 6)) (pos (2 ^ 64))
    → ends.hi ≡ ceiling_of (i.hi *ℤ pos (10 ^ 6)) (pos (2 ^ 64)) → ends.lo ≤ℤ ends.hi → AreSmallEnds ends
    → ((x : Fraction) → LiesIn x i → LiesBetween ends x)
    → ((width : ℕ) → i.hi ≤ℤ (i.lo +ℤ pos width) → ends.hi ≤ℤ (ends.lo +ℤ pos (printed_width width)))
    → IsProbabilityAt product degree date state ends
probability_ends product degree date state i ends inside held width lo hi ordered small encloses narrow = record {
  holds = ends_for degree 0 (radius_forward product date) 0 (λ n. probability product n date state) i ends
      (λ n from. inside_none (probability product n date state) i (held n from))
      (width ∙ ap (λ w. i.lo +ℤ pos w) (no_scale (radius_forward product date))) ordered small encloses narrow;
  issue = λ is. exact_ends i ends (at_issue is) lo hi (state == product.start)
      (subst (λ x. LiesIn x i) (ap (λ d. probability product degree d state) is ∙ issue-is product degree state inside)
      (held degree (omega arith)));
}
  where
    no_scale : (w : ℕ) → 2 * w ≡ 2 * w * 2 ^ 0
    no_scale w = omega arith

    at_issue : date ≡ 0 → i.hi ≡ i.lo
    at_issue is =
        let none : radius_forward product date ≡ 0 = ap (radius_forward product) is in
        same i.lo i.hi (radius_forward product date) width none
      where
        same : (l h : ℤ) (w : ℕ) → h ≡ l +ℤ pos (2 * w) → w ≡ 0 → h ≡ l
        same l h w is none = omega (arith, ints, is, none)
