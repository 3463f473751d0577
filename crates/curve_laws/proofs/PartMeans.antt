-- The mean over a part.
use Rattle.std.proofs.Common.{◌≡◌, ℕ, zero, suc, pos, ◌+◌, ◌≤◌, List, [], ◌∷◌, refl, ap, sym, ◌∙◌, arith}
use mathlib.Core.Path.{ap₂, fun_ext}
use Rattle.frac_laws.specs.Fraction.{Fraction, over, whole, ◌+ℚ◌, ◌-ℚ◌, ◌*ℚ◌, ◌≤ℚ◌}
use Rattle.frac_laws.specs.Lists.{add_lists, scale_list}
use Rattle.frac_laws.proofs.FractionTerms.{ring, terms}
use Rattle.frac_laws.proofs.Linear.{linear, claims, natural, ◌⊞◌, ◌⊠◌}
use Rattle.curve_laws.specs.PartLaws.{weighted_mean}
use Rattle.curve_laws.proofs.ControlLists.{differences, mixed, part_form, part_form-combined}
use Rattle.curve_laws.proofs.PartBounds.{mixed_le, le_mixed}

-- the integral of x^i (1 - x)^j p over [0, 1]
abbrev pub moment : ℕ → ℕ → List Fraction → Fraction
moment i zero p = weighted_mean i p
moment i (suc j) p = moment i j p -ℚ moment (suc i) j p

weighted_mean-add : (i : ℕ) (p q : List Fraction)
    → weighted_mean i (add_lists p q) ≡ weighted_mean i p +ℚ weighted_mean i q
weighted_mean-add i [] q = ring (weighted_mean i q ∷ []) (hlevel terms) refl
weighted_mean-add i (c ∷ p) [] = ring (weighted_mean i (c ∷ p) ∷ []) (hlevel terms) refl
weighted_mean-add i (c ∷ p) (e ∷ q) =
    ap (λ z. over (pos 1) (suc i) *ℚ (c +ℚ e) +ℚ z) (weighted_mean-add (suc i) p q)
    ∙ ring (over (pos 1) (suc i) ∷ c ∷ e ∷ weighted_mean (suc i) p ∷ weighted_mean (suc i) q ∷ []) (hlevel terms) refl

moment-add : (i j : ℕ) (p q : List Fraction) → moment i j (add_lists p q) ≡ moment i j p +ℚ moment i j q
moment-add i zero p q = weighted_mean-add i p q
moment-add i (suc j) p q =
    ap₂ ◌-ℚ◌ (moment-add i j p q) (moment-add (suc i) j p q)
    ∙ ring (moment i j p ∷ moment i j q ∷ moment (suc i) j p ∷ moment (suc i) j q ∷ []) (hlevel terms) refl

moment-next : (i j : ℕ) (p : List Fraction) → moment i j (whole (pos 0) ∷ p) ≡ moment (suc i) j p
moment-next i zero p = ring (over (pos 1) (suc i) ∷ weighted_mean (suc i) p ∷ []) (hlevel terms) refl
moment-next i (suc j) p = ap₂ ◌-ℚ◌ (moment-next i j p) (moment-next (suc i) j p)

-- one step of a part splits a moment
moment-step : (i j n : ℕ) (s d : Fraction) (b : ℕ → Fraction)
    → moment i j (part_form (suc n) s d b)
    ≡ moment i (suc j) (part_form n s d (mixed s b)) +ℚ moment (suc i) j (part_form n s d (mixed (s +ℚ d) b))
moment-step i j n s d b =
    moment-add i j ms (whole (pos 0) ∷ scale_list d ds)
    ∙ ap (λ z. moment i j ms +ℚ z) (moment-next i j (scale_list d ds))
    ∙ ring (moment i j ms ∷ moment (suc i) j ms ∷ moment (suc i) j (scale_list d ds) ∷ []) (hlevel terms) refl
    ∙ ap (λ z. moment i (suc j) ms +ℚ z)
    (sym (moment-add (suc i) j ms (scale_list d ds))
    ∙ ap (moment (suc i) j) (sym (part_form-combined n s d d (mixed s b) (differences b))
    ∙ ap (part_form n s d) (fun_ext (λ k. ring (s ∷ d ∷ b k ∷ b (suc k) ∷ []) (hlevel terms) refl))))
  where
    ms : List Fraction
    ms = part_form n s d (mixed s b)

    ds : List Fraction
    ds = part_form n s d (differences b)

-- the ends of the part lie in [0, 1]
pub record IsPart (s d : Fraction) : Type 0 where
  pub start_low : whole (pos 0) ≤ℚ s
  pub start_high : s ≤ℚ whole (pos 1)
  pub end_low : whole (pos 0) ≤ℚ s +ℚ d
  pub end_high : s +ℚ d ≤ℚ whole (pos 1)

-- the moments of 1
abbrev pub unit_moment : ℕ → ℕ → Fraction
unit_moment i j = moment i j (whole (pos 1) ∷ [])

constant_moment : (i j : ℕ) (low c : Fraction) → i + j ≡ 5 → low ≤ℚ c → low *ℚ unit_moment i j ≤ℚ moment i j (c ∷ [])
constant_moment zero (suc (suc (suc (suc (suc zero))))) low c e h =
    linear (low ∷ c ∷ []) (natural 1 6 ⊠ h) (hlevel claims) refl
constant_moment (suc zero) (suc (suc (suc (suc zero)))) low c e h =
    linear (low ∷ c ∷ []) (natural 1 30 ⊠ h) (hlevel claims) refl
constant_moment (suc (suc zero)) (suc (suc (suc zero))) low c e h =
    linear (low ∷ c ∷ []) (natural 1 60 ⊠ h) (hlevel claims) refl
constant_moment (suc (suc (suc zero))) (suc (suc zero)) low c e h =
    linear (low ∷ c ∷ []) (natural 1 60 ⊠ h) (hlevel claims) refl
constant_moment (suc (suc (suc (suc zero)))) (suc zero) low c e h =
    linear (low ∷ c ∷ []) (natural 1 30 ⊠ h) (hlevel claims) refl
constant_moment (suc (suc (suc (suc (suc zero))))) zero low c e h =
    linear (low ∷ c ∷ []) (natural 1 6 ⊠ h) (hlevel claims) refl
constant_moment i j low c e h = absurd (omega arith)

constant_below : (i j : ℕ) (high c : Fraction) → i + j ≡ 5 → c ≤ℚ high → moment i j (c ∷ []) ≤ℚ high *ℚ unit_moment i j
constant_below zero (suc (suc (suc (suc (suc zero))))) high c e h =
    linear (high ∷ c ∷ []) (natural 1 6 ⊠ h) (hlevel claims) refl
constant_below (suc zero) (suc (suc (suc (suc zero)))) high c e h =
    linear (high ∷ c ∷ []) (natural 1 30 ⊠ h) (hlevel claims) refl
constant_below (suc (suc zero)) (suc (suc (suc zero))) high c e h =
    linear (high ∷ c ∷ []) (natural 1 60 ⊠ h) (hlevel claims) refl
constant_below (suc (suc (suc zero))) (suc (suc zero)) high c e h =
    linear (high ∷ c ∷ []) (natural 1 60 ⊠ h) (hlevel claims) refl
constant_below (suc (suc (suc (suc zero)))) (suc zero) high c e h =
    linear (high ∷ c ∷ []) (natural 1 30 ⊠ h) (hlevel claims) refl
constant_below (suc (suc (suc (suc (suc zero))))) zero high c e h =
    linear (high ∷ c ∷ []) (natural 1 6 ⊠ h) (hlevel claims) refl
constant_below i j high c e h = absurd (omega arith)

-- bounds of a control list are bounds of the moments of its parts
moment_above : (n i j : ℕ) (s d low : Fraction) (b : ℕ → Fraction) → i + j + n ≡ 5 → IsPart s d
    → ((k : ℕ) → k ≤ n → low ≤ℚ b k) → low *ℚ unit_moment i j ≤ℚ moment i j (part_form n s d b)
moment_above zero i j s d low b e part h = constant_moment i j low (b 0) (omega arith) (h 0 (omega arith))
moment_above (suc n) i j s d low b e part h =
    let first = moment_above n i (suc j) s d low (mixed s b) (omega arith) part
    (λ k below. le_mixed {x = b k} {y = b (suc k)} s part.start_low part.start_high (h k (omega arith)) (h
    (suc k) (omega arith))) in
    let second = moment_above n (suc i) j s d low (mixed (s +ℚ d) b) (omega arith) part
    (λ k below. le_mixed {x = b k} {y = b (suc k)} (s +ℚ d) part.end_low part.end_high (h k (omega arith)) (h
    (suc k) (omega arith))) in
    rw (moment-step i j n s d b)
    (linear (low ∷ unit_moment i j ∷ unit_moment (suc i) j ∷ moment i (suc j) (part_form n s d (mixed s b))
    ∷ moment (suc i) j (part_form n s d (mixed (s +ℚ d) b)) ∷ []) (first ⊞ second) (hlevel claims) refl)

moment_below : (n i j : ℕ) (s d high : Fraction) (b : ℕ → Fraction) → i + j + n ≡ 5 → IsPart s d
    → ((k : ℕ) → k ≤ n → b k ≤ℚ high) → moment i j (part_form n s d b) ≤ℚ high *ℚ unit_moment i j
moment_below zero i j s d high b e part h = constant_below i j high (b 0) (omega arith) (h 0 (omega arith))
moment_below (suc n) i j s d high b e part h =
    let first = moment_below n i (suc j) s d high (mixed s b) (omega arith) part
    (λ k below. mixed_le {x = b k} {y = b (suc k)} s part.start_low part.start_high (h k (omega arith)) (h
    (suc k) (omega arith))) in
    let second = moment_below n (suc i) j s d high (mixed (s +ℚ d) b) (omega arith) part
    (λ k below. mixed_le {x = b k} {y = b (suc k)} (s +ℚ d) part.end_low part.end_high (h k (omega arith)) (h
    (suc k) (omega arith))) in
    rw (moment-step i j n s d b)
    (linear (high ∷ unit_moment i j ∷ unit_moment (suc i) j ∷ moment i (suc j) (part_form n s d (mixed s b))
    ∷ moment (suc i) j (part_form n s d (mixed (s +ℚ d) b)) ∷ []) (first ⊞ second) (hlevel claims) refl)

pub mean_above : (s d low : Fraction) (b : ℕ → Fraction) → IsPart s d → ((k : ℕ) → k ≤ 5 → low ≤ℚ b k)
    → low ≤ℚ weighted_mean 0 (part_form 5 s d b)
mean_above s d low b part h =
    linear (low ∷ weighted_mean 0 (part_form 5 s d b) ∷ []) (moment_above 5 0 0 s d low b refl part h)
    (hlevel claims) refl

pub mean_below : (s d high : Fraction) (b : ℕ → Fraction) → IsPart s d → ((k : ℕ) → k ≤ 5 → b k ≤ℚ high)
    → weighted_mean 0 (part_form 5 s d b) ≤ℚ high
mean_below s d high b part h =
    linear (high ∷ weighted_mean 0 (part_form 5 s d b) ∷ []) (moment_below 5 0 0 s d high b refl part h)
    (hlevel claims) refl
