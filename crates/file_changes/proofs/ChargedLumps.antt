-- Charged lumps obey rule 12.
use Rattle.std.proofs.Common.{◌≡◌, ◌≢◌, ℕ, ◌+◌, ◌*◌, ◌/◌, ◌%◌, ◌<◌, ◌≤◌, ℤ, pos, List, length}
use Rattle.std.proofs.Common.{map, get_or, arith, refl, ap, sym, ◌∙◌, subst}
use Rattle.std.specs.Prelude.{All, Bool, true, false, not, filter, ◌==◌, ◌&&◌}
use Rattle.std.proofs.Math.Nat.{mod-lt, div-add-mod, div-lt_iff_lt-mul}
use Rattle.std.proofs.lemmas.Bool.{eq-eqb}
use Rattle.std.proofs.lemmas.List.{get_or-map, length-map, map-append}
use Rattle.std.proofs.lemmas.List.Elements.{All-append, All-map, All-filter, filter_passes}
use Rattle.std.proofs.lemmas.List.Folds.{list_any_at}
use Rattle.std.proofs.lemmas.Simd.{map-map}
use Rattle.whole_laws.specs.Whole.{places}
use Rattle.whole_laws.proofs.ListsByPlace.{All-list_of}
use Rattle.model_specs.specs.Product.{Product, Lump}
use Rattle.model_specs.specs.RecordRules.{AreDistinct, HasGoodLumps, IsWellFormed}
use Rattle.joint_life.proofs.DistinctLists.{distinct_append, distinct_filter, distinct_map, distinct_places}
use Rattle.file_changes.specs.Asks.{AreSmallLumps}
use Rattle.file_changes.specs.Charges.{has_lump, is_missing, zero_lump}
use Rattle.file_changes.specs.Charges.{completed_lumps, charged_lump, charged_lumps, with_lumps}

-- what fails where a test and its contrary hold together
second_fails : (a b : Bool) → (a && not b) ≡ true → b ≡ false
second_fails true true h = absurd (cc h)
second_fails true false h = refl
second_fails false b h = absurd (cc h)

-- the date and the state of a lump
abbrev place_of : Lump → ℕ × ℕ
place_of l = (l.month, l.state)

-- and those of a place
abbrev split : (states : ℕ) → ℕ → ℕ × ℕ
split states k = (k / states, k % states)

module _ (p : Product) (h : IsWellFormed p) where
  abbrev s : ℕ
  s = length p.states

  abbrev missing : ℕ → Bool
  missing = is_missing s p.lumps p.pattern

  abbrev those : List ℕ
  those = filter missing (places (p.pattern.until * s))

  some : 0 < s
  some = h.names.some_state

  -- places of a date before until
  inside : All (λ k. k < p.pattern.until * s) those
  inside = All-filter missing (λ k. k < p.pattern.until * s) (places (p.pattern.until * s))
      (All-list_of (λ k. k < p.pattern.until * s) (p.pattern.until * s) (λ k. k) (λ k below. below))

  zeros_dates : All (λ (l : Lump). l.month ≤ p.months) (map (zero_lump s) those)
  zeros_dates = All-map (λ (l : Lump). l.month ≤ p.months) (zero_lump s) those
      (λ k d below. omega (arith, (div-lt_iff_lt-mul some).1 (inside k d below), h.pattern.until_within))

  zeros_states : All (λ (l : Lump). l.state < s) (map (zero_lump s) those)
  zeros_states = All-map (λ (l : Lump). l.state < s) (zero_lump s) those (λ k d below. mod-lt (get_or those k d) some)

  same_place : (x y : ℕ) → split s x ≡ split s y → x ≡ y
  same_place x y same =
      let whole = ap (λ (at : ℕ × ℕ). at.0 * s + at.1) same in
      omega (arith, whole, div-add-mod x s, div-add-mod y s)

  zeros_distinct : AreDistinct {A = ℕ × ℕ} (0, 0) (map place_of (map (zero_lump s) those))
  zeros_distinct = subst (AreDistinct {A = ℕ × ℕ} (0, 0)) (sym (map-map {C = ℕ × ℕ} place_of (zero_lump s) those))
      (distinct_map {B = ℕ × ℕ} 0 (0, 0) (split s) those
      (distinct_filter 0 missing (places (p.pattern.until * s))
      (distinct_places (p.pattern.until * s) (λ k. k) (λ i j low below same. omega (arith, low, same))))
      (λ i j inside_i inside_j same. same_place (get_or those i 0) (get_or those j 0) same))

  -- no lump is where one is missing
  apart : (i j : ℕ) → i < length (map place_of p.lumps) → j < length (map place_of (map (zero_lump s) those))
      → get_or {A = ℕ × ℕ} (map place_of p.lumps) i (0, 0)
      ≢ get_or {A = ℕ × ℕ} (map place_of (map (zero_lump s) those)) j (0, 0)
  apart i j below_i below_j same =
      let none : Lump = record { month = 0; state = 0; amount = pos 0 } in
      let inside_i : i < length p.lumps = subst (λ n. i < n) (length-map p.lumps place_of) below_i in
      let inside_z : j < length (map (zero_lump s) those) =
      subst (λ n. j < n) (length-map (map (zero_lump s) those) place_of) below_j in
      let inside_j : j < length those = subst (λ n. j < n) (length-map those (zero_lump s)) inside_z in
      let k : ℕ = get_or those j 0 in
      let l : Lump = get_or p.lumps i none in
      let at_l : get_or {A = ℕ × ℕ} (map place_of p.lumps) i (0, 0) ≡ place_of l =
      get_or-map place_of p.lumps i none (0, 0) inside_i in
      let at_k : get_or {A = ℕ × ℕ} (map place_of (map (zero_lump s) those)) j (0, 0) ≡ split s k =
      get_or-map place_of (map (zero_lump s) those) j none (0, 0) inside_z
      ∙ ap place_of (get_or-map (zero_lump s) those j 0 none inside_j) in
      let meet : place_of l ≡ split s k = sym at_l ∙ same ∙ at_k in
      let month : l.month ≡ k / s = ap (λ (at : ℕ × ℕ). at.0) meet in
      let state : l.state ≡ k % s = ap (λ (at : ℕ × ℕ). at.1) meet in
      let here : ((l.month == k / s) && (l.state == k % s)) ≡ true =
      rw (eq-eqb l.month (k / s) month, eq-eqb l.state (k % s) state) refl in
      let found : has_lump p.lumps (k / s) (k % s) ≡ true =
      list_any_at (λ (x : Lump). (x.month == k / s) && (x.state == k % s)) p.lumps i none inside_i here in
      let lost : has_lump p.lumps (k / s) (k % s) ≡ false =
      second_fails _ _ (filter_passes missing (places (p.pattern.until * s)) j 0 inside_j) in
      absurd (cc (sym found ∙ lost))

  completed_distinct : AreDistinct {A = ℕ × ℕ} (0, 0) (map place_of (completed_lumps s p.lumps p.pattern))
  completed_distinct = subst (AreDistinct {A = ℕ × ℕ} (0, 0)) (sym (map-append {B = ℕ × ℕ} place_of p.lumps
      (map (zero_lump s) those)))
      (distinct_append {A = ℕ × ℕ} (0, 0) (map place_of p.lumps) (map place_of (map (zero_lump s) those))
      h.lumps.distinct zeros_distinct apart)

  pub charged_lumps_are_good : (amount : ℤ) → AreSmallLumps (charged_lumps amount p)
      → HasGoodLumps (with_lumps (charged_lumps amount p) p)
  charged_lumps_are_good amount small = record {
    dates = All-map (λ (l : Lump). l.month ≤ p.months) (charged_lump amount p.pattern)
        (completed_lumps s p.lumps p.pattern)
        (All-append (λ (l : Lump). l.month ≤ p.months) p.lumps (map (zero_lump s) those) h.lumps.dates zeros_dates);
    states = All-map (λ (l : Lump). l.state < s) (charged_lump amount p.pattern)
        (completed_lumps s p.lumps p.pattern)
        (All-append (λ (l : Lump). l.state < s) p.lumps (map (zero_lump s) those) h.lumps.states zeros_states);
    amounts = small;
    distinct = subst (AreDistinct {A = ℕ × ℕ} (0, 0)) (sym (map-map {C = ℕ × ℕ} place_of
        (charged_lump amount p.pattern) (completed_lumps s p.lumps p.pattern))) completed_distinct;
  }
