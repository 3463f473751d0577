-- What a step from 1 at a place gives.
use Rattle.std.proofs.Common.{◌≡◌, ◌≢◌, ℕ, ◌^◌, ◌<◌, ◌≤◌, ℤ, pos, List, [], ◌∷◌, length, refl, ap, sym, ◌∙◌}
use Rattle.std.proofs.Common.{subst, arith, inl, inr}
use Rattle.std.specs.Prelude.{Bool, true, false, cond, nat_eq, nat_lt, slice_index_or, unsigned_abs}
use Rattle.std.proofs.lemmas.Bool.{cases_lt}
use Rattle.std.proofs.lemmas.Bool.Decides.{nat_tests}
use Rattle.std.proofs.lemmas.Int.{ints}
use Rattle.std.proofs.lemmas.List.{get_or_past}
use Rattle.std.proofs.Math.ListN.{length-map}
use Rattle.frac_laws.specs.Fraction.{Fraction, over, whole, size, ◌+ℚ◌, ◌-ℚ◌, ◌*ℚ◌, ◌≤ℚ◌}
use Rattle.frac_laws.specs.Lists.{number_at}
use Rattle.frac_laws.proofs.Convolutions.{sum_to_one}
use Rattle.frac_laws.proofs.FractionTerms.{ring, terms}
use Rattle.frac_laws.proofs.Linear.{linear, claims, natural, ◌⊞◌}
use Rattle.frac_laws.proofs.Order.{le_trans, le_of_equal, add_mono}
use Rattle.frac_laws.proofs.Sizes.{size_add, size_sub}
use Rattle.frac_laws.proofs.Sums.{sum_to_zeros}
use Rattle.cell_laws.specs.Systems.{System}
use Rattle.cell_laws.specs.Tame.{IsTame}
use Rattle.frac_laws.specs.Norms.{Sup}
use Rattle.linear_system.specs.DegreeLimit.{IsConstant}
use Rattle.linear_system.specs.StandsFor.{units, StandsFor, in_units}
use Rattle.linear_system.specs.StoredSystem.{StoredSystem, IsSystem, dim_of}
use Rattle.taylor_step.specs.CanStep.{CanStep, in_sup, AreAtMost}
use Rattle.taylor_step.specs.ConstantSteps.{HasOneNumber, StaysNear}
use Rattle.taylor_step.proofs.ConstantSteps.{number_in_units}
use Rattle.map_laws.specs.Applied.{value_at}
use Rattle.map_laws.specs.CellOfSystem.{cell_map}
use Rattle.map_laws.specs.Maps.{AffineMap}
use Rattle.map_laws.specs.MonthOfCells.{IsConstantCell}
use Rattle.map_laws.proofs.CellMaps.{small_end}
use Rattle.map_laws.proofs.CellOfSystem.{taylor_values_are_affine}
use Rattle.map_laws.proofs.MonthOfCells.{cell_numbers_are_small}
use Rattle.month_maps.specs.MadeMaps.{CanMake, can_make, IsStepFrom, unit_number, unit_value}

same_place : (place i : ℕ) → i ≡ place → nat_eq i place ≡ true
same_place place i h = grind (arith, nat_tests)

other_place : (place i : ℕ) → i ≢ place → nat_eq i place ≡ false
other_place place i h = grind (arith, nat_tests)

-- a list whose numbers are those of a unit at a place
abbrev pub IsUnit : ℕ → List ℤ → Type 0
IsUnit place mid = (i : ℕ) → i < length mid → slice_index_or mid i (pos 0) ≡ unit_number place i

-- written into a list of the same length
pub written : (place : ℕ) (old new : List ℤ) → length new ≡ length old
    → ((i : ℕ) → i < length old → slice_index_or new i (pos 0) ≡ unit_number place i) → IsUnit place new
written place old new same h i b = h i (subst (λ n. i < n) same b)

unit_small : (place i : ℕ) → unsigned_abs (unit_number place i) ≤ 2 ^ 64
unit_small place i = cases (nat_eq i place)
  where
    cases : (b : Bool) → unsigned_abs (cond b (pos (2 ^ 64)) (pos 0)) ≤ 2 ^ 64
    cases true = omega (arith, ints)
    cases false = omega (arith, ints)

pub at_most_one : (place : ℕ) (mid : List ℤ) → IsUnit place mid → AreAtMost (2 ^ 64) mid
at_most_one place mid unit i = elim (cases_lt i (length mid)) [
  | inl b ↦ subst (λ z. unsigned_abs z ≤ 2 ^ 64) (sym (unit i b)) (unit_small place i)
  | inr b ↦ subst (λ z. unsigned_abs z ≤ 2 ^ 64) (sym (get_or_past mid i (pos 0) b)) (omega (arith, ints))
]

nothing_elsewhere : (place : ℕ) (mid : List ℤ) → IsUnit place mid → (i : ℕ) → i ≢ place
    → slice_index_or mid i (pos 0) ≡ pos 0
nothing_elsewhere place mid unit i ne = elim (cases_lt i (length mid)) [
  | inl b ↦ unit i b ∙ ap (λ t. cond t (pos (2 ^ 64)) (pos 0)) (other_place place i ne)
  | inr b ↦ get_or_past mid i (pos 0) b
]

pub one_number : (place : ℕ) (mid : List ℤ) → IsUnit place mid → HasOneNumber mid
one_number place mid unit = record {
  place = place;
  others = nothing_elsewhere place mid unit;
  small = at_most_one place mid unit;
}

pub can_step_from : (s : StoredSystem) (place : ℕ) (mid : List ℤ) → CanMake s → IsUnit place mid → CanStep s mid
can_step_from s place mid (can_make kappa40 e only cell) unit =
    in_sup e kappa40 cell.stands cell.tame (λ i. larger (at_most_one place mid unit i))
  where
    larger : {n : ℕ} → n ≤ 2 ^ 64 → n ≤ 2 ^ 65
    larger h = omega arith

-- its degree is 8
pub eight : (s : StoredSystem) (place : ℕ) (mid : List ℤ) (degree : ℕ) → CanMake s → IsUnit place mid
    → ((e : System) (kappa40 : ℕ) → IsConstant s → StandsFor s e → IsTame Sup kappa40 e → AreAtMost (2 ^ 65) mid
    → degree ≡ 8) → degree ≡ 8
eight s place mid degree (can_make kappa40 e only cell) unit h =
    h e kappa40 only cell.stands cell.tame (λ i. larger (at_most_one place mid unit i))
  where
    larger : {n : ℕ} → n ≤ 2 ^ 64 → n ≤ 2 ^ 65
    larger h = omega arith

pub is_constant : (s : StoredSystem) → CanMake s → IsConstant s
is_constant s (can_make kappa40 e only cell) = only

-- the Taylor value from there is the map's value at the unit
unit_at : (place : ℕ) (mid : List ℤ) → IsUnit place mid → place < length mid
    → number_at (in_units mid) place ≡ whole (pos 1)
unit_at place mid unit b = number_in_units mid place
    ∙ ap units (unit place b ∙ ap (λ t. cond t (pos (2 ^ 64)) (pos 0)) (same_place place place refl))
    ∙ one_unit
  where
    one_unit : units (pos (2 ^ 64)) ≡ whole (pos 1)
    one_unit = ring [] (hlevel terms) refl

not_at : (place : ℕ) (mid : List ℤ) → IsUnit place mid → (i : ℕ) → i ≢ place
    → number_at (in_units mid) i ≡ whole (pos 0)
not_at place mid unit i ne = number_in_units mid i ∙ ap units (nothing_elsewhere place mid unit i ne) ∙ no_unit
  where
    no_unit : units (pos 0) ≡ whole (pos 0)
    no_unit = ring [] (hlevel terms) refl

unit_value_is : (d place : ℕ) (a : AffineMap) (mid : List ℤ) (row : ℕ) → length mid ≡ d → IsUnit place mid
    → value_at d a (number_at (in_units mid)) row ≡ unit_value d a place row
unit_value_is d place a mid row long unit = elim (cases_lt place d) [
  | inl b ↦ let before : nat_lt place d ≡ true = grind (arith, nat_tests) in
      ap (λ t. a.free row +ℚ t) (sum_to_one d place b (λ col ne. nothing_times (a.at row col)
      (number_at (in_units mid) col) (not_at place mid unit col ne))
      ∙ once (a.at row place) (number_at (in_units mid) place)
      (unit_at place mid unit (subst (λ k. place < k) (sym long) b)))
      ∙ sym (ap (λ t. cond t (a.free row +ℚ a.at row place) (a.free row)) before)
  | inr b ↦ let past : nat_lt place d ≡ false = grind (arith, nat_tests) in
      ap (λ t. a.free row +ℚ t) (sum_to_zeros d (λ col c. nothing_times (a.at row col)
      (number_at (in_units mid) col) (not_at place mid unit col (λ e. absurd (omega (arith, e, b, c))))))
      ∙ ring (a.free row ∷ []) (hlevel terms) refl
      ∙ sym (ap (λ t. cond t (a.free row +ℚ a.at row place) (a.free row)) past)
]
  where
    nothing_times : (x y : Fraction) → y ≡ whole (pos 0) → x *ℚ y ≡ whole (pos 0)
    nothing_times x y e = rw e (ring (x ∷ []) (hlevel terms) refl)

    once : (x y : Fraction) → y ≡ whole (pos 1) → x *ℚ y ≡ x
    once x y e = rw e (ring (x ∷ []) (hlevel terms) refl)

-- and it is small
unit_value_small : (s : StoredSystem) (kappa40 n : ℕ) (e : System) → IsSystem s → IsConstantCell s kappa40 e → 1 ≤ n
    → (place row : ℕ) → row < e.dimension → size (unit_value e.dimension (cell_map e n) place row) ≤ℚ over (pos 5) 4
unit_value_small s kappa40 n e sys cell some place row b = elim (cases_lt place e.dimension) [
  | inl c ↦ let before : nat_lt place e.dimension ≡ true = grind (arith, nat_tests) in
      subst (λ t. size (cond t (a.free row +ℚ a.at row place) (a.free row)) ≤ℚ over (pos 5) 4)
      (sym before) (le_trans (size_add (a.free row) (a.at row place))
      (both (size (a.free row)) (size (a.at row place)) small.0 (small.1 place c)))
  | inr c ↦ let past : nat_lt place e.dimension ≡ false = grind (arith, nat_tests) in
      subst (λ t. size (cond t (a.free row +ℚ a.at row place) (a.free row)) ≤ℚ over (pos 5) 4)
      (sym past) (le_trans small.0 (linear [] (natural 0 1) (hlevel claims) refl))
]
  where
    a : AffineMap
    a = cell_map e n

    small : (size ((cell_map e n).free row) ≤ℚ over (pos 1) 16)
        × ((col : ℕ) → col < e.dimension → size ((cell_map e n).at row col) ≤ℚ over (pos 9) 8)
    small = cell_numbers_are_small s kappa40 n e sys cell some row b

    both : (x y : Fraction) → x ≤ℚ over (pos 1) 16 → y ≤ℚ over (pos 9) 8 → x +ℚ y ≤ℚ over (pos 5) 4
    both x y h k = linear (x ∷ y ∷ []) (h ⊞ k) (hlevel claims) refl

-- so a step's numbers are near the map's value and small
pub step_from : (s : StoredSystem) (place : ℕ) (mid new : List ℤ) (degree : ℕ) → IsSystem s → CanMake s
    → length mid ≡ dim_of s → IsUnit place mid → degree ≡ 8
    → ((e : System) (kappa40 : ℕ) → IsConstantCell s kappa40 e → StaysNear e mid new degree) → IsStepFrom s place new
step_from s place mid new degree sys can long unit eight near = record {
  small = λ row b. small_of can row b;
  near = near_value;
}
  where
    near_value : (kappa40 n : ℕ) (e : System) (row : ℕ) → IsConstantCell s kappa40 e → 8 ≤ n → row < dim_of s
        → size (unit_value (dim_of s) (cell_map e n) place row -ℚ units (slice_index_or new row (pos 0)))
        ≤ℚ units (pos 16)
    near_value kappa40 n e row cell late b =
        let fits : length (in_units mid) ≤ dim_of s = let m : length (in_units mid) ≡ length mid = simp length-map
        refl in
        omega (arith, m, long) in
        let value = taylor_values_are_affine e (in_units mid) (dim_of s) n row fits
        ∙ unit_value_is (dim_of s) place (cell_map e n) mid row long unit in
        subst (λ t. size (t -ℚ units (slice_index_or new row (pos 0))) ≤ℚ units (pos 16)) value
        (near e kappa40 cell n row (omega (arith, eight, late)) (subst (λ d. row < d) (sym cell.stands.dimension) b))

    small_of : CanMake s → (row : ℕ) → row < dim_of s → unsigned_abs (slice_index_or new row (pos 0)) ≤ 2 ^ 65
    small_of (can_make kappa40 e only cell) row b =
        small_end (slice_index_or new row (pos 0)) (enough (unit_value (dim_of s) (cell_map e 8) place row)
        (units (slice_index_or new row (pos 0))) (near_value kappa40 8 e row cell (omega arith) b)
        (subst (λ d. size (unit_value d (cell_map e 8) place row) ≤ℚ over (pos 5) 4) cell.stands.dimension
        (unit_value_small s kappa40 8 e sys cell (omega arith) place row
        (subst (λ d. row < d) (sym cell.stands.dimension) b))))
      where
        enough : (v x : Fraction) → size (v -ℚ x) ≤ℚ units (pos 16) → size v ≤ℚ over (pos 5) 4
            → size x ≤ℚ whole (pos 2)
        enough v x h k = le_trans (le_of_equal (ap size (ring (v ∷ x ∷ []) (hlevel terms) refl)))
            (le_trans (size_sub v (v -ℚ x))
            (le_trans (add_mono k h) (linear [] (natural 0 1) (hlevel claims) refl)))
