-- What a transition gives the row of a second moment: near enough to be stored.
use Rattle.std.specs.Prelude.{◌≡◌, ◌≢◌, ℕ, suc, pos, ◌+◌, ◌-◌, ◌^◌, ◌<◌, ◌≤◌, ℤ, ◌*ℤ◌, Option, Some, None, List, []}
use Rattle.std.specs.Prelude.{◌∷◌}
use Rattle.std.specs.Prelude.{slice_index_or}
use Rattle.std.proofs.Common.{refl, ap, sym, ◌∙◌, arith, inl, inr}
use Rattle.std.proofs.lemmas.Bool.{cases_lt}
use Rattle.frac_laws.specs.Fraction.{Fraction, whole, over, size, ◌-ℚ◌, ◌*ℚ◌}
use Rattle.frac_laws.specs.Rounding.{floor_of}
use Rattle.frac_laws.proofs.FractionTerms.{ring, terms}
use Rattle.frac_laws.proofs.Linear.{natural}
use Rattle.frac_laws.proofs.Norms.{size_zero}
use Rattle.frac_laws.proofs.Order.{le_trans, le_of_equal}
use Rattle.frac_laws.proofs.Sums.{sum_to_zeros}
use Rattle.frac_laws.proofs.QuotientFacts.{over-zero}
use Rattle.model_specs.specs.Product.{Product}
use Rattle.model_specs.specs.Cells.{CellCurves, transition_between}
use Rattle.model_specs.specs.Systems.{intensity_at, sum_paid_at, first_payment_at, second_payment_at}
use Rattle.payment_plan.specs.declared.pattern.Which.{Which}
use Rattle.linear_system.specs.StoredSystem.{StoredSystem, stored_number}
use Rattle.linear_system.specs.Setting.{HasPlace}
use Rattle.linear_system.proofs.Made.{same_places_then}
use Rattle.cell_coeffs.specs.Near.{IsNear, IsStored, nearest_of}
use Rattle.cell_coeffs.specs.Cut.{cut_of, IsStoredCut}
use Rattle.cell_coeffs.specs.PairRows.{IsSmallPair, IsReadLink, KeepsOtherColumns}
use Rattle.cell_coeffs.specs.Products.{products_to, sizes_to}
use Rattle.cell_coeffs.specs.Rows.{cell_at}
use Rattle.cell_coeffs.specs.Writing.{WritesNumbers}
use Rattle.cell_coeffs.proofs.Cut.{stored_twice, cut_zero}
use Rattle.cell_coeffs.proofs.Links.{intensity-none, stored_zero}
use Rattle.cell_coeffs.proofs.Near.{stored_of_near}
use Rattle.cell_coeffs.proofs.PaidNear.{paid_near, rates_fit}
use Rattle.cell_coeffs.proofs.PaidTwice.{twice_near, payments_fit}

-- past the eighth power nothing is paid
pub paid_late : (cell : CellCurves) (h : Fraction) → IsSmallPair cell h → (i j m : ℕ) → 9 ≤ m
    → first_payment_at cell i j m ≡ whole (pos 0)
paid_late cell h small i j m late =
    sum_to_zeros (suc m) {f = λ a. intensity_at cell i j a *ℚ sum_paid_at cell i j (m - a)} (λ a b.
    elim (cases_lt a 6) [
      | inl low ↦ ap (λ y. intensity_at cell i j a *ℚ y) (small.sums_none i j (m - a) (omega (arith, late, low)))
          ∙ right (intensity_at cell i j a)
      | inr past ↦ ap (λ x. x *ℚ sum_paid_at cell i j (m - a)) (small.first.intensity_none i j a past)
          ∙ left (sum_paid_at cell i j (m - a))
    ])
  where
    right : (x : Fraction) → x *ℚ whole (pos 0) ≡ whole (pos 0)
    right x = ring (x ∷ []) (hlevel terms) refl

    left : (x : Fraction) → whole (pos 0) *ℚ x ≡ whole (pos 0)
    left x = ring (x ∷ []) (hlevel terms) refl

zero_near : (k : ℕ) (x : Fraction) (z : ℤ) → x ≡ whole (pos 0) → z ≡ pos 0 → IsNear k x z
zero_near k x z nothing none =
    rw (nothing, none) (le_trans (le_of_equal (ap size gone ∙ size_zero)) (natural k (2 ^ 71)))
  where
    gone : whole (pos 0) -ℚ over (pos 0) (2 ^ 70) ≡ whole (pos 0)
    gone = ap (λ y. whole (pos 0) -ℚ y) (over-zero (2 ^ 70)) ∙ ring [] (hlevel terms) refl

-- a link that was read, and what it pays, computed
module _ (cell : CellCurves) (h : Fraction) (i j : ℕ) (rates sums payments : List ℤ)
    (read : IsReadLink cell h i j rates sums) (small : IsSmallPair cell h) (from_in : i < cell.states)
    (to_in : j < cell.states)
  where
    pub link_rates_fit : sizes_to rates 9 < 2 ^ 63
    link_rates_fit = rates_fit (intensity_at cell i j) (sum_paid_at cell i j) h rates sums read.rate read.sum
        (small.first.intensity i j from_in to_in) (small.first.sums i j)

    module _ (value : (m : ℕ) → m < 9 → slice_index_or payments m (pos 0)
        ≡ floor_of (products_to rates sums m (m + 1)) (pos (2 ^ 64)))
        (none : (m : ℕ) → 9 ≤ m → slice_index_or payments m (pos 0) ≡ pos 0) where
      pub payments_near : (m : ℕ) → IsNear 5 (h *ℚ first_payment_at cell i j m) (slice_index_or payments m (pos 0))
      payments_near m = elim (cases_lt m 9) [
        | inl low ↦ rw (value m low) (paid_near (intensity_at cell i j) (sum_paid_at cell i j) h rates sums read.rate
            read.sum (small.first.intensity i j from_in to_in) (small.first.sums i j) m low)
        | inr past ↦ zero_near 5 (h *ℚ first_payment_at cell i j m) (slice_index_or payments m (pos 0))
            (ap (λ x. h *ℚ x) (paid_late cell h small i j m past) ∙ ring (h ∷ []) (hlevel terms) refl) (none m past)
      ]

      pub link_payments_fit : sizes_to payments 12 < 2 ^ 63
      link_payments_fit = payments_fit (intensity_at cell i j) (sum_paid_at cell i j) h payments sums payments_near
          read.sum (small.first.intensity i j from_in to_in) (small.first.sums i j)

      pub link_twice_near : (m : ℕ) → m < 12 → IsNear 9 (h *ℚ h *ℚ second_payment_at cell i j m)
          (floor_of (products_to payments sums m (m + 1)) (pos (2 ^ 64)))
      link_twice_near = twice_near (intensity_at cell i j) (sum_paid_at cell i j) h payments sums payments_near
          read.sum (small.first.intensity i j from_in to_in) (small.first.sums i j)

      -- what is written of them
      module _ (row : ℕ) (a b c : StoredSystem) (to : ℕ) (apart : to ≢ j)
          (first : WritesNumbers a b row to 6 (λ m. nearest_of (slice_index_or rates m (pos 0))))
          (second : WritesNumbers b c row j 9 (λ m. cut_of (pos 2 *ℤ slice_index_or payments m (pos 0)))) where
        pub link_written : (m : ℕ) → stored_number a row to m ≡ pos 0
            → IsStored (intensity_at cell i j m) (stored_number c row to m)
        link_written m nothing = elim (cases_lt m 6) [
          | inl low ↦ rw (second.columns to m apart ∙ first.here m low)
              (stored_of_near 2 (intensity_at cell i j m) (slice_index_or rates m (pos 0)) (omega arith) (read.rate m))
          | inr high ↦ stored_zero (intensity_at cell i j m) (stored_number c row to m)
              (small.first.intensity_none i j m high)
              (second.columns to m apart ∙ first.higher m high ∙ nothing)
        ]

        pub coupling_written : (m : ℕ) → stored_number a row j m ≡ pos 0
            → IsStoredCut (h *ℚ (whole (pos 2) *ℚ first_payment_at cell i j m)) (stored_number c row j m)
        coupling_written m nothing = elim (cases_lt m 9) [
          | inl low ↦ rw (second.here m low)
              (stored_twice 5 h (first_payment_at cell i j m) (slice_index_or payments m (pos 0)) (omega arith)
              (payments_near m))
          | inr high ↦ cut_zero (h *ℚ (whole (pos 2) *ℚ first_payment_at cell i j m)) (stored_number c row j m)
              (ap (λ x. h *ℚ (whole (pos 2) *ℚ x)) (paid_late cell h small i j m high)
              ∙ ring (h ∷ []) (hlevel terms) refl)
              (second.higher m high ∙ first.columns j m (λ e. apart (sym e)) ∙ nothing)
        ]

-- two columns of a row that are written
pub two_written : (a b c : StoredSystem) (row col other n k : ℕ) (f g : ℕ → ℤ) → WritesNumbers a b row col n f
    → WritesNumbers b c row other k g → KeepsOtherColumns a c row col other
two_written a b c row col other n k f g first second = record {
  places = same_places_then a b c first.places second.places;
  columns = λ d m apart differ. second.columns d m differ ∙ first.columns d m apart;
  rows = λ r d m differ. second.rows r d m differ ∙ first.rows r d m differ;
}

pub two_kept : (s : StoredSystem) (row col other : ℕ) → KeepsOtherColumns s s row col other
two_kept s row col other = record {
  places = record { dim = refl; degree = refl; columns = λ r. refl };
  columns = λ d m apart differ. refl;
  rows = λ r d m differ. refl;
}

-- where no transition leads
module _ (product : Product) (which : Which) (month cell i j : ℕ) (none : transition_between product i j ≡ None) where
  pub first-none : (m : ℕ) → first_payment_at (cell_at product which month cell) i j m ≡ whole (pos 0)
  first-none m = sum_to_zeros (suc m) {f = λ a. intensity_at (cell_at product which month cell) i j a
      *ℚ sum_paid_at (cell_at product which month cell) i j (m - a)} (λ a b.
      ap (λ x. x *ℚ sum_paid_at (cell_at product which month cell) i j (m - a))
      (intensity-none product which month cell i j a none)
      ∙ gone (sum_paid_at (cell_at product which month cell) i j (m - a)))
    where
      gone : (x : Fraction) → whole (pos 0) *ℚ x ≡ whole (pos 0)
      gone x = ring (x ∷ []) (hlevel terms) refl

  pub second-none : (m : ℕ) → second_payment_at (cell_at product which month cell) i j m ≡ whole (pos 0)
  second-none m = sum_to_zeros (suc m) {f = λ a. first_payment_at (cell_at product which month cell) i j a
      *ℚ sum_paid_at (cell_at product which month cell) i j (m - a)} (λ a b.
      ap (λ x. x *ℚ sum_paid_at (cell_at product which month cell) i j (m - a)) (first-none a)
      ∙ gone (sum_paid_at (cell_at product which month cell) i j (m - a)))
    where
      gone : (x : Fraction) → whole (pos 0) *ℚ x ≡ whole (pos 0)
      gone x = ring (x ∷ []) (hlevel terms) refl

-- a transition that is there has its places
pub place_found : (product : Product) (s : StoredSystem) (i j row col : ℕ) → transition_between product i j ≢ None
    → ((e : ℕ) → transition_between product i j ≡ Some e → HasPlace s row col) → HasPlace s row col
place_found product s i j row col some places = choose (transition_between product i j) refl
  where
    choose : (o : Option ℕ) → transition_between product i j ≡ o → HasPlace s row col
    choose None is = absurd (some is)
    choose (Some e) is = places e is
