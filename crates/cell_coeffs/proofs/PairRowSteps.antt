-- The row of a second moment, transition by transition, and once it is written.
use Rattle.std.specs.Prelude.{◌≡◌, ◌≢◌, ℕ, pos, ◌+◌, ◌*◌, ◌^◌, ◌<◌, ◌≤◌, ℤ, ◌+ℤ◌, ◌*ℤ◌, neg_ℤ, List, [], ◌∷◌}
use Rattle.std.specs.Prelude.{slice_index_or}
use Rattle.std.proofs.Common.{refl, ap, sym, subst, ◌∙◌, arith, inl, inr}
use Rattle.std.proofs.lemmas.Bool.{cases_lt}
use Rattle.std.proofs.lemmas.Bool.Decides.{eqb_tells}
use mathlib.Core.Path.{ap₂}
use Rattle.frac_laws.specs.Fraction.{Fraction, whole, over, opposite, size, ◌+ℚ◌, ◌-ℚ◌, ◌*ℚ◌}
use Rattle.frac_laws.specs.Sums.{sum_to}
use Rattle.frac_laws.proofs.FractionTerms.{ring, terms}
use Rattle.frac_laws.proofs.Linear.{natural}
use Rattle.frac_laws.proofs.Norms.{size_zero}
use Rattle.frac_laws.proofs.Order.{le_trans, le_of_equal}
use Rattle.frac_laws.proofs.Sums.{sum_to_zeros}
use Rattle.frac_laws.proofs.QuotientFacts.{over-zero}
use Rattle.model_specs.specs.Product.{Product}
use Rattle.model_specs.specs.Cells.{CellCurves}
use Rattle.model_specs.specs.Systems.{intensity_at, interest_at, leaving_at, sojourn_rate_at, first_payment_at}
use Rattle.model_specs.specs.Systems.{second_payment_at, backward_entry, coupling_entry}
use Rattle.cell_bounds.proofs.TableNorms.{where_same-is, unit-same, unit-other}
use Rattle.linear_system.specs.StoredSystem.{StoredSystem, dim_of, stored_number, stored_free}
use Rattle.linear_system.specs.Setting.{HaveSamePlaces}
use Rattle.linear_system.proofs.Made.{place_kept, same_places_then}
use Rattle.cell_coeffs.specs.Near.{IsNear, IsStored, nearest_of}
use Rattle.cell_coeffs.specs.Cut.{cut_of, IsStoredCut}
use Rattle.cell_coeffs.specs.PairRows.{IsSmallPair, IsMadeForMoments, KeepsOtherColumns, HasSecondLinks}
use Rattle.cell_coeffs.specs.PairRows.{IsStoredSecondRow}
use Rattle.cell_coeffs.specs.Rows.{AddsNear, AddsNearTo, HasFirstPlaces}
use Rattle.cell_coeffs.specs.StoredRows.{KeepsRows, IsStoredRow}
use Rattle.cell_coeffs.specs.Writing.{WritesNumbers}
use Rattle.cell_coeffs.proofs.Cut.{stored_cut, stored_twice}
use Rattle.cell_coeffs.proofs.Links.{stored_zero}
use Rattle.cell_coeffs.proofs.Near.{stored_of_near, near_opposite, near_mono, near_add}
use Rattle.cell_coeffs.proofs.PairLinks.{paid_late}
use Rattle.cell_coeffs.proofs.RowSteps.{near_enough}

-- ---- places

pub moments_kept : (product : Product) (old new : StoredSystem) → HaveSamePlaces old new → IsMadeForMoments product old
    → IsMadeForMoments product new
moments_kept product old new same made = record {
  dim_is = same.dim ∙ made.dim_is;
  powers = rw same.degree made.powers;
  diagonal = λ i b. place_kept old new i i same (made.diagonal i b);
  links = λ i j e b c is. place_kept old new i j same (made.links i j e b c is);
  second_diagonal = λ i b. place_kept old new _ _ same (made.second_diagonal i b);
  second_links = λ i j e b c is. place_kept old new _ _ same (made.second_links i j e b c is);
  own_coupling = λ i b. place_kept old new _ _ same (made.own_coupling i b);
  coupling = λ i j e b c is. place_kept old new _ _ same (made.coupling i j e b c is);
  one_way = λ i c b past place. made.one_way i c b past (place_kept new old i c (back same) place);
}
  where
    back : HaveSamePlaces old new → HaveSamePlaces new old
    back same = record { dim = sym same.dim; degree = sym same.degree; columns = λ row. sym (same.columns row) }

pub moments_first : (product : Product) (s : StoredSystem) → IsMadeForMoments product s → HasFirstPlaces product s
moments_first product s made = record {
  fits = omega (arith, made.dim_is);
  powers = omega (arith, made.powers);
  diagonal = made.diagonal;
  links = made.links;
}

-- ---- transition by transition

below : (c k : ℕ) → c < k + 1 → c ≢ k → c < k
below c k few apart = grind (arith, few, apart)

module _ (cell : CellCurves) (h : Fraction) (i k : ℕ) (old new : StoredSystem) (inside : i < cell.states)
    (next : k < cell.states) (links : HasSecondLinks cell h i k old)
    (kept : KeepsOtherColumns old new (cell.states + i) (cell.states + k) k)
    (link : (m : ℕ) → stored_number old (cell.states + i) (cell.states + k) m ≡ pos 0
    → IsStored (intensity_at cell i k m) (stored_number new (cell.states + i) (cell.states + k) m))
    (coupling : (m : ℕ) → stored_number old (cell.states + i) k m ≡ pos 0
    → IsStoredCut (h *ℚ (whole (pos 2) *ℚ first_payment_at cell i k m)) (stored_number new (cell.states + i) k m))
    (loop : (m : ℕ) → intensity_at cell i i m ≡ whole (pos 0))
    (unpaid : (m : ℕ) → first_payment_at cell i i m ≡ whole (pos 0)) where
  abbrev S : ℕ
  S = cell.states

  here : (m : ℕ) → IsStored (intensity_at cell i k m) (stored_number new (S + i) (S + k) m)
  here m = link m (links.last (S + k) m (omega arith))

  given : (m : ℕ) → IsStoredCut (h *ℚ (whole (pos 2) *ℚ first_payment_at cell i k m)) (stored_number new (S + i) k m)
  given m = coupling m (links.later k m (omega arith) next)

  differ_behind : (c d : ℕ) → c ≢ d → S + c ≢ S + d
  differ_behind c d apart e = apart (omega (arith, e))

  linked : (c m : ℕ) → c < k + 1 → c ≢ i → IsStored (intensity_at cell i c m) (stored_number new (S + i) (S + c) m)
  linked c m few differ = elim (eqb_tells c k) [
    | inl same ↦ rw same.1 (here m)
    | inr apart ↦ rw (kept.columns (S + c) m (differ_behind c k apart.1) (λ e. absurd (omega (arith, e, next))))
        (links.links c m (below c k few apart.1) differ)
  ]

  coupled : (c m : ℕ) → c < k + 1 → c ≢ i
      → IsStoredCut (h *ℚ (whole (pos 2) *ℚ first_payment_at cell i c m)) (stored_number new (S + i) c m)
  coupled c m few differ = elim (eqb_tells c k) [
    | inl same ↦ rw same.1 (given m)
    | inr apart ↦ rw (kept.columns c m (λ e. absurd (omega (arith, e, few, next))) apart.1)
        (links.coupling c m (below c k few apart.1) differ)
  ]

  own : (m : ℕ) → stored_number new (S + i) (S + i) m ≡ pos 0
  own m = elim (eqb_tells i k) [
    | inl same ↦ ap (λ d. stored_number new (S + i) (S + d) m) same.1
        ∙ (here m).none (ap (λ d. intensity_at cell i d m) (sym same.1) ∙ loop m)
    | inr apart ↦ kept.columns (S + i) m (differ_behind i k apart.1) (λ e. absurd (omega (arith, e, next)))
        ∙ links.own m
  ]

  own_coupling : (m : ℕ) → stored_number new (S + i) i m ≡ pos 0
  own_coupling m = elim (eqb_tells i k) [
    | inl same ↦ ap (λ d. stored_number new (S + i) d m) same.1
        ∙ (given m).none (ap (λ d. h *ℚ (whole (pos 2) *ℚ first_payment_at cell i d m)) (sym same.1)
        ∙ ap (λ x. h *ℚ (whole (pos 2) *ℚ x)) (unpaid m) ∙ ring (h ∷ []) (hlevel terms) refl)
    | inr apart ↦ kept.columns i m (λ e. absurd (omega (arith, e, inside))) apart.1 ∙ links.own_coupling m
  ]

  pub second_links_more : HasSecondLinks cell h i (k + 1) new
  second_links_more = record {
    links = linked;
    coupling = coupled;
    own = own;
    own_coupling = own_coupling;
    later = λ c m past few. kept.columns c m (λ e. absurd (omega (arith, e, few)))
        (λ e. absurd (omega (arith, e, past)))
        ∙ links.later c m (omega (arith, past)) few;
    last = λ c m past. kept.columns c m (λ e. absurd (omega (arith, e, past)))
        (λ e. absurd (omega (arith, e, past, next))) ∙ links.last c m (omega (arith, past));
  }

pub second_rows_then : (a b c : StoredSystem) (row col other : ℕ) → KeepsRows a b row
    → KeepsOtherColumns b c row col other → KeepsRows a c row
second_rows_then a b c row col other first second = record {
  places = same_places_then a b c first.places second.places;
  rows = λ r d m differ. second.rows r d m differ ∙ first.rows r d m differ;
}

pub second_rows_end : (a b c d : StoredSystem) (row dim x y n k l : ℕ) (e f g : ℕ → ℤ) → KeepsRows a b row
    → (second : StoredSystem) → WritesNumbers b second row x n e → WritesNumbers second c row y k f
    → WritesNumbers c d row dim l g → KeepsRows a d row
second_rows_end a b c d row dim x y n k l e f g kept second first_write second_write third_write = record {
  places = same_places_then a c d (same_places_then a second c (same_places_then a b second kept.places
      first_write.places) second_write.places) third_write.places;
  rows = λ r q m differ. third_write.rows r q m differ ∙ second_write.rows r q m differ
      ∙ first_write.rows r q m differ ∙ kept.rows r q m differ;
}

-- ---- the row, once its links, its diagonals and its free numbers are written

module _ (cell : CellCurves) (h : Fraction) (i : ℕ) (a b c d : StoredSystem) (sojourn leaving free : List ℤ)
    (small : IsSmallPair cell h) (inside : i < cell.states) (dim : dim_of a ≡ cell.states + cell.states)
    (links : HasSecondLinks cell h i cell.states a)
    (first : WritesNumbers a b (cell.states + i) i 9 (λ m. cut_of (pos 2 *ℤ slice_index_or sojourn m (pos 0))))
    (second : WritesNumbers b c (cell.states + i) (cell.states + i) 6
    (λ m. nearest_of (neg_ℤ (slice_index_or leaving m (pos 0)))))
    (third : WritesNumbers c d (cell.states + i) (dim_of c) 12 (λ m. cut_of (slice_index_or free m (pos 0))))
    (near_sojourn : (m : ℕ) → IsNear 2 (h *ℚ sojourn_rate_at cell i m) (slice_index_or sojourn m (pos 0)))
    (near_leaving : (m : ℕ) → m < 9 → IsNear 62 ((interest_at cell m +ℚ interest_at cell m) +ℚ leaving_at cell i m)
    (slice_index_or leaving m (pos 0)))
    (near_free : (m : ℕ) → m < 12 → IsNear 126 (h *ℚ h *ℚ sum_to cell.states (λ j. second_payment_at cell i j m))
    (slice_index_or free m (pos 0)))
    (loop : (m : ℕ) → intensity_at cell i i m ≡ whole (pos 0))
    (unpaid : (m : ℕ) → first_payment_at cell i i m ≡ whole (pos 0)) where
  abbrev Q : ℕ
  Q = cell.states

  dim_c : dim_of c ≡ Q + Q
  dim_c = second.places.dim ∙ first.places.dim ∙ dim

  -- a column that none of the three writes
  untouched : (x m : ℕ) → x ≢ i → x ≢ Q + i → x ≢ Q + Q → stored_number d (Q + i) x m ≡ stored_number a (Q + i) x m
  untouched x m not_own not_diagonal not_free =
      third.columns x m (λ e. not_free (e ∙ dim_c)) ∙ second.columns x m not_diagonal ∙ first.columns x m not_own

  entry-other : (x m : ℕ) → x ≢ i → backward_entry cell 2 m i x ≡ intensity_at cell i x m
  entry-other x m differ =
      ap (λ z. intensity_at cell i x m +ℚ z) (where_same-is i x
      (opposite (whole (pos 2) *ℚ interest_at cell m +ℚ leaving_at cell i m))
      ∙ ap (λ u. u *ℚ opposite (whole (pos 2) *ℚ interest_at cell m +ℚ leaving_at cell i m)) (unit-other i x differ))
      ∙ tidy (intensity_at cell i x m) (interest_at cell m) (leaving_at cell i m)
    where
      tidy : (x r l : Fraction) → x +ℚ whole (pos 0) *ℚ opposite (whole (pos 2) *ℚ r +ℚ l) ≡ x
      tidy x r l = ring (x ∷ r ∷ l ∷ []) (hlevel terms) refl

  entry-own : (m : ℕ) → backward_entry cell 2 m i i
      ≡ opposite ((interest_at cell m +ℚ interest_at cell m) +ℚ leaving_at cell i m)
  entry-own m =
      ap₂ ◌+ℚ◌ (loop m) (where_same-is i i (opposite (whole (pos 2) *ℚ interest_at cell m +ℚ leaving_at cell i m))
      ∙ ap (λ u. u *ℚ opposite (whole (pos 2) *ℚ interest_at cell m +ℚ leaving_at cell i m)) (unit-same i))
      ∙ tidy (interest_at cell m) (leaving_at cell i m)
    where
      tidy : (r l : Fraction) → whole (pos 0) +ℚ whole (pos 1) *ℚ opposite (whole (pos 2) *ℚ r +ℚ l)
          ≡ opposite ((r +ℚ r) +ℚ l)
      tidy r l = ring (r ∷ l ∷ []) (hlevel terms) refl

  late_none : (m : ℕ) → 6 ≤ m → opposite ((interest_at cell m +ℚ interest_at cell m) +ℚ leaving_at cell i m)
      ≡ whole (pos 0)
  late_none m six =
      ap opposite (ap₂ ◌+ℚ◌ (ap₂ ◌+ℚ◌ (small.first.interest_none m six) (small.first.interest_none m six))
      (sum_to_zeros cell.states (λ j b. small.first.intensity_none i j m six)))
      ∙ ring [] (hlevel terms) refl

  on_diagonal : (m : ℕ) → IsStored (backward_entry cell 2 m i i) (stored_number d (Q + i) (Q + i) m)
  on_diagonal m = elim (cases_lt m 6) [
    | inl low ↦ rw (entry-own m, third.columns (Q + i) m (not_free m) ∙ second.here m low)
        (stored_of_near 62 _ _ (omega arith) (near_opposite 62
        ((interest_at cell m +ℚ interest_at cell m) +ℚ leaving_at cell i m)
        (slice_index_or leaving m (pos 0)) (near_leaving m (omega (arith, low)))))
    | inr high ↦ stored_zero _ _ (entry-own m ∙ late_none m high)
        (third.columns (Q + i) m (not_free m) ∙ second.higher m high
        ∙ first.columns (Q + i) m (λ e. absurd (omega (arith, e, inside))) ∙ links.own m)
  ]
    where
      not_free : (m : ℕ) → Q + i ≢ dim_of c
      not_free m e = absurd (omega (arith, e, dim_c, inside))

  at : (x m : ℕ) → x < Q → IsStored (backward_entry cell 2 m i x) (stored_number d (Q + i) (Q + x) m)
  at x m few = elim (eqb_tells x i) [
    | inl same ↦ rw same.1 (on_diagonal m)
    | inr apart ↦ rw (
      entry-other x m apart.1,
      untouched (Q + x) m (λ e. absurd (omega (arith, e, inside))) (λ e. apart.1 (omega (arith, e)))
          (λ e. absurd (omega (arith, e, few))),
    )
        (links.links x m few apart.1)
  ]

  coupling-other : (x m : ℕ) → x ≢ i → coupling_entry cell m i x ≡ whole (pos 2) *ℚ first_payment_at cell i x m
  coupling-other x m differ =
      ap (λ z. whole (pos 2) *ℚ first_payment_at cell i x m +ℚ z)
      (where_same-is i x (whole (pos 2) *ℚ sojourn_rate_at cell i m)
      ∙ ap (λ u. u *ℚ (whole (pos 2) *ℚ sojourn_rate_at cell i m)) (unit-other i x differ))
      ∙ tidy (first_payment_at cell i x m) (sojourn_rate_at cell i m)
    where
      tidy : (p s : Fraction) → whole (pos 2) *ℚ p +ℚ whole (pos 0) *ℚ (whole (pos 2) *ℚ s) ≡ whole (pos 2) *ℚ p
      tidy p s = ring (p ∷ s ∷ []) (hlevel terms) refl

  coupling-own : (m : ℕ) → coupling_entry cell m i i ≡ whole (pos 2) *ℚ sojourn_rate_at cell i m
  coupling-own m =
      ap₂ ◌+ℚ◌ (ap (λ x. whole (pos 2) *ℚ x) (unpaid m))
      (where_same-is i i (whole (pos 2) *ℚ sojourn_rate_at cell i m)
      ∙ ap (λ u. u *ℚ (whole (pos 2) *ℚ sojourn_rate_at cell i m)) (unit-same i))
      ∙ tidy (sojourn_rate_at cell i m)
    where
      tidy : (s : Fraction) → whole (pos 2) *ℚ whole (pos 0) +ℚ whole (pos 1) *ℚ (whole (pos 2) *ℚ s)
          ≡ whole (pos 2) *ℚ s
      tidy s = ring (s ∷ []) (hlevel terms) refl

  own_at : (m : ℕ) → stored_number d (Q + i) i m ≡ stored_number b (Q + i) i m
  own_at m = third.columns i m (λ e. absurd (omega (arith, e, dim_c, inside)))
      ∙ second.columns i m (λ e. absurd (omega (arith, e, inside)))

  coupled_at : (x m : ℕ) → x < Q → m < 9 → IsStoredCut (h *ℚ coupling_entry cell m i x) (stored_number d (Q + i) x m)
  coupled_at x m few low = elim (eqb_tells x i) [
    | inl same ↦ rw (same.1, coupling-own m, own_at m ∙ first.here m low)
        (stored_twice 2 h (sojourn_rate_at cell i m) (slice_index_or sojourn m (pos 0)) (omega arith) (near_sojourn m))
    | inr apart ↦ rw (
      coupling-other x m apart.1,
      untouched x m apart.1 (λ e. absurd (omega (arith, e, few))) (λ e. absurd (omega (arith, e, few))),
    )
        (links.coupling x m few apart.1)
  ]

  coupled_end : (x m : ℕ) → x < Q → 9 ≤ m → stored_number d (Q + i) x m ≡ pos 0
  coupled_end x m few late = elim (eqb_tells x i) [
    | inl same ↦ rw same.1 (own_at m ∙ first.higher m late ∙ links.own_coupling m)
    | inr apart ↦
        untouched x m apart.1 (λ e. absurd (omega (arith, e, few))) (λ e. absurd (omega (arith, e, few)))
        ∙ (links.coupling x m few apart.1).none (ap (λ y. h *ℚ (whole (pos 2) *ℚ y))
        (paid_late cell h small i x m late) ∙ ring (h ∷ []) (hlevel terms) refl)
  ]

  at_free : (m : ℕ) → m < 12 → IsStoredCut (h *ℚ h *ℚ sum_to cell.states (λ j. second_payment_at cell i j m))
      (stored_free d (Q + i) m)
  at_free m few =
      let here : stored_free d (Q + i) m ≡ cut_of (slice_index_or free m (pos 0)) =
      ap (λ x. stored_number d (Q + i) x m) third.places.dim ∙ third.here m few in
      rw here (stored_cut 126 _ _ (omega arith) (near_free m few))

  past_free : (m : ℕ) → 12 ≤ m → stored_free d (Q + i) m ≡ pos 0
  past_free m past =
      ap (λ x. stored_number d (Q + i) x m) third.places.dim ∙ third.higher m past
      ∙ second.columns (dim_of c) m (λ e. absurd (omega (arith, e, dim_c, inside)))
      ∙ first.columns (dim_of c) m (λ e. absurd (omega (arith, e, dim_c, inside)))
      ∙ links.last (dim_of c) m (omega (arith, dim_c))

  pub second_row_done : IsStoredSecondRow cell h i d
  second_row_done = record {
    numbers = at;
    coupling = coupled_at;
    coupling_end = coupled_end;
    free = at_free;
    no_more = past_free;
  }

-- ---- rows that are kept

pub second_row_kept : (cell : CellCurves) (h : Fraction) (r row : ℕ) (old new : StoredSystem)
    → KeepsRows old new (cell.states + row) → r ≢ row → IsStoredSecondRow cell h r old
    → IsStoredSecondRow cell h r new
second_row_kept cell h r row old new kept differ stored =
    let apart : cell.states + r ≢ cell.states + row = λ e. differ (omega (arith, e)) in
    let same : (m : ℕ) → stored_free new (cell.states + r) m ≡ stored_free old (cell.states + r) m =
    λ m. ap (λ d. stored_number new (cell.states + r) d m) kept.places.dim
    ∙ kept.rows (cell.states + r) (dim_of old) m apart in
    record {
      numbers = λ c m b. rw (kept.rows (cell.states + r) (cell.states + c) m apart) (stored.numbers c m b);
      coupling = λ c m b low. rw (kept.rows (cell.states + r) c m apart) (stored.coupling c m b low);
      coupling_end = λ c m b late. kept.rows (cell.states + r) c m apart ∙ stored.coupling_end c m b late;
      free = λ m few. rw (same m) (stored.free m few);
      no_more = λ m past. same m ∙ stored.no_more m past;
    }

pub second_rows_more : (cell : CellCurves) (h : Fraction) (k : ℕ) (old new : StoredSystem)
    → KeepsRows old new (cell.states + k) → ((i : ℕ) → i < k → IsStoredSecondRow cell h i old)
    → IsStoredSecondRow cell h k new → (i : ℕ) → i < k + 1 → IsStoredSecondRow cell h i new
second_rows_more cell h k old new kept done here i few = elim (eqb_tells i k) [
  | inl same ↦ rw same.1 here
  | inr apart ↦ second_row_kept cell h i k old new kept apart.1 (done i (below i k few apart.1))
]

-- a row of first moments, whose numbers are the same
pub first_row_kept : (cell : CellCurves) (h : Fraction) (i : ℕ) (old new : StoredSystem) → HaveSamePlaces old new
    → ((c m : ℕ) → stored_number new i c m ≡ stored_number old i c m) → IsStoredRow cell h i old
    → IsStoredRow cell h i new
first_row_kept cell h i old new places kept stored =
    let same : (m : ℕ) → stored_free new i m ≡ stored_free old i m =
    λ m. ap (λ d. stored_number new i d m) places.dim ∙ kept (dim_of old) m in
    record {
      numbers = λ c m b. rw (kept c m) (stored.numbers c m b);
      free = λ m few. rw (same m) (stored.free m few);
      no_more = λ m past. same m ∙ stored.no_more m past;
    }

-- ---- sums of what is near

pub second_leaving_near : (states m : ℕ) (r : Fraction) (leaving : ℕ → Fraction) (given old new : List ℤ) → states ≤ 12
    → m < 9 → slice_index_or old m (pos 0) ≡ slice_index_or given m (pos 0) +ℤ slice_index_or given m (pos 0)
    → AddsNear (2 * states) leaving old new → IsNear 2 r (slice_index_or given m (pos 0))
    → IsNear 62 ((r +ℚ r) +ℚ leaving m) (slice_index_or new m (pos 0))
second_leaving_near states m r leaving given old new few low twice adds near =
    let begun : IsNear 4 (r +ℚ r) (slice_index_or old m (pos 0)) =
    rw twice (near_add 2 2 r r (slice_index_or given m (pos 0)) (slice_index_or given m (pos 0)) near near) in
    near_enough 4 (2 * states) ((r +ℚ r) +ℚ leaving m) (slice_index_or new m (pos 0)) (omega (arith, few))
    (adds 4 m (r +ℚ r) low begun)

pub second_free_near : (states m : ℕ) (paid : ℕ → Fraction) (old new : List ℤ) → states ≤ 12 → m < 12
    → slice_index_or old m (pos 0) ≡ pos 0 → AddsNearTo 12 (9 * states) paid old new
    → IsNear 126 (paid m) (slice_index_or new m (pos 0))
second_free_near states m paid old new few low nothing adds =
    let begun : IsNear 0 (whole (pos 0)) (slice_index_or old m (pos 0)) =
    rw nothing (le_trans (le_of_equal (ap size gone ∙ size_zero)) (natural 0 (2 ^ 71))) in
    let same : whole (pos 0) +ℚ paid m ≡ paid m = ring (paid m ∷ []) (hlevel terms) refl in
    let here : IsNear (0 + 9 * states) (whole (pos 0) +ℚ paid m) (slice_index_or new m (pos 0)) =
    adds 0 m (whole (pos 0)) low begun in
    let enough = near_mono (0 + 9 * states) 126 (whole (pos 0) +ℚ paid m) (slice_index_or new m (pos 0))
    (omega (arith, few)) here in
    subst (λ x. IsNear 126 x (slice_index_or new m (pos 0))) same enough
  where
    gone : whole (pos 0) -ℚ over (pos 0) (2 ^ 70) ≡ whole (pos 0)
    gone = ap (λ y. whole (pos 0) -ℚ y) (over-zero (2 ^ 70)) ∙ ring [] (hlevel terms) refl
