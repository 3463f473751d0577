-- A column, transition by transition, and column after column.
use Rattle.std.specs.Prelude.{◌≡◌, ◌≢◌, ℕ, pos, ◌+◌, ◌*◌, ◌^◌, ◌<◌, ◌≤◌, ℤ, neg_ℤ, List, [], ◌∷◌, slice_index_or}
use Rattle.std.specs.Prelude.{replicate}
use Rattle.std.proofs.Common.{refl, ap, sym, ◌∙◌, arith, ◌⊎◌, inl, inr}
use Rattle.std.proofs.lemmas.Bool.{cases_lt}
use Rattle.std.proofs.lemmas.Bool.Decides.{eqb_tells}
use Rattle.std.proofs.lemmas.List.{get_or-replicate}
use Rattle.frac_laws.specs.Fraction.{Fraction, over, whole, size, opposite, ◌+ℚ◌, ◌-ℚ◌}
use Rattle.frac_laws.proofs.FractionTerms.{ring, terms}
use Rattle.frac_laws.proofs.Linear.{natural}
use Rattle.frac_laws.proofs.Norms.{size_zero}
use Rattle.frac_laws.proofs.Order.{le_trans, le_of_equal}
use Rattle.frac_laws.proofs.Sums.{sum_to_zeros}
use Rattle.frac_laws.proofs.QuotientFacts.{over-zero}
use Rattle.model_specs.specs.Product.{Product}
use Rattle.model_specs.specs.Cells.{CellCurves}
use Rattle.model_specs.specs.Systems.{intensity_at, leaving_at}
use Rattle.linear_system.specs.StoredSystem.{StoredSystem, stored_number}
use Rattle.linear_system.specs.Setting.{HaveSamePlaces}
use Rattle.linear_system.proofs.Made.{place_kept, same_places_then}
use Rattle.cell_coeffs.specs.Near.{IsNear, IsStored, nearest_of}
use Rattle.cell_coeffs.specs.Rows.{AddsNear, KeepsOthers}
use Rattle.cell_coeffs.specs.Writing.{WritesNumbers}
use Rattle.cell_coeffs.specs.ForwardColumns.{HasFlows, KeepsColumns, IsStoredColumn, IsMadeForward, forward_entry}
use Rattle.cell_coeffs.proofs.Near.{stored_of_near, near_opposite}
use Rattle.cell_coeffs.proofs.Links.{stored_zero}
use Rattle.cell_coeffs.proofs.ForwardCells.{leaving-is, flow-is}
use Rattle.cell_coeffs.proofs.RowSteps.{near_enough}

pub made_forward_kept : (product : Product) (old new : StoredSystem) → HaveSamePlaces old new
    → IsMadeForward product old → IsMadeForward product new
made_forward_kept product old new same made = record {
  dim_is = same.dim ∙ made.dim_is;
  degree_is = same.degree ∙ made.degree_is;
  diagonal = λ i b. place_kept old new i i same (made.diagonal i b);
  links = λ i j e b c is. place_kept old new j i same (made.links i j e b c is);
}

below : (c k : ℕ) → c < k + 1 → c ≢ k → c < k
below c k few apart = grind (arith, few, apart)

-- what flows to one state more
pub flows_more : (cell : CellCurves) (i k : ℕ) (old new : StoredSystem) → HasFlows cell i k old
    → KeepsOthers old new k i
    → ((m : ℕ) → stored_number old k i m ≡ pos 0 → IsStored (intensity_at cell i k m) (stored_number new k i m))
    → ((m : ℕ) → intensity_at cell i i m ≡ whole (pos 0)) → HasFlows cell i (k + 1) new
flows_more cell i k old new flows kept flow loop = record { flows = stored; others = other }
  where
    here : (m : ℕ) → IsStored (intensity_at cell i k m) (stored_number new k i m)
    here m = flow m (flows.others k m (inr (omega arith)))

    stored : (j m : ℕ) → j < k + 1 → j ≢ i → IsStored (intensity_at cell i j m) (stored_number new j i m)
    stored j m few differ = elim (eqb_tells j k) [
      | inl same ↦ rw same.1 (here m)
      | inr apart ↦ rw (kept.rows j i m apart.1) (flows.flows j m (below j k few apart.1) differ)
    ]

    other : (j m : ℕ) → (j ≡ i) ⊎ (k + 1 ≤ j) → stored_number new j i m ≡ pos 0
    other j m (inr past) =
        kept.rows j i m (λ e. absurd (omega (arith, past, e))) ∙ flows.others j m (inr (omega (arith, past)))
    other j m (inl is) = elim (eqb_tells i k) [
      | inl same ↦ ap (λ r. stored_number new r i m) (is ∙ same.1)
          ∙ (here m).none (ap (λ r. intensity_at cell i r m) (sym same.1) ∙ loop m)
      | inr apart ↦ kept.rows j i m (λ e. apart.1 (sym is ∙ e)) ∙ flows.others j m (inl is)
    ]

pub columns_then : (a b c : StoredSystem) (row col : ℕ) → KeepsColumns a b col → KeepsOthers b c row col
    → KeepsColumns a c col
columns_then a b c row col first second = record {
  places = same_places_then a b c first.places second.places;
  columns = λ r d m differ. kept r d m differ ∙ first.columns r d m differ;
}
  where
    kept : (r d m : ℕ) → d ≢ col → stored_number c r d m ≡ stored_number b r d m
    kept r d m differ = elim (eqb_tells r row) [
      | inl same ↦ rw same.1 (second.columns d m differ)
      | inr apart ↦ second.rows r d m apart.1
    ]

pub others_kept : (old new : StoredSystem) (row col powers : ℕ) (numbers : ℕ → ℤ)
    → WritesNumbers old new row col powers numbers → KeepsOthers old new row col
others_kept old new row col powers numbers written = record {
  places = written.places;
  columns = written.columns;
  rows = written.rows;
}

-- what leaves a state, added up from nothing
pub leaving_near : (states m : ℕ) (leaving : ℕ → Fraction) (new : List ℤ) → states ≤ 12 → m < 9
    → AddsNear (2 * states) leaving (replicate 9 (pos 0)) new → IsNear 62 (leaving m) (slice_index_or new m (pos 0))
leaving_near states m leaving new few below adds =
    let nothing : slice_index_or (replicate 9 (pos 0)) m (pos 0) ≡ pos 0 = get_or-replicate 9 m (pos 0) (pos 0) below in
    let exact : size (whole (pos 0) -ℚ over (pos 0) (2 ^ 70)) ≡ whole (pos 0) =
    ap size (ap (λ y. whole (pos 0) -ℚ y) (over-zero (2 ^ 70)) ∙ ring [] (hlevel terms) refl) ∙ size_zero in
    let start : IsNear 0 (whole (pos 0)) (slice_index_or (replicate 9 (pos 0)) m (pos 0)) =
    rw nothing (le_trans (le_of_equal exact) (natural 0 (2 ^ 71))) in
    let from_none : whole (pos 0) +ℚ leaving m ≡ leaving m = ring (leaving m ∷ []) (hlevel terms) refl in
    rw (← from_none) (near_enough 0 (2 * states) (whole (pos 0) +ℚ leaving m) (slice_index_or new m (pos 0))
    (omega (arith, few)) (adds 0 m (whole (pos 0)) below start))

-- the column of a state, once what flows out of it and its diagonal are written
module _ (cell : CellCurves) (i : ℕ) (first second : StoredSystem) (leaving : List ℤ)
    (flows : HasFlows cell i cell.states first)
    (diagonal : WritesNumbers first second i i 6 (λ m. nearest_of (neg_ℤ (slice_index_or leaving m (pos 0)))))
    (near_leaving : (m : ℕ) → m < 9 → IsNear 62 (leaving_at cell i m) (slice_index_or leaving m (pos 0)))
    (loop : (m : ℕ) → intensity_at cell i i m ≡ whole (pos 0))
    (intensity_none : (i j m : ℕ) → 6 ≤ m → intensity_at cell i j m ≡ whole (pos 0)) where
  late_none : (m : ℕ) → 6 ≤ m → opposite (leaving_at cell i m) ≡ whole (pos 0)
  late_none m six =
      ap opposite (sum_to_zeros cell.states {f = λ j. intensity_at cell i j m} (λ j b. intensity_none i j m six))
      ∙ ring [] (hlevel terms) refl

  on_diagonal : (m : ℕ) → IsStored (forward_entry cell m i i) (stored_number second i i m)
  on_diagonal m = elim (cases_lt m 6) [
    | inl low ↦ rw (leaving-is cell i m (loop m), diagonal.here m low)
        (stored_of_near 62 _ _ (omega arith) (near_opposite 62 (leaving_at cell i m)
        (slice_index_or leaving m (pos 0)) (near_leaving m (omega (arith, low)))))
    | inr high ↦ stored_zero _ _ (leaving-is cell i m (loop m) ∙ late_none m high)
        (diagonal.higher m high ∙ flows.others i m (inl refl))
  ]

  pub column_done : IsStoredColumn cell i second
  column_done j m b = elim (eqb_tells j i) [
    | inl same ↦ rw same.1 (on_diagonal m)
    | inr apart ↦ rw (flow-is cell i j m apart.1, diagonal.rows j i m apart.1) (flows.flows j m b apart.1)
  ]

-- a column that is kept
column_kept : (cell : CellCurves) (i col : ℕ) (old new : StoredSystem) → KeepsColumns old new col → i ≢ col
    → IsStoredColumn cell i old → IsStoredColumn cell i new
column_kept cell i col old new kept differ stored j m b = rw (kept.columns j i m differ) (stored j m b)

pub columns_more : (cell : CellCurves) (k : ℕ) (old new : StoredSystem) → KeepsColumns old new k
    → ((i : ℕ) → i < k → IsStoredColumn cell i old) → IsStoredColumn cell k new → (i : ℕ) → i < k + 1
    → IsStoredColumn cell i new
columns_more cell k old new kept done here i few = elim (eqb_tells i k) [
  | inl same ↦ rw same.1 here
  | inr apart ↦ column_kept cell i k old new kept apart.1 (done i (below i k few apart.1))
]

pub none_after : (k : ℕ) (old new : StoredSystem) → KeepsColumns old new k
    → ((j c m : ℕ) → k ≤ c → stored_number old j c m ≡ pos 0) → (j c m : ℕ) → k + 1 ≤ c
    → stored_number new j c m ≡ pos 0
none_after k old new kept none j c m past =
    kept.columns j c m (λ e. absurd (omega (arith, past, e))) ∙ none j c m (omega (arith, past))
