-- A row, transition by transition.
use Rattle.std.specs.Prelude.{◌≡◌, ◌≢◌, ℕ, pos, ◌+◌, ◌<◌, ◌≤◌, ◌==◌, ◌&&◌, ℤ, true}
use Rattle.std.specs.Prelude.{Option, Some, None, List, [], ◌∷◌, length, slice_index_or}
use Rattle.std.proofs.Common.{refl, ap, sym, ◌∙◌, arith, ◌⊎◌, inl, inr}
use Rattle.std.proofs.lemmas.Bool.{cases_lt}
use Rattle.std.proofs.lemmas.Bool.Decides.{eqb_tells}
use Rattle.frac_laws.specs.Fraction.{Fraction, whole, ◌+ℚ◌, ◌*ℚ◌}
use Rattle.frac_laws.specs.Sums.{sum_to}
use Rattle.frac_laws.proofs.FractionTerms.{ring, terms}
use Rattle.model_specs.specs.Product.{Product, transition_at, no_transition}
use Rattle.whole_laws.specs.Whole.{places}
use Rattle.model_specs.specs.RecordRules.{IsWellFormed}
use Rattle.model_specs.specs.Cells.{CellCurves, transition_between}
use Rattle.std.specs.Prelude.{neg_ℤ}
use mathlib.Core.Path.{ap₂}
use Rattle.frac_laws.specs.Fraction.{opposite}
use Rattle.frac_laws.proofs.Sums.{sum_to_zeros}
use Rattle.cell_bounds.proofs.TableNorms.{where_same-is, unit-same, unit-other}
use Rattle.model_specs.specs.Systems.{intensity_at, interest_at, leaving_at, sojourn_rate_at, first_payment_at}
use Rattle.model_specs.specs.Systems.{backward_entry}
use Rattle.linear_system.specs.StoredSystem.{stored_free}
use Rattle.cell_coeffs.specs.Near.{nearest_of}
use Rattle.cell_coeffs.specs.Writing.{WritesNumbers}
use Rattle.cell_coeffs.proofs.Near.{stored_of_near, near_opposite, near_mono}
use Rattle.cell_coeffs.proofs.Links.{stored_zero}
use Rattle.whole_laws.proofs.Tests.{same_numbers, both_pass}
use Rattle.whole_laws.proofs.Found.{found_by}
use Rattle.whole_laws.proofs.ListsByPlace.{All-list_of}
use Rattle.linear_system.specs.StoredSystem.{StoredSystem, dim_of, stored_number}
use Rattle.linear_system.specs.Setting.{HaveSamePlaces}
use Rattle.linear_system.proofs.Made.{place_kept, same_places_then}
use Rattle.cell_coeffs.specs.Near.{IsNear, IsStored}
use Rattle.cell_coeffs.specs.Rows.{AddsNear, AddsNearTo, KeepsOthers, HasFirstPlaces, IsMadeForFirst}
use Rattle.cell_coeffs.specs.StoredRows.{HasLinks, KeepsRows, IsStoredRow}

-- no transition leads from a state to itself
pub no_loop : (product : Product) (i : ℕ) → IsWellFormed product → transition_between product i i ≡ None
no_loop product i formed =
    let P : Option ℕ → Type 0 = λ found. found ≡ None in
    found_by P (λ e. ((transition_at product e).from == i) && ((transition_at product e).to == i))
    (places (length product.transitions)) refl
    (All-list_of (λ e. (((transition_at product e).from == i) && ((transition_at product e).to == i)) ≡ true
    → P (Some e))
    (length product.transitions) (λ e. e)
    (λ e b h. absurd (formed.transitions.different e no_transition b
    (same_numbers (transition_at product e).from i (both_pass _ _ h).0
    ∙ sym (same_numbers (transition_at product e).to i (both_pass _ _ h).1)))))

-- one addition after another
pub adds_then_to : (powers a b c : ℕ) (y z w : ℕ → Fraction) (old mid new : List ℤ) → a + b ≡ c
    → ((m : ℕ) → y m +ℚ z m ≡ w m) → AddsNearTo powers a y old mid → AddsNearTo powers b z mid new
    → AddsNearTo powers c w old new
adds_then_to powers a b c y z w old mid new sum are first second halves m x few near =
    let total : (halves + a) + b ≡ halves + c = omega (arith, sum) in
    let value : (x +ℚ y m) +ℚ z m ≡ x +ℚ w m =
    joined x (y m) (z m) ∙ ap (λ v. x +ℚ v) (are m) in
    rw (← total, ← value) (second (halves + a) m (x +ℚ y m) few (first halves m x few near))
  where
    joined : (x y z : Fraction) → (x +ℚ y) +ℚ z ≡ x +ℚ (y +ℚ z)
    joined x y z = ring (x ∷ y ∷ z ∷ []) (hlevel terms) refl

pub adds_then : (a b c : ℕ) (y z w : ℕ → Fraction) (old mid new : List ℤ) → a + b ≡ c → ((m : ℕ) → y m +ℚ z m ≡ w m)
    → AddsNear a y old mid → AddsNear b z mid new → AddsNear c w old new
adds_then = adds_then_to 9

pub places_kept : (product : Product) (old new : StoredSystem) → HaveSamePlaces old new → HasFirstPlaces product old
    → HasFirstPlaces product new
places_kept product old new same made = record {
  fits = rw same.dim made.fits;
  powers = rw same.degree made.powers;
  diagonal = λ i b. place_kept old new i i same (made.diagonal i b);
  links = λ i j e b c is. place_kept old new i j same (made.links i j e b c is);
}

pub first_places : (product : Product) (s : StoredSystem) → IsMadeForFirst product s → HasFirstPlaces product s
first_places product s made = record {
  fits = omega (arith, made.dim_is);
  powers = made.powers;
  diagonal = made.diagonal;
  links = made.links;
}

pub made_kept : (product : Product) (old new : StoredSystem) → HaveSamePlaces old new → IsMadeForFirst product old
    → IsMadeForFirst product new
made_kept product old new same made = record {
  dim_is = same.dim ∙ made.dim_is;
  powers = rw same.degree made.powers;
  diagonal = λ i b. place_kept old new i i same (made.diagonal i b);
  links = λ i j e b c is. place_kept old new i j same (made.links i j e b c is);
}

below : (c k : ℕ) → c < k + 1 → c ≢ k → c < k
below c k few apart = grind (arith, few, apart)

-- the transition to one state more
pub links_more : (cell : CellCurves) (i k : ℕ) (old new : StoredSystem) → HasLinks cell i k old
    → KeepsOthers old new i k
    → ((m : ℕ) → stored_number old i k m ≡ pos 0 → IsStored (intensity_at cell i k m) (stored_number new i k m))
    → ((m : ℕ) → intensity_at cell i i m ≡ whole (pos 0)) → HasLinks cell i (k + 1) new
links_more cell i k old new links kept link loop = record { links = linked; others = other }
  where
    here : (m : ℕ) → IsStored (intensity_at cell i k m) (stored_number new i k m)
    here m = link m (links.others k m (inr (omega arith)))

    linked : (c m : ℕ) → c < k + 1 → c ≢ i → IsStored (intensity_at cell i c m) (stored_number new i c m)
    linked c m few differ = elim (eqb_tells c k) [
      | inl same ↦ rw same.1 (here m)
      | inr apart ↦ rw (kept.columns c m apart.1) (links.links c m (below c k few apart.1) differ)
    ]

    other : (c m : ℕ) → (c ≡ i) ⊎ (k + 1 ≤ c) → stored_number new i c m ≡ pos 0
    other c m (inr past) =
        kept.columns c m (λ e. absurd (omega (arith, past, e))) ∙ links.others c m (inr (omega (arith, past)))
    other c m (inl is) = elim (eqb_tells i k) [
      | inl same ↦ ap (λ d. stored_number new i d m) (is ∙ same.1)
          ∙ (here m).none (ap (λ d. intensity_at cell i d m) (sym same.1) ∙ loop m)
      | inr apart ↦ kept.columns c m (λ e. apart.1 (sym is ∙ e)) ∙ links.others c m (inl is)
    ]

pub rows_then : (a b c : StoredSystem) (row col : ℕ) → KeepsRows a b row → KeepsOthers b c row col → KeepsRows a c row
rows_then a b c row col first second = record {
  places = same_places_then a b c first.places second.places;
  rows = λ r d m differ. second.rows r d m differ ∙ first.rows r d m differ;
}

-- the row of a state, once its links, its diagonal and its free numbers are written
module _ (cell : CellCurves) (h : Fraction) (i : ℕ) (first second third : StoredSystem) (leaving free : List ℤ)
    (inside : i < cell.states) (dim : cell.states ≤ dim_of first) (links : HasLinks cell i cell.states first)
    (diagonal : WritesNumbers first second i i 6 (λ m. nearest_of (neg_ℤ (slice_index_or leaving m (pos 0)))))
    (last : WritesNumbers second third i (dim_of second) 9 (λ m. nearest_of (slice_index_or free m (pos 0))))
    (near_leaving : (m : ℕ) → m < 9 → IsNear 62 (interest_at cell m +ℚ leaving_at cell i m)
    (slice_index_or leaving m (pos 0)))
    (near_free : (m : ℕ) → m < 9 → IsNear 62
    (h *ℚ (sojourn_rate_at cell i m +ℚ sum_to cell.states (λ j. first_payment_at cell i j m)))
    (slice_index_or free m (pos 0)))
    (loop : (m : ℕ) → intensity_at cell i i m ≡ whole (pos 0))
    (interest_none : (m : ℕ) → 6 ≤ m → interest_at cell m ≡ whole (pos 0))
    (intensity_none : (i j m : ℕ) → 6 ≤ m → intensity_at cell i j m ≡ whole (pos 0)) where
  dim_second : cell.states ≤ dim_of second
  dim_second = omega (arith, diagonal.places.dim, dim)

  not_free : (c : ℕ) → c < cell.states → c ≢ dim_of second
  not_free c b e = absurd (omega (arith, b, e, dim_second))

  diagonal-is : (m : ℕ) → backward_entry cell 1 m i i ≡ opposite (interest_at cell m +ℚ leaving_at cell i m)
  diagonal-is m =
      ap₂ ◌+ℚ◌ (loop m) (where_same-is i i (opposite (whole (pos 1) *ℚ interest_at cell m +ℚ leaving_at cell i m))
      ∙ ap (λ u. u *ℚ opposite (whole (pos 1) *ℚ interest_at cell m +ℚ leaving_at cell i m)) (unit-same i))
      ∙ tidy (interest_at cell m) (leaving_at cell i m)
    where
      tidy : (r l : Fraction) → whole (pos 0) +ℚ whole (pos 1) *ℚ opposite (whole (pos 1) *ℚ r +ℚ l) ≡ opposite (r +ℚ l)
      tidy r l = ring (r ∷ l ∷ []) (hlevel terms) refl

  link-is : (c m : ℕ) → c ≢ i → backward_entry cell 1 m i c ≡ intensity_at cell i c m
  link-is c m differ =
      ap (λ z. intensity_at cell i c m +ℚ z) (where_same-is i c
      (opposite (whole (pos 1) *ℚ interest_at cell m +ℚ leaving_at cell i m))
      ∙ ap (λ u. u *ℚ opposite (whole (pos 1) *ℚ interest_at cell m +ℚ leaving_at cell i m)) (unit-other i c differ))
      ∙ tidy (intensity_at cell i c m) (interest_at cell m) (leaving_at cell i m)
    where
      tidy : (x r l : Fraction) → x +ℚ whole (pos 0) *ℚ opposite (whole (pos 1) *ℚ r +ℚ l) ≡ x
      tidy x r l = ring (x ∷ r ∷ l ∷ []) (hlevel terms) refl

  late_none : (m : ℕ) → 6 ≤ m → opposite (interest_at cell m +ℚ leaving_at cell i m) ≡ whole (pos 0)
  late_none m six =
      ap opposite (ap₂ ◌+ℚ◌ (interest_none m six) (sum_to_zeros cell.states (λ j b. intensity_none i j m six)))
      ∙ ring [] (hlevel terms) refl

  on_diagonal : (m : ℕ) → IsStored (backward_entry cell 1 m i i) (stored_number third i i m)
  on_diagonal m = elim (cases_lt m 6) [
    | inl low ↦ rw (diagonal-is m, last.columns i m (not_free i inside) ∙ diagonal.here m low)
        (stored_of_near 62 _ _ (omega arith) (near_opposite 62 (interest_at cell m +ℚ leaving_at cell i m)
        (slice_index_or leaving m (pos 0)) (near_leaving m (omega (arith, low)))))
    | inr high ↦ stored_zero _ _ (diagonal-is m ∙ late_none m high)
        (last.columns i m (not_free i inside) ∙ diagonal.higher m high ∙ links.others i m (inl refl))
  ]

  at : (c m : ℕ) → c < cell.states → IsStored (backward_entry cell 1 m i c) (stored_number third i c m)
  at c m b = elim (eqb_tells c i) [
    | inl same ↦ rw same.1 (on_diagonal m)
    | inr apart ↦ rw (link-is c m apart.1, last.columns c m (not_free c b) ∙ diagonal.columns c m apart.1)
        (links.links c m b apart.1)
  ]

  at_free : (m : ℕ) → m < 9 → IsStored
      (h *ℚ (sojourn_rate_at cell i m +ℚ sum_to cell.states (λ j. first_payment_at cell i j m))) (stored_free third i m)
  at_free m few =
      let here : stored_free third i m ≡ nearest_of (slice_index_or free m (pos 0)) =
      ap (λ d. stored_number third i d m) last.places.dim ∙ last.here m few in
      rw here (stored_of_near 62 _ _ (omega arith) (near_free m few))

  past_free : (m : ℕ) → 9 ≤ m → stored_free third i m ≡ pos 0
  past_free m past =
      ap (λ d. stored_number third i d m) last.places.dim ∙ last.higher m past
      ∙ diagonal.columns (dim_of second) m (λ e. absurd (omega (arith, e, dim_second, inside)))
      ∙ links.others (dim_of second) m (inr (omega (arith, dim_second)))

  pub row_done : IsStoredRow cell h i third
  row_done = record { numbers = at; free = at_free; no_more = past_free }

pub spread_out : (h x y : Fraction) → h *ℚ x +ℚ h *ℚ y ≡ h *ℚ (x +ℚ y)
spread_out h x y = ring (h ∷ x ∷ y ∷ []) (hlevel terms) refl

-- the free numbers and what leaves, near enough to be stored
pub near_enough : (halves more : ℕ) (x : Fraction) (z : ℤ) → halves + more ≤ 62 → IsNear (halves + more) x z
    → IsNear 62 x z
near_enough halves more x z few near = near_mono (halves + more) 62 x z few near

pub rows_end : (a b c d : StoredSystem) (row dim n m : ℕ) (f g : ℕ → ℤ) → KeepsRows a b row
    → WritesNumbers b c row row n f
    → WritesNumbers c d row dim m g → KeepsRows a d row
rows_end a b c d row dim n m f g first second third = record {
  places = same_places_then a c d (same_places_then a b c first.places second.places) third.places;
  rows = λ r e k differ. third.rows r e k differ ∙ second.rows r e k differ ∙ first.rows r e k differ;
}

-- a row that is kept
pub row_kept : (cell : CellCurves) (h : Fraction) (r row : ℕ) (old new : StoredSystem) → KeepsRows old new row → r ≢ row
    → IsStoredRow cell h r old → IsStoredRow cell h r new
row_kept cell h r row old new kept differ stored =
    let same : (m : ℕ) → stored_free new r m ≡ stored_free old r m =
    λ m. ap (λ d. stored_number new r d m) kept.places.dim ∙ kept.rows r (dim_of old) m differ in
    record {
      numbers = λ c m b. rw (kept.rows r c m differ) (stored.numbers c m b);
      free = λ m few. rw (same m) (stored.free m few);
      no_more = λ m past. same m ∙ stored.no_more m past;
    }

pub rows_more : (cell : CellCurves) (h : Fraction) (k : ℕ) (old new : StoredSystem) → KeepsRows old new k
    → ((i : ℕ) → i < k → IsStoredRow cell h i old) → IsStoredRow cell h k new → (i : ℕ) → i < k + 1
    → IsStoredRow cell h i new
rows_more cell h k old new kept done here i few = elim (eqb_tells i k) [
  | inl same ↦ rw same.1 here
  | inr apart ↦ row_kept cell h i k old new kept apart.1 (done i (below i k few apart.1))
]

pub none_more : (k : ℕ) (old new : StoredSystem) → KeepsRows old new k
    → ((i c m : ℕ) → k ≤ i → stored_number old i c m ≡ pos 0) → (i c m : ℕ) → k + 1 ≤ i
    → stored_number new i c m ≡ pos 0
none_more k old new kept none i c m past =
    kept.rows i c m (λ e. absurd (omega (arith, past, e))) ∙ none i c m (omega (arith, past))
