-- A stored system after a write: it keeps what every stored system keeps, and has the numbers that it should.
use Rattle.std.proofs.Common.{◌≡◌, ℕ, ◌^◌, ◌+◌, ◌*◌, ◌<◌, ◌≤◌, ◌⊎◌, inl, inr, length, get_or, set, map, List}
use Rattle.std.proofs.Common.{ℤ, pos, refl, ap, sym, ◌∙◌, arith, get_or-set_other, get_or-set_same, Bool}
use Rattle.std.proofs.Common.{true, false}
use Rattle.std.specs.Prelude.{unsigned_abs, nat_eq, cond, ◌&&◌}
use Rattle.std.proofs.Math.ListN.{length-set, length-map}
use Rattle.std.proofs.lemmas.List.{map-set, get_or-map}
use Rattle.linear_system.specs.StoredSystem.{StoredRow, StoredSystem, IsSystem, IsRow, dim_of, row_of, no_row}
use Rattle.linear_system.specs.StoredSystem.{place_of}
use Rattle.linear_system.specs.StoredSystem.{stored_number, number_in_row}
use Rattle.linear_system.specs.Setting.{SetsOnly}
use Rattle.linear_system.specs.Changes.{row_with_number, with_number, HasColumn}
use Rattle.linear_system.specs.Layout.{stored_row}
use Rattle.linear_system.specs.declared.row.Row.{Row}
use Rattle.linear_system.proofs.Columns.{place_of-at_most}
use Rattle.linear_system.proofs.Places.{one_column, one_power}
use Rattle.linear_system.proofs.Rows.{of_rows}
use Rattle.whole_laws.proofs.Tests.{same_is, other_is_not}

equal_or_not : (i j : ℕ) → (i ≡ j) ⊎ (i ≡ j → ⊥)
equal_or_not i j = grind arith

-- what holds of the old item and of the new one holds at each index
at_set : {A : Type 0} (P : A → Type 0) (l : List A) (i j : ℕ) (a d : A) → i < length l → P a
    → P (get_or l j d)
    → P (get_or (set l i a) j d)
at_set P l i j a d h p q = elim (equal_or_not i j) [
  | inl e ↦ rw (← e) (rw get_or-set_same p)
  | inr n ↦ (let other : j ≡ i → ⊥ = λ e. n (sym e) in rw get_or-set_other q)
]

-- a place in a row of a degree lies within its numbers
within_row : (m degree w p n : ℕ) → p < w → m ≤ degree → n ≡ (degree + 1) * w → m * w + p < n
within_row m degree w p n h k e = grind arith

pub row_keeps : (dim degree : ℕ) (r : StoredRow) (p m : ℕ) (v : ℤ) → IsRow dim degree r → p < length r.columns
    → m ≤ degree
    → unsigned_abs v ≤ 2 ^ 59 → IsRow dim degree (row_with_number r p m v)
row_keeps dim degree r p m v h hp hm hv = record {
  columns = h.columns;
  full = length-set r.numbers (m * length r.columns + p) v ∙ h.full;
  small = λ q. at_set (λ x. unsigned_abs x ≤ 2 ^ 59) r.numbers (m * length r.columns + p) q v (pos 0)
      (within_row m degree (length r.columns) p (length r.numbers) hp hm h.full) hv (h.small q);
}

pub system_keeps : (s : StoredSystem) (row col m : ℕ) (v : ℤ) → IsSystem s → HasColumn s row col
    → m ≤ s.degree
    → unsigned_abs v ≤ 2 ^ 59 → IsSystem (with_number s row col m v)
system_keeps s row col m v h place hm hv = record {
  dim_small = rw len h.dim_small;
  degree_small = h.degree_small;
  each = λ i b. rw len (at_set (IsRow (dim_of s) s.degree) s.rows row i _ no_row place.row_in
      (row_keeps (dim_of s) s.degree (row_of s row) _ m v (h.each row place.row_in) place.has_column hm hv)
      (h.each i (rw len at b)));
}
  where
    len : length (with_number s row col m v).rows ≡ length s.rows
    len = length-set s.rows row (row_with_number (row_of s row) (place_of (row_of s row).columns col) m v)

-- the numbers of a row with one number changed
row_numbers : (r : StoredRow) (col m col2 m2 : ℕ) (v : ℤ) → place_of r.columns col < length r.columns
    → m * length r.columns + place_of r.columns col < length r.numbers
    → number_in_row (row_with_number r (place_of r.columns col) m v) col2 m2
    ≡ cond (nat_eq col2 col && nat_eq m2 m) v (number_in_row r col2 m2)
row_numbers r col m col2 m2 v h b = elim (equal_or_not col2 col) [
  | inl e ↦ elim (equal_or_not m2 m) [
    | inl f ↦ rw (
      e,
      f,
      same_is col,
      same_is m,
      other_is_not (place_of r.columns col) (length r.columns)
          (λ q. absurd (omega arith)),
    )
        (rw get_or-set_same refl)
    | inr n ↦ rw (other_is_not m2 m n) (unchanged (nat_eq col2 col)
        (λ i p. n (sym (one_power m m2 _ _ (length r.columns) h p i).0)))
  ]
  | inr n ↦ rw (other_is_not col2 col n)
      (kept (λ i p. n (sym (one_column r.columns col col2 h
      (one_power m m2 _ _ (length r.columns) h p i).1))))
]
  where
    found : (p l : ℕ) → p ≤ l → (p < l) ⊎ (p ≡ l)
    found p l b = grind arith

    kept : (m * length r.columns + place_of r.columns col ≡ m2 * length r.columns + place_of r.columns col2
        → place_of r.columns col2 < length r.columns → ⊥)
        → number_in_row (row_with_number r (place_of r.columns col) m v) col2 m2 ≡ number_in_row r col2 m2
    kept n = elim (found (place_of r.columns col2) (length r.columns) (place_of-at_most r.columns col2)) [
      | inl b ↦ (let other : m2 * length r.columns + place_of r.columns col2 ≡ m * length r.columns + place_of
          r.columns col → ⊥
          = λ e. n (sym e) b in rw get_or-set_other refl)
      | inr e ↦ rw (e, same_is (length r.columns)) refl
    ]

    unchanged : (t : Bool) → (m * length r.columns + place_of r.columns col ≡ m2 * length r.columns + place_of
        r.columns col2
        → place_of r.columns col2 < length r.columns → ⊥)
        → number_in_row (row_with_number r (place_of r.columns col) m v) col2 m2
        ≡ cond (t && false) v (number_in_row r col2 m2)
    unchanged true n = kept n
    unchanged false n = kept n

sets_only : (s : StoredSystem) (row col m : ℕ) (v : ℤ) → IsSystem s → HasColumn s row col → m ≤ s.degree
    → SetsOnly s (with_number s row col m v) row col m v
sets_only s row col m v h place hm = record {
  places = record {
    dim = length-set s.rows row _;
    degree = refl;
    columns = λ i. columns_at i (equal_or_not row i);
  };
  numbers = λ row2 col2 m2. numbers_at row2 col2 m2 (equal_or_not row row2);
}
  where
    inside : row < length s.rows
    inside = place.row_in

    columns_at : (i : ℕ) → (row ≡ i) ⊎ (row ≡ i → ⊥)
        → (row_of (with_number s row col m v) i).columns ≡ (row_of s i).columns
    columns_at i (inl e) = let b = inside in rw (← e) (rw get_or-set_same refl)
    columns_at i (inr n) = let other : i ≡ row → ⊥ = λ e. n (sym e) in rw get_or-set_other refl

    numbers_at : (row2 col2 m2 : ℕ) → (row ≡ row2) ⊎ (row ≡ row2 → ⊥)
        → stored_number (with_number s row col m v) row2 col2 m2
        ≡ cond (nat_eq row2 row && (nat_eq col2 col && nat_eq m2 m)) v (stored_number s row2 col2 m2)
    numbers_at row2 col2 m2 (inl e) = let b = inside in rw (← e, same_is row) (rw get_or-set_same
        (row_numbers (row_of s row) col m col2 m2 v place.has_column
        (within_row m s.degree _ _ _ place.has_column hm (h.each row place.row_in).full)))
    numbers_at row2 col2 m2 (inr n) = let other : row2 ≡ row → ⊥ = λ e. n (sym e) in
        rw (other_is_not row2 row other) (rw get_or-set_other refl)

pub is_set : (s t : StoredSystem) (row col m : ℕ) (v v' : ℤ) → IsSystem s → HasColumn s row col → m ≤ s.degree
    → v' ≡ v
    → t ≡ with_number s row col m v' → SetsOnly s t row col m v
is_set s t row col m v v' h place hm ev et = rw (et, ev) (sets_only s row col m v h place hm)

-- the row that the program reads is the row of the stored system
row_is : (rows : List Row) (i : ℕ) (r : Row) → i < length rows → r ≡ get_or rows i r
    → get_or (map stored_row rows) i no_row ≡ stored_row r
row_is rows i r h e = get_or-map stored_row rows i r no_row h ∙ ap stored_row (sym e)

pair : (cs cs' : List ℕ) (ns ns' : List ℤ) → cs ≡ cs' → ns ≡ ns'
    → ◌≡◌ {A = StoredRow} (record { columns = cs; numbers = ns }) (record { columns = cs'; numbers = ns' })
pair cs cs' ns ns' e f = rw (e, f) refl

-- what the program writes is the system with the number changed
pub written : (rows : List Row) (degree i col m p : ℕ) (v v' : ℤ) (s : StoredSystem) (r r' : Row)
    → of_rows degree (map stored_row rows) ≡ s → HasColumn s i col → r ≡ get_or rows i r
    → p ≡ place_of r.columns.items col
    → v' ≡ v → r'.columns.items ≡ r.columns.items
    → r'.numbers.items ≡ set r.numbers.items (m * length r.columns.items + p) v'
    → of_rows degree (map stored_row (set rows i r')) ≡ with_number s i col m v
written rows degree i col m p v v' s r r' es place e ep ev ec en =
    ap (of_rows degree) (map-set stored_row rows i r'
    ∙ ap (set (map stored_row rows) i) (new ∙ ap (λ q. row_with_number q (place_of q.columns col) m v)
    (sym (row_is rows i r inside e))))
    ∙ ap (λ (t : StoredSystem). with_number t i col m v) es
  where
    inside : i < length rows
    inside =
        let l : length (map stored_row rows) ≡ length rows = simp length-map refl in
        omega (arith, l, ap (λ (t : StoredSystem). length t.rows) es, place.row_in)

    new : stored_row r' ≡ row_with_number (stored_row r) (place_of r.columns.items col) m v
    new = pair _ _ _ _ ec (en ∙ rw (ep, ev) refl)

pub written_keeps : (degree : ℕ) (rows rows' : List StoredRow) (s : StoredSystem) (row col m : ℕ) (v : ℤ)
    → of_rows degree rows ≡ s → of_rows degree rows' ≡ with_number s row col m v
    → IsSystem (of_rows degree rows)
    → HasColumn s row col → m ≤ s.degree → unsigned_abs v ≤ 2 ^ 59 → IsSystem (of_rows degree rows')
written_keeps degree rows rows' s row col m v es e h place hm hv =
    rw e (system_keeps s row col m v (rw es at h) place hm hv)
