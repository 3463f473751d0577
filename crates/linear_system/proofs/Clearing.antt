-- A stored system with all numbers set to 0.
use Rattle.std.proofs.Common.{◌≡◌, ℕ, ◌+◌, ◌<◌, ◌≤◌, ◌⊎◌, inl, inr, length, get_or, set, map, List}
use Rattle.std.proofs.Common.{ℤ, pos, refl, ap, sym, ◌∙◌, arith, get_or-set_other, get_or-set_same}
use Rattle.std.specs.Prelude.{replicate}
use Rattle.std.proofs.Math.ListN.{length-map}
use Rattle.std.proofs.lemmas.List.{map-set, get_or-map, get_or_past}
use Rattle.linear_system.specs.StoredSystem.{StoredRow, StoredSystem, IsSystem, IsRow, dim_of, row_of, no_row}
use Rattle.linear_system.specs.Setting.{HaveSamePlaces, HasNoNumbers}
use Rattle.linear_system.specs.Changes.{cleared_row}
use Rattle.linear_system.specs.Layout.{stored_row, row_at}
use Rattle.linear_system.specs.declared.row.Row.{Row}
use Rattle.linear_system.proofs.Rows.{zero_row, no_number, of_rows}

-- the rows below i are cleared, and the others as they were
pub record AreCleared (rows old : List Row) (i : ℕ) : Type 0 where
  pub done : (j : ℕ) → j < i → row_at rows j ≡ cleared_row (row_at old j)
  pub left : (j : ℕ) → i ≤ j → row_at rows j ≡ row_at old j

pub none_cleared : (rows : List Row) → AreCleared rows rows 0
none_cleared rows = record { done = λ j b. absurd (omega arith); left = λ j b. refl }

pub one_cleared : (rows old : List Row) (i : ℕ) (d r' : Row) → AreCleared rows old i → i < length rows
    → r'.columns.items ≡ (get_or rows i d).columns.items
    → r'.numbers.items ≡ replicate (length (get_or rows i d).numbers.items) (pos 0)
    → AreCleared (set rows i r') old (i + 1)
one_cleared rows old i d r' h b ec en = record {
  done = λ j k. rw (map-set stored_row rows i r') (at_row j (equal_or_not i j) k);
  left = λ j k. let other : j ≡ i → ⊥ = omega arith in rw (map-set stored_row rows i r')
      (rw get_or-set_other (h.left j (omega arith)));
}
  where
    equal_or_not : (i j : ℕ) → (i ≡ j) ⊎ (j ≡ i → ⊥)
    equal_or_not i j = grind arith

    inside : i < length (map stored_row rows)
    inside = let l : length (map stored_row rows) ≡ length rows = simp length-map refl in omega (arith, l)

    new : stored_row r' ≡ cleared_row (row_at old i)
    new = pair _ _ _ _ ec en ∙ ap cleared_row (sym (get_or-map stored_row rows i d no_row b) ∙ h.left i
        (omega arith))
      where
        pair : (cs cs' : List ℕ) (ns ns' : List ℤ) → cs ≡ cs' → ns ≡ ns'
            → ◌≡◌ {A = StoredRow} (record { columns = cs; numbers = ns })
            (record { columns = cs'; numbers = ns' })
        pair cs cs' ns ns' e f = rw (e, f) refl

    at_row : (j : ℕ) → (i ≡ j) ⊎ (j ≡ i → ⊥) → j < i + 1
        → get_or (set (map stored_row rows) i (stored_row r')) j no_row ≡ cleared_row (row_at old j)
    at_row j (inl q) k = let l = inside in rw (← q) (rw get_or-set_same new)
    at_row j (inr other) k = rw get_or-set_other (h.done j (omega arith))

pub all_cleared : (rows old : List Row) (n : ℕ) → AreCleared rows old n → length rows ≤ n
    → length rows ≡ length old
    → (i : ℕ) → row_at rows i ≡ cleared_row (row_at old i)
all_cleared rows old n h b e i = elim (inside i n) [
  | inl k ↦ h.done i k
  | inr k ↦ past rows i (omega arith) ∙ sym (ap cleared_row (past old i (omega arith)))
]
  where
    inside : (i n : ℕ) → (i < n) ⊎ (n ≤ i)
    inside i n = grind arith

    past : (l : List Row) (i : ℕ) → length l ≤ i → row_at l i ≡ no_row
    past l i h = let e : length (map stored_row l) ≡ length l = simp length-map refl in
        get_or_past (map stored_row l) i no_row (omega (arith, e))

-- the second system is the first with all rows cleared
pub record IsCleared (s t : StoredSystem) : Type 0 where
  pub dim : dim_of t ≡ dim_of s
  pub degree : t.degree ≡ s.degree
  pub rows : (i : ℕ) → row_of t i ≡ cleared_row (row_of s i)

pub cleared_keeps : (s t : StoredSystem) → IsSystem s → IsCleared s t → IsSystem t
cleared_keeps s t h c = record {
  dim_small = rw c.dim h.dim_small;
  degree_small = rw c.degree h.degree_small;
  each = λ i b. rw (c.dim, c.degree, c.rows i) (row_keeps (row_of s i) (h.each i (rw c.dim at b)));
}
  where
    row_keeps : (r : StoredRow) → IsRow (dim_of s) s.degree r → IsRow (dim_of s) s.degree (cleared_row r)
    row_keeps r h = zero_row r.columns _ (dim_of s) s.degree (length r.numbers) h.columns refl h.full

pub cleared_places : (s t : StoredSystem) → IsCleared s t → HaveSamePlaces s t
cleared_places s t c = record {
  dim = c.dim;
  degree = c.degree;
  columns =
      λ i. ap (λ (r : StoredRow). r.columns) (c.rows i);
}

pub cleared_numbers : (s t : StoredSystem) → IsCleared s t → HasNoNumbers t
cleared_numbers s t c row col m = no_number (row_of t row) (length (row_of s row).numbers)
    (ap (λ (r : StoredRow). r.numbers) (c.rows row)) col m

pub is_cleared : (degree : ℕ) (old new : List Row) (s : StoredSystem)
    → of_rows degree (map stored_row old) ≡ s → length new ≡ length old
    → ((i : ℕ) → row_at new i ≡ cleared_row (row_at old i))
    → IsCleared s (of_rows degree (map stored_row new))
is_cleared degree old new s e l h = rw (← e) (record {
  dim = let l1 : length (map stored_row new) ≡ length new = simp length-map refl in
      let l2 : length (map stored_row old) ≡ length old = simp length-map refl in l1 ∙ l ∙ sym l2;
  degree = refl;
  rows = h;
})
