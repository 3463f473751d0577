-- Rows of zeros, one after another.
use Rattle.std.proofs.Common.{◌≡◌, ℕ, suc, zero, ◌+◌, ◌*◌, ◌<◌, ◌≤◌, ◌^◌, length, get_or, map, List, [], ◌∷◌}
use Rattle.std.proofs.Common.{◌++◌}
use Rattle.std.proofs.Common.{refl, ap, ◌∙◌, arith, ℤ, pos, Bool, true, false}
use Rattle.std.proofs.Common.{◌⊎◌, inl, inr}
use Rattle.std.proofs.lemmas.List.{get_or_past}
use Rattle.std.specs.Prelude.{unsigned_abs, nat_eq, cond, replicate, ◌↔◌, IsTrue}
use Rattle.std.proofs.Math.ListN.{length-append, length-map, length-replicate}
use Rattle.linear_system.specs.StoredSystem.{StoredRow, StoredSystem, IsSystem, IsRow, AreColumns, no_row}
use Rattle.linear_system.specs.StoredSystem.{place_of, number_in_row}
use Rattle.linear_system.specs.Setting.{IsMadeFor, HasNoNumbers, may_hold}
use Rattle.linear_system.specs.Layout.{stored_row}
use Rattle.linear_system.specs.declared.row.Row.{Row}
use Rattle.linear_system.proofs.Places.{zero_at}

small_zeros : (n k : ℕ) → unsigned_abs (get_or (replicate n (pos 0)) k (pos 0)) ≤ 2 ^ 59
small_zeros n k = rw (zero_at n k) (omega arith)

-- a row of zeros with the given columns
pub zero_row : (cs : List ℕ) (ns : List ℤ) (dim degree n : ℕ) → AreColumns dim cs → ns ≡ replicate n (pos 0)
    → n ≡ (degree + 1) * length cs → IsRow dim degree (record { columns = cs; numbers = ns })
zero_row cs ns dim degree n h e k = record {
  columns = h;
  full = ap length e ∙ length-replicate n (pos 0) ∙ k;
  small = λ p. rw e (small_zeros n p);
}

pub no_number : (r : StoredRow) (n : ℕ) → r.numbers ≡ replicate n (pos 0) → (col m : ℕ)
    → number_in_row r col m ≡ pos 0
no_number r n e col m =
    cases (nat_eq (place_of r.columns col) (length r.columns))
    (rw e (zero_at n (m * length r.columns + place_of r.columns col)))
  where
    cases : (b : Bool) {x : ℤ} → x ≡ pos 0 → cond b (pos 0) x ≡ pos 0
    cases true g = refl
    cases false g = g

-- the first n rows of a system that is being made
pub record AreRows (links : List (ℕ × ℕ)) (dim degree n : ℕ) (rows : List Row) : Type 0 where
  pub count : length rows ≡ n
  pub each : (i : ℕ) → i < n → IsRow dim degree (get_or (map stored_row rows) i no_row)
  pub zero : (i : ℕ) → i < n → (k : ℕ) × (get_or (map stored_row rows) i no_row).numbers ≡ replicate k (pos 0)
  pub places : (i col : ℕ) → i < n → col < dim
      → (place_of (get_or (map stored_row rows) i no_row).columns col < length
      (get_or (map stored_row rows) i no_row).columns)
      ↔ IsTrue (may_hold links i col)

pub no_rows : (links : List (ℕ × ℕ)) (dim degree : ℕ) → AreRows links dim degree 0 []
no_rows links dim degree = record {
  count = refl;
  each = λ i b. absurd (omega arith);
  zero = λ i b. absurd (omega arith);
  places = λ i col b d. absurd (omega arith);
}

-- what holds of each row and of the next one holds of all after the push
at_push : (P : ℕ → StoredRow → Type 0) (rows : List Row) (r : Row) (i : ℕ)
    → ((i : ℕ) → i < length rows → P i (get_or (map stored_row rows) i no_row))
    → P (length rows) (stored_row r)
    → i < length rows + 1 → P i (get_or (map stored_row (rows ++ r ∷ [])) i no_row)
at_push P [] r zero g new b = new
at_push P [] r (suc i) g new b = absurd (omega arith)
at_push P (x ∷ rows) r zero g new b = g 0 (omega arith)
at_push P (x ∷ rows) r (suc i) g new b = at_push (λ j. P (suc j)) rows r i (λ j d. g (suc j) (omega arith))
    new (omega arith)

pub push_row : (links : List (ℕ × ℕ)) (dim degree n : ℕ) (rows rows' : List Row) (r : Row) (k : ℕ)
    → AreRows links dim degree n rows
    → rows' ≡ rows ++ r ∷ [] → IsRow dim degree (stored_row r) → r.numbers.items ≡ replicate k (pos 0)
    → ((col : ℕ) → col < dim → (place_of r.columns.items col < length r.columns.items) ↔ IsTrue
    (may_hold links n col))
    → AreRows links dim degree (n + 1) rows'
push_row links dim degree n rows rows' r k h e row zeros places = rw e (rw (← h.count) (record {
  count = length-append rows (r ∷ []);
  each = λ i b. at_push (λ j x. IsRow dim degree x) rows r i (λ j d. h.each j (rw h.count at d)) row b;
  zero = λ i b. at_push (λ j x. (k : ℕ) × x.numbers ≡ replicate k (pos 0)) rows r i
      (λ j d. h.zero j (rw h.count at d)) (k, zeros) b;
  places = λ i col b c. at_push (λ j x. (place_of x.columns col < length x.columns) ↔ IsTrue
      (may_hold links j col)) rows r i
      (λ j d. h.places j col (rw h.count at d) c) (rw h.count (places col c)) b;
}))

abbrev pub of_rows : ℕ → List StoredRow → StoredSystem
of_rows degree rows = record { degree = degree; rows = rows }

long : (rows : List Row) {n : ℕ} → length rows ≡ n → length (map stored_row rows) ≡ n
long rows e = simp length-map e

pub system_of : (links : List (ℕ × ℕ)) (dim degree : ℕ) (rows : List Row) → AreRows links dim degree dim rows
    → dim ≤ 24 → degree ≤ 11
    → IsSystem (of_rows degree (map stored_row rows))
system_of links dim degree rows h small few = let l = long rows h.count in record {
  dim_small = rw l small;
  degree_small = few;
  each = λ i b. rw l (h.each i (rw l at b));
}

pub made_for : (links : List (ℕ × ℕ)) (dim degree : ℕ) (rows : List Row) → AreRows links dim degree dim rows
    → IsMadeFor dim degree links (of_rows degree (map stored_row rows))
made_for links dim degree rows h = let l = long rows h.count in record {
  dim_is = l;
  degree_is = refl;
  places = λ row col b d. (
    λ p. (h.places row col b d).0 p.has_column,
    λ p. record { row_in = rw l b; col_in = rw l d; has_column = (h.places row col b d).1 p },
  );
}

pub zero_system : (links : List (ℕ × ℕ)) (dim degree : ℕ) (rows : List Row)
    → AreRows links dim degree dim rows
    → HasNoNumbers (of_rows degree (map stored_row rows))
zero_system links dim degree rows h row col m = elim (inside row dim) [
  | inl b ↦ no_number (get_or (map stored_row rows) row no_row) _ (h.zero row b).1 col m
  | inr b ↦ (let l = long rows h.count in
      let e : get_or (map stored_row rows) row no_row ≡ no_row =
      get_or_past (map stored_row rows) row no_row (omega (arith, l)) in
      ap (λ r. number_in_row r col m) e)
]
  where
    inside : (i d : ℕ) → (i < d) ⊎ (d ≤ i)
    inside i d = grind arith
