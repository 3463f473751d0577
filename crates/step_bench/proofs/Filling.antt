-- Numbers set one after another: the places stay, and the numbers stay small.
use Rattle.std.proofs.Common.{◌≡◌, ℕ, suc, zero, ◌<◌, ◌≤◌, ◌^◌, length, get_or, List, [], ◌∷◌, refl, arith}
use Rattle.std.proofs.Common.{Bool, true, false}
use Rattle.std.specs.Prelude.{ℤ, unsigned_abs, cond, nat_eq}
use Rattle.linear_system.specs.Setting.{HasPlace, HaveSamePlaces, SetsOnly, is_same_place}
use Rattle.linear_system.specs.StoredSystem.{StoredSystem, IsSystem, dim_of, row_of, place_of, stored_number}
use Rattle.linear_system.proofs.Made.{same_places_then}
use Rattle.step_bench.specs.Small.{HasSmallNumbers, IsSmallSystem}

pub same_places : (s : StoredSystem) → HaveSamePlaces s s
same_places s = record { dim = refl; degree = refl; columns = λ row. refl }

pub small_kept : (old new : StoredSystem) (row col m : ℕ) (v : ℤ) → SetsOnly old new row col m v → unsigned_abs
    v ≤ 2 ^ 40
    → HasSmallNumbers old → HasSmallNumbers new
small_kept old new row col m v set small h row2 col2 m2 =
    rw (set.numbers row2 col2 m2) (either (is_same_place row col m row2 col2 m2) v
    (stored_number old row2 col2 m2) small (h row2 col2 m2))
  where
    either : (b : Bool) (x y : ℤ) → unsigned_abs x ≤ 2 ^ 40 → unsigned_abs y ≤ 2 ^ 40 → unsigned_abs
        (cond b x y) ≤ 2 ^ 40
    either true x y h k = h
    either false x y h k = k

place_found : (columns : List ℕ) (place : ℕ) → place < length columns → place_of columns
    (get_or columns place 0) < length columns
place_found [] place b = absurd (omega arith)
place_found (c ∷ columns) zero b = rw (same c) (omega arith)
  where
    same : (c : ℕ) → nat_eq c c ≡ true
    same c = grind arith
place_found (c ∷ columns) (suc place) b = found (nat_eq c (get_or columns place 0))
    (place_found columns place (omega arith))
  where
    found : (t : Bool) → place_of columns (get_or columns place 0) < length columns
        → cond t 0 (suc (place_of columns (get_or columns place 0))) < suc (length columns)
    found true h = omega arith
    found false h = omega arith

-- a column of a row that is not the free one is a place of the matrix
pub column_is_place : (s : StoredSystem) (row place col : ℕ) → IsSystem s → row < dim_of s → place < length
    (row_of s row).columns
    → col ≡ get_or (row_of s row).columns place 0 → (col ≡ dim_of s → ⊥) → HasPlace s row col
column_is_place s row place col sys b p e n = record {
  row_in = b;
  col_in = let r = (sys.each row b).columns.in_range place p in omega (arith, e, r, n);
  has_column = rw e (place_found (row_of s row).columns place p);
}

pub small_system : (old new : StoredSystem) → HaveSamePlaces old new → HasSmallNumbers new → dim_of old ≤ 12 →
    old.degree ≤ 5
    → IsSmallSystem new
small_system old new h small few low = record { few = rw h.dim few; low = rw h.degree low; small = small }

-- what every number that is set keeps
pub record KeepsSmall (old new : StoredSystem) : Type 0 where
  pub places : HaveSamePlaces old new
  pub small : HasSmallNumbers new

pub keeps_first : (s : StoredSystem) → HasSmallNumbers s → KeepsSmall s s
keeps_first s h = record { places = same_places s; small = h }

pub keeps_then : (a b c : StoredSystem) → KeepsSmall a b → HaveSamePlaces b c → HasSmallNumbers c → KeepsSmall a c
keeps_then a b c h p k = record { places = same_places_then a b c h.places p; small = k }
