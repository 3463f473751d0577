-- Numbers of a list that are set one after another.
use Rattle.std.specs.Prelude.{◌≡◌, ◌≢◌, ℕ, ◌+◌, ◌<◌, ◌≤◌, ℤ, pos, unsigned_abs, List, length, slice_index_or}
use Rattle.std.proofs.Common.{arith, ◌∙◌, inl, inr, set, get_or-set_other, get_or-set_same}
use Rattle.std.proofs.lemmas.Bool.Decides.{eqb_tells}

pub set_below : (numbers : List ℤ) (k : ℕ) (v : ℤ) (f : ℕ → ℤ) → k < length numbers
    → ((m : ℕ) → m < k → slice_index_or numbers m (pos 0) ≡ f m) → v ≡ f k
    → (m : ℕ) → m < k + 1 → slice_index_or (set numbers k v) m (pos 0) ≡ f m
set_below numbers k v f inside below is m few = elim (eqb_tells m k) [
  | inl same ↦ rw same.1 (get_or-set_same numbers k v (pos 0) inside ∙ is)
  | inr other ↦ get_or-set_other numbers k m v (pos 0) other.1 ∙ below m (apart m k few other.1)
]
  where
    apart : (m k : ℕ) → m < k + 1 → m ≢ k → m < k
    apart m k few differ = grind (arith, few, differ)

pub set_small : (numbers : List ℤ) (k : ℕ) (v : ℤ) (most : ℕ) → k < length numbers
    → ((m : ℕ) → unsigned_abs (slice_index_or numbers m (pos 0)) ≤ most) → unsigned_abs v ≤ most
    → (m : ℕ) → unsigned_abs (slice_index_or (set numbers k v) m (pos 0)) ≤ most
set_small numbers k v most inside small is m = elim (eqb_tells m k) [
  | inl same ↦ rw (same.1, get_or-set_same numbers k v (pos 0) inside) is
  | inr other ↦ rw (get_or-set_other numbers k m v (pos 0) other.1) (small m)
]
