-- Numbers of one row and column, written one after another.
use Rattle.std.specs.Prelude.{◌≡◌, ◌≢◌, ℕ, ◌+◌, ◌<◌, ◌&&◌, ℤ, Bool, true, false, cond, nat_eq}
use Rattle.std.proofs.Common.{refl, ap, sym, ◌∙◌, arith, inl, inr}
use Rattle.std.proofs.lemmas.Bool.Decides.{eqb_tells}
use Rattle.linear_system.specs.StoredSystem.{StoredSystem, stored_number}
use Rattle.linear_system.specs.Setting.{SetsOnly, is_same_place}
use Rattle.linear_system.proofs.Made.{same_places_then}
use Rattle.cell_coeffs.specs.Writing.{WritesNumbers}
use Rattle.whole_laws.proofs.Tests.{same_is}

differ_is : (n m : ℕ) → n ≢ m → nat_eq n m ≡ false
differ_is n m differ = elim (eqb_tells n m) [
  | inl same ↦ absurd (differ same.1)
  | inr other ↦ other.0
]

and_false : (a : Bool) → (a && false) ≡ false
and_false true = refl
and_false false = refl

same_place : (row col m : ℕ) → is_same_place row col m row col m ≡ true
same_place row col m = rw (same_is row, same_is col, same_is m) refl

other_power : (row col m k : ℕ) → k ≢ m → is_same_place row col m row col k ≡ false
other_power row col m k differ = rw (same_is row, same_is col, differ_is k m differ) refl

other_column : (row col m c k : ℕ) → c ≢ col → is_same_place row col m row c k ≡ false
other_column row col m c k differ = rw (same_is row, differ_is c col differ) refl

other_row : (row col m r c k : ℕ) → r ≢ row → is_same_place row col m r c k ≡ false
other_row row col m r c k differ = rw (differ_is r row differ) refl

module _ (old new : StoredSystem) (row col m : ℕ) (v : ℤ) (set : SetsOnly old new row col m v) where
  pub set_here : stored_number new row col m ≡ v
  set_here = set.numbers row col m ∙ ap (λ b. cond b v (stored_number old row col m)) (same_place row col m)

  pub set_power : (k : ℕ) → k ≢ m → stored_number new row col k ≡ stored_number old row col k
  set_power k differ = set.numbers row col k
      ∙ ap (λ b. cond b v (stored_number old row col k)) (other_power row col m k differ)

  pub set_column : (c k : ℕ) → c ≢ col → stored_number new row c k ≡ stored_number old row c k
  set_column c k differ = set.numbers row c k
      ∙ ap (λ b. cond b v (stored_number old row c k)) (other_column row col m c k differ)

  pub set_row : (r c k : ℕ) → r ≢ row → stored_number new r c k ≡ stored_number old r c k
  set_row r c k differ = set.numbers r c k
      ∙ ap (λ b. cond b v (stored_number old r c k)) (other_row row col m r c k differ)

apart : (k m : ℕ) → k < m + 1 → k ≢ m → k < m
apart k m below differ = grind (arith, below, differ)

-- nothing is written yet
pub writes_none : (s : StoredSystem) (row col : ℕ) (numbers : ℕ → ℤ) → WritesNumbers s s row col 0 numbers
writes_none s row col numbers = record {
  places = record { dim = refl; degree = refl; columns = λ row. refl };
  here = λ m below. absurd (omega (arith, below));
  higher = λ m from. refl;
  columns = λ c m differ. refl;
  rows = λ r c m differ. refl;
}

-- one number more
pub writes_more : (a b c : StoredSystem) (row col m : ℕ) (numbers : ℕ → ℤ) (v : ℤ) → WritesNumbers a b row col m numbers
    → v ≡ numbers m → SetsOnly b c row col m v → WritesNumbers a c row col (m + 1) numbers
writes_more a b c row col m numbers v written is set = record {
  places = same_places_then a b c written.places set.places;
  here = here;
  higher = λ k from. set_power b c row col m v set k (λ e. absurd (omega (arith, from, e)))
      ∙ written.higher k (omega (arith, from));
  columns = λ d k differ. set_column b c row col m v set d k differ ∙ written.columns d k differ;
  rows = λ r d k differ. set_row b c row col m v set r d k differ ∙ written.rows r d k differ;
}
  where
    here : (k : ℕ) → k < m + 1 → stored_number c row col k ≡ numbers k
    here k below = elim (eqb_tells k m) [
      | inl same ↦ ap (stored_number c row col) same.1 ∙ set_here b c row col m v set ∙ is ∙ ap numbers (sym same.1)
      | inr other ↦ set_power b c row col m v set k other.1 ∙ written.here k (apart k m below other.1)
    ]
