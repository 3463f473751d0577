-- Which places a stored system has, and what it is to set one number of it.
use Rattle.std.specs.Prelude.{◌≡◌, ◌↔◌, IsTrue, ℕ, ◌<◌, ◌&&◌, ◌||◌, ℤ, pos, List, length, cond, nat_eq, Bool}
use Rattle.std.specs.List.{list_any}
use Rattle.linear_system.specs.StoredSystem.{StoredSystem, dim_of, row_of, place_of, stored_number}

-- the matrix may hold numbers at the row and the column
pub record HasPlace (s : StoredSystem) (row col : ℕ) : Type 0 where
  pub row_in : row < dim_of s
  pub col_in : col < dim_of s
  pub has_column : place_of (row_of s row).columns col < length (row_of s row).columns

-- the pair of a row and a column is one of the links
abbrev pub is_link : List (ℕ × ℕ) → ℕ → ℕ → Bool
is_link links row col = list_any (λ link. nat_eq link.0 row && nat_eq link.1 col) links

-- the diagonal and the links
abbrev pub may_hold : List (ℕ × ℕ) → ℕ → ℕ → Bool
may_hold links row col = nat_eq col row || is_link links row col

-- a system of a dimension and a degree, with places on the diagonal and at the links, and nowhere else
pub record IsMadeFor (dim degree : ℕ) (links : List (ℕ × ℕ)) (s : StoredSystem) : Type 0 where
  pub dim_is : dim_of s ≡ dim
  pub degree_is : s.degree ≡ degree
  pub places : (row col : ℕ) → row < dim → col < dim → HasPlace s row col ↔ IsTrue (may_hold links row col)

-- two systems have the same dimension, degree and places
pub record HaveSamePlaces (old new : StoredSystem) : Type 0 where
  pub dim : dim_of new ≡ dim_of old
  pub degree : new.degree ≡ old.degree
  pub columns : (row : ℕ) → (row_of new row).columns ≡ (row_of old row).columns

-- no number is stored but 0
abbrev pub HasNoNumbers : StoredSystem → Type 0
HasNoNumbers s = (row col m : ℕ) → stored_number s row col m ≡ pos 0

-- the same row, column and power
abbrev pub is_same_place : ℕ → ℕ → ℕ → ℕ → ℕ → ℕ → Bool
is_same_place row col m row2 col2 m2 = nat_eq row2 row && (nat_eq col2 col && nat_eq m2 m)

-- the new system has v at the row, the column and the power, and else the numbers and places of the old one
pub record SetsOnly (old new : StoredSystem) (row col m : ℕ) (v : ℤ) : Type 0 where
  pub places : HaveSamePlaces old new
  pub numbers : (row2 col2 m2 : ℕ) → stored_number new row2 col2 m2
      ≡ cond (is_same_place row col m row2 col2 m2) v (stored_number old row2 col2 m2)
