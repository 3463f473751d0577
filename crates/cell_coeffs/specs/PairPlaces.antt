-- The links of a system for both moments.
use Rattle.std.specs.Prelude.{◌≡◌, ℕ, ◌+◌, ◌<◌, ◌≤◌, IsTrue, false, List, length, Some}
use Rattle.model_specs.specs.Product.{Product}
use Rattle.model_specs.specs.Cells.{transition_between}
use Rattle.linear_system.specs.Setting.{is_link}

-- nothing leads from a second moment to a first one
abbrev pub IsOneWay : ℕ → List (ℕ × ℕ) → Type 0
IsOneWay states links = (row col : ℕ) → row < states → states ≤ col → is_link links row col ≡ false

-- what was linked still is, and nothing leads back
pub record KeepsLinks (states : ℕ) (old new : List (ℕ × ℕ)) : Type 0 where
  pub kept : (row col : ℕ) → IsTrue (is_link old row col) → IsTrue (is_link new row col)
  pub one_way : IsOneWay states old → IsOneWay states new

-- the links of a transition: between first moments, between second ones, and from the first to the second
pub record HasPairLinks (states i j : ℕ) (links : List (ℕ × ℕ)) : Type 0 where
  pub first : IsTrue (is_link links i j)
  pub second : IsTrue (is_link links (states + i) (states + j))
  pub coupling : IsTrue (is_link links (states + i) j)

-- a first moment is linked to the second one of each of the first states
abbrev pub HasOwnLinks : (states count : ℕ) → List (ℕ × ℕ) → Type 0
HasOwnLinks states count links = (i : ℕ) → i < count → IsTrue (is_link links (states + i) i)

-- all links of a product
pub record HasMomentLinks (product : Product) (links : List (ℕ × ℕ)) : Type 0 where
  pub transitions : (i j e : ℕ) → transition_between product i j ≡ Some e
      → HasPairLinks (length product.states) i j links
  pub own : HasOwnLinks (length product.states) (length product.states) links
  pub one_way : IsOneWay (length product.states) links
