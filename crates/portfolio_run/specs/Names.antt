-- Different names in the order in which they are first seen. This product's own.
use Rattle.std.specs.Prelude.{ℕ, Bool, List, [], ◌∷◌, ◌++◌, bytes_eq, fold, if◌then◌else◌}
use Rattle.std.specs.List.{list_any, position_or_len}

-- a name is one of these
abbrev pub is_among : List (List ℕ) → List ℕ → Bool
is_among names name = list_any (bytes_eq name) names

-- the place of a name among these, or behind them
abbrev pub place_in : List (List ℕ) → List ℕ → ℕ
place_in names name = position_or_len (bytes_eq name) names

-- the names and one more, unless it is one of these
abbrev pub with_name : List (List ℕ) → List ℕ → List (List ℕ)
with_name names name = if is_among names name then names else names ++ name ∷ []

-- the different names among these, in the order in which they are first seen
abbrev pub first_seen : List (List ℕ) → List (List ℕ)
first_seen names = fold with_name [] names
