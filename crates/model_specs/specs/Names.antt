-- The names of products and states. This product's own.
use Rattle.std.specs.Prelude.{ℕ, ◌<◌, ◌≤◌, Bool, ◌||◌, ◌==◌, List, length}
use Rattle.std.specs.Char.{is_ascii_alphanumeric}
use Rattle.std.specs.List.{AllPass}

-- a letter, a digit, a point, an underscore or a dash, all of ASCII
abbrev pub is_name_byte : ℕ → Bool
is_name_byte b = is_ascii_alphanumeric b || (b == 46) || (b == 95) || (b == 45)

-- a name of 1 to `most` bytes, each of which a name may have
pub record IsGoodName (most : ℕ) (name : List ℕ) : Type 0 where
  pub not_empty : 0 < length name
  pub short : length name ≤ most
  pub bytes : AllPass is_name_byte name
