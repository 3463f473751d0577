-- The texts of values.
use Rattle.std.specs.Prelude.{ℕ, List, [], unwrap_or}
use Rattle.toml.specs.Data.{Data, as_str}

-- the bytes of a string, and none where the data is no string
abbrev pub text_in : Data → List ℕ
text_in d = unwrap_or (as_str d) []
