-- The lines under a file that is no TOML text.
use Rattle.std.specs.Prelude.{◌≡◌, ℕ, ◌+◌, ◌≤◌, ◌==◌, nat_lt, nat_le, ◌||◌, Bool, List, ◌++◌, length, take}
use Rattle.std.specs.Prelude.{count_by, fold, codes, decimal, if◌then◌else◌}
use Rattle.toml.specs.Data.{Members}
use Rattle.product_file.specs.Verdict.{ReadsAs, IsNotToml}
use Rattle.refusal_words.specs.RuleTexts.{rule_line, at_line}

-- the byte ends a line
abbrev pub is_line_end : ℕ → Bool
is_line_end b = b == 10

-- the byte begins a character
abbrev pub begins_character : ℕ → Bool
begins_character b = nat_lt b 128 || nat_le 192 b

-- the line behind some bytes, from 1
abbrev pub line_after : List ℕ → ℕ
line_after before = count_by is_line_end before + 1

-- the column behind one more byte
abbrev pub next_column : (column b : ℕ) → ℕ
next_column column b = if is_line_end b then 1 else if begins_character b then column + 1 else column

-- the column behind some bytes, in characters from 1
abbrev pub column_after : List ℕ → ℕ
column_after before = fold next_column 1 before

-- a place of a text
unfoldable pub text_place : (line column : ℕ) → List ℕ
text_place line column = codes "line " ++ decimal line ++ codes ", column " ++ decimal column

-- what a product file is
unfoldable pub toml_demand : List ℕ
toml_demand = codes "the file is TOML text"

-- the lines of a fault behind so many bytes of the file
abbrev pub toml_text : (file : List ℕ) → (offset : ℕ) → List ℕ
toml_text file offset =
    rule_line toml_demand ++ at_line (text_place (line_after (take offset file)) (column_after (take offset file)))

-- lines of a fault at some place within the file
abbrev pub IsFaultText : (file text : List ℕ) → Type 0
IsFaultText file text = (offset : ℕ) × (offset ≤ length file) × (text ≡ toml_text file offset)

-- the lines of a file: no TOML text has a place of its fault, and one that is TOML text has the first line alone
pub record IsTomlText (file text : List ℕ) : Type 0 where
  pub not_toml : IsNotToml file → IsFaultText file text
  pub toml : (tree : Members) → ReadsAs file tree → text ≡ rule_line toml_demand
