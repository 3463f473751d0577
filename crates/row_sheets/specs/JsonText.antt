-- A sheet as JSON: one object, which also tells the command, the files and the ledgers of the answer.
use Rattle.std.specs.Prelude.{ℕ, List, [], ◌∷◌, ◌++◌, Option, Some, None, codes, map, string_bytes}
use Rattle.std.specs.Str.Lossy.{utf8_lossy}
use Rattle.io_ports.specs.Given.{Evidence, evidence_of}
use Rattle.serde_json.specs.Data.{Data, array, number, object, string, unsigned, Members, member, no_members, put}
use Rattle.serde_json.specs.View.{items_of}
use Rattle.serde_json.specs.Written.{compact_text}
use Rattle.hex.specs.Hex.{encode_lower}
use Rattle.row_sheets.specs.declared.about.About.{About}
use Rattle.row_sheets.specs.Sheets.{Cell, whole, text, Contents}

-- a cell: a whole number, or a string
abbrev pub cell_tree : Cell → Data
cell_tree (whole n) = number (unsigned n)
cell_tree (text words) = string words

-- members, and then the cells of a row, each under the name of its column. Keys stand in alphabetical order
abbrev pub with_cells : Members → List (List ℕ) → List Cell → Members
with_cells members [] cells = members
with_cells members (name ∷ names) [] = members
with_cells members (name ∷ names) (cell ∷ cells) = with_cells (put name (cell_tree cell) members) names cells

-- a row as an object
abbrev pub row_tree : (head : List (List ℕ)) → List Cell → Data
row_tree head row = object (with_cells no_members head row)

-- some words
abbrev pub words_tree : List (List ℕ) → Data
words_tree words = array (items_of (map string words))

-- a file that was read: the number of its bytes, its name, and the SHA-256 of its bytes in hex. What is no UTF-8 in a
-- name shows as U+FFFD
abbrev pub file_tree : Evidence → Data
file_tree file =
    object (member (codes "bytes") (number (unsigned file.bytes))
    (member (codes "name") (string (utf8_lossy file.name))
    (member (codes "sha256") (string (encode_lower file.digest)) no_members)))

-- members and a number, where there is one
abbrev pub with_number : (name : List ℕ) → Option ℕ → Members → Members
with_number name None members = members
with_number name (Some n) members = put name (number (unsigned n)) members

-- what is told of every answer: the words, the files, the rows, and the program with its version
abbrev pub told_always : About → Contents → Members
told_always about sheet =
    member (codes "command") (words_tree (map string_bytes about.words.now))
    (member (codes "files") (array (items_of (map file_tree (evidence_of about.files.now))))
    (member (codes "rows") (array (items_of (map (row_tree sheet.head) sheet.rows)))
    (member (codes "tool") (string (codes "thiele_cli 1.0")) no_members)))

-- the whole tree: with the degree and the scale, where the answer has them
abbrev pub json_tree : About → Contents → Data
json_tree about sheet =
    object (with_number (codes "scale") about.scale (with_number (codes "degree") about.degree
    (told_always about sheet)))

-- the text of the tree without its line end
abbrev pub json_line : About → Contents → List ℕ
json_line about sheet = compact_text (json_tree about sheet)

-- the whole text
abbrev pub json_text : About → Contents → List ℕ
json_text about sheet = json_line about sheet ++ codes "\n"
