-- What is found in the wrong record of a table: its number of fields, or the text of one field.
use Rattle.std.specs.Prelude.{ℕ, nat_lt, nat_le, ◌==◌, List, [], ◌∷◌, ◌++◌, length, slice_get, slice_index_or, Option}
use Rattle.std.specs.Prelude.{Some, None, Bool, ◌&&◌, codes, decimal, if◌then◌else◌}
use Rattle.std.specs.List.{list_all}
use Rattle.csv.specs.Records.{field_at}
use Rattle.rule_breaks.specs.declared.breaks.RowBreak.{RowBreak}
use Rattle.refusal_words.specs.declared.row_findings.Subject.{Subject}
use Rattle.refusal_words.specs.declared.row_findings.Subject.TheVariants as subject
use Rattle.refusal_words.specs.declared.row_texts.CsvTable.{CsvTable}
use Rattle.refusal_words.specs.declared.row_texts.CsvTable.TheVariants as table

-- what each part of a claim looks at
abbrev pub claim_subjects : List Subject
claim_subjects = subject.Nothing ∷ subject.Count ∷ subject.Field 0 ∷ subject.Field 1 ∷ subject.Field 2 ∷ []

-- what each part of a holding looks at
abbrev pub holding_subjects : List Subject
holding_subjects = subject.Nothing ∷ subject.Count ∷ subject.Field 0 ∷ subject.Field 1 ∷ subject.Field 2
    ∷ subject.Field 4 ∷ subject.Field 2 ∷ subject.Field 3 ∷ []

-- what each part of an entry of totals looks at
abbrev pub total_subjects : List Subject
total_subjects = subject.Nothing ∷ subject.Count ∷ subject.Field 0 ∷ subject.Field 1 ∷ subject.Field 2
    ∷ subject.Field 3 ∷ []

-- what a part of a table looks at
abbrev pub subject_of : CsvTable → ℕ → Subject
subject_of table.Claims part = slice_index_or claim_subjects part subject.Nothing
subject_of table.Holdings part = slice_index_or holding_subjects part subject.Nothing
subject_of table.Totals part = slice_index_or total_subjects part subject.Nothing

-- the most bytes of a field that is shown
abbrev pub most_shown : ℕ
most_shown = 60

-- a byte that is shown: a printable one of ASCII
abbrev pub is_printable : ℕ → Bool
is_printable b = nat_le 32 b && nat_le b 126

-- a field that is shown as it stands: it fits a line, and has no control character
unfoldable pub is_shown_field : List ℕ → Bool
is_shown_field field = nat_le (length field) most_shown && list_all is_printable field

-- the line of so many fields
unfoldable pub count_line : ℕ → List ℕ
count_line count = codes "found: " ++ decimal count ++ (if count == 1 then codes " field\n" else codes " fields\n")

-- the line of a field that is shown
unfoldable pub shown_line : List ℕ → List ℕ
shown_line field = codes "found: " ++ field ++ codes "\n"

-- the line of a field, and none where it cannot be shown
unfoldable pub field_line : List ℕ → List ℕ
field_line field =
    if nat_lt 0 (length field) then (if is_shown_field field then shown_line field else [])
    else codes "found: an empty field\n"

-- the line of a field, and none where there is no such field
abbrev pub line_of_field : Option (List ℕ) → List ℕ
line_of_field None = []
line_of_field (Some field) = field_line field

-- the line of what is looked at in a record
abbrev pub subject_line : Subject → List (List ℕ) → List ℕ
subject_line subject.Nothing fields = []
subject_line subject.Count fields = count_line (length fields)
subject_line (subject.Field place) fields = line_of_field (field_at fields place)

-- the same, and none where there is no such record
abbrev pub line_of_record : Subject → Option (List (List ℕ)) → List ℕ
line_of_record own None = []
line_of_record own (Some fields) = subject_line own fields

-- the line of what is found in a wrong row
abbrev pub row_found : CsvTable → RowBreak → (records : List (List (List ℕ))) → List ℕ
row_found table broken records = line_of_record (subject_of table broken.part) (slice_get records broken.row)
