-- What a reader of CSV reads from the records of a sheet.
use Rattle.std.proofs.Common.{◌≡◌, ℕ, suc, ◌<◌, ◌==◌, List, [], ◌∷◌, ◌++◌, All, length, map, sym}
use Rattle.std.proofs.Common.{refl, arith, false, inl, inr}
use Rattle.std.specs.Prelude.{IsAscii, slice_index_or, ⊤}
use Rattle.std.specs.List.{list_any}
use Rattle.std.proofs.lemmas.Bool.{cases_Bool, ne_eqb}
use Rattle.std.proofs.lemmas.List.{length-map}
use Rattle.std.proofs.lemmas.List.Elements.{All-cons, All-map}
use Rattle.csv.specs.Machine.{next_record}
use Rattle.csv.specs.Reading.{default_config, strip_bom, AreRecords, Reached}
use Rattle.csv.specs.Writing.{default_writer, fields_text, is_blank, needs_byte, row_text, read_back}
use Rattle.csv.specs.declared.parser.State.TheVariants as st
use Rattle.csv.proofs.RoundTrip.{read-write}
use Rattle.row_sheets.specs.CsvText.{cell_text, csv_text, records_of, records_text, row_fields}
use Rattle.row_sheets.specs.Sheets.{Cell, Contents, IsFilled}

-- records of which each has a field are read in their order, up to the end
pub records_are_read : (records : List (List (List ℕ))) → All (λ fields. 0 < length fields) records
    → AreRecords default_config st.StartRecord (records_text records) records
unfolding Reached next_record
records_are_read records some = (st.StartRecord, [], reached records some, refl) where
  whole : (fields : List (List ℕ)) → 0 < length fields → read_back fields ≡ fields
  whole [] some = absurd (omega (arith, some))
  whole (first ∷ fields) some = refl

  reached : (records : List (List (List ℕ))) → All (λ fields. 0 < length fields) records
      → Reached default_config st.StartRecord (records_text records) records st.StartRecord []
  reached [] some = (refl, refl)
  reached (fields ∷ records) some = (
    (read_back fields, st.StartRecord, records_text records),
    read-write fields (records_text records),
    sym (whole fields (some 0 fields (omega arith))),
    reached records (λ k d within. some (suc k) d (omega (arith, within))),
  )

-- a text does not begin with the first byte of a byte order mark
abbrev BeginsPlainly : List ℕ → Type 0
BeginsPlainly [] = ⊤
BeginsPlainly (byte ∷ text) = (byte == 239) ≡ false

no_mark : (text : List ℕ) → BeginsPlainly text → strip_bom text ≡ text
unfolding strip_bom
no_mark [] plain = refl
no_mark (a ∷ []) plain = refl
no_mark (a ∷ b ∷ []) plain = refl
no_mark (a ∷ b ∷ c ∷ text) plain = rw plain refl

plain_byte : (b : ℕ) → b < 128 → (b == 239) ≡ false
plain_byte b small = ne_eqb b 239 (λ same. omega (arith, same, small))

unquoted_begins : (field : List ℕ) (fields : List (List ℕ)) (tail : List ℕ) → IsAscii field
    → list_any (needs_byte default_writer) field ≡ false
    → BeginsPlainly (row_text default_writer (field ∷ fields) ++ tail)
unfolding is_blank fields_text
unquoted_begins [] [] tail ascii plain = refl
unquoted_begins [] (next ∷ fields) tail ascii plain = refl
unquoted_begins (byte ∷ field) fields tail ascii plain = rw plain (plain_byte byte (ascii 0))

record_begins : (fields : List (List ℕ)) (tail : List ℕ) → All IsAscii fields
    → BeginsPlainly (row_text default_writer fields ++ tail)
unfolding is_blank
record_begins [] tail ascii = refl
record_begins (field ∷ fields) tail ascii = elim (cases_Bool (list_any (needs_byte default_writer) field)) [
  | inl quoted ↦ rw quoted refl
  | inr plain ↦ unquoted_begins field fields tail (ascii 0 field (omega arith)) plain
]

rows_have_fields : (columns : ℕ) (rows : List (List Cell)) → 0 < columns → All (λ row. length row ≡ columns) rows
    → All (λ fields. 0 < length fields) (map row_fields rows)
rows_have_fields columns rows some even =
    All-map (λ (fields : List (List ℕ)). 0 < length fields) row_fields rows (λ k d within.
    rw (length-map (slice_index_or rows k d) cell_text, even k d within) some)

-- a sheet is read from its text as it is
pub sheet_is_read : (sheet : Contents) → IsFilled sheet
    → AreRecords default_config st.StartRecord (strip_bom (csv_text sheet)) (records_of sheet)
sheet_is_read sheet filled =
    let below = records_text (map row_fields sheet.rows) in
    let whole = no_mark (csv_text sheet) (record_begins sheet.head below filled.names) in
    rw whole (records_are_read (records_of sheet) (All-cons (λ (fields : List (List ℕ)). 0 < length fields) sheet.head
    (map row_fields sheet.rows) filled.some (rows_have_fields (length sheet.head) sheet.rows filled.some filled.rows)))
