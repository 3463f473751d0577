-- The entries of all records of a CSV text, and the first record that is wrong. This product's own.
use Rattle.std.specs.Prelude.{◌≡◌, ◌≢◌, ◌⊎◌, ℕ, ◌<◌, List, [], ◌∷◌, length, slice_get, Some, ⊤}
use Rattle.claim_audit.specs.Readings.{AreRecordsOf, record_at}
use Rattle.total_merge.specs.declared.fields.Fault.{Fault}
use Rattle.total_merge.specs.declared.reading.MergeError.{MergeError}
use Rattle.total_merge.specs.declared.reading.MergeError.TheVariants as error
use Rattle.total_merge.specs.Entries.{Entry, head, part_of, HasFault, IsEntry}

-- the first record is the head
abbrev pub HaveHead : List (List (List ℕ)) → Type 0
HaveHead records = slice_get records 0 ≡ Some head

-- records are these entries in their order, but for those that are the head
abbrev pub AreEntries : List (List (List ℕ)) → List Entry → Type 0
AreEntries [] entries = entries ≡ []
AreEntries (fields ∷ records) entries =
    ((fields ≡ head) × AreEntries records entries)
    ⊎ ((first : Entry) × (rest : List Entry) × IsEntry fields first × (entries ≡ first ∷ rest)
    × AreEntries records rest)

-- a record is the head or an entry
abbrev pub IsRight : List (List ℕ) → Type 0
IsRight fields = (fields ≡ head) ⊎ ((entry : Entry) × IsEntry fields entry)

-- a record is not the head, and this is its first fault
abbrev pub IsWrong : List (List ℕ) → Fault → Type 0
IsWrong fields first = (fields ≢ head) × HasFault fields first

-- the first record that is neither the head nor an entry, and the number of its first fault
pub record IsFirstFault (records : List (List (List ℕ))) (row part : ℕ) : Type 0 where
  pub within : row < length records
  pub first : Fault
  pub part_is : part ≡ part_of first
  pub wrong : IsWrong (record_at records row) first
  pub before : (k : ℕ) → k < row → IsRight (record_at records k)

-- the first row that is wrong and its part: the table does not begin with the head, or it does and a record is wrong
abbrev pub IsFirstWrong : List (List (List ℕ)) → (row part : ℕ) → Type 0
IsFirstWrong records row part =
    ((row ≡ 0) × (part ≡ 0) × ¬ (HaveHead records)) ⊎ (HaveHead records × IsFirstFault records row part)

-- an error tells of the first fault of a record in this row, or of nothing
abbrev pub TellsRow : List (List ℕ) → (row : ℕ) → MergeError → Type 0
TellsRow fields row (error.Row found) =
    (found.row ≡ row) × (first : Fault) × (found.part ≡ part_of first) × IsWrong fields first
TellsRow fields row error.Memory = ⊤

-- an error tells of the first fault of records, or of nothing
abbrev pub TellsFault : List (List (List ℕ)) → MergeError → Type 0
TellsFault records (error.Row found) = IsFirstFault records found.row found.part
TellsFault records error.Memory = ⊤

-- an error tells of the first row that is wrong, or of nothing
abbrev pub TellsWrong : List (List (List ℕ)) → MergeError → Type 0
TellsWrong records (error.Row found) = IsFirstWrong records found.row found.part
TellsWrong records error.Memory = ⊤

-- the first row of a CSV text that is wrong and its part
abbrev pub IsFirstWrongIn : (text : List ℕ) → (row part : ℕ) → Type 0
IsFirstWrongIn text row part =
    (records : List (List (List ℕ))) × AreRecordsOf text records × IsFirstWrong records row part

-- an error tells of the first row of a CSV text that is wrong, or of nothing
abbrev pub TellsWrongIn : (text : List ℕ) → MergeError → Type 0
TellsWrongIn text (error.Row found) = IsFirstWrongIn text found.row found.part
TellsWrongIn text error.Memory = ⊤

-- the entries of a CSV text: it begins with the head, and its other records are these entries and repeated heads
abbrev pub AreEntriesIn : (text : List ℕ) → List Entry → Type 0
AreEntriesIn text entries =
    (records : List (List (List ℕ))) × AreRecordsOf text records × HaveHead records × AreEntries records entries

-- a CSV text has one list of entries or one first wrong row, with one first wrong part
pub record HasOneReading (text : List ℕ) : Type 0 where
  pub not_both : (entries : List Entry) (row part : ℕ) → AreEntriesIn text entries → IsFirstWrongIn text row part → ⊥
  pub one_list : (entries other : List Entry) → AreEntriesIn text entries → AreEntriesIn text other → entries ≡ other
  pub one_wrong : (row part other other_part : ℕ) → IsFirstWrongIn text row part
      → IsFirstWrongIn text other other_part → (row ≡ other) × (part ≡ other_part)

-- the same of each text
abbrev pub TablesHaveOneReading : Type 0
TablesHaveOneReading = (text : List ℕ) → HasOneReading text
