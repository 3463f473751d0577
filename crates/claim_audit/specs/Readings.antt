-- The claims of all records of a CSV text, and the first record that is no claim. This product's own.
use Rattle.std.specs.Prelude.{◌≡◌, ◌⊎◌, ℕ, ◌+◌, ◌<◌, pos, List, [], length, slice_get, slice_index_or, Some, ⊤}
use Rattle.csv.specs.Reading.{default_config, strip_bom, AreRecords}
use Rattle.csv.specs.declared.parser.State.TheVariants as st
use Rattle.claim_audit.specs.declared.claims.Claimed.{Claimed}
use Rattle.claim_audit.specs.declared.claims.Fault.{Fault}
use Rattle.claim_audit.specs.declared.reading.AuditError.{AuditError}
use Rattle.claim_audit.specs.declared.reading.AuditError.TheVariants as error
use Rattle.claim_audit.specs.Claims.{header, part_of, HasFault, IsClaim}

-- these are all records of a CSV text, without its byte order mark
abbrev pub AreRecordsOf : (text : List ℕ) → List (List (List ℕ)) → Type 0
AreRecordsOf text records = AreRecords default_config st.StartRecord (strip_bom text) records

-- the fields of a record
abbrev pub record_at : List (List (List ℕ)) → ℕ → List (List ℕ)
record_at records k = slice_index_or records k []

-- a claim by its place
abbrev pub claim_at : List Claimed → ℕ → Claimed
claim_at claims k = slice_index_or claims k (record { month = 0; state = 0; claim = pos 0 })

-- the first record is the header
abbrev pub HaveHeader : List (List (List ℕ)) → Type 0
HaveHeader records = slice_get records 0 ≡ Some header

-- each record behind the header is a claim, in their order
pub record AreClaims (months : ℕ) (names : List (List ℕ)) (records : List (List (List ℕ))) (claims : List Claimed)
    : Type 0 where
  pub count : length records ≡ length claims + 1
  pub each : (k : ℕ) → k < length claims → IsClaim months names (record_at records (k + 1)) (claim_at claims k)

-- the first record behind the header that is no claim, and the number of its first fault
pub record IsFirstFault (months : ℕ) (names : List (List ℕ)) (records : List (List (List ℕ))) (row part : ℕ)
    : Type 0 where
  pub some : 0 < row
  pub within : row < length records
  pub first : Fault
  pub part_is : part ≡ part_of first
  pub fault : HasFault months names (record_at records row) first
  pub before : (k : ℕ) → 0 < k → k < row → (claimed : Claimed) × IsClaim months names (record_at records k) claimed

-- the first row that is wrong and its part: the header is not there, or it is and a record behind it is no claim
abbrev pub IsFirstWrong : ℕ → List (List ℕ) → List (List (List ℕ)) → (row part : ℕ) → Type 0
IsFirstWrong months names records row part =
    ((row ≡ 0) × (part ≡ 0) × ¬ (HaveHeader records))
    ⊎ (HaveHeader records × IsFirstFault months names records row part)

-- an error tells of a fault behind the header, or of nothing
abbrev pub TellsFault : ℕ → List (List ℕ) → List (List (List ℕ)) → AuditError → Type 0
TellsFault months names records (error.Row found) = IsFirstFault months names records found.row found.part
TellsFault months names records error.Memory = ⊤

-- an error tells of the first row that is wrong, or of nothing
abbrev pub TellsWrong : ℕ → List (List ℕ) → List (List (List ℕ)) → AuditError → Type 0
TellsWrong months names records (error.Row found) = IsFirstWrong months names records found.row found.part
TellsWrong months names records error.Memory = ⊤

-- the first row of a CSV text that is wrong and its part
abbrev pub IsFirstWrongIn : ℕ → List (List ℕ) → (text : List ℕ) → (row part : ℕ) → Type 0
IsFirstWrongIn months names text row part =
    (records : List (List (List ℕ))) × AreRecordsOf text records × IsFirstWrong months names records row part

-- an error tells of the first row of a CSV text that is wrong, or of nothing
abbrev pub TellsWrongIn : ℕ → List (List ℕ) → (text : List ℕ) → AuditError → Type 0
TellsWrongIn months names text (error.Row found) = IsFirstWrongIn months names text found.row found.part
TellsWrongIn months names text error.Memory = ⊤

-- the claims of a CSV text: its first record is the header, and the others are these claims
abbrev pub AreClaimsIn : ℕ → List (List ℕ) → (text : List ℕ) → List Claimed → Type 0
AreClaimsIn months names text claims =
    (records : List (List (List ℕ))) × AreRecordsOf text records × HaveHeader records
    × AreClaims months names records claims

-- a CSV text has claims or a first wrong row, not both, and one such row with one first wrong part
pub record HasOneReading (months : ℕ) (names : List (List ℕ)) (text : List ℕ) : Type 0 where
  pub not_both : (claims : List Claimed) (row part : ℕ) → AreClaimsIn months names text claims
      → IsFirstWrongIn months names text row part → ⊥
  pub one_wrong : (row part other other_part : ℕ) → IsFirstWrongIn months names text row part
      → IsFirstWrongIn months names text other other_part → (row ≡ other) × (part ≡ other_part)

-- the same of each text, whatever the term and the states
abbrev pub TextsHaveOneReading : Type 0
TextsHaveOneReading = (months : ℕ) (names : List (List ℕ)) (text : List ℕ) → HasOneReading months names text
