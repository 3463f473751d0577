-- The holdings of all records of a CSV text, and the first record that is none. This product's own.
use Rattle.std.specs.Prelude.{◌≡◌, ◌⊎◌, ℕ, ◌+◌, ◌<◌, List, [], length, map, slice_index_or, take, ⊤}
use Rattle.claim_audit.specs.Readings.{AreRecordsOf, record_at}
use Rattle.std.specs.Prelude.{slice_get, Some}
use Rattle.portfolio_run.specs.declared.fields.Fault.{Fault}
use Rattle.portfolio_run.specs.declared.reading.PolicyError.{PolicyError}
use Rattle.portfolio_run.specs.declared.reading.PolicyError.TheVariants as error
use Rattle.portfolio_run.specs.Holdings.{Holding, header, part_of, HasFault, IsHolding}
use Rattle.portfolio_run.specs.Names.{first_seen}

-- the different files of holdings, in the order in which they are first seen
abbrev pub files_of : List Holding → List (List ℕ)
files_of holdings = first_seen (map (λ holding. holding.file) holdings)

-- and the different groups
abbrev pub groups_of : List Holding → List (List ℕ)
groups_of holdings = first_seen (map (λ holding. holding.group) holdings)

-- a holding by its place
abbrev pub holding_at : List Holding → ℕ → Holding
holding_at holdings k = slice_index_or holdings k
    (record { file = []; group = []; month = 0; state = []; count = 0 })

-- the first record is the header
abbrev pub HaveHeader : List (List (List ℕ)) → Type 0
HaveHeader records = slice_get records 0 ≡ Some header

-- first records behind the header are these holdings, in their order
pub record BeginWith (records : List (List (List ℕ))) (holdings : List Holding) : Type 0 where
  pub within : length holdings < length records
  pub each : (k : ℕ) → k < length holdings
      → IsHolding (files_of (take k holdings)) (record_at records (k + 1)) (holding_at holdings k)

-- all records behind the header are these holdings
pub record AreHoldings (records : List (List (List ℕ))) (holdings : List Holding) : Type 0 where
  pub all : length records ≡ length holdings + 1
  pub begin : BeginWith records holdings

-- the first record behind the header that is no holding, and the number of its first fault
pub record IsFirstFault (records : List (List (List ℕ))) (row part : ℕ) : Type 0 where
  pub before : List Holding
  pub begin : BeginWith records before
  pub row_is : row ≡ length before + 1
  pub within : row < length records
  pub first : Fault
  pub part_is : part ≡ part_of first
  pub fault : HasFault (files_of before) (record_at records row) first

-- the first row that is wrong and its part: the header is not there, or it is and a record behind it is no holding
abbrev pub IsFirstWrong : List (List (List ℕ)) → (row part : ℕ) → Type 0
IsFirstWrong records row part =
    ((row ≡ 0) × (part ≡ 0) × ¬ (HaveHeader records)) ⊎ (HaveHeader records × IsFirstFault records row part)

-- an error tells of the first fault of a record in this row, behind records of these files, or of nothing
abbrev pub TellsRow : (files fields : List (List ℕ)) → (row : ℕ) → PolicyError → Type 0
TellsRow files fields row (error.Row found) =
    (found.row ≡ row) × (first : Fault) × (found.part ≡ part_of first) × HasFault files fields first
TellsRow files fields row error.Memory = ⊤

-- an error tells of a fault behind the header, or of nothing
abbrev pub TellsFault : List (List (List ℕ)) → PolicyError → Type 0
TellsFault records (error.Row found) = IsFirstFault records found.row found.part
TellsFault records error.Memory = ⊤

-- an error tells of the first row that is wrong, or of nothing
abbrev pub TellsWrong : List (List (List ℕ)) → PolicyError → Type 0
TellsWrong records (error.Row found) = IsFirstWrong records found.row found.part
TellsWrong records error.Memory = ⊤

-- an error tells of the first row of a CSV text that is wrong, or of nothing
abbrev pub TellsWrongIn : (text : List ℕ) → PolicyError → Type 0
TellsWrongIn text (error.Row found) =
    (records : List (List (List ℕ))) × AreRecordsOf text records × IsFirstWrong records found.row found.part
TellsWrongIn text error.Memory = ⊤

-- the holdings of a CSV text: its first record is the header, and the others are these holdings
abbrev pub AreHoldingsIn : (text : List ℕ) → List Holding → Type 0
AreHoldingsIn text holdings =
    (records : List (List (List ℕ))) × AreRecordsOf text records × HaveHeader records × AreHoldings records holdings
