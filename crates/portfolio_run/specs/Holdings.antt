-- Policy holdings in records of a CSV text, this product's own: file, group, month, state and count.
use Rattle.std.specs.Prelude.{◌≡◌, ◌≢◌, ◌⊎◌, ℕ, ◌<◌, ◌^◌, ◌&&◌, nat_le, List, [], ◌∷◌, length, codes, false}
use Rattle.std.specs.Prelude.{Option, Some, None, IsSome, IsUtf8, if◌then◌else◌}
use Rattle.model_specs.specs.Names.{IsGoodName}
use Rattle.claim_audit.specs.Claims.{month_of}
use Rattle.decimal_in.specs.Decimals.{whole_of}
use Rattle.portfolio_run.specs.declared.fields.Fault.{Fault}
use Rattle.portfolio_run.specs.declared.fields.Fault.TheVariants as fault
use Rattle.portfolio_run.specs.Names.{is_among}

-- so many contracts of a product file, at a date in a state, counted to a group
pub record Holding : Type 0 where
  pub file : List ℕ
  pub group : List ℕ
  -- months from issue
  pub month : ℕ
  pub state : List ℕ
  pub count : ℕ

-- the fields of the first record
abbrev pub header : List (List ℕ)
header = codes "file" ∷ codes "group" ∷ codes "month" ∷ codes "state" ∷ codes "count" ∷ []

-- the most different files
abbrev pub most_files : ℕ
most_files = 16

-- a file's name behind other files: a text of some bytes, and not one more different name than there may be
pub record IsFileName (files : List (List ℕ)) (name : List ℕ) : Type 0 where
  pub some : 0 < length name
  pub text : IsUtf8 name
  pub few : is_among files name ≡ false → length files < most_files

-- a count from 1 to a million, or none
abbrev pub up_to_million : Option ℕ → Option ℕ
up_to_million None = None
up_to_million (Some count) = if nat_le 1 count && nat_le count (10 ^ 6) then Some count else None

-- the count of a field: up to seven digits without a leading zero, from 1 to a million
abbrev pub count_of : List ℕ → Option ℕ
count_of field = up_to_million (whole_of 7 field)

-- the latest month of any product
abbrev pub latest_month : ℕ
latest_month = 1200

-- four of five fields are as they may be, with this month and this count. Whether the fifth is a state depends on the
-- product
pub record AreRight (files : List (List ℕ)) (file group month count : List ℕ) (date contracts : ℕ) : Type 0 where
  pub file_is : IsFileName files file
  pub group_is : IsGoodName 24 group
  pub month_is : month_of latest_month month ≡ Some date
  pub count_is : count_of count ≡ Some contracts

-- the first of four fields that is not
abbrev pub FieldsHaveFault : (files : List (List ℕ)) → (file group month count : List ℕ) → Fault → Type 0
FieldsHaveFault files file group month count fault.Fields = ⊥
FieldsHaveFault files file group month count fault.File = ¬ IsFileName files file
FieldsHaveFault files file group month count fault.Group = IsFileName files file × ¬ IsGoodName 24 group
FieldsHaveFault files file group month count fault.Month =
    IsFileName files file × IsGoodName 24 group × (month_of latest_month month ≡ None)
FieldsHaveFault files file group month count fault.Count =
    IsFileName files file × IsGoodName 24 group × IsSome (month_of latest_month month) × (count_of count ≡ None)

-- a record has five fields, and they say a holding
pub record IsHolding (files fields : List (List ℕ)) (holding : Holding) : Type 0 where
  pub month : List ℕ
  pub count : List ℕ
  pub five : fields ≡ holding.file ∷ holding.group ∷ month ∷ holding.state ∷ count ∷ []
  pub right : AreRight files holding.file holding.group month count holding.month holding.count

-- a record has five fields, and one of them is at fault
pub record HasFaultyField (files fields : List (List ℕ)) (first : Fault) : Type 0 where
  pub file : List ℕ
  pub group : List ℕ
  pub month : List ℕ
  pub state : List ℕ
  pub count : List ℕ
  pub five : fields ≡ file ∷ group ∷ month ∷ state ∷ count ∷ []
  pub fails : FieldsHaveFault files file group month count first

-- the first fault of a record behind records of these files: it has not five fields, or one of them is at fault
abbrev pub HasFault : (files fields : List (List ℕ)) → Fault → Type 0
HasFault files fields first =
    ((first ≡ fault.Fields) × (length fields ≢ 5)) ⊎ HasFaultyField files fields first

-- the number of a fault
abbrev pub part_of : Fault → ℕ
part_of fault.Fields = 1
part_of fault.File = 2
part_of fault.Group = 3
part_of fault.Month = 4
part_of fault.Count = 5
