-- Claims in records of a CSV text, this product's own: month, state and reserve.
use Rattle.std.specs.Prelude.{◌≡◌, ◌≢◌, ◌⊎◌, ℕ, nat_le, List, [], ◌∷◌, length, codes, All, slice_get, Option}
use Rattle.std.specs.Prelude.{◌<◌, ◌^◌, unsigned_abs, Some, None, IsSome, if◌then◌else◌}
use Rattle.claim_audit.specs.declared.claims.Claimed.{Claimed}
use Rattle.claim_audit.specs.declared.claims.Fault.{Fault}
use Rattle.claim_audit.specs.declared.claims.Fault.TheVariants as fault
use Rattle.decimal_in.specs.Decimals.{whole_of, millionths_of}

-- the fields of the first record
abbrev pub header : List (List ℕ)
header = codes "month" ∷ codes "state" ∷ codes "reserve" ∷ []

-- a month up to the term, or none
abbrev pub up_to : ℕ → Option ℕ → Option ℕ
up_to months None = None
up_to months (Some month) = if nat_le month months then Some month else None

-- the month of a field: `0` or up to four digits without a leading zero, at most the term
abbrev pub month_of : ℕ → List ℕ → Option ℕ
month_of months field = up_to months (whole_of 4 field)

-- three fields say a claim about a product of so many months and of states with these names
pub record FieldsSayClaim (months : ℕ) (names : List (List ℕ)) (month state reserve : List ℕ) (claimed : Claimed)
    : Type 0 where
  pub month_is : month_of months month ≡ Some claimed.month
  pub state_is : slice_get names claimed.state ≡ Some state
  pub claim_is : millionths_of reserve ≡ Some claimed.claim
  pub small : unsigned_abs claimed.claim < 10 ^ 24

-- the first of three fields that says nothing of the kind
abbrev pub FieldsHaveFault : ℕ → List (List ℕ) → (month state reserve : List ℕ) → Fault → Type 0
FieldsHaveFault months names month state reserve fault.Count = ⊥
FieldsHaveFault months names month state reserve fault.Month = month_of months month ≡ None
FieldsHaveFault months names month state reserve fault.State =
    IsSome (month_of months month) × All (λ known. known ≢ state) names
FieldsHaveFault months names month state reserve fault.Reserve =
    IsSome (month_of months month) × ¬ (All (λ known. known ≢ state) names) × (millionths_of reserve ≡ None)

-- a record has three fields, and they say a claim
pub record IsClaim (months : ℕ) (names fields : List (List ℕ)) (claimed : Claimed) : Type 0 where
  pub month : List ℕ
  pub state : List ℕ
  pub reserve : List ℕ
  pub three : fields ≡ month ∷ state ∷ reserve ∷ []
  pub says : FieldsSayClaim months names month state reserve claimed

-- a record has three fields, and one of them is at fault
pub record HasFaultyField (months : ℕ) (names fields : List (List ℕ)) (first : Fault) : Type 0 where
  pub month : List ℕ
  pub state : List ℕ
  pub reserve : List ℕ
  pub three : fields ≡ month ∷ state ∷ reserve ∷ []
  pub fails : FieldsHaveFault months names month state reserve first

-- the first fault of a record: it has not three fields, or one of them is at fault
abbrev pub HasFault : ℕ → List (List ℕ) → List (List ℕ) → Fault → Type 0
HasFault months names fields first =
    ((first ≡ fault.Count) × (length fields ≢ 3)) ⊎ HasFaultyField months names fields first

-- the number of a fault
abbrev pub part_of : Fault → ℕ
part_of fault.Count = 1
part_of fault.Month = 2
part_of fault.State = 3
part_of fault.Reserve = 4
