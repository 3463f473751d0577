-- Entries of tables of totals, in records of a CSV text, this product's own: group, lo, hi and tolerance.
use Rattle.std.specs.Prelude.{◌≡◌, ◌≢◌, ◌⊎◌, ℕ, ℤ, int_le, List, [], ◌∷◌, length, map, codes}
use Rattle.std.specs.Prelude.{pos, ◌+ℤ◌, ◌<◌, ◌^◌, ◌≤ℤ◌, unsigned_abs, Option, Some, None, if◌then◌else◌}
use Rattle.decimal_in.specs.Decimals.{millionths_of, size_of}
use Rattle.model_specs.specs.Names.{IsGoodName}
use Rattle.portfolio_run.specs.declared.totals.Total.{Total}
use Rattle.total_merge.specs.declared.fields.Fault.{Fault}
use Rattle.total_merge.specs.declared.fields.Fault.TheVariants as fault
use Rattle.total_merge.specs.declared.fields.Numbers.{Numbers}

-- the ends of a group's value and how far they may lie apart, in millionths
pub record Entry : Type 0 where
  pub group : List ℕ
  pub lo : ℤ
  pub hi : ℤ
  pub tol : ℕ

-- the fields of the first record of a table
abbrev pub head : List (List ℕ)
head = codes "group" ∷ codes "lo" ∷ codes "hi" ∷ codes "tolerance" ∷ []

-- a number that is not below another one, or none
abbrev pub not_below : ℤ → Option ℤ → Option ℤ
not_below low None = None
not_below low (Some high) = if int_le low high then Some high else None

-- the upper end of a field above this lower end: a decimal that is not below it
abbrev pub upper_of : ℤ → List ℕ → Option ℤ
upper_of low field = not_below low (millionths_of field)

-- ends are no further apart than a tolerance
abbrev pub AreWithin : (low high : ℤ) (tol : ℕ) → Type 0
AreWithin low high tol = high ≤ℤ (low +ℤ pos tol)

-- a field is no tolerance of these ends: no decimal without a sign, or one below their distance
abbrev pub IsNoTolerance : (low high : ℤ) (field : List ℕ) → Type 0
IsNoTolerance low high field =
    (size_of field ≡ None) ⊎ ((tol : ℕ) × (size_of field ≡ Some tol) × ¬ (AreWithin low high tol))

-- the ends stand in their order, and each number is of a decimal's size
pub record AreInRange (numbers : Numbers) : Type 0 where
  pub ordered : numbers.lo ≤ℤ numbers.hi
  pub lo : unsigned_abs numbers.lo < 10 ^ 24
  pub hi : unsigned_abs numbers.hi < 10 ^ 24
  pub tol : numbers.tol < 10 ^ 24

-- four fields are those of an entry with these numbers
pub record AreNumbers (group lo hi tolerance : List ℕ) (numbers : Numbers) : Type 0 where
  pub group_is : IsGoodName 24 group
  pub lo_is : millionths_of lo ≡ Some numbers.lo
  pub hi_is : upper_of numbers.lo hi ≡ Some numbers.hi
  pub tol_is : size_of tolerance ≡ Some numbers.tol
  pub narrow : AreWithin numbers.lo numbers.hi numbers.tol
  pub in_range : AreInRange numbers

-- the first of four fields that says nothing of the kind
abbrev pub FieldsHaveFault : (group lo hi tolerance : List ℕ) → Fault → Type 0
FieldsHaveFault group lo hi tolerance fault.Fields = ⊥
FieldsHaveFault group lo hi tolerance fault.Group = ¬ IsGoodName 24 group
FieldsHaveFault group lo hi tolerance fault.Lo = IsGoodName 24 group × (millionths_of lo ≡ None)
FieldsHaveFault group lo hi tolerance fault.Hi =
    IsGoodName 24 group × (low : ℤ) × (millionths_of lo ≡ Some low) × (upper_of low hi ≡ None)
FieldsHaveFault group lo hi tolerance fault.Tolerance =
    IsGoodName 24 group × (low : ℤ) × (millionths_of lo ≡ Some low) × (high : ℤ) × (upper_of low hi ≡ Some high)
    × IsNoTolerance low high tolerance

-- the numbers of an entry
abbrev pub numbers_of : Entry → Numbers
numbers_of entry = record { lo = entry.lo; hi = entry.hi; tol = entry.tol }

-- a record has four fields, and they say an entry
pub record IsEntry (fields : List (List ℕ)) (entry : Entry) : Type 0 where
  pub lo : List ℕ
  pub hi : List ℕ
  pub tolerance : List ℕ
  pub four : fields ≡ entry.group ∷ lo ∷ hi ∷ tolerance ∷ []
  pub numbers : AreNumbers entry.group lo hi tolerance (numbers_of entry)

-- a record has four fields, and one of them is at fault
pub record HasFaultyField (fields : List (List ℕ)) (first : Fault) : Type 0 where
  pub group : List ℕ
  pub lo : List ℕ
  pub hi : List ℕ
  pub tolerance : List ℕ
  pub four : fields ≡ group ∷ lo ∷ hi ∷ tolerance ∷ []
  pub fails : FieldsHaveFault group lo hi tolerance first

-- the first fault of a record: it has not four fields, or one of them is at fault
abbrev pub HasFault : List (List ℕ) → Fault → Type 0
HasFault fields first = ((first ≡ fault.Fields) × (length fields ≢ 4)) ⊎ HasFaultyField fields first

-- the number of a fault
abbrev pub part_of : Fault → ℕ
part_of fault.Fields = 1
part_of fault.Group = 2
part_of fault.Lo = 3
part_of fault.Hi = 4
part_of fault.Tolerance = 5

-- the entry of a group with these numbers
abbrev pub entry_of : (group : List ℕ) → Numbers → Entry
entry_of group numbers = record { group = group; lo = numbers.lo; hi = numbers.hi; tol = numbers.tol }

-- the numbers of an entry are in range
abbrev pub IsInRange : Entry → Type 0
IsInRange entry = AreInRange (numbers_of entry)

-- the ends of an entry are no further apart than its tolerance
abbrev pub IsNarrow : Entry → Type 0
IsNarrow entry = AreWithin entry.lo entry.hi entry.tol

-- an entry that is kept
abbrev pub kept_entry : Total → Entry
kept_entry total = record { group = total.name.items; lo = total.lo; hi = total.hi; tol = total.tol }

-- entries that are kept
abbrev pub kept_entries : List Total → List Entry
kept_entries totals = map kept_entry totals
