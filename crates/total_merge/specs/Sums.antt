-- Sums of entries by group. This product's own.
use Rattle.std.specs.Prelude.{◌≡◌, ℕ, ◌+◌, ◌^◌, ◌≤◌, ℤ, pos, ◌+ℤ◌, Bool, false, List, All, bytes_eq, fold, map}
use Rattle.std.specs.Prelude.{unsigned_abs, if◌then◌else◌}
use Rattle.portfolio_run.specs.declared.totals.Total.{Total}
use Rattle.portfolio_run.specs.Names.{first_seen, is_among}
use Rattle.portfolio_run.specs.Sums.{total_where}
use Rattle.total_merge.specs.Entries.{Entry}

-- the sum of whole numbers of those items that belong to it
abbrev pub whole_where : {A : Type 0} (belongs : A → Bool) (number : A → ℤ) → List A → ℤ
whole_where belongs number items =
    fold (λ sum item. if belongs item then sum +ℤ number item else sum) (pos 0) items

-- an entry is of the group with a name
abbrev pub is_of : (name : List ℕ) → Entry → Bool
is_of name entry = bytes_eq name entry.group

-- the sum of the lower ends of a group
abbrev pub lo_of : (name : List ℕ) → List Entry → ℤ
lo_of name entries = whole_where (is_of name) (λ entry. entry.lo) entries

-- the sum of its upper ends
abbrev pub hi_of : (name : List ℕ) → List Entry → ℤ
hi_of name entries = whole_where (is_of name) (λ entry. entry.hi) entries

-- the sum of its tolerances
abbrev pub tol_of : (name : List ℕ) → List Entry → ℕ
tol_of name entries = total_where (is_of name) (λ entry. entry.tol) entries

-- the different groups, in the order in which they are first seen
abbrev pub groups_of : List Entry → List (List ℕ)
groups_of entries = first_seen (map (λ entry. entry.group) entries)

-- the name of a total's group
abbrev pub name_of : Total → List ℕ
name_of total = total.name.items

-- a total has the sums of the entries of its group
pub record HasSums (entries : List Entry) (total : Total) : Type 0 where
  pub lo_is : total.lo ≡ lo_of (name_of total) entries
  pub hi_is : total.hi ≡ hi_of (name_of total) entries
  pub tol_is : total.tol ≡ tol_of (name_of total) entries

-- a total of no entry
pub record IsNothing (name : List ℕ) (total : Total) : Type 0 where
  pub name_is : name_of total ≡ name
  pub lo_is : total.lo ≡ pos 0
  pub hi_is : total.hi ≡ pos 0
  pub tol_is : total.tol ≡ 0

-- the numbers of a total are small enough for one entry more
pub record HasRoom (total : Total) : Type 0 where
  pub lo : unsigned_abs total.lo ≤ 2 ^ 120
  pub hi : unsigned_abs total.hi ≤ 2 ^ 120
  pub tol : total.tol ≤ 2 ^ 120

-- a total has one entry more
pub record AddsEntry (entry old new : Total) : Type 0 where
  pub name : name_of new ≡ name_of old
  pub lo : new.lo ≡ old.lo +ℤ entry.lo
  pub hi : new.hi ≡ old.hi +ℤ entry.hi
  pub tol : new.tol ≡ old.tol + entry.tol

-- no entry is of the group with a name
pub record HasNone (entries : List Entry) (name : List ℕ) : Type 0 where
  pub lo_is : lo_of name entries ≡ pos 0
  pub hi_is : hi_of name entries ≡ pos 0
  pub tol_is : tol_of name entries ≡ 0

-- totals of different groups have the sums of entries, of which no other group has any
pub record AreSums (names : List (List ℕ)) (groups : List Total) (entries : List Entry) : Type 0 where
  pub seen : List (List ℕ)
  pub different : names ≡ first_seen seen
  pub named : map name_of groups ≡ names
  pub right : All (HasSums entries) groups
  pub others : (name : List ℕ) → is_among names name ≡ false → HasNone entries name
