-- Entries that are read record by record.
use Rattle.std.proofs.Common.{◌≡◌, ℕ, zero, suc, ◌<◌, ◌≤◌, List, [], ◌∷◌, ◌++◌, length, take, codes, None, inl, inr}
use Rattle.std.proofs.Common.{refl, sym, ap, subst, ◌∙◌, arith}
use Rattle.std.specs.Prelude.{All}
use Rattle.std.proofs.lemmas.List.{get_or-take, length-take}
use Rattle.std.proofs.lemmas.List.Elements.{All-cons, All-nil}
use Rattle.std.proofs.lemmas.Option.{none-some}
use Rattle.claim_audit.specs.Readings.{record_at}
use Rattle.decimal_in.specs.Decimals.{millionths_of}
use Rattle.total_merge.specs.declared.reading.MergeError.{MergeError}
use Rattle.total_merge.specs.declared.reading.MergeError.TheVariants as error
use Rattle.total_merge.specs.Entries.{Entry, head, IsEntry, IsInRange, IsNarrow}
use Rattle.total_merge.specs.Tables.{AreEntries, HaveHead, IsRight, IsWrong, TellsFault, TellsRow}

-- one entry more
pub entry_more : (records : List (List (List ℕ))) (entries : List Entry) (fields : List (List ℕ)) (entry : Entry)
    → AreEntries records entries → IsEntry fields entry → AreEntries (records ++ fields ∷ []) (entries ++ entry ∷ [])
entry_more [] entries fields entry are is = inr (entry, [], is, ap (λ all. all ++ entry ∷ []) are, refl)
entry_more (r ∷ records) entries fields entry (inl here) is =
    inl (here.0, entry_more records entries fields entry here.1 is)
entry_more (r ∷ records) entries fields entry (inr here) is = inr (
  here.0,
  here.1 ++ entry ∷ [],
  here.2,
  ap (λ all. all ++ entry ∷ []) here.3,
  entry_more records here.1 fields entry here.4 is,
)

-- the head once more
pub head_more : (records : List (List (List ℕ))) (entries : List Entry) (fields : List (List ℕ))
    → AreEntries records entries → fields ≡ head → AreEntries (records ++ fields ∷ []) entries
head_more [] entries fields are is = inl (is, are)
head_more (r ∷ records) entries fields (inl here) is = inl (here.0, head_more records entries fields here.1 is)
head_more (r ∷ records) entries fields (inr here) is =
    inr (here.0, here.1, here.2, here.3, head_more records here.1 fields here.4 is)

-- each of the records is the head or an entry
pub right_at : (records : List (List (List ℕ))) (entries : List Entry) → AreEntries records entries → (k : ℕ)
    → k < length records → IsRight (record_at records k)
right_at [] entries are k within = absurd (omega (arith, within))
right_at (r ∷ records) entries (inl here) zero within = inl here.0
right_at (r ∷ records) entries (inl here) (suc k) within = right_at records entries here.1 k (omega (arith, within))
right_at (r ∷ records) entries (inr here) zero within = inr (here.0, here.2)
right_at (r ∷ records) entries (inr here) (suc k) within = right_at records here.1 here.4 k (omega (arith, within))

-- what holds of the entry of each record holds of all entries
all_have : (Has : Entry → Type 0) → ((fields : List (List ℕ)) (entry : Entry) → IsEntry fields entry → Has entry)
    → (records : List (List (List ℕ))) (entries : List Entry) → AreEntries records entries → All Has entries
all_have Has each [] entries are = subst (All Has) (sym are) (All-nil Has)
all_have Has each (r ∷ records) entries (inl here) = all_have Has each records entries here.1
all_have Has each (r ∷ records) entries (inr here) = subst (All Has) (sym here.3)
    (All-cons Has here.0 here.1 (each r here.0 here.2) (all_have Has each records here.1 here.4))

-- the numbers of each entry are in range
pub are_in_range : (records : List (List (List ℕ))) (entries : List Entry) → AreEntries records entries
    → All IsInRange entries
are_in_range = all_have IsInRange (λ fields entry is. is.numbers.in_range)

-- none is wider than its tolerance
pub are_narrow : (records : List (List (List ℕ))) (entries : List Entry) → AreEntries records entries
    → All IsNarrow entries
are_narrow = all_have IsNarrow (λ fields entry is. is.numbers.narrow)

-- no more entries than records
are_few : (records : List (List (List ℕ))) (entries : List Entry) → AreEntries records entries
    → length entries ≤ length records
are_few [] entries are = rw are (omega arith)
are_few (r ∷ records) entries (inl here) = omega (arith, are_few records entries here.1)
are_few (r ∷ records) entries (inr here) = rw here.3 (omega (arith, are_few records here.1 here.4))

-- the head is no entry
pub head_is_no_entry : (fields : List (List ℕ)) (entry : Entry) → fields ≡ head → IsEntry fields entry → ⊥
head_is_no_entry fields entry is entry_is =
    let low : entry_is.lo ≡ codes "lo" = cc (is, entry_is.four) in
    let none : millionths_of (codes "lo") ≡ None = refl in
    none-some entry.lo (sym none ∙ ap millionths_of (sym low) ∙ entry_is.numbers.lo_is)

-- and fewer entries than records, where they begin with the head
pub are_fewer : (records : List (List (List ℕ))) (entries : List Entry) → HaveHead records
    → AreEntries records entries → length entries < length records
are_fewer [] entries begin are = absurd (none-some _ begin)
are_fewer (r ∷ records) entries begin (inl here) = omega (arith, are_few records entries here.1)
are_fewer (r ∷ records) entries begin (inr here) =
    let is : r ≡ head = cc begin in absurd (head_is_no_entry r here.0 is here.2)

-- the first fault of the record behind entries and heads is the first of all
pub fault_is_first : (records : List (List (List ℕ))) (entries : List Entry) (i : ℕ) (fields : List (List ℕ))
    (why : MergeError) → AreEntries (take i records) entries → i < length records → record_at records i ≡ fields
    → TellsRow fields i why → TellsFault records why
fault_is_first records entries i fields error.Memory are within here tells = tt
fault_is_first records entries i fields (error.Row found) are within here tells = record {
  within = rw tells.0 within;
  first = tells.1;
  part_is = tells.2;
  wrong = subst (λ f. IsWrong f tells.1) (sym (ap (record_at records) tells.0 ∙ here)) tells.3;
  before = λ k early.
      let sooner : k < i = subst (λ row. k < row) tells.0 early in
      subst IsRight (get_or-take i records k [] sooner)
      (right_at (take i records) entries are k (omega (arith, length-take i records, sooner, within)));
}
