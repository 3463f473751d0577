-- A CSV text has one list of entries, or one first wrong row.
use Rattle.std.proofs.Common.{◌≡◌, ℕ, ◌<◌, ℤ, List, [], ◌∷◌, length, inl, inr, refl, sym, ap, ap₂, subst, ◌∙◌, arith}
use Rattle.std.specs.Prelude.{Option, Some, None}
use Rattle.std.proofs.lemmas.Option.{none-some}
use Rattle.decimal_in.specs.Decimals.{millionths_of, size_of}
use Rattle.claim_audit.specs.Readings.{record_at}
use Rattle.claim_audit.proofs.OneReading.{one_records}
use Rattle.total_merge.specs.declared.fields.Fault.{Fault}
use Rattle.total_merge.specs.declared.fields.Fault.TheVariants as fault
use Rattle.total_merge.specs.declared.fields.Numbers.{Numbers}
use Rattle.total_merge.specs.Entries.{Entry, numbers_of, part_of, upper_of}
use Rattle.total_merge.specs.Entries.{AreNumbers, AreWithin, FieldsHaveFault, HasFault, IsEntry, IsNoTolerance}
use Rattle.total_merge.specs.Tables.{AreEntries, AreEntriesIn, IsFirstFault, IsFirstWrong, IsFirstWrongIn}
use Rattle.total_merge.specs.Tables.{IsRight, IsWrong, TablesHaveOneReading}
use Rattle.total_merge.proofs.EntryLists.{head_is_no_entry, right_at}

-- ---- a record

some_is : {A : Type 0} (a b : A) → Some a ≡ Some b → a ≡ b
some_is a b same = cc

-- what is found in the same text is the same
found_once : {A B : Type 0} (read : A → Option B) (x y : A) (a b : B) → x ≡ y → read x ≡ Some a → read y ≡ Some b
    → a ≡ b
found_once read x y a b same first second = some_is a b (sym first ∙ ap read same ∙ second)

-- a record says one entry
one_entry : (fields : List (List ℕ)) (a b : Entry) → IsEntry fields a → IsEntry fields b → a ≡ b
one_entry fields a b x y =
    let group : a.group ≡ b.group = cc (x.four, y.four) in
    let lo_field : x.lo ≡ y.lo = cc (x.four, y.four) in
    let hi_field : x.hi ≡ y.hi = cc (x.four, y.four) in
    let tol_field : x.tolerance ≡ y.tolerance = cc (x.four, y.four) in
    let lo : a.lo ≡ b.lo =
    found_once millionths_of x.lo y.lo a.lo b.lo lo_field x.numbers.lo_is y.numbers.lo_is in
    let hi : a.hi ≡ b.hi =
    some_is a.hi b.hi (sym x.numbers.hi_is ∙ ap₂ upper_of lo hi_field ∙ y.numbers.hi_is) in
    let tol : a.tol ≡ b.tol =
    found_once size_of x.tolerance y.tolerance a.tol b.tol tol_field x.numbers.tol_is y.numbers.tol_is in
    λ k. record { group = group k; lo = lo k; hi = hi k; tol = tol k }

-- a field that is a tolerance is not none
tolerance_or_none : (field : List ℕ) (low high : ℤ) (tol : ℕ) → size_of field ≡ Some tol → AreWithin low high tol
    → IsNoTolerance low high field → ⊥
tolerance_or_none field low high tol is narrow (inl none) = none-some _ (sym none ∙ is)
tolerance_or_none field low high tol is narrow (inr wide) =
    wide.2 (subst (AreWithin low high) (some_is tol wide.0 (sym is ∙ wide.1)) narrow)

-- fields of an entry have no fault
no_fault : (group lo hi tolerance : List ℕ) (numbers : Numbers) (first : Fault)
    → AreNumbers group lo hi tolerance numbers → FieldsHaveFault group lo hi tolerance first → ⊥
no_fault group lo hi tolerance numbers fault.Fields right x = x
no_fault group lo hi tolerance numbers fault.Group right x = x right.group_is
no_fault group lo hi tolerance numbers fault.Lo right x = none-some _ (sym x.1 ∙ right.lo_is)
no_fault group lo hi tolerance numbers fault.Hi right x =
    let same : x.1 ≡ numbers.lo = some_is x.1 numbers.lo (sym x.2 ∙ right.lo_is) in
    none-some _ (sym x.3 ∙ ap (λ low. upper_of low hi) same ∙ right.hi_is)
no_fault group lo hi tolerance numbers fault.Tolerance right x =
    let low : x.1 ≡ numbers.lo = some_is x.1 numbers.lo (sym x.2 ∙ right.lo_is) in
    let high : x.3 ≡ numbers.hi =
    some_is x.3 numbers.hi (sym x.4 ∙ ap (λ l. upper_of l hi) low ∙ right.hi_is) in
    tolerance_or_none tolerance numbers.lo numbers.hi numbers.tol right.tol_is right.narrow
    (subst (λ h. IsNoTolerance numbers.lo h tolerance) high (subst (λ l. IsNoTolerance l x.3 tolerance) low x.5))

-- an upper end that is missing is not there
no_upper : (lo hi : List ℕ) (a b high : ℤ) → millionths_of lo ≡ Some a → millionths_of lo ≡ Some b
    → upper_of a hi ≡ None → upper_of b hi ≡ Some high → ⊥
no_upper lo hi a b high first second none there =
    let same : a ≡ b = some_is a b (sym first ∙ second) in
    none-some high (sym none ∙ ap (λ low. upper_of low hi) same ∙ there)

-- fields have one first fault
same_fault : (group lo hi tolerance : List ℕ) (a b : Fault) → FieldsHaveFault group lo hi tolerance a
    → FieldsHaveFault group lo hi tolerance b → a ≡ b
same_fault group lo hi tolerance fault.Fields b x y = absurd x
same_fault group lo hi tolerance fault.Group fault.Fields x y = absurd y
same_fault group lo hi tolerance fault.Group fault.Group x y = refl
same_fault group lo hi tolerance fault.Group fault.Lo x y = absurd (x y.0)
same_fault group lo hi tolerance fault.Group fault.Hi x y = absurd (x y.0)
same_fault group lo hi tolerance fault.Group fault.Tolerance x y = absurd (x y.0)
same_fault group lo hi tolerance fault.Lo fault.Fields x y = absurd y
same_fault group lo hi tolerance fault.Lo fault.Group x y = absurd (y x.0)
same_fault group lo hi tolerance fault.Lo fault.Lo x y = refl
same_fault group lo hi tolerance fault.Lo fault.Hi x y = absurd (none-some _ (sym x.1 ∙ y.2))
same_fault group lo hi tolerance fault.Lo fault.Tolerance x y = absurd (none-some _ (sym x.1 ∙ y.2))
same_fault group lo hi tolerance fault.Hi fault.Fields x y = absurd y
same_fault group lo hi tolerance fault.Hi fault.Group x y = absurd (y x.0)
same_fault group lo hi tolerance fault.Hi fault.Lo x y = absurd (none-some _ (sym y.1 ∙ x.2))
same_fault group lo hi tolerance fault.Hi fault.Hi x y = refl
same_fault group lo hi tolerance fault.Hi fault.Tolerance x y =
    absurd (no_upper lo hi x.1 y.1 y.3 x.2 y.2 x.3 y.4)
same_fault group lo hi tolerance fault.Tolerance fault.Fields x y = absurd y
same_fault group lo hi tolerance fault.Tolerance fault.Group x y = absurd (y x.0)
same_fault group lo hi tolerance fault.Tolerance fault.Lo x y = absurd (none-some _ (sym y.1 ∙ x.2))
same_fault group lo hi tolerance fault.Tolerance fault.Hi x y =
    absurd (no_upper lo hi y.1 x.1 x.3 y.2 x.2 y.3 x.4)
same_fault group lo hi tolerance fault.Tolerance fault.Tolerance x y = refl

-- the same of fields that are equal
fault_again : (group lo hi tolerance group' lo' hi' tolerance' : List ℕ) (a : Fault) → group ≡ group' → lo ≡ lo'
    → hi ≡ hi' → tolerance ≡ tolerance' → FieldsHaveFault group lo hi tolerance a
    → FieldsHaveFault group' lo' hi' tolerance' a
fault_again group lo hi tolerance group' lo' hi' tolerance' a e f g h x =
    subst (λ z. FieldsHaveFault group' lo' hi' z a) h
    (subst (λ z. FieldsHaveFault group' lo' z tolerance a) g
    (subst (λ z. FieldsHaveFault group' z hi tolerance a) f
    (subst (λ z. FieldsHaveFault z lo hi tolerance a) e x)))

-- a record has one first fault
one_fault : (fields : List (List ℕ)) (a b : Fault) → HasFault fields a → HasFault fields b → a ≡ b
one_fault fields a b (inl x) (inl y) = x.0 ∙ sym y.0
one_fault fields a b (inl x) (inr y) = absurd (x.1 (ap length y.four))
one_fault fields a b (inr x) (inl y) = absurd (y.1 (ap length x.four))
one_fault fields a b (inr x) (inr y) =
    same_fault y.group y.lo y.hi y.tolerance a b
    (fault_again x.group x.lo x.hi x.tolerance y.group y.lo y.hi y.tolerance a (cc (x.four, y.four))
    (cc (x.four, y.four)) (cc (x.four, y.four)) (cc (x.four, y.four)) x.fails) y.fails

-- a record that says an entry has none
entry_or_fault : (fields : List (List ℕ)) (entry : Entry) (a : Fault) → IsEntry fields entry → HasFault fields a → ⊥
entry_or_fault fields entry a x (inl y) = y.1 (ap length x.four)
entry_or_fault fields entry a x (inr y) =
    no_fault entry.group x.lo x.hi x.tolerance (numbers_of entry) a x.numbers
    (fault_again y.group y.lo y.hi y.tolerance entry.group x.lo x.hi x.tolerance a (cc (y.four, x.four))
    (cc (y.four, x.four)) (cc (y.four, x.four)) (cc (y.four, x.four)) y.fails)

-- a record is right or wrong
right_or_wrong : (fields : List (List ℕ)) (a : Fault) → IsRight fields → IsWrong fields a → ⊥
right_or_wrong fields a (inl is_head) wrong = wrong.0 is_head
right_or_wrong fields a (inr entry) wrong = entry_or_fault fields entry.0 a entry.1 wrong.1

-- ---- all records

-- records are one list of entries
one_entries : (records : List (List (List ℕ))) (a b : List Entry) → AreEntries records a → AreEntries records b
    → a ≡ b
one_entries [] a b x y = x ∙ sym y
one_entries (r ∷ records) a b (inl x) (inl y) = one_entries records a b x.1 y.1
one_entries (r ∷ records) a b (inl x) (inr y) = absurd (head_is_no_entry r y.0 x.0 y.2)
one_entries (r ∷ records) a b (inr x) (inl y) = absurd (head_is_no_entry r x.0 y.0 x.2)
one_entries (r ∷ records) a b (inr x) (inr y) =
    x.3
    ∙ ap₂ (λ first rest. first ∷ rest) (one_entry r x.0 y.0 x.2 y.2) (one_entries records x.1 y.1 x.4 y.4)
    ∙ sym y.3

-- no record before the first wrong one is wrong
not_before : (records : List (List (List ℕ))) (row part other other_part : ℕ) → IsFirstFault records row part
    → IsFirstFault records other other_part → row < other → ⊥
not_before records row part other other_part x y earlier =
    right_or_wrong (record_at records row) x.first (y.before row earlier) x.wrong

-- records have one first fault
one_first_fault : (records : List (List (List ℕ))) (row part other other_part : ℕ) → IsFirstFault records row part
    → IsFirstFault records other other_part → (row ≡ other) × (part ≡ other_part)
one_first_fault records row part other other_part x y =
    let not_earlier = not_before records row part other other_part x y in
    let not_later = not_before records other other_part row part y x in
    let same : row ≡ other = grind (arith, not_earlier, not_later) in
    let fault = one_fault (record_at records row) x.first y.first x.wrong.1
    (subst (λ k. HasFault (record_at records k) y.first) (sym same) y.wrong.1) in
    (same, x.part_is ∙ ap part_of fault ∙ sym y.part_is)

-- ---- texts

-- a text has entries or a wrong row
entries_or_wrong : (text : List ℕ) (entries : List Entry) (row part : ℕ) → AreEntriesIn text entries
    → IsFirstWrongIn text row part → ⊥
entries_or_wrong text entries row part x y =
    by (subst (λ records. IsFirstWrong records row part) (one_records text y.0 x.0 y.1 x.1) y.2)
  where
    by : IsFirstWrong x.0 row part → ⊥
    by (inl none) = none.2 x.2
    by (inr wrong) = right_or_wrong (record_at x.0 row) wrong.1.first
        (right_at x.0 entries x.3 row wrong.1.within) wrong.1.wrong

-- one list of entries
one_text_entries : (text : List ℕ) (a b : List Entry) → AreEntriesIn text a → AreEntriesIn text b → a ≡ b
one_text_entries text a b x y =
    one_entries y.0 a b (subst (λ records. AreEntries records a) (one_records text x.0 y.0 x.1 y.1) x.3) y.3

-- and one first wrong row, with one first wrong part
one_wrong_row : (text : List ℕ) (row part other other_part : ℕ) → IsFirstWrongIn text row part
    → IsFirstWrongIn text other other_part → (row ≡ other) × (part ≡ other_part)
one_wrong_row text row part other other_part x y =
    let same = one_records text y.0 x.0 y.1 x.1 in
    by x.2 (subst (λ records. IsFirstWrong records other other_part) same y.2)
  where
    by : IsFirstWrong x.0 row part → IsFirstWrong x.0 other other_part → (row ≡ other) × (part ≡ other_part)
    by (inl a) (inl b) = (a.0 ∙ sym b.0, a.1 ∙ sym b.1)
    by (inl a) (inr b) = absurd (a.2 b.0)
    by (inr a) (inl b) = absurd (b.2 a.0)
    by (inr a) (inr b) = one_first_fault x.0 row part other other_part a.1 b.1

-- the same of each text
pub tables_have_one_reading : TablesHaveOneReading
tables_have_one_reading text = record {
  not_both = entries_or_wrong text;
  one_list = one_text_entries text;
  one_wrong = one_wrong_row text;
}
