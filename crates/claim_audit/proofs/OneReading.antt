-- A CSV text has one list of records, so it has claims or a first wrong row, and not both.
use Rattle.std.proofs.Common.{◌≡◌, ℕ, ◌+◌, ◌-◌, ◌<◌, List, [], ◌∷◌, length, None, refl, sym, ap, subst, ◌∙◌, arith}
use Rattle.std.proofs.Common.{inl, inr}
use Rattle.std.specs.Prelude.{IsSome}
use Rattle.std.proofs.lemmas.Bool.{false≢true}
use Rattle.std.proofs.lemmas.Option.{none-some, slice_get_within, get_or_from_slice_get}
use Rattle.csv.specs.Machine.{Read, next_record}
use Rattle.csv.specs.Reading.{default_config, strip_bom, Reached}
use Rattle.csv.specs.declared.parser.Config.{Config}
use Rattle.csv.specs.declared.parser.State.{State}
use Rattle.csv.specs.declared.parser.State.TheVariants as st
use Rattle.claim_audit.specs.declared.claims.Claimed.{Claimed}
use Rattle.claim_audit.specs.declared.claims.Fault.{Fault}
use Rattle.claim_audit.specs.declared.claims.Fault.TheVariants as fault
use Rattle.claim_audit.specs.Claims.{part_of, FieldsSayClaim, FieldsHaveFault, IsClaim, HasFault}
use Rattle.claim_audit.specs.Readings.{AreRecordsOf, AreClaims, AreClaimsIn, IsFirstFault, IsFirstWrong, IsFirstWrongIn}
use Rattle.claim_audit.specs.Readings.{record_at, claim_at, TextsHaveOneReading}

-- what is reached record by record from a state and a text
one_list : (cfg : Config) (s : State) (xs : List ℕ) (a b : List (List (List ℕ))) (s1 s2 : State) (ys zs : List ℕ)
    → Reached cfg s xs a s1 ys → next_record cfg s1 [] [] ys ≡ None
    → Reached cfg s xs b s2 zs → next_record cfg s2 [] [] zs ≡ None → a ≡ b
unfolding Reached
one_list cfg s xs [] [] s1 s2 ys zs x x_end y y_end = refl
one_list cfg s xs [] (r ∷ b) s1 s2 ys zs x x_end y y_end =
    absurd (none-some y.0 (sym (rw (x.0, x.1) x_end) ∙ y.1))
one_list cfg s xs (r ∷ a) [] s1 s2 ys zs x x_end y y_end =
    absurd (none-some x.0 (sym (rw (y.0, y.1) y_end) ∙ x.1))
one_list cfg s xs (r ∷ a) (q ∷ b) s1 s2 ys zs x x_end y y_end =
    let same : x.0 ≡ y.0 = cc (x.1, y.1) in
    let rest : a ≡ b =
    one_list cfg x.0.1 x.0.2 a b s1 s2 ys zs x.3 x_end
    (subst (λ (p : Read). Reached cfg p.1 p.2 b s2 zs) (sym same) y.3) y_end in
    cc (x.2, y.2, same, rest)

-- a text has one list of records
pub one_records : (text : List ℕ) (a b : List (List (List ℕ))) → AreRecordsOf text a → AreRecordsOf text b → a ≡ b
one_records text a b x y =
    one_list default_config st.StartRecord (strip_bom text) a b x.0 y.0 x.1 y.1 x.2 x.3 y.2 y.3

-- ---- one record

-- three fields that say a claim have no fault
no_faulty_field : (months : ℕ) (names : List (List ℕ)) (month state reserve : List ℕ) (claimed : Claimed)
    (first : Fault) → FieldsSayClaim months names month state reserve claimed
    → FieldsHaveFault months names month state reserve first → ⊥
no_faulty_field months names month state reserve claimed fault.Count says fails = fails
no_faulty_field months names month state reserve claimed fault.Month says fails =
    none-some _ (sym fails ∙ says.month_is)
no_faulty_field months names month state reserve claimed fault.State says fails =
    fails.1 claimed.state state (slice_get_within names claimed.state state says.state_is)
    (get_or_from_slice_get names claimed.state state state says.state_is)
no_faulty_field months names month state reserve claimed fault.Reserve says fails =
    none-some _ (sym fails.2 ∙ says.claim_is)

-- a record that has three fields has the length three
has_three : (fields : List (List ℕ)) (month state reserve : List ℕ) → fields ≡ month ∷ state ∷ reserve ∷ []
    → length fields ≡ 3
has_three fields month state reserve three = rw three (omega arith)

-- a record that is a claim has no fault
no_fault : (months : ℕ) (names fields : List (List ℕ)) (claimed : Claimed) (first : Fault)
    → IsClaim months names fields claimed → HasFault months names fields first → ⊥
no_fault months names fields claimed first claim (inl count) =
    count.1 (has_three fields claim.month claim.state claim.reserve claim.three)
no_fault months names fields claimed first claim (inr faulty) =
    let month : faulty.month ≡ claim.month = cc (claim.three, faulty.three) in
    let state : faulty.state ≡ claim.state = cc (claim.three, faulty.three) in
    let reserve : faulty.reserve ≡ claim.reserve = cc (claim.three, faulty.three) in
    no_faulty_field months names claim.month claim.state claim.reserve claimed first claim.says
    (subst (λ r. FieldsHaveFault months names claim.month claim.state r first) reserve
    (subst (λ s. FieldsHaveFault months names claim.month s faulty.reserve first) state
    (subst (λ m. FieldsHaveFault months names m faulty.state faulty.reserve first) month faulty.fails)))

-- three fields have one first fault
one_field_fault : (months : ℕ) (names : List (List ℕ)) (month state reserve : List ℕ) (a b : Fault)
    → FieldsHaveFault months names month state reserve a → FieldsHaveFault months names month state reserve b → a ≡ b
one_field_fault months names month state reserve fault.Count b x y = absurd x
one_field_fault months names month state reserve fault.Month fault.Count x y = absurd y
one_field_fault months names month state reserve fault.Month fault.Month x y = refl
one_field_fault months names month state reserve fault.Month fault.State x y =
    absurd (false≢true (subst IsSome x y.0))
one_field_fault months names month state reserve fault.Month fault.Reserve x y =
    absurd (false≢true (subst IsSome x y.0))
one_field_fault months names month state reserve fault.State fault.Count x y = absurd y
one_field_fault months names month state reserve fault.State fault.Month x y =
    absurd (false≢true (subst IsSome y x.0))
one_field_fault months names month state reserve fault.State fault.State x y = refl
one_field_fault months names month state reserve fault.State fault.Reserve x y = absurd (y.1 x.1)
one_field_fault months names month state reserve fault.Reserve fault.Count x y = absurd y
one_field_fault months names month state reserve fault.Reserve fault.Month x y =
    absurd (false≢true (subst IsSome y x.0))
one_field_fault months names month state reserve fault.Reserve fault.State x y = absurd (x.1 y.1)
one_field_fault months names month state reserve fault.Reserve fault.Reserve x y = refl

-- a record has one first fault
one_fault : (months : ℕ) (names fields : List (List ℕ)) (a b : Fault) → HasFault months names fields a
    → HasFault months names fields b → a ≡ b
one_fault months names fields a b (inl x) (inl y) = x.0 ∙ sym y.0
one_fault months names fields a b (inl x) (inr y) =
    absurd (x.1 (has_three fields y.month y.state y.reserve y.three))
one_fault months names fields a b (inr x) (inl y) =
    absurd (y.1 (has_three fields x.month x.state x.reserve x.three))
one_fault months names fields a b (inr x) (inr y) =
    let month : y.month ≡ x.month = cc (x.three, y.three) in
    let state : y.state ≡ x.state = cc (x.three, y.three) in
    let reserve : y.reserve ≡ x.reserve = cc (x.three, y.three) in
    one_field_fault months names x.month x.state x.reserve a b x.fails
    (subst (λ r. FieldsHaveFault months names x.month x.state r b) reserve
    (subst (λ s. FieldsHaveFault months names x.month s y.reserve b) state
    (subst (λ m. FieldsHaveFault months names m y.state y.reserve b) month y.fails)))

-- ---- all records

-- claims have no first fault
no_first_fault : (months : ℕ) (names : List (List ℕ)) (records : List (List (List ℕ))) (claims : List Claimed)
    (row part : ℕ) → AreClaims months names records claims → IsFirstFault months names records row part → ⊥
no_first_fault months names records claims row part are wrong =
    let back : row - 1 + 1 ≡ row = omega (arith, wrong.some) in
    let here : row - 1 < length claims = omega (arith, are.count, wrong.some, wrong.within) in
    no_fault months names (record_at records row) (claim_at claims (row - 1)) wrong.first
    (subst (λ k. IsClaim months names (record_at records k) (claim_at claims (row - 1))) back
    (are.each (row - 1) here)) wrong.fault

-- no record before the first faulty one is faulty
not_before : (months : ℕ) (names : List (List ℕ)) (records : List (List (List ℕ))) (row part other other_part : ℕ)
    → IsFirstFault months names records row part → IsFirstFault months names records other other_part
    → row < other → ⊥
not_before months names records row part other other_part x y earlier =
    let claim = y.before row x.some earlier in
    no_fault months names (record_at records row) claim.0 x.first claim.1 x.fault

-- records have one first fault
one_first_fault : (months : ℕ) (names : List (List ℕ)) (records : List (List (List ℕ)))
    (row part other other_part : ℕ) → IsFirstFault months names records row part
    → IsFirstFault months names records other other_part → (row ≡ other) × (part ≡ other_part)
one_first_fault months names records row part other other_part x y =
    let not_earlier = not_before months names records row part other other_part x y in
    let not_later = not_before months names records other other_part row part y x in
    let same : row ≡ other = grind (arith, not_earlier, not_later) in
    let fault = one_fault months names (record_at records row) x.first y.first x.fault
    (subst (λ k. HasFault months names (record_at records k) y.first) (sym same) y.fault) in
    (same, x.part_is ∙ ap part_of fault ∙ sym y.part_is)

-- ---- texts

-- a text has claims or a wrong row, and not both
claims_or_wrong_row : (months : ℕ) (names : List (List ℕ)) (text : List ℕ) (claims : List Claimed)
    (row part : ℕ) → AreClaimsIn months names text claims → IsFirstWrongIn months names text row part → ⊥
claims_or_wrong_row months names text claims row part x y =
    by (subst (λ records. IsFirstWrong months names records row part) (one_records text y.0 x.0 y.1 x.1) y.2)
  where
    by : IsFirstWrong months names x.0 row part → ⊥
    by (inl none) = none.2 x.2
    by (inr wrong) = no_first_fault months names x.0 claims row part x.3 wrong.1

-- and one first wrong row, with one first wrong part
one_wrong_row : (months : ℕ) (names : List (List ℕ)) (text : List ℕ) (row part other other_part : ℕ)
    → IsFirstWrongIn months names text row part → IsFirstWrongIn months names text other other_part
    → (row ≡ other) × (part ≡ other_part)
one_wrong_row months names text row part other other_part x y =
    let same = one_records text y.0 x.0 y.1 x.1 in
    by x.2 (subst (λ records. IsFirstWrong months names records other other_part) same y.2)
  where
    by : IsFirstWrong months names x.0 row part → IsFirstWrong months names x.0 other other_part
        → (row ≡ other) × (part ≡ other_part)
    by (inl a) (inl b) = (a.0 ∙ sym b.0, a.1 ∙ sym b.1)
    by (inl a) (inr b) = absurd (a.2 b.0)
    by (inr a) (inl b) = absurd (b.2 a.0)
    by (inr a) (inr b) = one_first_fault months names x.0 row part other other_part a.1 b.1

pub texts_have_one_reading : TextsHaveOneReading
texts_have_one_reading months names text =
    record { not_both = claims_or_wrong_row months names text; one_wrong = one_wrong_row months names text }
