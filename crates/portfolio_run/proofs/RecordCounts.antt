-- How many records a CSV text has.
use Rattle.std.proofs.Common.{◌≡◌, ℕ, ◌+◌, ◌<◌, ◌≤◌, Bool, true, false, List, [], ◌∷◌, length, Some, refl}
use Rattle.std.proofs.Common.{ap, arith, inl, inr}
use Rattle.std.specs.Prelude.{◌⊎◌}
use Rattle.csv.specs.declared.parser.Config.{Config}
use Rattle.csv.specs.declared.parser.State.{State}
use Rattle.csv.specs.declared.parser.State.TheVariants as st
use Rattle.csv.specs.Machine.{Read, next_record, ends_at_end, is_end, step, fields_after, field_after}
use Rattle.csv.specs.Reading.{Reached, strip_bom, is_bom}
use Rattle.claim_audit.specs.Readings.{AreRecordsOf}

-- a read takes a byte, or it was at the end of the text
abbrev pub Takes : (xs : List ℕ) → Read → Type 0
Takes xs read = (length read.2 < length xs) ⊎ ((read.1 ≡ st.StartRecord) × (read.2 ≡ []))

takes_more : (c : ℕ) (xs : List ℕ) (read : Read) → Takes xs read → Takes (c ∷ xs) read
takes_more c xs read takes = elim takes [ inl less ↦ inl (omega (arith, less)) | inr end ↦ inr end ]

read_takes : (cfg : Config) (s : State) (fields : List (List ℕ)) (field xs : List ℕ) (read : Read)
    → next_record cfg s fields field xs ≡ Some read → Takes xs read
unfolding next_record
read_takes cfg s fields field [] read is = by (ends_at_end s) refl
  where
    by : (ends : Bool) → ends_at_end s ≡ ends → Takes [] read
    by true e = let at_end = rw e at is in inr (cc, cc)
    by false e = absurd (let at_end = rw e at is in cc)
read_takes cfg s fields field (c ∷ xs) read is =
    by (is_end (step cfg s c).1) refl (λ again. read_takes cfg (step cfg s c).0 _ _ xs read again)
  where
    by : (ends : Bool) → is_end (step cfg s c).1 ≡ ends
        → (next_record cfg (step cfg s c).0 (fields_after (step cfg s c).1 fields field)
        (field_after (step cfg s c).1 c field) xs ≡ Some read → Takes xs read)
        → Takes (c ∷ xs) read
    by true e rest = let at_end = rw e at is in inl (let left : read.2 ≡ xs = cc in omega (arith, ap length left))
    by false e rest = takes_more c xs read (rest (rw e at is))

-- each record but perhaps the last one takes a byte
records_take : (cfg : Config) (s : State) (xs : List ℕ) (rows : List (List (List ℕ))) (end : State) (ys : List ℕ)
    → Reached cfg s xs rows end ys → length rows ≤ length xs + 1
unfolding Reached next_record
records_take cfg s xs [] end ys reached = omega arith
records_take cfg s xs (row ∷ []) end ys reached = omega arith
records_take cfg s xs (row ∷ next ∷ rows) end ys reached =
    elim (read_takes cfg s [] [] xs reached.0 reached.1) [
      | inl less ↦
          let rest = records_take cfg reached.0.1 reached.0.2 (next ∷ rows) end ys reached.3 in
          omega (arith, less, rest)
      | inr at_end ↦ absurd (let none = rw (at_end.0, at_end.1) at reached.3.1 in cc)
    ]

-- a text is no longer without its byte order mark
unmarked : (mark : Bool) (a b c : ℕ) (xs : List ℕ) → is_bom a b c ≡ mark
    → length (strip_bom (a ∷ b ∷ c ∷ xs)) ≤ length (a ∷ b ∷ c ∷ xs)
unfolding strip_bom
unmarked true a b c xs e = rw e (omega arith)
unmarked false a b c xs e = rw e (omega arith)

stripped : (xs : List ℕ) → length (strip_bom xs) ≤ length xs
unfolding strip_bom
stripped [] = omega arith
stripped (a ∷ []) = omega arith
stripped (a ∷ b ∷ []) = omega arith
stripped (a ∷ b ∷ c ∷ xs) = unmarked (is_bom a b c) a b c xs refl

-- a text has at most one record more than bytes
pub records_are_few : (text : List ℕ) (records : List (List (List ℕ))) → AreRecordsOf text records
    → length records ≤ length text + 1
records_are_few text records are =
    omega (arith, records_take _ _ (strip_bom text) records are.0 are.1 are.2, stripped text)
