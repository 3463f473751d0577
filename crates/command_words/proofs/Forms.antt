-- The first word says in which form words are read, if they have a reading.
use Rattle.std.proofs.Common.{◌≡◌, ℕ, List, [], ◌∷◌, refl, ap, sym, ◌∙◌, subst, drop, Bool, true, false, not, bytes_eq}
use Rattle.std.proofs.lemmas.Bool.{not-true}
use Rattle.std.proofs.lemmas.Slice.Eq.{bytes_eq-Decides}
use Rattle.std.specs.Prelude.{if◌then◌else◌, codes, ⊤}
use Rattle.command_words.specs.declared.form.Form.{Form}
use Rattle.command_words.specs.declared.form.Form.TheVariants.{Report, Csv, Json, Explained}
use Rattle.command_words.specs.Readings.{Request, Check, Value, Reserves, Occupancy, Moments, Premium, Generate}
use Rattle.command_words.specs.Readings.{Load, Upgrade, Join, Compare, Audit, Portfolio, Help, Version, Shift, Multiply}
use Rattle.command_words.specs.Readings.{Charge, Merge, AreReadAs}
use Rattle.command_words.specs.Forms.{AreReadIn, HaveReading, ReadingsAreOne, behind_form, can_be_in, form_named}
use Rattle.command_words.specs.Forms.{form_of, is_help}
use Rattle.command_words.proofs.Readings.{commands_are_one}

-- no command begins with a form's word
report : (words : List (List ℕ)) (a : Request) → AreReadAs words a → Report ≡ form_of words
report words (Check file) a = rw (ap form_of a.are) refl
report words (Value file) a = rw (ap form_of a.are) refl
report words (Reserves file every) a = rw (ap form_of a.are) refl
report words (Occupancy file every) a = rw (ap form_of a.are) refl
report words (Moments file every) a = rw (ap form_of a.are) refl
report words (Premium file) a = rw (ap form_of a.are) refl
report words (Generate seed) a = rw (ap form_of a.are) refl
report words (Load seed) a = rw (ap form_of a.are) refl
report words (Upgrade file) a = rw (ap form_of a.are) refl
report words (Join first second) a = rw (ap form_of a.are) refl
report words (Compare first second every) a = rw (ap form_of a.are) refl
report words (Audit file claims eps) a = rw (ap form_of a.are) refl
report words (Portfolio file) a = rw (ap form_of a.are) refl
report words Help a = rw (ap form_of a) refl
report words Version a = rw (ap form_of a) refl
report words (Shift file rate) a = rw (ap form_of a.are) refl
report words (Multiply file from to factor) a = rw (ap form_of a.are) refl
report words (Charge file amount) a = rw (ap form_of a.are) refl
report words (Merge file) a = rw (ap form_of a.are) refl

-- words are read in the form that they begin with
formed : (words : List (List ℕ)) (f : Form) (a : Request) → AreReadIn words f a → f ≡ form_of words
formed words Report a read = report words a read
formed words Csv a read = rw (ap form_of read.0.are) refl
formed words Json a read = rw (ap form_of read.0.are) refl
formed words Explained a read = rw (ap form_of read.0.are) refl

-- the command stands behind the form's word
behind : (words : List (List ℕ)) (f : Form) (a : Request) → AreReadIn words f a → AreReadAs (behind_form f words) a
behind words Report a read = read
behind words Csv a read = subst (λ ws. AreReadAs ws a) (sym (ap (drop 1) read.0.are)) read.0.reads
behind words Json a read = subst (λ ws. AreReadAs ws a) (sym (ap (drop 1) read.0.are)) read.0.reads
behind words Explained a read = subst (λ ws. AreReadAs ws a) (sym (ap (drop 1) read.0.are)) read.0.reads

-- and its answer can be printed in the form
can_be : (words : List (List ℕ)) (f : Form) (a : Request) → AreReadIn words f a → can_be_in f a ≡ true
can_be words Report a read = refl
can_be words Csv a read = read.1
can_be words Json a read = read.1
can_be words Explained a read = ap not read.1

pub readings_are_one : ReadingsAreOne
readings_are_one words f g a b x y =
    let one : f ≡ g = formed words f a x ∙ sym (formed words g b y) in
    let other : AreReadAs (behind_form f words) b =
    subst (λ form. AreReadAs (behind_form form words) b) (sym one) (behind words g b y) in
    (one, commands_are_one (behind_form f words) a b (behind words f a x) other)

-- of words that have a reading: what stands behind the form that they begin with
pub command_of_reading : (words : List (List ℕ)) → HaveReading words
    → (request : Request) × AreReadAs (behind_form (form_of words) words) request
    × (can_be_in (form_of words) request ≡ true)
command_of_reading words read =
    let form = formed words read.0 read.1 read.2 in (
      read.1,
      subst (λ f. AreReadAs (behind_form f words) read.1) form (behind words read.0 read.1 read.2),
      subst (λ f. can_be_in f read.1 ≡ true) form (can_be words read.0 read.1 read.2),
    )

-- the word is the form's own, if it has one
abbrev IsNamed : List ℕ → Form → Type 0
IsNamed word Report = ⊤
IsNamed word Csv = word ≡ codes "csv"
IsNamed word Json = word ≡ codes "json"
IsNamed word Explained = word ≡ codes "explain"

by_tests : (word : List ℕ) (csv json explained : Bool) → (csv ≡ true → word ≡ codes "csv")
    → (json ≡ true → word ≡ codes "json") → (explained ≡ true → word ≡ codes "explain")
    → IsNamed word (if csv then Csv else (if json then Json else (if explained then Explained else Report)))
by_tests word true json explained x y z = x refl
by_tests word false true explained x y z = y refl
by_tests word false false true x y z = z refl
by_tests word false false false x y z = tt

named : (word : List ℕ) → IsNamed word (form_named word)
named word =
    by_tests word (bytes_eq word (codes "csv")) (bytes_eq word (codes "json")) (bytes_eq word (codes "explain"))
    (bytes_eq-Decides word (codes "csv")).0 (bytes_eq-Decides word (codes "json")).0
    (bytes_eq-Decides word (codes "explain")).0

by_form : (word : List ℕ) (words : List (List ℕ)) (f : Form) (a : Request) → IsNamed word f
    → AreReadAs (behind_form f (word ∷ words)) a → can_be_in f a ≡ true → AreReadIn (word ∷ words) f a
by_form word words Report a is read can = read
by_form word words Csv a is read can =
    (record { behind = words; are = ap (λ w. w ∷ words) is; reads = read }, can)
by_form word words Json a is read can =
    (record { behind = words; are = ap (λ w. w ∷ words) is; reads = read }, can)
by_form word words Explained a is read can =
    (record { behind = words; are = ap (λ w. w ∷ words) is; reads = read }, not-true (is_help a) can)

-- a command behind the form that the words begin with is their reading
pub reading_of_command : (words : List (List ℕ)) (a : Request) → AreReadAs (behind_form (form_of words) words) a
    → can_be_in (form_of words) a ≡ true → AreReadIn words (form_of words) a
reading_of_command [] a read can = read
reading_of_command (word ∷ words) a read can = by_form word words (form_named word) a (named word) read can
