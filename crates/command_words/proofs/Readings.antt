-- Words have at most one reading: a request can be made again from the words, by the command's first three letters.
use Rattle.std.proofs.Common.{◌≡◌, ℕ, ◌+◌, ◌*◌, ◌<◌, ◌^◌, List, [], decimal, refl, ap, sym, ◌∙◌, arith, get_or}
use Rattle.std.proofs.Common.{length, lit<}
use Rattle.std.specs.Prelude.{◌==◌, if◌then◌else◌, ℤ, pos, Option, Some, None}
use Rattle.std.proofs.lemmas.Fmt.{decimal_injective}
use Rattle.decimal_in.specs.declared.written.Decimal.{Decimal}
use Rattle.decimal_in.specs.Decimals.{signed_whole_of, unsigned_millionths_of}
use Rattle.decimal_in.specs.Places.{decimal_of, unsigned_decimal_of}
use Rattle.command_words.specs.Readings.{Request, Check, Value, Reserves, Occupancy, Moments, Premium, Generate}
use Rattle.command_words.specs.Readings.{Load, Upgrade, Join, Compare, Audit, Portfolio, Help, Version, Shift, Multiply}
use Rattle.command_words.specs.Readings.{Charge, Merge, AreReadAs, CommandsAreOne}

-- a word by its place, and the first three letters of the first word, as one number
abbrev word-at : ℕ → List (List ℕ) → List ℕ
word-at i words = get_or words i []

abbrev letters : List (List ℕ) → ℕ
letters words =
    1000000 * get_or (word-at 0 words) 0 0 + 1000 * get_or (word-at 0 words) 1 0 + get_or (word-at 0 words) 2 0

-- the number that a word stands for, if any
abbrev number-in : Option ℤ → ℤ
number-in None = pos 0
number-in (Some number) = number

-- and the decimal
abbrev decimal-in : Option Decimal → Decimal
decimal-in None = record { units = pos 0; places = 0 }
decimal-in (Some decimal) = decimal

-- the request with these letters, words and number
abbrev make : ℕ → List (List ℕ) → ℕ → Request
make first words number =
    if first == 99104101 then Check (word-at 1 words)
    else (if first == 118097108 then Value (word-at 1 words)
    else (if first == 112114101 then Premium (word-at 1 words)
    else (if first == 114101115 then Reserves (word-at 1 words) number
    else (if first == 111099099 then Occupancy (word-at 1 words) number
    else (if first == 109111109 then Moments (word-at 1 words) number
    else (if first == 99111109 then Compare (word-at 1 words) (word-at 2 words) number
    else (if first == 117112103 then Upgrade (word-at 1 words)
    else (if first == 106111105 then Join (word-at 1 words) (word-at 2 words)
    else (if first == 108111097 then Load number
    else (if first == 97117100 then Audit (word-at 1 words) (word-at 2 words)
    (number-in (unsigned_millionths_of (word-at 3 words)))
    else (if first == 112111114 then Portfolio (word-at 1 words)
    else (if first == 104101108 then Help
    else (if first == 118101114 then Version
    else (if first == 115104105 then Shift (word-at 1 words) (decimal-in (decimal_of (word-at 2 words)))
    else (if first == 109117108 then Multiply (word-at 1 words) (word-at 2 words) (word-at 3 words)
    (decimal-in (unsigned_decimal_of (word-at 4 words)))
    else (if first == 99104097 then Charge (word-at 1 words) (number-in (signed_whole_of 18 (word-at 2 words)))
    else (if first == 109101114 then Merge (word-at 1 words)
    else Generate number)))))))))))))))))

-- where its number stands: the second word where there is a seed, the third or fourth of requests at dates, and else
-- nowhere
abbrev text : ℕ → List (List ℕ) → List ℕ
text first words =
    if first == 114101115 then word-at 2 words
    else (if first == 111099099 then word-at 2 words
    else (if first == 109111109 then word-at 2 words
    else (if first == 103101110 then word-at 1 words
    else (if first == 108111097 then word-at 1 words
    else (if first == 99111109 then word-at 3 words
    else decimal 0)))))

abbrev number-of : Request → ℕ
number-of (Check file) = 0
number-of (Value file) = 0
number-of (Reserves file every) = every
number-of (Occupancy file every) = every
number-of (Moments file every) = every
number-of (Premium file) = 0
number-of (Generate seed) = seed
number-of (Load seed) = seed
number-of (Upgrade file) = 0
number-of (Join first second) = 0
number-of (Compare first second every) = every
number-of (Audit file claims eps) = 0
number-of (Portfolio file) = 0
number-of Help = 0
number-of Version = 0
number-of (Shift file rate) = 0
number-of (Multiply file from to factor) = 0
number-of (Charge file amount) = 0
number-of (Merge file) = 0

made : (words : List (List ℕ)) (a : Request) → AreReadAs words a → a ≡ make (letters words) words (number-of a)
made words (Check file) a = rw (ap letters a.are, ap (word-at 1) a.are) refl
made words (Value file) a = rw (ap letters a.are, ap (word-at 1) a.are) refl
made words (Reserves file every) a = rw (ap letters a.are, ap (word-at 1) a.are) refl
made words (Occupancy file every) a = rw (ap letters a.are, ap (word-at 1) a.are) refl
made words (Moments file every) a = rw (ap letters a.are, ap (word-at 1) a.are) refl
made words (Premium file) a = rw (ap letters a.are, ap (word-at 1) a.are) refl
made words (Generate seed) a = rw (ap letters a.are) refl
made words (Load seed) a = rw (ap letters a.are) refl
made words (Upgrade file) a = rw (ap letters a.are, ap (word-at 1) a.are) refl
made words (Join first second) a = rw (ap letters a.are, ap (word-at 1) a.are, ap (word-at 2) a.are) refl
made words (Compare first second every) a = rw (ap letters a.are, ap (word-at 1) a.are, ap (word-at 2) a.are) refl
made words (Audit file claims eps) a =
    rw (ap letters a.are, ap (word-at 1) a.are, ap (word-at 2) a.are, ap (word-at 3) a.are, a.reads) refl
made words (Portfolio file) a = rw (ap letters a.are, ap (word-at 1) a.are) refl
made words Help a = rw (ap letters a) refl
made words Version a = rw (ap letters a) refl
made words (Shift file rate) a = rw (ap letters a.are, ap (word-at 1) a.are, ap (word-at 2) a.are, a.reads) refl
made words (Multiply file from to factor) a =
    rw (
      ap letters a.are,
      ap (word-at 1) a.are,
      ap (word-at 2) a.are,
      ap (word-at 3) a.are,
      ap (word-at 4) a.are,
      a.reads,
    ) refl
made words (Charge file amount) a = rw (ap letters a.are, ap (word-at 1) a.are, ap (word-at 2) a.are, a.reads) refl
made words (Merge file) a = rw (ap letters a.are, ap (word-at 1) a.are) refl

written : (words : List (List ℕ)) (a : Request) → AreReadAs words a
    → decimal (number-of a) ≡ text (letters words) words
written words (Check file) a = rw (ap letters a.are) refl
written words (Value file) a = rw (ap letters a.are) refl
written words (Reserves file every) a = rw (ap letters a.are) (sym (ap (word-at 2) a.are))
written words (Occupancy file every) a = rw (ap letters a.are) (sym (ap (word-at 2) a.are))
written words (Moments file every) a = rw (ap letters a.are) (sym (ap (word-at 2) a.are))
written words (Premium file) a = rw (ap letters a.are) refl
written words (Generate seed) a = rw (ap letters a.are) (sym (ap (word-at 1) a.are))
written words (Load seed) a = rw (ap letters a.are) (sym (ap (word-at 1) a.are))
written words (Upgrade file) a = rw (ap letters a.are) refl
written words (Join first second) a = rw (ap letters a.are) refl
written words (Compare first second every) a = rw (ap letters a.are) (sym (ap (word-at 3) a.are))
written words (Audit file claims eps) a = rw (ap letters a.are) refl
written words (Portfolio file) a = rw (ap letters a.are) refl
written words Help a = rw (ap letters a) refl
written words Version a = rw (ap letters a) refl
written words (Shift file rate) a = rw (ap letters a.are) refl
written words (Multiply file from to factor) a = rw (ap letters a.are) refl
written words (Charge file amount) a = rw (ap letters a.are) refl
written words (Merge file) a = rw (ap letters a.are) refl

fits : (words : List (List ℕ)) (a : Request) → AreReadAs words a → number-of a < 2 ^ 64
fits words (Check file) a = lit< tt
fits words (Value file) a = lit< tt
fits words (Reserves file every) a = omega (arith, a.most)
fits words (Occupancy file every) a = omega (arith, a.most)
fits words (Moments file every) a = omega (arith, a.most)
fits words (Premium file) a = lit< tt
fits words (Generate seed) a = a.fits
fits words (Load seed) a = a.fits
fits words (Upgrade file) a = lit< tt
fits words (Join first second) a = lit< tt
fits words (Compare first second every) a = omega (arith, a.most)
fits words (Audit file claims eps) a = lit< tt
fits words (Portfolio file) a = lit< tt
fits words Help a = lit< tt
fits words Version a = lit< tt
fits words (Shift file rate) a = lit< tt
fits words (Multiply file from to factor) a = lit< tt
fits words (Charge file amount) a = lit< tt
fits words (Merge file) a = lit< tt

pub commands_are_one : CommandsAreOne
commands_are_one words a b x y =
    let numbers : number-of a ≡ number-of b =
    decimal_injective _ _ (fits words a x) (fits words b y) (written words a x ∙ sym (written words b y)) in
    made words a x ∙ ap (make (letters words) words) numbers ∙ sym (made words b y)

-- a command has one to five words
pub has_words : (words : List (List ℕ)) (a : Request) → AreReadAs words a
    → (0 < length words) × (length words < 6)
has_words words (Check file) a = (omega (arith, ap length a.are), omega (arith, ap length a.are))
has_words words (Value file) a = (omega (arith, ap length a.are), omega (arith, ap length a.are))
has_words words (Reserves file every) a = (omega (arith, ap length a.are), omega (arith, ap length a.are))
has_words words (Occupancy file every) a = (omega (arith, ap length a.are), omega (arith, ap length a.are))
has_words words (Moments file every) a = (omega (arith, ap length a.are), omega (arith, ap length a.are))
has_words words (Premium file) a = (omega (arith, ap length a.are), omega (arith, ap length a.are))
has_words words (Generate seed) a = (omega (arith, ap length a.are), omega (arith, ap length a.are))
has_words words (Load seed) a = (omega (arith, ap length a.are), omega (arith, ap length a.are))
has_words words (Upgrade file) a = (omega (arith, ap length a.are), omega (arith, ap length a.are))
has_words words (Join first second) a = (omega (arith, ap length a.are), omega (arith, ap length a.are))
has_words words (Compare first second every) a = (omega (arith, ap length a.are), omega (arith, ap length a.are))
has_words words (Audit file claims eps) a = (omega (arith, ap length a.are), omega (arith, ap length a.are))
has_words words (Portfolio file) a = (omega (arith, ap length a.are), omega (arith, ap length a.are))
has_words words Help a = (omega (arith, ap length a), omega (arith, ap length a))
has_words words Version a = (omega (arith, ap length a), omega (arith, ap length a))
has_words words (Shift file rate) a = (omega (arith, ap length a.are), omega (arith, ap length a.are))
has_words words (Multiply file from to factor) a = (omega (arith, ap length a.are), omega (arith, ap length a.are))
has_words words (Charge file amount) a = (omega (arith, ap length a.are), omega (arith, ap length a.are))
has_words words (Merge file) a = (omega (arith, ap length a.are), omega (arith, ap length a.are))
