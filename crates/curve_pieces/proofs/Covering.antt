-- What covers a month, a piece of a curve or a step of a payment, is the last one that starts at or before it.
use Rattle.std.proofs.Common.{◌≡◌, ℕ, zero, suc, ◌+◌, ◌-◌, ◌<◌, ◌≤◌, List, [], ◌∷◌, length, get_or}
use Rattle.std.proofs.Common.{arith, refl, ap, inl, inr, add-one}
use Rattle.std.specs.Prelude.{nat_le, filter, map}
use Rattle.std.proofs.lemmas.Bool.{cases_lt}
use Rattle.std.proofs.lemmas.List.{length-map, get_or_default, get_or_past}
use Rattle.whole_laws.specs.Whole.{last_or}
use Rattle.whole_laws.proofs.Tests.{within_is, above_is_not}
use Rattle.model_specs.specs.RecordRules.{StartsRise, months_of}

-- the start of the item at a place
abbrev pub start_of : {A : Type 0} → (A → ℕ) → List A → ℕ → ℕ
start_of start items k = get_or (map start items) k 0

nothing_started : {A : Type 0} (start : A → ℕ) (items : List A) (month : ℕ)
    → ((k : ℕ) → k < length items → month < start_of start items k)
    → filter (λ item. nat_le (start item) month) items ≡ []
nothing_started start [] month h = refl
nothing_started start (x ∷ items) month h =
    rw (above_is_not (start x) month (h 0 (omega arith)))
    (nothing_started start items month (λ k below. h (suc k) (omega arith)))

last_started : {A : Type 0} (start : A → ℕ) (items : List A) (month low : ℕ) (none other : A) → low < length items
    → ((k : ℕ) → k ≤ low → start_of start items k ≤ month)
    → ((k : ℕ) → low < k → k < length items → month < start_of start items k)
    → last_or none (filter (λ item. nat_le (start item) month) items) ≡ get_or items low other
last_started start [] month low none other inside upto after = absurd (omega arith)
last_started start (x ∷ items) month zero none other inside upto after =
    rw (
      within_is (start x) month (upto 0 (omega arith)),
      nothing_started start items month (λ k below. after (suc k) (omega arith) (omega arith)),
    ) refl
last_started start (x ∷ items) month (suc low) none other inside upto after =
    rw (within_is (start x) month (upto 0 (omega arith)))
    (last_started start items month low x other (omega arith) (λ k below. upto (suc k) (omega arith))
    (λ k above below. after (suc k) (omega arith) (omega arith)))

-- starts in order rise
starts_rise : (starts : List ℕ) (i j : ℕ)
    → ((k : ℕ) → suc k < length starts → get_or starts k 0 < get_or starts (suc k) 0)
    → i ≤ j → j < length starts → get_or starts i 0 ≤ get_or starts j 0
starts_rise starts zero zero h below inside = omega arith
starts_rise starts (suc i) zero h below inside = absurd (omega arith)
starts_rise starts i (suc j) h below inside =
    elim (cases_lt j i) [
      | inl last ↦ let same : i ≡ suc j = omega arith in omega (arith, ap (λ k. get_or starts k 0) same)
      | inr earlier ↦ omega (arith, starts_rise starts i j h earlier (omega arith), h j inside)
    ]

-- the place of the last item that starts at or before a month of the term
pub record IsLastStart {A : Type 0} (start : A → ℕ) (items : List A) (months month low : ℕ) : Type 0 where
  pub term : month < months
  pub inside : low < length items
  pub started : start_of start items low ≤ month
  pub next : low + 1 < length items → month < start_of start items (low + 1)

pub covering : {A : Type 0} (start : A → ℕ) (none : A) (items : List A) (months month low : ℕ)
    → StartsRise months (map start items) → IsLastStart start items months month low
    → last_or none (filter (λ item. nat_le (start item) month) items) ≡ get_or items low none
covering start none items months month low rise last =
    last_started start items month low none none last.inside
    (λ k below. omega (
      arith,
      starts_rise (map start items) k low rise.rising below (omega (arith, length-map items start, last.inside)),
      last.started,
    ))
    (λ k above below. omega (
      arith,
      last.next (omega arith),
      starts_rise (map start items) (low + 1) k rise.rising (omega arith) (omega (arith, length-map items start)),
    ))

-- what covers a month holds to the month's end at least, so that its rule bounds it there
pub held : {A : Type 0} (start : A → ℕ) (items : List A) (months month low : ℕ)
    → IsLastStart start items months month low
    → month - start_of start items low + 1 ≤ months_of months (map start items) low
held start items months month low last =
    elim (cases_lt (suc low) (length (map start items))) [
      | inl below ↦
          let later : month < start_of start items (suc low) =
          rw add-one at (last.next (omega (arith, length-map items start))) in
          omega (arith, later, get_or_default (map start items) (suc low) months 0 below, last.started)
      | inr above ↦ omega (arith, get_or_past (map start items) (suc low) months above, last.started, last.term)
    ]
