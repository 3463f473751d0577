-- What a look-up by a month gives, of stored items that stand for records with a start.
use Rattle.std.proofs.Common.{◌≡◌, ℕ, ◌+◌, ◌-◌, ◌<◌, ◌≤◌, List, length, get_or, arith, ap, sym, ◌∙◌}
use Rattle.std.specs.Prelude.{nat_le, filter, map}
use Rattle.std.proofs.lemmas.List.{length-map, get_or-map}
use Rattle.whole_laws.specs.Whole.{last_or}
use Rattle.model_specs.specs.RecordRules.{StartsRise, months_of}
use Rattle.curve_pieces.proofs.Covering.{IsLastStart, start_of, covering, held}

-- the item stands at the place `low`, which a search for a month of the term found
pub record IsFound {A B : Type 0} (record_of : A → B) (start : B → ℕ) (items : List A) (months month low : ℕ) (item : A)
    : Type 0 where
  pub term : month < months
  pub inside : low < length items
  pub item_is : item ≡ get_or items low item
  pub started : start_of start (map record_of items) low ≤ month
  pub next : low + 1 < length items → month < start_of start (map record_of items) (low + 1)

pub found_record : {A B : Type 0} (record_of : A → B) (start : B → ℕ) (items : List A) (months month low : ℕ) (item : A)
    (none : B) → IsFound record_of start items months month low item
    → record_of item ≡ get_or (map record_of items) low none
found_record record_of start items months month low item none f =
    ap record_of f.item_is ∙ sym (get_or-map record_of items low item none f.inside)

pub found_start : {A B : Type 0} (record_of : A → B) (start : B → ℕ) (items : List A) (months month low : ℕ) (item : A)
    → IsFound record_of start items months month low item
    → start (record_of item) ≡ start_of start (map record_of items) low
found_start record_of start items months month low item f =
    ap start (found_record record_of start items months month low item (record_of item) f)
    ∙ sym (get_or-map start (map record_of items) low (record_of item) 0 (omega (
      arith,
      length-map items record_of,
      f.inside,
    )))

is_last : {A B : Type 0} (record_of : A → B) (start : B → ℕ) (items : List A) (months month low : ℕ) (item : A)
    → IsFound record_of start items months month low item → IsLastStart start (map record_of items) months month low
is_last record_of start items months month low item f =
    record {
      term = f.term;
      inside = omega (arith, length-map items record_of, f.inside);
      started = f.started;
      next = λ below. f.next (omega (arith, length-map items record_of));
    }

-- it is the last one that starts at or before the month
pub found_covers : {A B : Type 0} (record_of : A → B) (start : B → ℕ) (items : List A) (months month low : ℕ) (item : A)
    (none : B) → StartsRise months (map start (map record_of items))
    → IsFound record_of start items months month low item
    → record_of item ≡ last_or none (filter (λ r. nat_le (start r) month) (map record_of items))
found_covers record_of start items months month low item none rise f =
    found_record record_of start items months month low item none f
    ∙ sym (covering start none (map record_of items) months month low rise
    (is_last record_of start items months month low item f))

-- and holds to the month's end at least
pub found_holds : {A B : Type 0} (record_of : A → B) (start : B → ℕ) (items : List A) (months month low : ℕ) (item : A)
    → IsFound record_of start items months month low item
    → month - start (record_of item) + 1 ≤ months_of months (map start (map record_of items)) low
found_holds record_of start items months month low item f =
    rw (found_start record_of start items months month low item f)
    (held start (map record_of items) months month low (is_last record_of start items months month low item f))
