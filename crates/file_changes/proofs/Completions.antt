-- Lumps that are completed, one place after the other.
use Rattle.std.proofs.Common.{◌≡◌, ℕ, ◌+◌, ◌<◌, List, [], ◌∷◌, ◌++◌, length, map, take, get_or, ap, sym, ◌∙◌, subst}
use Rattle.std.proofs.Common.{cond, append-nil, refl}
use Rattle.std.specs.Prelude.{Bool, true, false, filter, ◌==◌, ◌&&◌, ◌||◌}
use Rattle.std.proofs.lemmas.List.{get_or-map, length-map, map-append}
use Rattle.std.proofs.lemmas.List.Folds.{list_any_more, list_any_at}
use Rattle.std.proofs.lemmas.List.Elements.{filter-append}
use Rattle.whole_laws.specs.Whole.{places}
use Rattle.whole_laws.proofs.ListsByPlace.{list_of-next}
use Rattle.model_specs.specs.Product as model
use Rattle.payment_plan.specs.declared.lump.Lump.{Lump}
use Rattle.payment_plan.specs.Records.{lump_of, lumps_of}
use Rattle.file_changes.specs.Charges.{has_lump}

-- a lump has a date and a state
abbrev is_at : (date state : ℕ) → model.Lump → Bool
is_at date state l = (l.month == date) && (l.state == state)

module _ (lumps : List Lump) (date state i : ℕ) (d : Lump) (inside : i < length lumps) where
  records_inside : i < length (lumps_of lumps)
  records_inside = subst (λ n. i < n) (sym (length-map lumps lump_of)) inside

  record_at : get_or (lumps_of lumps) i (lump_of d) ≡ lump_of (get_or lumps i d)
  record_at = get_or-map lump_of lumps i d (lump_of d) inside

  -- the lump there is one of the lumps
  pub lump_is_found : is_at date state (lump_of (get_or lumps i d)) ≡ true → has_lump (lumps_of lumps) date state ≡ true
  lump_is_found found = list_any_at (is_at date state) (lumps_of lumps) i (lump_of d) records_inside
      (ap (is_at date state) record_at ∙ found)

  -- and another one is passed
  pub lump_is_passed : has_lump (take i (lumps_of lumps)) date state ≡ false
      → is_at date state (lump_of (get_or lumps i d)) ≡ false
      → has_lump (take (i + 1) (lumps_of lumps)) date state ≡ false
  lump_is_passed so_far other = list_any_more (is_at date state) (lumps_of lumps) i (lump_of d) records_inside
      ∙ ap (λ found. found || is_at date state (get_or (lumps_of lumps) i (lump_of d))) so_far
      ∙ ap (is_at date state) record_at ∙ other

-- what is made of the places that pass a test, with one place more
one_place_more : {B : Type 0} (z : ℕ → B) (test : ℕ → Bool) (n : ℕ) (passes : Bool) → test n ≡ passes
    → map z (filter test (places (n + 1))) ≡ map z (filter test (places n)) ++ cond passes (z n ∷ []) []
one_place_more z test n passes is =
    ap (λ ns. map z (filter test ns)) (list_of-next n (λ i. i))
    ∙ ap (map z) (filter-append test (places n) (n ∷ []))
    ∙ map-append z (filter test (places n)) (filter test (n ∷ []))
    ∙ ap (λ ys. map z (filter test (places n)) ++ ys) (alone passes is)
  where
    alone : (passes : Bool) → test n ≡ passes → map z (filter test (n ∷ [])) ≡ cond passes (z n ∷ []) []
    alone true is = rw is refl
    alone false is = rw is refl

pub place_is_taken : {B : Type 0} (z : ℕ → B) (test : ℕ → Bool) (n : ℕ) → test n ≡ true
    → map z (filter test (places (n + 1))) ≡ map z (filter test (places n)) ++ z n ∷ []
place_is_taken z test n is = one_place_more z test n true is

pub place_is_passed : {B : Type 0} (z : ℕ → B) (test : ℕ → Bool) (n : ℕ) → test n ≡ false
    → map z (filter test (places (n + 1))) ≡ map z (filter test (places n))
place_is_passed z test n is = one_place_more z test n false is ∙ append-nil (map z (filter test (places n)))
