-- Names that are noted as keys of a set.
use Rattle.std.proofs.Common.{◌≡◌, ℕ, Bool, true, false, ◌||◌, List, [], ◌∷◌, ◌++◌, map, slice_get, Some}
use Rattle.std.proofs.Common.{◌<◌, get_or, length, refl, sym, ap, ◌∙◌, if◌then◌else◌}
use Rattle.std.specs.Prelude.{bytes_eq}
use Rattle.std.specs.List.{list_any}
use Rattle.std.specs.Option.{option_map}
use Rattle.std.proofs.lemmas.List.{get_or-map, map-append}
use Rattle.std.proofs.lemmas.Option.{slice_get-map}
use Rattle.std.proofs.lemmas.Slice.Eq.{bytes_eq-Decides}
use Rattle.portfolio_run.specs.Names.{is_among, with_name}

-- a key with the name is there where the name is one of the texts
pub among_texts : {A : Type 0} (text : A → List ℕ) (name : List ℕ) (keys : List A)
    → list_any (λ key. bytes_eq name (text key)) keys ≡ is_among (map text keys) name
among_texts text name [] = refl
among_texts text name (key ∷ keys) = ap (λ found. bytes_eq name (text key) || found) (among_texts text name keys)

-- a key that is inserted last, unless it is there
pub noted : {A : Type 0} (text : A → List ℕ) (keys new : List A) (key : A) (name : List ℕ) → text key ≡ name
    → new ≡ (if list_any (λ other. bytes_eq (text key) (text other)) keys then keys else keys ++ key ∷ [])
    → map text new ≡ with_name (map text keys) name
noted {A} text keys new key name is inserted =
    by (is_among (map text keys) name) refl
  where
    found : list_any (λ other. bytes_eq (text key) (text other)) keys ≡ is_among (map text keys) name
    found = ap (λ n. list_any (λ other. bytes_eq n (text other)) keys) is
        ∙ among_texts text name keys

    by : (there : Bool) → is_among (map text keys) name ≡ there
        → map text new ≡ (if is_among (map text keys) name then map text keys else map text keys ++ name ∷ [])
    by true e = rw (inserted, found, e) refl
    by false e = rw (inserted, found, e) (map-append text keys (key ∷ []) ∙ ap (λ n. map text keys ++ n ∷ []) is)

-- the text of a key by its place
pub text_at : {A : Type 0} (text : A → List ℕ) (keys : List A) (i : ℕ) (key : A) → i < length keys
    → key ≡ get_or keys i key → get_or (map text keys) i [] ≡ text key
text_at text keys i key within here = get_or-map text keys i key [] within ∙ ap text (sym here)

-- what stands where a key was found
pub found_at : {A : Type 0} (text : A → List ℕ) (keys : List A) (key stored : A) (place : ℕ)
    → slice_get keys place ≡ Some stored → bytes_eq (text key) (text stored) ≡ true
    → slice_get (map text keys) place ≡ Some (text key)
found_at text keys key stored place there same =
    slice_get-map text keys place ∙ ap (option_map text) there
    ∙ ap Some (sym ((bytes_eq-Decides (text key) (text stored)).0 same))
