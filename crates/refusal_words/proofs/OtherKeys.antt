-- Keys of a table, as its view shows them, and what is found among them.
use Rattle.std.proofs.Common.{◌≡◌, Bool, true, false, List, [], ◌∷◌, map, refl, cond, string_bytes, String, Global}
use Rattle.std.specs.Prelude.{find, option_map, Option, Some, None}
use Rattle.std.specs.Map.{keys_of}
use denote.Bor.{Bor}
use Rattle.toml.specs.declared.value.Value.{Value}
use Rattle.toml.specs.View.{members_view}
use Rattle.product_file.specs.Members as file

-- the keys of a table are those of its map
pub keys-view : (entries : List (String Global × Value))
    → map string_bytes (keys_of entries) ≡ file.keys_of (members_view entries)
keys-view [] = refl
keys-view (entry ∷ entries) = rw (keys-view entries) refl

-- the bytes of a key that is lent
pub lent-bytes : (key : Option (Bor (String Global)))
    → option_map (λ lent. string_bytes lent.now) key ≡ option_map string_bytes (option_map (λ lent. lent.now) key)
lent-bytes None = refl
lent-bytes (Some key) = refl

-- one more element, which passes or not
found_or_later : {A B : Type 0} (passes : Bool) (f : A → B) (x : A) (later : Option A) (mapped : Option B)
    → option_map f later ≡ mapped → option_map f (cond passes (Some x) later) ≡ cond passes (Some (f x)) mapped
found_or_later true f x later mapped same = refl
found_or_later false f x later mapped same = same

-- the first element of a mapped list that passes
pub find-map : {A B : Type 0} (test : B → Bool) (f : A → B) (xs : List A)
    → option_map f (find (λ x. test (f x)) xs) ≡ find test (map f xs)
find-map test f [] = refl
find-map test f (x ∷ xs) = found_or_later (test (f x)) f x _ _ (find-map test f xs)
