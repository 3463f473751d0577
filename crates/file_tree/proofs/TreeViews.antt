-- The keys of a table and the items of an array, as their views show them.
use Rattle.std.proofs.Common.{◌≡◌, ℕ, ◌<◌, Bool, false, not, ◌&&◌, ◌||◌, List, [], ◌∷◌, map, length, get_or}
use Rattle.std.proofs.Common.{string_bytes, String, Global, refl, ap, sym, ◌∙◌}
use Rattle.std.specs.List.{list_all, list_any, prefix_len, position}
use Rattle.std.specs.Map.{keys_of}
use Rattle.std.proofs.lemmas.List.{length-map, get_or-map}
use Rattle.toml.specs.Data.{Data, boolean}
use Rattle.toml.specs.declared.value.Value.{Value}
use Rattle.toml.specs.View.{items_of, members_view, view}
use Rattle.product_file.specs.Members as file

-- a list as items, listed again
pub listed-items : (ds : List Data) → file.listed (items_of ds) ≡ ds
listed-items [] = refl
listed-items (d ∷ ds) = ap (λ more. d ∷ more) (listed-items ds)

-- the keys of a table pass a test where those of its map do
pub list_all-keys : (test : List ℕ → Bool) (entries : List (String Global × Value))
    → list_all (λ key. test (string_bytes key)) (keys_of entries)
    ≡ list_all test (file.keys_of (members_view entries))
list_all-keys test [] = refl
list_all-keys test (entry ∷ entries) =
    ap (λ more. test (string_bytes entry.0) && more) (list_all-keys test entries)

-- a mapped list has an element that passes where the list has one that passes when mapped
pub list_any-map : {A B : Type 0} (test : B → Bool) (f : A → B) (xs : List A)
    → list_any (λ x. test (f x)) xs ≡ list_any test (map f xs)
list_any-map test f [] = refl
list_any-map test f (x ∷ xs) = ap (λ more. test (f x) || more) (list_any-map test f xs)

-- the place of the first element of a mapped list that passes
prefix_len-map : {A B : Type 0} (test : B → Bool) (f : A → B) (xs : List A)
    → prefix_len (λ x. test (f x)) xs ≡ prefix_len test (map f xs)
prefix_len-map test f [] = refl
prefix_len-map test f (x ∷ xs) = rw (prefix_len-map test f xs) refl

pub position-map : {A B : Type 0} (test : B → Bool) (f : A → B) (xs : List A)
    → position (λ x. test (f x)) xs ≡ position test (map f xs)
position-map test f xs = rw (prefix_len-map (λ y. not (test y)) f xs, ← length-map xs f) refl

-- the item at a place is the view of the value there
pub item_at-view : (vs : List Value) (i : ℕ) (v : Value) → i < length vs → v ≡ get_or vs i v
    → view v ≡ file.item_at (map view vs) i
item_at-view vs i v inside is = ap view is ∙ sym (get_or-map view vs i v (boolean false) inside)
