-- The tables and arrays of a tree, as their views show them while they are built.
use Rattle.std.proofs.Common.{◌≡◌, ℕ, ◌+◌, ◌<◌, List, [], ◌∷◌, ◌++◌, map, take, length, get_or}
use Rattle.std.proofs.Common.{Ordering, Less, Equal, Greater, String, Global, string_bytes, refl, ◌∙◌, add-one}
use Rattle.std.specs.BTreeMap.{insert_entry}
use Rattle.std.specs.Ordering.{match_ordering}
use Rattle.std.specs.String.{string_cmp}
use Rattle.std.proofs.lemmas.List.{map-append, take_more}
use Rattle.toml.specs.View.{view, members_view}
use Rattle.toml.specs.declared.value.Value.{Value}
use Rattle.whole_laws.specs.Whole.{list_of}
use Rattle.whole_laws.proofs.ListsByPlace.{list_of-more}
use Rattle.workload_gen.specs.Tree.{with_member}

abbrev Entry : Type 0
Entry = String Global × Value

by_order : (o : Ordering) (a b c : List Entry)
    → members_view (match_ordering o a b c) ≡ match_ordering o (members_view a) (members_view b) (members_view c)
by_order Less a b c = refl
by_order Equal a b c = refl
by_order Greater a b c = refl

-- what a table shows after a value was put at a key
pub members_view-put : (entries : List Entry) (key : String Global) (value : Value)
    → members_view (insert_entry string_cmp entries key value)
    ≡ with_member (string_bytes key) (view value) (members_view entries)
members_view-put [] key value = refl
members_view-put (entry ∷ entries) key value =
    by_order (string_cmp key entry.0) _ _ _ ∙ rw (members_view-put entries key value)

-- one more value, of those that are given by places
pub one_place_more : {A B : Type 0} (f : A → B) (g : ℕ → B) (n : ℕ) (xs : List A) (x : A) → map f xs ≡ list_of n g
    → f x ≡ g n → map f (xs ++ x ∷ []) ≡ list_of (n + 1) g
one_place_more f g n xs x sofar next = rw (add-one n, map-append f xs (x ∷ []), sofar, next, list_of-more n g)

-- one more value, of those that follow a list
pub one_item_more : {A B : Type 0} (f : A → B) (g : ℕ → B) (xs : List A) (x : A) (ns : List ℕ) (i d : ℕ)
    → i < length ns → map f xs ≡ map g (take i ns) → f x ≡ g (get_or ns i d)
    → map f (xs ++ x ∷ []) ≡ map g (take (i + 1) ns)
one_item_more f g xs x ns i d inside sofar next =
    rw (take_more ns i d inside, map-append f xs (x ∷ []), map-append g (take i ns) (get_or ns i d ∷ []), sofar, next)
