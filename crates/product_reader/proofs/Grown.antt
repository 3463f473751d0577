-- A list that a loop makes of some data, one after the other.
use Rattle.std.proofs.Common.{◌≡◌, ℕ, ◌+◌, ◌<◌, ◌≤◌, List, [], ◌∷◌, ◌++◌, length, map, take, get_or}
use Rattle.std.proofs.Common.{refl, ap, sym, ◌∙◌}
use Rattle.std.proofs.lemmas.List.{take_more, take_all}

-- one more of some values
pub map-append-one : {X Y : Type 0} (f : X → Y) (xs : List X) (x : X) → map f (xs ++ x ∷ []) ≡ map f xs ++ f x ∷ []
map-append-one f [] x = refl
map-append-one f (y ∷ xs) x = ap (λ ys. f y ∷ ys) (map-append-one f xs x)

-- a list made of the first data grows by what is made of the next one
pub one_more : {D Y : Type 0} (g : D → Y) (ds : List D) (i : ℕ) (d : D) (ys : List Y) (y : Y)
    → ys ≡ map g (take i ds) → y ≡ g (get_or ds i d) → i < length ds → ys ++ y ∷ [] ≡ map g (take (i + 1) ds)
one_more g ds i d ys y so_far next inside =
    ap (λ zs. zs ++ y ∷ []) so_far ∙ ap (λ z. map g (take i ds) ++ z ∷ []) next
    ∙ sym (map-append-one g (take i ds) (get_or ds i d)) ∙ ap (map g) (sym (take_more ds i d inside))

-- and so where the list's members stand for the values
pub one_more_of : {D X Y : Type 0} (f : X → Y) (g : D → Y) (ds : List D) (i : ℕ) (d : D) (xs : List X) (x : X)
    → map f xs ≡ map g (take i ds) → f x ≡ g (get_or ds i d) → i < length ds
    → map f (xs ++ x ∷ []) ≡ map g (take (i + 1) ds)
one_more_of f g ds i d xs x so_far next inside =
    map-append-one f xs x ∙ one_more g ds i d (map f xs) (f x) so_far next inside

-- made of all data
pub all_made : {D Y : Type 0} (g : D → Y) (ds : List D) (i : ℕ) (ys : List Y) → ys ≡ map g (take i ds)
    → length ds ≤ i → ys ≡ map g ds
all_made g ds i ys so_far past = so_far ∙ ap (map g) (take_all i ds past)
