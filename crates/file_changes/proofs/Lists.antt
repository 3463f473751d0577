-- Lists that a loop copies.
use Rattle.std.proofs.Common.{◌≡◌, ℕ, ◌+◌, ◌<◌, List, [], ◌∷◌, ◌++◌, length, map, take, get_or, ap, sym, ◌∙◌}
use Rattle.std.proofs.lemmas.List.{take_more}
use Rattle.product_reader.proofs.Grown.{map-append-one}

-- one member more of a list of values, which are stored as others
pub one_again : {X Y : Type 0} (f : X → Y) (ys : List Y) (i : ℕ) (d : Y) (xs : List X) (x : X)
    → map f xs ≡ take i ys → f x ≡ get_or ys i d → i < length ys → map f (xs ++ x ∷ []) ≡ take (i + 1) ys
one_again f ys i d xs x so_far next inside =
    map-append-one f xs x ∙ ap (λ zs. zs ++ f x ∷ []) so_far ∙ ap (λ z. take i ys ++ z ∷ []) next
    ∙ sym (take_more ys i d inside)
