-- The sum of the products of two lists of whole numbers.
use Rattle.std.specs.Prelude.{ℕ, ◌+◌, ◌*◌, ℤ, pos, ◌+ℤ◌, ◌*ℤ◌, unsigned_abs, List, [], ◌∷◌, map, slice_index_or}

-- the sum of the products, place by place, as far as both lists go
abbrev pub sum_of_products : List ℤ → List ℤ → ℤ
sum_of_products [] factors = pos 0
sum_of_products (x ∷ xs) [] = pos 0
sum_of_products (x ∷ xs) (factor ∷ factors) = (x *ℤ factor) +ℤ sum_of_products xs factors

-- the sum of the sizes of these products, whatever their signs
abbrev pub sum_of_sizes : List ℤ → List ℤ → ℕ
sum_of_sizes [] factors = 0
sum_of_sizes (x ∷ xs) [] = 0
sum_of_sizes (x ∷ xs) (factor ∷ factors) = unsigned_abs x * unsigned_abs factor + sum_of_sizes xs factors

-- the items of a list at some places
abbrev pub items_at : List ℤ → List ℕ → List ℤ
items_at items places = map (λ place. slice_index_or items place (pos 0)) places
