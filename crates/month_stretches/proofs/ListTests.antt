-- Tests of all of a list that is given by place.
use Rattle.std.specs.Prelude.{◌≡◌, ℕ, zero, suc, ◌+◌, ◌<◌, Bool, true, false, List, [], ◌∷◌, ◌++◌, length, map}
use Rattle.std.specs.Prelude.{slice_index_or}
use Rattle.std.specs.List.{list_all, zip}
use Rattle.std.proofs.Common.{refl, ap, sym, ◌∙◌, arith}
use Rattle.std.proofs.Common.{inl, inr}
use Rattle.std.proofs.lemmas.Bool.{cases_lt}
use Rattle.std.proofs.lemmas.List.Folds.{list_all_at}
use Rattle.whole_laws.specs.Whole.{list_of}
use Rattle.whole_laws.proofs.ListsByPlace.{at-list_of, length-list_of, list_of_places, map-list_of}

-- where one fails
pub one_fails : {A : Type 0} (test : A → Bool) (n : ℕ) (f : ℕ → A) (k : ℕ) → k < n → test (f k) ≡ false
    → false ≡ list_all test (list_of n f)
one_fails test n f k inside fails =
    sym (list_all_at test (list_of n f) k (f k) (rw (length-list_of n f) inside)
    (ap test (at-list_of n f k (f k) inside) ∙ fails))

-- one more passes
pub more_pass : {A : Type 0} (test : A → Bool) (n : ℕ) (f : ℕ → A) → ((k : ℕ) → k < n → test (f k) ≡ true)
    → test (f n) ≡ true → (k : ℕ) → k < n + 1 → test (f k) ≡ true
more_pass test n f each last k inside = elim (cases_lt k n) [
  | inl b ↦ each k b
  | inr past ↦
      let is : k ≡ n = omega (arith, inside, past) in
      rw is last
]

-- pairs of members of two lists that are joined
pub zip-append : {A B : Type 0} (xs ys : List A) (us vs : List B) → length xs ≡ length us
    → zip (xs ++ ys) (us ++ vs) ≡ zip xs us ++ zip ys vs
zip-append [] ys [] vs long = refl
zip-append [] ys (u ∷ us) vs long = absurd (omega (arith, long))
zip-append (x ∷ xs) ys [] vs long = absurd (omega (arith, long))
zip-append (x ∷ xs) ys (u ∷ us) vs long =
    ap (λ zs. (x, u) ∷ zs) (zip-append xs ys us vs (omega (arith, long)))

-- and of lists that are given by place
pub zip-list_of : {A B : Type 0} (n : ℕ) (f : ℕ → A) (g : ℕ → B)
    → zip (list_of n f) (list_of n g) ≡ list_of n (λ i. (f i, g i))
zip-list_of zero f g = refl
zip-list_of (suc n) f g = ap (λ zs. (f 0, g 0) ∷ zs) (zip-list_of n (λ i. f (suc i)) (λ i. g (suc i)))

-- what a function makes of the members of a list, by place
pub map_by_place : {A B : Type 0} (h : A → B) (xs : List A) (d : A)
    → map h xs ≡ list_of (length xs) (λ i. h (slice_index_or xs i d))
map_by_place h xs d =
    sym (ap (map h) (list_of_places xs d)) ∙ map-list_of h (length xs) (λ i. slice_index_or xs i d)
