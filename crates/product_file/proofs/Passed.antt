-- Where no check fails, each holds.
use Rattle.std.proofs.Common.{◌≡◌, ℕ, zero, suc, ◌+◌, ◌<◌, ◌≤◌, List, [], ◌∷◌, ◌++◌, length, map, take}
use Rattle.std.proofs.Common.{arith, refl, sym}
use Rattle.std.proofs.lemmas.Bool.{true≢false, false≢true}
use Rattle.std.proofs.lemmas.Option.{none-some}
use Rattle.std.specs.Prelude.{Bool, true, false, ◌&&◌, ◌||◌, not, Option, Some, None, All, slice_index_or}
use Rattle.std.specs.List.{list_all, list_any}
use Rattle.whole_laws.specs.Whole.{list_of}
use Rattle.whole_laws.proofs.Members.{none-of-map}
use Rattle.model_specs.specs.ValuationRules.{first_given}
use Rattle.product_file.specs.Checks.{first_failed, first_failed_from, place_in}
use Rattle.product_file.specs.CurveRules.{not_empty}
use Rattle.product_file.specs.Reads.{broken_at}

-- both sides of a conjunction
pub left-of : (a b : Bool) → (a && b) ≡ true → a ≡ true
left-of true b h = refl
left-of false b h = h

pub right-of : (a b : Bool) → (a && b) ≡ true → b ≡ true
right-of true b h = h
right-of false b h = absurd (false≢true h)

-- what is denied does not hold
pub denied : (a : Bool) → not a ≡ true → a ≡ false
denied true h = absurd (false≢true h)
denied false h = refl

-- no value was first: none was there
pub given-head : {A : Type 0} (x : Option A) (xs : List (Option A)) → first_given (x ∷ xs) ≡ None → x ≡ None
given-head None xs h = refl
given-head (Some x) xs h = h

pub given-tail : {A : Type 0} (x : Option A) (xs : List (Option A)) → first_given (x ∷ xs) ≡ None
    → first_given xs ≡ None
given-tail None xs h = h
given-tail (Some x) xs h = absurd (none-some _ (sym h))

pub unbroken : (rule : ℕ) (place : Option ℕ) → broken_at rule place ≡ None → place ≡ None
unbroken rule place h = none-of-map _ place h

-- each check holds, by its place; past the end there is nothing to fail
pub nth-holds : (xs : List Bool) → first_failed xs ≡ None → (i : ℕ) → slice_index_or xs i true ≡ true
nth-holds [] h i = refl
nth-holds (true ∷ xs) h zero = refl
nth-holds (true ∷ xs) h (suc i) = nth-holds xs (none-of-map suc (first_failed xs) h) i
nth-holds (false ∷ xs) h i = absurd (none-some _ (sym h))

-- and in a list that is given by places
pub listed-holds : (n : ℕ) (check : ℕ → Bool) (i : ℕ) → i < n → slice_index_or (list_of n check) i true ≡ true
    → check i ≡ true
listed-holds zero check i below h = absurd (omega arith)
listed-holds (suc n) check zero below h = h
listed-holds (suc n) check (suc i) below h = listed-holds n (λ k. check (suc k)) i (omega arith) h

-- the first check holds, and the others do
pub first-holds : (x : Bool) (xs : List Bool) → first_failed (x ∷ xs) ≡ None → x ≡ true
first-holds true xs h = refl
first-holds false xs h = absurd (none-some _ (sym h))

pub others-hold : (x : Bool) (xs : List Bool) → first_failed (x ∷ xs) ≡ None → first_failed xs ≡ None
others-hold true xs h = none-of-map suc (first_failed xs) h
others-hold false xs h = absurd (none-some _ (sym h))

-- each check of a list that is given by places holds
pub each-holds : (n : ℕ) (check : ℕ → Bool) → first_failed (list_of n check) ≡ None → (i : ℕ) → i < n
    → check i ≡ true
each-holds zero check h i below = absurd (omega arith)
each-holds (suc n) check h zero below = first-holds (check 0) _ h
each-holds (suc n) check h (suc i) below =
    each-holds n (λ k. check (suc k)) (others-hold (check 0) _ h) i (omega arith)

-- a list that must not be empty is not, and each of its checks holds
pub some-there : (n : ℕ) (check : ℕ → Bool) → first_failed (not_empty n check) ≡ None → 1 ≤ n
some-there zero check h = absurd (none-some _ (sym h))
some-there (suc n) check h = omega arith

pub each-of-some : (n : ℕ) (check : ℕ → Bool) → first_failed (not_empty n check) ≡ None → (i : ℕ) → i < n
    → check i ≡ true
each-of-some zero check h i below = absurd (omega arith)
each-of-some (suc n) check h i below = each-holds (suc n) check h i below

-- the checks of the first list hold, and those of the other lists do
list-holds : (k : ℕ) (a b : Option ℕ) → place_in k a b ≡ None → a ≡ None
list-holds k None b h = refl
list-holds k (Some x) b h = absurd (none-some _ (sym h))

lists-hold : (k : ℕ) (a b : Option ℕ) → place_in k a b ≡ None → b ≡ None
lists-hold k None b h = h
lists-hold k (Some x) b h = absurd (none-some _ (sym h))

-- the checks of the list that some function gives for each item hold
pub each-list-holds : {A : Type 0} (checks : A → List Bool) (k : ℕ) (items : List A)
    → first_failed_from k (map checks items) ≡ None → All (λ item. first_failed (checks item) ≡ None) items
each-list-holds checks k [] h i d below = absurd (omega arith)
each-list-holds checks k (item ∷ items) h zero d below = list-holds k (first_failed (checks item)) _ h
each-list-holds checks k (item ∷ items) h (suc i) d below =
    each-list-holds checks (suc k) items (lists-hold k (first_failed (checks item)) _ h) i d (omega arith)

-- and so for lists by places
pub each-place-holds : (n k : ℕ) (checks : ℕ → List Bool) → first_failed_from k (list_of n checks) ≡ None
    → (i : ℕ) → i < n → first_failed (checks i) ≡ None
each-place-holds zero k checks h i below = absurd (omega arith)
each-place-holds (suc n) k checks h zero below = list-holds k (first_failed (checks 0)) _ h
each-place-holds (suc n) k checks h (suc i) below =
    each-place-holds n (suc k) (λ j. checks (suc j)) (lists-hold k (first_failed (checks 0)) _ h) i (omega arith)

-- both of two parts in a row
pub front-holds : (k : ℕ) (xs ys : List (List Bool)) → first_failed_from k (xs ++ ys) ≡ None
    → first_failed_from k xs ≡ None
front-holds k [] ys h = refl
front-holds k (x ∷ xs) ys h =
    rw (list-holds k (first_failed x) _ h) (front-holds (suc k) xs ys (lists-hold k (first_failed x) _ h))

pub back-holds : (k : ℕ) (xs ys : List (List Bool)) → first_failed_from k (xs ++ ys) ≡ None
    → first_failed_from (length xs + k) ys ≡ None
back-holds k [] ys h = let e : 0 + k ≡ k = omega arith in rw e h
back-holds k (x ∷ xs) ys h =
    let e : suc (length xs) + k ≡ length xs + suc k = omega arith in
    rw e (back-holds (suc k) xs ys (lists-hold k (first_failed x) _ h))

pub each-place-passes : (n : ℕ) (test : ℕ → Bool) (f : ℕ → ℕ) → list_all test (list_of n f) ≡ true
    → (i : ℕ) → i < n → test (f i) ≡ true
each-place-passes zero test f h i below = absurd (omega arith)
each-place-passes (suc n) test f h zero below = left-of (test (f 0)) _ h
each-place-passes (suc n) test f h (suc i) below =
    each-place-passes n test (λ k. f (suc k)) (right-of (test (f 0)) _ h) i (omega arith)

-- where none of the members before a place passes, no earlier one does
pub none-passes : {A : Type 0} (test : A → Bool) (xs : List A) (k i : ℕ) (d : A) → list_any test (take k xs) ≡ false
    → i < k → i < length xs → test (slice_index_or xs i d) ≡ false
none-passes test [] k i d h low below = absurd (omega arith)
none-passes test (x ∷ xs) zero i d h low below = absurd (omega arith)
none-passes test (x ∷ xs) (suc k) zero d h low below = none-left (test x) _ h
  where
    none-left : (a b : Bool) → (a || b) ≡ false → a ≡ false
    none-left false b e = refl
    none-left true b e = e
none-passes test (x ∷ xs) (suc k) (suc i) d h low below =
    none-passes test xs k i d (none-right (test x) _ h) (omega arith) (omega arith)
  where
    none-right : (a b : Bool) → (a || b) ≡ false → b ≡ false
    none-right false b e = e
    none-right true b e = absurd (true≢false e)
