-- What a search of a list finds, what it says where it finds nothing, and the last member that a filter keeps.
use Rattle.std.proofs.Common.{◌≡◌, ℕ, zero, suc, ◌<◌, List, [], ◌∷◌, ◌++◌, map, cond, arith, refl, ap, subst}
use Rattle.std.specs.Prelude.{Bool, true, false, filter, Some, None, find}
use Rattle.std.specs.List.{list_any}
use Rattle.whole_laws.specs.Whole.{list_of, last_or}

-- what is found passes
pub found_passes : {A : Type 0} (test : A → Bool) (xs : List A) (y : A) → find test xs ≡ Some y → test y ≡ true
found_passes test [] y found = cc
found_passes test (x ∷ xs) y found = first (found_passes test xs y) (test x) refl found
  where
    first : (find test xs ≡ Some y → test y ≡ true) → (b : Bool) → test x ≡ b
        → cond b (Some x) (find test xs) ≡ Some y → test y ≡ true
    first later true is same = (let e : x ≡ y = cc in subst (λ z. test z ≡ true) e is)
    first later false is found = later found

-- where nothing is found, no place passes
pub none_passes : (test : ℕ → Bool) (n : ℕ) (p : ℕ → ℕ) → find test (list_of n p) ≡ None
    → (k : ℕ) → k < n → test (p k) ≡ false
none_passes test zero p none k below = absurd (omega arith)
none_passes test (suc n) p none k below = first (none_passes test n (λ i. p (suc i))) (test (p 0)) refl none k below
  where
    first : (find test (list_of n (λ i. p (suc i))) ≡ None → (k : ℕ) → k < n → test (p (suc k)) ≡ false)
        → (b : Bool) → test (p 0) ≡ b → cond b (Some (p 0)) (find test (list_of n (λ i. p (suc i)))) ≡ None
        → (k : ℕ) → k < suc n → test (p k) ≡ false
    first rest true is none k below = cc
    first rest false is none zero below = is
    first rest false is none (suc k) below = rest none k (omega (arith, below))

-- and no member of a list has the test
pub nothing_has : {A : Type 0} (test : A → Bool) (xs : List A) → find test xs ≡ None → list_any test xs ≡ false
nothing_has test [] none = refl
nothing_has test (x ∷ xs) none = first (nothing_has test xs) (test x) refl none
  where
    first : (find test xs ≡ None → list_any test xs ≡ false) → (b : Bool) → test x ≡ b
        → cond b (Some x) (find test xs) ≡ None → list_any test (x ∷ xs) ≡ false
    first rest true is none = cc
    first rest false is none = rw is (rest none)

-- what a filter keeps of changed members
pub filter_changed : {A B : Type 0} (test : B → Bool) (f : A → B) (xs : List A)
    → filter test (map f xs) ≡ map f (filter (λ x. test (f x)) xs)
filter_changed test f [] = refl
filter_changed test f (x ∷ xs) = first (test (f x)) (filter_changed test f xs)
  where
    first : (b : Bool) → filter test (map f xs) ≡ map f (filter (λ x. test (f x)) xs)
        → cond b (f x ∷ filter test (map f xs)) (filter test (map f xs))
        ≡ map f (cond b (x ∷ filter (λ x. test (f x)) xs) (filter (λ x. test (f x)) xs))
    first true rest = ap (λ ys. f x ∷ ys) rest
    first false rest = rest

-- of members that another filter has kept: as of all, where whatever passes passed before
pub filter_narrower : {A : Type 0} (test before : A → Bool) → ((x : A) → test x ≡ true → before x ≡ true)
    → (xs : List A) → filter test (filter before xs) ≡ filter test xs
filter_narrower test before passed [] = refl
filter_narrower test before passed (x ∷ xs) =
    both (test x) (before x) refl refl (filter_narrower test before passed xs)
  where
    both : (a b : Bool) → test x ≡ a → before x ≡ b → filter test (filter before xs) ≡ filter test xs
        → filter test (cond b (x ∷ filter before xs) (filter before xs)) ≡ cond a (x ∷ filter test xs) (filter test xs)
    both true true is was rest = rw is (ap (λ ys. x ∷ ys) rest)
    both true false is was rest = let passes : before x ≡ true = passed x is in cc
    both false true is was rest = rw is rest
    both false false is was rest = rest

-- and nothing, where what passed before fails
pub filter_apart : {A : Type 0} (test before : A → Bool) → ((x : A) → before x ≡ true → test x ≡ false)
    → (xs : List A) → filter test (filter before xs) ≡ []
filter_apart test before fails [] = refl
filter_apart test before fails (x ∷ xs) = first (before x) refl (filter_apart test before fails xs)
  where
    first : (b : Bool) → before x ≡ b → filter test (filter before xs) ≡ []
        → filter test (cond b (x ∷ filter before xs) (filter before xs)) ≡ []
    first true was rest = rw (fails x was) rest
    first false was rest = rest

-- the last of two lists, and of changed members
pub last-append : {A : Type 0} (xs ys : List A) (none : A) → last_or none (xs ++ ys) ≡ last_or (last_or none xs) ys
last-append [] ys none = refl
last-append (x ∷ xs) ys none = last-append xs ys x

pub last-map : {A B : Type 0} (f : A → B) (xs : List A) (none : A)
    → last_or (f none) (map f xs) ≡ f (last_or none xs)
last-map f [] none = refl
last-map f (x ∷ xs) none = last-map f xs x

-- what is read of the last is the same if what stands for none is read the same
pub last_read : {A B : Type 0} (f : A → B) (xs : List A) (one other : A) → f one ≡ f other
    → f (last_or one xs) ≡ f (last_or other xs)
last_read f [] one other same = same
last_read f (x ∷ xs) one other same = refl

-- the last member that passes passes, if what stands for none does
pub last_passes : {A : Type 0} (test : A → Bool) (xs : List A) (none : A) → test none ≡ true
    → test (last_or none (filter test xs)) ≡ true
last_passes test [] none bare = bare
last_passes test (x ∷ xs) none bare = first (last_passes test xs) (test x) refl
  where
    first : ((none : _) → test none ≡ true → test (last_or none (filter test xs)) ≡ true) → (b : Bool) → test x ≡ b
        → test (last_or none (cond b (x ∷ filter test xs) (filter test xs))) ≡ true
    first rest true is = rest x is
    first rest false is = rest none bare
