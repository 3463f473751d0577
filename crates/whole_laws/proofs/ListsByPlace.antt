-- What stands at a place of a list that is given by places.
use Rattle.std.specs.Prelude.{◌≡◌, ℕ, zero, suc, ◌<◌, ◌≤◌, refl, length, slice_index_or, All, map, ◌∷◌, List}
use Rattle.std.specs.Prelude.{[], ◌-◌, Bool, true}
use Rattle.std.proofs.Common.{ap, arith, ◌+◌, ◌++◌, add-one}
use Rattle.std.specs.List.{list_all}
use Rattle.std.proofs.lemmas.List.Sums.{AllPass-from_list_all}
use Rattle.whole_laws.specs.Whole.{list_of, places}
use mathlib.Core.Path.{ap₂}

pub at-list_of : {A : Type 0} (n : ℕ) (f : ℕ → A) (i : ℕ) (d : A) → i < n
    → slice_index_or (list_of n f) i d ≡ f i
at-list_of zero f i d h = absurd (omega arith)
at-list_of (suc n) f zero d h = refl
at-list_of (suc n) f (suc i) d h = at-list_of n (λ k. f (suc k)) i d (omega arith)

pub past-list_of : {A : Type 0} (n : ℕ) (f : ℕ → A) (i : ℕ) (d : A) → n ≤ i
    → slice_index_or (list_of n f) i d ≡ d
past-list_of zero f i d h = refl
past-list_of (suc n) f zero d h = absurd (omega arith)
past-list_of (suc n) f (suc i) d h = past-list_of n (λ k. f (suc k)) i d (omega arith)

pub length-list_of : {A : Type 0} (n : ℕ) (f : ℕ → A) → length (list_of n f) ≡ n
length-list_of zero f = refl
length-list_of (suc n) f = ap (λ k. suc k) (length-list_of n (λ k. f (suc k)))

-- what each place has, all members have
pub All-list_of : {A : Type 0} (P : A → Type 0) (n : ℕ) (f : ℕ → A) → ((i : ℕ) → i < n → P (f i)) → All P (list_of n f)
All-list_of P zero f h k d b = absurd (omega arith)
All-list_of P (suc n) f h zero d b = h 0 (omega arith)
All-list_of P (suc n) f h (suc k) d b =
    All-list_of P n (λ i. f (suc i)) (λ i c. h (suc i) (omega arith)) k d (omega arith)

-- a function of each member
pub map-list_of : {A B : Type 0} (g : A → B) (n : ℕ) (f : ℕ → A) → map g (list_of n f) ≡ list_of n (λ i. g (f i))
map-list_of g zero f = refl
map-list_of g (suc n) f = ap (λ xs. g (f 0) ∷ xs) (map-list_of g n (λ i. f (suc i)))

-- a list is given by what stands at its places
pub list_of_places : {A : Type 0} (xs : List A) (d : A) → list_of (length xs) (λ i. slice_index_or xs i d) ≡ xs
list_of_places [] d = refl
list_of_places (x ∷ xs) d = ap (λ ys. x ∷ ys) (list_of_places xs d)

-- one place more at the end
pub list_of-more : {A : Type 0} (n : ℕ) (f : ℕ → A) → list_of (suc n) f ≡ list_of n f ++ f n ∷ []
list_of-more zero f = refl
list_of-more (suc n) f = ap (λ xs. f 0 ∷ xs) (list_of-more n (λ i. f (suc i)))

-- functions that agree at each place
pub list_of-agree : {A : Type 0} (n : ℕ) (f g : ℕ → A) → ((i : ℕ) → i < n → f i ≡ g i) → list_of n f ≡ list_of n g
list_of-agree zero f g h = refl
list_of-agree (suc n) f g h =
    ap₂ (λ x xs. x ∷ xs) (h 0 (omega arith))
    (list_of-agree n (λ i. f (suc i)) (λ i. g (suc i)) (λ i below. h (suc i) (omega arith)))

-- a test that holds at all places holds at each
pub holds_at_places : (n : ℕ) (p : ℕ → Bool) → list_all p (places n) ≡ true → (k : ℕ) → k < n → p k ≡ true
holds_at_places n p h k b =
    rw (at-list_of n (λ i. i) k 0 b) at (AllPass-from_list_all p (places n) h k 0 (rw (length-list_of n (λ i. i)) b))

-- the same beside + 1
pub list_of-next : {A : Type 0} (n : ℕ) (f : ℕ → A) → list_of (n + 1) f ≡ list_of n f ++ f n ∷ []
list_of-next n f = rw add-one (list_of-more n f)
