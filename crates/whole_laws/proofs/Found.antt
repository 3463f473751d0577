-- What is found in a list has what each member of the list has.
use Rattle.std.specs.Prelude.{ℕ, zero, suc, Bool, true, false, cond}
use Rattle.std.specs.Prelude.{Option, Some, None, option_map, unwrap_or, find, filter_map, flat_map}
use Rattle.std.specs.Prelude.{All, List, [], ◌∷◌, filter, slice_index_or}
use Rattle.std.specs.List.{cons_option}
use Rattle.std.proofs.lemmas.List.Elements.{All-nil, All-head, All-tail, All-cons, All-append}
use Rattle.std.proofs.Common.{◌≡◌, ◌<◌, arith, refl}
use Rattle.whole_laws.specs.Whole.{last_or, list_of}

-- the last member that passes a test, or what stands for none
pub last-has : {A : Type 0} (P : A → Type 0) (test : A → Bool) (xs : List A) (none : A) → P none → All P xs
    → P (last_or none (filter test xs))
last-has P test [] none bare all = bare
last-has P test (x ∷ xs) none bare all =
    elim (test x) as (λ b. P (last_or none (cond b (x ∷ filter test xs) (filter test xs)))) [
      | true ↦ last-has P test xs x (All-head P x xs all) (All-tail P x xs all)
      | false ↦ last-has P test xs none bare (All-tail P x xs all)
    ]

-- the member at a place
pub place-has : {A : Type 0} (P : A → Type 0) (xs : List A) (i : ℕ) (none : A) → P none → All P xs
    → P (slice_index_or xs i none)
place-has P [] i none bare all = bare
place-has P (x ∷ xs) zero none bare all = All-head P x xs all
place-has P (x ∷ xs) (suc i) none bare all = place-has P xs i none bare (All-tail P x xs all)

-- what is read of the first one that passes a test
pub found-has : {A B : Type 0} (P : B → Type 0) (f : A → B) (test : A → Bool) (xs : List A) (none : B) → P none
    → All (λ x. P (f x)) xs → P (unwrap_or (option_map f (find test xs)) none)
found-has P f test [] none bare all = bare
found-has P f test (x ∷ xs) none bare all =
    elim (test x) as (λ b. P (unwrap_or (option_map f (cond b (Some x) (find test xs))) none)) [
      | true ↦ All-head (λ y. P (f y)) x xs all
      | false ↦ found-has P f test xs none bare (All-tail (λ y. P (f y)) x xs all)
    ]

-- the same where nothing stands for none
abbrev pub IsGivenWith : {A : Type 0} → (A → Type 0) → Option A → Type 0
IsGivenWith P None = Unit {0}
IsGivenWith P (Some x) = P x

pub given-has : {A B : Type 0} (P : B → Type 0) (f : A → B) (test : A → Bool) (xs : List A)
    → All (λ x. P (f x)) xs → IsGivenWith P (option_map f (find test xs))
given-has P f test [] all = tt
given-has P f test (x ∷ xs) all =
    elim (test x) as (λ b. IsGivenWith P (option_map f (cond b (Some x) (find test xs)))) [
      | true ↦ All-head (λ y. P (f y)) x xs all
      | false ↦ given-has P f test xs (All-tail (λ y. P (f y)) x xs all)
    ]

-- all that is given
one_more : {A : Type 0} (P : A → Type 0) (o : Option A) (xs : List A) → IsGivenWith P o → All P xs
    → All P (cons_option o xs)
one_more P None xs h all = all
one_more P (Some x) xs h all = All-cons P x xs h all

pub filter_map-has : {A B : Type 0} (P : B → Type 0) (f : A → Option B) (xs : List A)
    → ((x : A) → IsGivenWith P (f x)) → All P (filter_map f xs)
filter_map-has P f [] h = All-nil P
filter_map-has P f (x ∷ xs) h = one_more P (f x) (filter_map f xs) (h x) (filter_map-has P f xs h)

pub flat_map-has : {A B : Type 0} (P : B → Type 0) (f : A → List B) (xs : List A)
    → ((x : A) → All P (f x)) → All P (flat_map f xs)
flat_map-has P f [] h = All-nil P
flat_map-has P f (x ∷ xs) h = All-append P (f x) (flat_map f xs) (h x) (flat_map-has P f xs h)

-- nothing passes, nothing is found
pub none_found : (test : ℕ → Bool) (n : ℕ) (f : ℕ → ℕ) → ((i : ℕ) → i < n → test (f i) ≡ false)
    → find test (list_of n f) ≡ None
none_found test zero f h = refl
none_found test (suc n) f h =
    rw (h 0 (omega arith)) (none_found test n (λ i. f (suc i)) (λ i below. h (suc i) (omega arith)))

-- what none has, and each member that passes, the one that is found has
pub found_by : (P : Option ℕ → Type 0) (test : ℕ → Bool) (xs : List ℕ) → P None
    → All (λ e. test e ≡ true → P (Some e)) xs → P (find test xs)
found_by P test [] bare all = bare
found_by P test (x ∷ xs) bare all =
    choose (test x) refl (found_by P test xs bare (All-tail (λ e. test e ≡ true → P (Some e)) x xs all))
  where
    choose : (b : Bool) → test x ≡ b → P (find test xs) → P (cond b (Some x) (find test xs))
    choose true h later = All-head (λ e. test e ≡ true → P (Some e)) x xs all h
    choose false h later = later
