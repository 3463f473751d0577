-- What a search finds in lists that are made of others.
use Rattle.std.proofs.Common.{◌≡◌, ◌≢◌, ℕ, zero, suc, ◌<◌, List, [], ◌∷◌, map, arith, refl, ap, ◌∙◌}
use Rattle.std.specs.Prelude.{Bool, true, false, ◌&&◌, cond, All, find, filter, flat_map, Option, Some, None}
use Rattle.std.specs.Prelude.{option_map}
use Rattle.std.specs.Option.{option_or}
use Rattle.std.proofs.lemmas.List.Concat.{flat_map-cons}
use Rattle.std.proofs.lemmas.List.Folds.{find-append}
use Rattle.std.proofs.lemmas.List.Elements.{All-head, All-tail}
use Rattle.whole_laws.specs.Whole.{list_of}

-- of values, by the members that they are made of
pub find_made : {A B : Type 0} (test : B → Bool) (f : A → B) (xs : List A)
    → find test (map f xs) ≡ option_map f (find (λ x. test (f x)) xs)
find_made test f [] = refl
find_made test f (x ∷ xs) = by-test (test (f x)) (find_made test f xs)
  where
    by-test : (b : Bool) → find test (map f xs) ≡ option_map f (find (λ x. test (f x)) xs)
        → cond b (Some (f x)) (find test (map f xs)) ≡ option_map f (cond b (Some x) (find (λ x. test (f x)) xs))
    by-test true rest = refl
    by-test false rest = rest

-- of the members that pass another test
pub find_passing : {A : Type 0} (first second : A → Bool) (xs : List A)
    → find second (filter first xs) ≡ find (λ x. first x && second x) xs
find_passing first second [] = refl
find_passing first second (x ∷ xs) = by-test (first x) (find_passing first second xs)
  where
    by-test : (b : Bool) → find second (filter first xs) ≡ find (λ x. first x && second x) xs
        → find second (cond b (x ∷ filter first xs) (filter first xs))
        ≡ cond (b && second x) (Some x) (find (λ x. first x && second x) xs)
    by-test true rest = ap (cond (second x) (Some x)) rest
    by-test false rest = rest

-- where no member passes
pub find_nothing : {A : Type 0} (test : A → Bool) (xs : List A) → All (λ x. test x ≡ false) xs → find test xs ≡ None
find_nothing test [] none = refl
find_nothing test (x ∷ xs) none =
    rw (All-head (λ x. test x ≡ false) x xs none) (find_nothing test xs (All-tail (λ x. test x ≡ false) x xs none))

-- tests that agree
pub find_same : {A : Type 0} (first second : A → Bool) → ((x : A) → first x ≡ second x) → (xs : List A)
    → find first xs ≡ find second xs
find_same first second same [] = refl
find_same first second same (x ∷ xs) = rw (same x) (ap (cond (second x) (Some x)) (find_same first second same xs))

pub or_none : {A : Type 0} (x : Option A) → option_or x None ≡ x
or_none None = refl
or_none (Some x) = refl

-- in blocks of which none has it
find_no_block : {A : Type 0} (test : A → Bool) (f : ℕ → List A) (n : ℕ) (g : ℕ → ℕ)
    → ((i : ℕ) → i < n → find test (f (g i)) ≡ None) → find test (flat_map f (list_of n g)) ≡ None
find_no_block test f zero g none = refl
find_no_block test f (suc n) g none =
    ap (find test) (flat_map-cons f (g 0) (list_of n (λ i. g (suc i))))
    ∙ find-append test (f (g 0)) (flat_map f (list_of n (λ i. g (suc i))))
    ∙ ap (λ x. option_or x (find test (flat_map f (list_of n (λ i. g (suc i)))))) (none 0 (omega arith))
    ∙ find_no_block test f n (λ i. g (suc i)) (λ i below. none (suc i) (omega (arith, below)))

-- in blocks of which one alone has it
pub find_block : {A : Type 0} (test : A → Bool) (f : ℕ → List A) (n : ℕ) (g : ℕ → ℕ) (k : ℕ) → k < n
    → ((i : ℕ) → i < n → i ≢ k → find test (f (g i)) ≡ None)
    → find test (flat_map f (list_of n g)) ≡ find test (f (g k))
find_block test f zero g k below none = absurd (omega arith)
find_block test f (suc n) g zero below none =
    ap (find test) (flat_map-cons f (g 0) (list_of n (λ i. g (suc i))))
    ∙ find-append test (f (g 0)) (flat_map f (list_of n (λ i. g (suc i))))
    ∙ ap (option_or (find test (f (g 0)))) (find_no_block test f n (λ i. g (suc i))
    (λ i inside. none (suc i) (omega (arith, inside)) (λ same. absurd (omega (arith, same)))))
    ∙ or_none (find test (f (g 0)))
find_block test f (suc n) g (suc k) below none =
    ap (find test) (flat_map-cons f (g 0) (list_of n (λ i. g (suc i))))
    ∙ find-append test (f (g 0)) (flat_map f (list_of n (λ i. g (suc i))))
    ∙ ap (λ x. option_or x (find test (flat_map f (list_of n (λ i. g (suc i))))))
    (none 0 (omega arith) (λ same. absurd (omega (arith, same))))
    ∙ find_block test f n (λ i. g (suc i)) k (omega (arith, below))
    (λ i inside other. none (suc i) (omega (arith, inside)) (λ same. other (omega (arith, same))))
