-- Lists whose members differ, made of others.
use Rattle.std.proofs.Common.{◌≡◌, ◌≢◌, ℕ, zero, suc, ◌+◌, ◌<◌, ◌≤◌, List, [], ◌∷◌, ◌++◌, length, map, get_or}
use Rattle.std.proofs.Common.{arith, ap, sym, ◌∙◌, subst, inl, inr, cond}
use Rattle.std.specs.Prelude.{Bool, true, false, All, filter, flat_map}
use Rattle.std.proofs.lemmas.Bool.{cases_lt}
use Rattle.std.proofs.lemmas.List.{get_or-map, length-map, get_or_append_left, get_or-append-add, length-append}
use Rattle.std.proofs.lemmas.List.Elements.{All-from_get_or, All-filter, All-append}
use Rattle.std.proofs.lemmas.List.Concat.{flat_map-cons}
use Rattle.model_specs.specs.RecordRules.{AreDistinct}
use Rattle.whole_laws.specs.Whole.{list_of}

-- a place past some others
rest_of : (n i : ℕ) → n ≤ i → (k : ℕ) × (i ≡ n + k)
rest_of zero i h = (i, omega arith)
rest_of (suc n) zero h = absurd (omega arith)
rest_of (suc n) (suc i) h = let rest = rest_of n i (omega (arith, h)) in (rest.0, omega (arith, rest.1))

-- what holds of the members that a list is made of, block by block
pub all_blocks : {A : Type 0} (P : A → Type 0) (f : ℕ → List A) (n : ℕ) (g : ℕ → ℕ)
    → ((i : ℕ) → i < n → All P (f (g i))) → All P (flat_map f (list_of n g))
all_blocks P f zero g h = λ i d below. absurd (omega arith)
all_blocks P f (suc n) g h = subst (All P) (sym (flat_map-cons f (g 0) (list_of n (λ i. g (suc i)))))
    (All-append P (f (g 0)) (flat_map f (list_of n (λ i. g (suc i)))) (h 0 (omega arith))
    (all_blocks P f n (λ i. g (suc i)) (λ i below. h (suc i) (omega arith))))

-- one list before another one
pub distinct_append : {A : Type 0} (d : A) (xs ys : List A) → AreDistinct d xs → AreDistinct d ys
    → ((i j : ℕ) → i < length xs → j < length ys → get_or xs i d ≢ get_or ys j d) → AreDistinct d (xs ++ ys)
distinct_append d xs ys first second cross i j low below equal = elim (cases_lt j (length xs)) [
  | inl inside ↦
      first i j low inside (sym (get_or_append_left xs ys d i (omega (arith, low, inside))) ∙ equal
      ∙ get_or_append_left xs ys d j inside)
  | inr past ↦
      let rest = rest_of (length xs) j past in
      let at_j : get_or (xs ++ ys) j d ≡ get_or ys rest.0 d =
      ap (λ n. get_or (xs ++ ys) n d) rest.1 ∙ get_or-append-add xs ys rest.0 d in
      let inside_j : rest.0 < length ys = omega (arith, rest.1, below, length-append xs ys) in
      elim (cases_lt i (length xs)) [
        | inl inside ↦
            cross i rest.0 inside inside_j (sym (get_or_append_left xs ys d i inside) ∙ equal ∙ at_j)
        | inr past_i ↦
            let rest_i = rest_of (length xs) i past_i in
            second rest_i.0 rest.0 (omega (arith, rest.1, rest_i.1, low)) inside_j
            (sym (ap (λ n. get_or (xs ++ ys) n d) rest_i.1 ∙ get_or-append-add xs ys rest_i.0 d) ∙ equal ∙ at_j)
      ]
]

-- blocks with different keys
pub distinct_blocks : {A : Type 0} (d : A) (key : A → ℕ) (f : ℕ → List A) (n : ℕ) (g : ℕ → ℕ)
    → ((i j : ℕ) → i < j → j < n → g i ≢ g j) → ((i : ℕ) → i < n → AreDistinct d (f (g i)))
    → ((i : ℕ) → i < n → All (λ x. key x ≡ g i) (f (g i))) → AreDistinct d (flat_map f (list_of n g))
distinct_blocks d key f zero g keys blocks keyed = λ i j low below. absurd (omega arith)
distinct_blocks d key f (suc n) g keys blocks keyed =
    let rest = flat_map f (list_of n (λ i. g (suc i))) in
    let others : All (λ x. key x ≢ g 0) rest =
    all_blocks (λ x. key x ≢ g 0) f n (λ i. g (suc i))
    (λ i below k x inside same. keys 0 (suc i) (omega arith) (omega (arith, below))
    (sym same ∙ keyed (suc i) (omega (arith, below)) k x inside)) in
    subst (AreDistinct d) (sym (flat_map-cons f (g 0) (list_of n (λ i. g (suc i)))))
    (distinct_append d (f (g 0)) rest (blocks 0 (omega arith))
    (distinct_blocks d key f n (λ i. g (suc i)) (λ i j low below. keys (suc i) (suc j) (omega (arith, low))
    (omega (arith, below))) (λ i below. blocks (suc i) (omega (arith, below)))
    (λ i below. keyed (suc i) (omega (arith, below))))
    (λ i j inside below same. others j d below (ap key (sym same) ∙ keyed 0 (omega arith) i d inside)))

-- one member before others
distinct_cons : {A : Type 0} (d x : A) (xs : List A) → All (λ y. x ≢ y) xs → AreDistinct d xs
    → AreDistinct d (x ∷ xs)
distinct_cons d x xs other rest zero zero low below = absurd (omega arith)
distinct_cons d x xs other rest zero (suc j) low below = other j d (omega (arith, below))
distinct_cons d x xs other rest (suc i) zero low below = absurd (omega arith)
distinct_cons d x xs other rest (suc i) (suc j) low below = rest i j (omega (arith, low)) (omega (arith, below))

-- and where a test says whether it is there
one_by_test : {A : Type 0} (d : A) (b : Bool) (x : A) (xs : List A) → All (λ y. x ≢ y) xs → AreDistinct d xs
    → AreDistinct d (cond b (x ∷ xs) xs)
one_by_test d true x xs other more = distinct_cons d x xs other more
one_by_test d false x xs other more = more

-- the members that pass a test
pub distinct_filter : {A : Type 0} (d : A) (test : A → Bool) (xs : List A) → AreDistinct d xs
    → AreDistinct d (filter test xs)
distinct_filter d test [] distinct = λ i j low below. absurd (omega arith)
distinct_filter d test (x ∷ xs) distinct =
    one_by_test d (test x) x (filter test xs)
    (All-filter test (λ y. x ≢ y) xs
    (All-from_get_or (λ y. x ≢ y) xs d (λ i below. distinct 0 (suc i) (omega arith) (omega (arith, below)))))
    (distinct_filter d test xs (λ i j low below. distinct (suc i) (suc j) (omega (arith, low)) (omega (arith, below))))

-- values of members by which they can be told apart
pub distinct_map : {A B : Type 0} (d : A) (e : B) (f : A → B) (xs : List A) → AreDistinct d xs
    → ((i j : ℕ) → i < length xs → j < length xs → f (get_or xs i d) ≡ f (get_or xs j d)
    → get_or xs i d ≡ get_or xs j d)
    → AreDistinct e (map f xs)
distinct_map d e f xs distinct apart i j low below equal =
    let inside : j < length xs = subst (λ n. j < n) (length-map xs f) below in
    let first : i < length xs = omega (arith, low, inside) in
    distinct i j low inside (apart i j first inside
    (sym (get_or-map f xs i d e first) ∙ equal ∙ get_or-map f xs j d e inside))

-- numbers by their places
pub distinct_places : (n : ℕ) (g : ℕ → ℕ) → ((i j : ℕ) → i < j → j < n → g i ≢ g j) → AreDistinct 0 (list_of n g)
distinct_places zero g differ = λ i j low below. absurd (omega arith)
distinct_places (suc n) g differ =
    distinct_cons 0 (g 0) (list_of n (λ i. g (suc i)))
    (others n (λ i. g (suc i)) (λ i below. differ 0 (suc i) (omega arith) (omega (arith, below))))
    (distinct_places n (λ i. g (suc i)) (λ i j low below. differ (suc i) (suc j) (omega (arith, low))
    (omega (arith, below))))
  where
    others : {x : ℕ} (n : ℕ) (h : ℕ → ℕ) → ((i : ℕ) → i < n → x ≢ h i) → All (λ y. x ≢ y) (list_of n h)
    others zero h differ k y below = absurd (omega arith)
    others (suc n) h differ zero y below = differ 0 (omega arith)
    others (suc n) h differ (suc k) y below =
        others n (λ i. h (suc i)) (λ i inside. differ (suc i) (omega (arith, inside))) k y (omega (arith, below))
