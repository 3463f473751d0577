-- Checks that hold: none fails.
use Rattle.std.proofs.Common.{◌≡◌, ◌≢◌, ℕ, zero, suc, ◌<◌, List, [], ◌∷◌, ◌++◌, length, map, take, get_or}
use Rattle.std.proofs.Common.{arith, refl, ap, sym, ◌∙◌, subst}
use Rattle.std.specs.Prelude.{Bool, true, false, None, All}
use Rattle.std.specs.List.{list_all, list_any, AllPass}
use Rattle.std.proofs.lemmas.Bool.{and_from, or_from}
use Rattle.std.proofs.lemmas.List.{get_or-map, length-map}
use Rattle.std.proofs.lemmas.List.Elements.{All-head, All-tail}
use Rattle.toml.specs.Data.{Data, boolean}
use Rattle.whole_laws.specs.Whole.{list_of}
use Rattle.model_specs.specs.RecordRules.{AreDistinct}
use Rattle.product_file.specs.Checks.{first_failed, first_failed_from}

-- one more check that holds
pub one_more_passes : (check : Bool) (checks : List Bool) → check ≡ true → first_failed checks ≡ None
    → first_failed (check ∷ checks) ≡ None
one_more_passes check checks h more = rw (h, more)

-- lists of checks of which none fails, before others of which none does
pub lists_pass : {A : Type 0} (checks : A → List Bool) (k : ℕ) (xs : List A) (more : List (List Bool))
    → All (λ x. first_failed (checks x) ≡ None) xs → ((j : ℕ) → first_failed_from j more ≡ None)
    → first_failed_from k (map checks xs ++ more) ≡ None
lists_pass checks k [] more h others = others k
lists_pass checks k (x ∷ xs) more h others =
    rw (All-head (λ x. first_failed (checks x) ≡ None) x xs h)
    (lists_pass checks (suc k) xs more (All-tail (λ x. first_failed (checks x) ≡ None) x xs h)
    others)

-- and no others
pub all_lists_pass : {A : Type 0} (checks : A → List Bool) (k : ℕ) (xs : List A)
    → All (λ x. first_failed (checks x) ≡ None) xs → first_failed_from k (map checks xs) ≡ None
all_lists_pass checks k [] h = refl
all_lists_pass checks k (x ∷ xs) h =
    rw (All-head (λ x. first_failed (checks x) ≡ None) x xs h)
    (all_lists_pass checks (suc k) xs (All-tail (λ x. first_failed (checks x) ≡ None) x xs h))

-- lists by places
pub listed_pass : (n k : ℕ) (checks : ℕ → List Bool) → ((i : ℕ) → i < n → first_failed (checks i) ≡ None)
    → first_failed_from k (list_of n checks) ≡ None
listed_pass zero k checks h = refl
listed_pass (suc n) k checks h =
    rw (h 0 (omega arith)) (listed_pass n (suc k) (λ i. checks (suc i)) (λ i below. h (suc i) (omega arith)))

-- a test of all members that each passes
pub all_pass : {A : Type 0} (test : A → Bool) (xs : List A) → AllPass test xs → list_all test xs ≡ true
all_pass test [] h = refl
all_pass test (x ∷ xs) h =
    and_from _ _ (All-head (λ x. test x ≡ true) x xs h) (all_pass test xs (All-tail (λ x. test x ≡ true) x xs h))

-- a test that none of the members before a place passes
pub none_before : {A : Type 0} (test : A → Bool) (xs : List A) (k : ℕ) (d : A) → k < length xs
    → ((i : ℕ) → i < k → test (get_or xs i d) ≡ false) → list_any test (take k xs) ≡ false
none_before test [] k d below h = absurd (omega arith)
none_before test (x ∷ xs) zero d below h = refl
none_before test (x ∷ xs) (suc k) d below h =
    or_from _ _ (h 0 (omega arith))
    (none_before test xs k d (omega arith) (λ i low. h (suc i) (omega arith)))

-- values that differ, by their places in the list that they are made of
pub values_differ : {A B : Type 0} (bare : B) (f : A → B) (xs : List A) (d : A) (i k : ℕ)
    → AreDistinct bare (map f xs) → i < k → k < length xs → f (get_or xs i d) ≢ f (get_or xs k d)
values_differ bare f xs d i k distinct low below equal =
    distinct i k low (subst (λ n. k < n) (sym (length-map xs f)) below)
    (get_or-map f xs i d bare (omega (arith, low, below)) ∙ equal ∙ sym (get_or-map f xs k d bare below))

-- of data that are made of members with different values none before a place passes a test of the value there
pub no_earlier : {A B : Type 0} (bare : B) (f : A → B) (data_of : A → Data) (test : Data → Bool) (xs : List A)
    (d : A) (k : ℕ) → AreDistinct bare (map f xs) → k < length xs
    → ((i : ℕ) → i < length xs → f (get_or xs i d) ≢ f (get_or xs k d) → test (data_of (get_or xs i d)) ≡ false)
    → list_any test (take k (map data_of xs)) ≡ false
no_earlier bare f data_of test xs d k distinct below h =
    none_before test (map data_of xs) k (boolean false) (subst (λ n. k < n) (sym (length-map xs data_of)) below)
    (λ i low. ap test (get_or-map data_of xs i d (boolean false) (omega (arith, low, below)))
    ∙ h i (omega (arith, low, below)) (values_differ bare f xs d i k distinct low below))
