-- The first failed check, from what each check gives.
use Rattle.std.proofs.Common.{◌≡◌, ℕ, zero, suc, ◌+◌, ◌*◌, ◌<◌, Bool, true, false, eqb, map, List, [], ◌∷◌, length}
use Rattle.std.proofs.Common.{get_or, ◌++◌, Option, Some, None, option_map, refl, ap, sym, ◌∙◌, arith}
use Rattle.std.proofs.lemmas.Bool.{false≢true}
use Rattle.whole_laws.specs.Whole.{list_of}
use Rattle.whole_laws.proofs.ListsByPlace.{at-list_of, length-list_of}
use Rattle.std.proofs.lemmas.Bool.Decides.{nat_tests}
use Rattle.std.proofs.lemmas.List.{length-map, get_or-map}
use Rattle.product_file.specs.Checks.{first_failed, places_of_list, place_in, first_failed_from}
use Rattle.product_file.specs.CurveRules.{not_empty}

-- where all checks pass, none fails first
pub first_failed-none : (checks : List Bool) → ((k : ℕ) → k < length checks → get_or checks k true ≡ true)
    → first_failed checks ≡ None
first_failed-none [] passed = refl
first_failed-none (true ∷ more) passed =
    ap (option_map suc) (first_failed-none more (λ k below. passed (suc k) (omega arith)))
first_failed-none (false ∷ more) passed = absurd (false≢true (passed 0 (omega arith)))

-- where the checks before a place pass and the one there does not, that fails first
pub first_failed-at : (checks : List Bool) (i : ℕ) → i < length checks
    → ((k : ℕ) → k < i → get_or checks k true ≡ true) → get_or checks i true ≡ false
    → first_failed checks ≡ Some i
first_failed-at [] i inside passed failed = absurd (omega arith)
first_failed-at (true ∷ more) zero inside passed failed = absurd (false≢true cc)
first_failed-at (false ∷ more) zero inside passed failed = refl
first_failed-at (true ∷ more) (suc i) inside passed failed =
    ap (option_map suc)
    (first_failed-at more i (omega arith) (λ k below. passed (suc k) (omega arith)) failed)
first_failed-at (false ∷ more) (suc i) inside passed failed =
    absurd (false≢true (passed 0 (omega arith)))

-- where no check fails first, each passes
pub passed_at : (checks : List Bool) (k : ℕ) → first_failed checks ≡ None → k < length checks
    → get_or checks k true ≡ true
passed_at [] k none inside = absurd (omega arith)
passed_at (true ∷ more) zero none inside = refl
passed_at (true ∷ more) (suc k) none inside =
    passed_at more k (no_place (first_failed more) none) (omega arith)
  where
    no_place : (o : Option ℕ) → option_map suc o ≡ None → o ≡ None
    no_place None h = refl
    no_place (Some x) h = cc
passed_at (false ∷ more) k none inside = cc

-- the first check that a loop over places finds failed, and none
pub first_of-at : (n i : ℕ) (check : ℕ → Bool) → i < n → ((k : ℕ) → k < i → check k ≡ true) → check i ≡ false
    → Some i ≡ first_failed (list_of n check)
first_of-at n i check inside passed failed =
    sym (first_failed-at (list_of n check) i (omega (arith, length-list_of n check))
    (λ k below. at-list_of n check k true (omega arith) ∙ passed k below)
    (at-list_of n check i true inside ∙ failed))

pub first_of-none : (n : ℕ) (check : ℕ → Bool) → ((k : ℕ) → k < n → check k ≡ true)
    → None ≡ first_failed (list_of n check)
first_of-none n check passed =
    sym (first_failed-none (list_of n check)
    (λ k below. let inside : k < n = omega (arith, length-list_of n check) in
    at-list_of n check k true inside ∙ passed k inside))

-- what a rule that holds says of each place
pub holds_at : (n k : ℕ) (check : ℕ → Bool) → first_failed (list_of n check) ≡ None → k < n → check k ≡ true
holds_at n k check none inside =
    sym (at-list_of n check k true inside)
    ∙ passed_at (list_of n check) k none (omega (arith, length-list_of n check))

-- a list of checks that must not be empty, and is not
pub not_empty-some : (n : ℕ) (check : ℕ → Bool) → 0 < n → not_empty n check ≡ list_of n check
not_empty-some zero check some = absurd (omega arith)
not_empty-some (suc n) check some = refl

-- the first check that a loop over the places of such a list finds failed, and none
pub first_of_some-at : (n i : ℕ) (check : ℕ → Bool) → i < n → ((k : ℕ) → k < i → check k ≡ true)
    → check i ≡ false → Some i ≡ first_failed (not_empty n check)
first_of_some-at n i check inside passed failed =
    first_of-at n i check inside passed failed ∙ ap first_failed (sym (not_empty-some n check (omega arith)))

pub first_of_some-none : (n : ℕ) (check : ℕ → Bool) → 0 < n → ((k : ℕ) → k < n → check k ≡ true)
    → None ≡ first_failed (not_empty n check)
first_of_some-none n check some passed =
    first_of-none n check passed ∙ ap first_failed (sym (not_empty-some n check some))

-- the first failed check of lists, the first of which is list `base`
from-at : (base : ℕ) (lists : List (List Bool)) (k place : ℕ) → k < length lists
    → ((j : ℕ) → j < k → first_failed (get_or lists j []) ≡ None) → first_failed (get_or lists k []) ≡ Some place
    → first_failed_from base lists ≡ Some (places_of_list * (base + k) + place)
from-at base [] k place inside passed here = absurd (omega arith)
from-at base (checks ∷ more) zero place inside passed here =
    let same : places_of_list * base + place ≡ places_of_list * (base + 0) + place = omega arith in
    rw here (ap Some same)
from-at base (checks ∷ more) (suc k) place inside passed here =
    let same : places_of_list * (suc base + k) + place ≡ places_of_list * (base + suc k) + place = omega arith in
    rw (passed 0 (omega arith))
    (from-at (suc base) more k place (omega arith) (λ j below. passed (suc j) (omega arith)) here ∙ ap Some same)

from-none : (base : ℕ) (lists : List (List Bool))
    → ((j : ℕ) → j < length lists → first_failed (get_or lists j []) ≡ None) → first_failed_from base lists ≡ None
from-none base [] passed = refl
from-none base (checks ∷ more) passed =
    rw (passed 0 (omega arith)) (from-none (suc base) more (λ j below. passed (suc j) (omega arith)))

-- the same for a list of checks of each element
pub first_of_lists-at : {A : Type 0} (base : ℕ) (checks : A → List Bool) (xs : List A) (none : A) (k place p : ℕ)
    → p ≡ places_of_list * (base + k) + place → k < length xs
    → ((j : ℕ) → j < k → first_failed (checks (get_or xs j none)) ≡ None)
    → first_failed (checks (get_or xs k none)) ≡ Some place
    → Some p ≡ first_failed_from base (map checks xs)
first_of_lists-at base checks xs none k place p is inside passed here =
    ap Some is
    ∙ sym (from-at base (map checks xs) k place (omega (arith, length-map xs checks))
    (λ j below. ap first_failed (get_or-map checks xs j none [] (omega arith)) ∙ passed j below)
    (ap first_failed (get_or-map checks xs k none [] inside) ∙ here))

pub first_of_lists-none : {A : Type 0} (base : ℕ) (checks : A → List Bool) (xs : List A) (none : A)
    → ((j : ℕ) → j < length xs → first_failed (checks (get_or xs j none)) ≡ None)
    → None ≡ first_failed_from base (map checks xs)
first_of_lists-none base checks xs none passed =
    sym (from-none base (map checks xs)
    (λ j below. let inside : j < length xs = omega (arith, length-map xs checks) in
    ap first_failed (get_or-map checks xs j none [] inside) ∙ passed j inside))

-- what a test for an empty list says
pub some_from_test : (n : ℕ) → eqb n 0 ≡ false → 0 < n
some_from_test n h = grind (arith, nat_tests)

-- the same for checks by place
pub first_of_lists_of-at : (base n : ℕ) (checks : ℕ → List Bool) (k place p : ℕ) → p
    ≡ places_of_list * (base + k) + place
    → k < n → ((j : ℕ) → j < k → first_failed (checks j) ≡ None) → first_failed (checks k) ≡ Some place
    → Some p ≡ first_failed_from base (list_of n checks)
first_of_lists_of-at base n checks k place p is inside passed here =
    ap Some is
    ∙ sym (from-at base (list_of n checks) k place (omega (arith, length-list_of n checks))
    (λ j below. ap first_failed (at-list_of n checks j [] (omega arith)) ∙ passed j below)
    (ap first_failed (at-list_of n checks k [] inside) ∙ here))

pub first_of_lists_of-none : (base n : ℕ) (checks : ℕ → List Bool)
    → ((j : ℕ) → j < n → first_failed (checks j) ≡ None) → None ≡ first_failed_from base (list_of n checks)
first_of_lists_of-none base n checks passed =
    sym (from-none base (list_of n checks)
    (λ j below. let inside : j < n = omega (arith, length-list_of n checks) in
    ap first_failed (at-list_of n checks j [] inside) ∙ passed j inside))

-- the first failed check of lists and further lists
place_first : (base p : ℕ) (o rest more : Option ℕ) → Some p ≡ place_in base o rest
    → (Some p ≡ rest → Some p ≡ more) → Some p ≡ place_in base o more
place_first base p None rest more some go = go some
place_first base p (Some x) rest more some go = some

pub place_none : (base : ℕ) (o rest : Option ℕ) → place_in base o rest ≡ None → (o ≡ None) × (rest ≡ None)
place_none base None rest none = (refl, none)
place_none base (Some x) rest none = cc

pub first_of_both-first : (base p : ℕ) (xs ys : List (List Bool)) → Some p ≡ first_failed_from base xs
    → Some p ≡ first_failed_from base (xs ++ ys)
first_of_both-first base p [] ys some = cc
first_of_both-first base p (x ∷ xs) ys some =
    place_first base p (first_failed x) (first_failed_from (suc base) xs) (first_failed_from (suc base) (xs ++ ys)) some
    (first_of_both-first (suc base) p xs ys)

pub first_of_both-second : (base : ℕ) (xs ys : List (List Bool)) → first_failed_from base xs ≡ None
    → first_failed_from (base + length xs) ys ≡ first_failed_from base (xs ++ ys)
first_of_both-second base [] ys none =
    let same : base + 0 ≡ base = omega arith in ap (λ n. first_failed_from n ys) same
first_of_both-second base (x ∷ xs) ys none =
    let parts = place_none base (first_failed x) (first_failed_from (suc base) xs) none in
    let same : base + suc (length xs) ≡ suc base + length xs = omega arith in
    rw parts.0 (ap (λ n. first_failed_from n ys) same ∙ first_of_both-second (suc base) xs ys parts.1)

-- the first of some checks of elements that fails, where another check comes after them, and none
pub first_of_each-at : {A : Type 0} (test : A → Bool) (xs : List A) (last : Bool) (none : A) (i : ℕ) → i < length xs
    → ((k : ℕ) → k < i → test (get_or xs k none) ≡ true) → test (get_or xs i none) ≡ false
    → Some i ≡ first_failed (map test xs ++ last ∷ [])
first_of_each-at test [] last none i inside passed failed = absurd (omega arith)
first_of_each-at test (x ∷ xs) last none zero inside passed failed = rw failed refl
first_of_each-at test (x ∷ xs) last none (suc i) inside passed failed =
    rw (passed 0 (omega arith))
    (ap (option_map suc) (first_of_each-at test xs last none i (omega arith)
    (λ k below. passed (suc k) (omega arith)) failed))

pub first_of_each-none : {A : Type 0} (test : A → Bool) (xs : List A) (last : Bool) (none : A)
    → ((k : ℕ) → k < length xs → test (get_or xs k none) ≡ true) → last ≡ true
    → None ≡ first_failed (map test xs ++ last ∷ [])
first_of_each-none test [] last none passed good = rw good refl
first_of_each-none test (x ∷ xs) last none passed good =
    rw (passed 0 (omega arith))
    (ap (option_map suc) (first_of_each-none test xs last none (λ k below. passed (suc k) (omega arith)) good))

pub first_of_each-last : {A : Type 0} (test : A → Bool) (xs : List A) (last : Bool) (none : A)
    → ((k : ℕ) → k < length xs → test (get_or xs k none) ≡ true) → last ≡ false
    → Some (length xs) ≡ first_failed (map test xs ++ last ∷ [])
first_of_each-last test [] last none passed bad = rw bad refl
first_of_each-last test (x ∷ xs) last none passed bad =
    rw (passed 0 (omega arith))
    (ap (option_map suc) (first_of_each-last test xs last none (λ k below. passed (suc k) (omega arith)) bad))
